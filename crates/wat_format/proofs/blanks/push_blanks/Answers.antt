use Rattle.std.proofs.Common.{◌≡◌, ◌<◌, ◌+◌, ◌-◌, ◌++◌, ℕ, List, replicate, ap, ◌∙◌, arith, append_assoc, string_bytes, if◌then◌else◌}
use Rattle.std.proofs.lemmas.List.{replicate-append-replicate}
use Rattle.std.specs.Prelude.{Result, Ok, Err, OnOk, is_ok}
use Rattle.wat_format.proofs.blanks.push_blanks.Goals as goal

one_more : (out longer front : List ℕ) (left count : ℕ) → 80 < left → longer ≡ out ++ replicate 80 32 → out ++ replicate left 32 ≡ front ++ replicate count 32 → longer ++ replicate (left - 80) 32 ≡ front ++ replicate count 32
one_more out longer front left count lt e h =
    let sum : 80 + (left - 80) ≡ left = omega arith in
    ap (λ xs. xs ++ replicate (left - 80) 32) e ∙ append_assoc out (replicate 80 32) (replicate (left - 80) 32) ∙ ap (λ xs. out ++ xs) (replicate-append-replicate 80 (left - 80) 32 ∙ ap (λ n. replicate n 32) sum) ∙ h

last : {T E : Type 0} (r : Result T E) (out longer blanks all : List ℕ) → longer ≡ (if is_ok r then out ++ blanks else out) → out ++ blanks ≡ all → OnOk r (longer ≡ all)
last (Ok x) out longer blanks all e h = e ∙ h
last (Err x) out longer blanks all e h = tt

pub loop-left-preserved : goal.loop-left-preserved
loop-left-preserved c = one_more _ _ _ c.loop-left.left c.args.count c.loop-left-test.true (c.in_ok-push_str.ensures.bytes ∙ ap (λ xs. string_bytes c.loop-left.out ++ xs) c.blanks.ensures) c.loop-left.invariant

pub returns : goal.returns
returns c = last c.push_str-2.result (string_bytes c.loop-left.out) _ c.blanks-2.result.now _ c.push_str-2.ensures.bytes (ap (λ xs. string_bytes c.loop-left.out ++ xs) c.blanks-2.ensures ∙ c.loop-left.invariant)
