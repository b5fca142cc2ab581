-- The first bytes of a formatted error are its message.
use Rattle.std.proofs.Common.{◌≡◌, ◌≤◌, ◌-◌, ℕ, List, ◌++◌, length, take, drop, ap, sym, ◌∙◌, subst, arith, true, length-append}
use Rattle.std.specs.Prelude.{nat_le, if◌then◌else◌}
use Rattle.std.proofs.lemmas.Bool.Decides.{nat_tests}
use Rattle.std.proofs.lemmas.List.{take_at, drop_all, append-nil, length-take-le}
use Rattle.wat_lex.specs.errors.Rendering.{overwrite_start}
use Rattle.wat_c.specs.Answers.{put}

pub first_laid : (m p before : List ℕ) → length before ≡ length m → overwrite_start (m ++ p) before ≡ m
first_laid m p before e =
    ap (λ x. x ++ drop (length (m ++ p)) before) (take_at m p (length before) (sym e)) ∙ ap (λ x. m ++ x) (drop_all (length (m ++ p)) before (omega (arith, e, length-append m p))) ∙ append-nil m

pub put_there : (m old : List ℕ) → length m ≤ length old → m ++ drop (length m) old ≡ put m old
put_there m old l = let fits : nat_le (length m) (length old) ≡ true = grind (arith, nat_tests) in sym (ap (λ b. if b then m ++ drop (length m) old else old) fits)

-- Only the message was written, to as many bytes as it has.
pub message_left : (out new all m p : List ℕ) (total place : ℕ) → all ≡ m ++ p → total ≡ length all → place ≡ length p → total - place ≤ length out → new ≡ overwrite_start all (take (total - place) out)
    → new ++ drop (total - place) out ≡ put m out
message_left out new all m p total place e f g l h =
    let n : total - place ≡ length m = omega (arith, f, g, ap length e, length-append m p) in
    let laid : new ≡ m = h ∙ ap (λ x. overwrite_start x (take (total - place) out)) e ∙ first_laid m p (take (total - place) out) (length-take-le (total - place) out l ∙ n) in
    (λ i. laid i ++ drop (n i) out) ∙ put_there m out (subst (λ x. x ≤ length out) n l)
