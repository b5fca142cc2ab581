use Rattle.std.proofs.Common.{sym, ap, ◌∙◌, subst, ◌≡◌, ◌<◌, ◌+◌, ◌-◌, ℕ, List, length, take, drop, get_or, arith}
use Rattle.std.proofs.lemmas.List.{take_rest}
use Rattle.std.proofs.lemmas.Str.{IsCharBoundary-from_drop}
use Rattle.std.specs.List.{prefix_len}
use Rattle.std.specs.Str.{IsCharBoundary}
use Rattle.wat_lex.specs.grammar.Classes.{is_idchar}
use Rattle.wat_lex.specs.inside.Recovered.{PassedTo}
use Rattle.wat_lex.specs.inside.ScannedStrings.{StringTaken, StringFaultFound}
use Rattle.wat_lex.specs.declared.lexer.settings.Settings.{Settings}
use Rattle.wat_lex.proofs.inside.Recoveries.{run_covered, run_goes_wrong}
use Rattle.wat_lex.proofs.inside.RunSteps.{Joined, joined_start, joined_string, after_quote}
use Rattle.wat_lex.proofs.lexer.recover.covered_run.Goals as goal
use Rattle.wat_lex.proofs.lexer.recover.covered_run.Goals.{Then-bytes-len-eq34, After-idchar_len-len-in-loop-len, then-loop-len-test+else-bytes-len-eq34, else-loop-len-test}

record Quote (text : List ℕ) (len : ℕ) : Type 0 where
  inside : len < length text
  byte : get_or text len 0 ≡ 34

quote_at : (text bs : List ℕ) (len : ℕ) → bs ≡ text → len < length bs → get_or bs len 0 ≡ 34 → Quote text len
quote_at text bs len e l b = record { inside = omega (arith, ap length e); byte = ap (λ x. get_or x len 0) (sym e) ∙ b }

quote : (c : Then-bytes-len-eq34) → Quote c.args.text.now c.loop-len.len
quote c = quote_at c.args.text.now c.as_bytes-bytes.result.now c.loop-len.len c.as_bytes-bytes.ensures.value c.loop-len-test.true c.if-bytes-len-eq34.true

pub loop-len-init : goal.loop-len-init
loop-len-init c = (_, _, joined_start c.args.flags c.args.text.now _ c.utf8.text (c.idchar_len-len.ensures ∙ ap (prefix_len is_idchar) c.as_bytes-bytes.ensures.value))

boundary : (flags : Settings) (text : List ℕ) (len ids strs : ℕ) → Joined flags text len ids strs → Quote text len → IsCharBoundary text (len + 1)
boundary flags text len ids strs j q = let i = q.inside in IsCharBoundary-from_drop text (len + 1) (omega (arith, i)) (after_quote flags text len ids strs j i q.byte)

pub range_from-requires : goal.range_from-requires
range_from-requires c = λ _. let j = c.loop-len.invariant in boundary c.args.flags c.args.text.now c.loop-len.len j.0 j.1 j.2 (quote c)

pub range_from-requires-in-Err : goal.range_from-requires-in-Err
range_from-requires-in-Err c = λ _. let j = c.loop-len.invariant in boundary c.args.flags c.args.text.now c.loop-len.len j.0 j.1 j.2 (quote (goal.at.range_from-requires-in-Err c).Then-bytes-len-eq34)

pub returns-in-Err : goal.returns-in-Err
returns-in-Err c =
    let q = quote (goal.at.returns-in-Err c).Then-bytes-len-eq34 in
    let j = c.loop-len.invariant in
    run_covered c.args.flags c.args.text.now c.loop-len.len j.0 j.1 c.in-Err.field-0 c.rest_of_string.result j.2 q.inside q.byte
    (subst (λ x. StringFaultFound c.args.flags x c.in-Err.field-0) c.range_from.ensures.value c.in-Err.ensures.err)
    (subst (λ x. PassedTo x c.rest_of_string.result) c.range_from-in-Err.ensures.value c.rest_of_string.ensures)

rest_is : (text bs : List ℕ) (n : ℕ) → bs ≡ text → take (length bs - n) (drop n bs) ≡ drop n text
rest_is text bs n e = take_rest bs n ∙ ap (drop n) e

longer : (c : After-idchar_len-len-in-loop-len) → (ids : ℕ) × (strs : ℕ) × Joined c.args.flags c.args.text.now (c.loop-len.len + 1 + c.in-Ok.taken + c.idchar_len-len-in-loop-len.result) ids strs
longer c =
    let q = quote_at c.args.text.now c.as_bytes-bytes.result.now c.loop-len.len c.as_bytes-bytes.ensures.value c.loop-len-test.true c.if-bytes-len-eq34.true in
    let j = c.loop-len.invariant in
    let more = c.idchar_len-len-in-loop-len.result in
    let same : c.loop-len.len + 1 + c.in-Ok.taken ≡ c.loop-len.len + (1 + c.in-Ok.taken) = omega arith in
    let next =
    joined_string c.args.flags c.args.text.now c.loop-len.len j.0 j.1 c.in-Ok.taken more j.2 q.inside q.byte
    (subst (λ x. StringTaken c.args.flags x c.in-Ok.taken) c.range_from.ensures.value c.in-Ok.ensures.ok)
    (c.idchar_len-len-in-loop-len.ensures ∙ ap (prefix_len is_idchar) (rest_is c.args.text.now c.as_bytes-bytes.result.now _ c.as_bytes-bytes.ensures.value ∙ ap (λ n. drop n c.args.text.now) same)) in
    (_, _, subst (λ n. Joined c.args.flags c.args.text.now (n + more) (j.0 + more) (j.1 + 1)) (sym same) next)

pub overflow_add-len-in-loop-len : goal.overflow_add-len-in-loop-len
overflow_add-len-in-loop-len c = let j = (longer c).2 in let r = j.range in omega (arith, r, c.as_bytes-bytes.type_inv.0, ap length c.as_bytes-bytes.ensures.value)

pub loop-len-preserved : goal.loop-len-preserved
loop-len-preserved c = longer c

pub unreachable-requires : goal.unreachable-requires
unreachable-requires c =
    let text = c.args.text.now in
    let e = c.as_bytes-bytes.ensures.value in
    let j = c.loop-len.invariant in
    run_goes_wrong c.args.flags text c.loop-len.len j.0 j.1 c.utf8.text c.requires.refused c.requires.run j.2
    (λ l k. elim c.loop-len-test.branch [
      | then-loop-len-test+else-bytes-len-eq34 w ↦ w.if-bytes-len-eq34.false (ap (λ x. get_or x c.loop-len.len 0) e ∙ k)
      | else-loop-len-test w ↦ omega (arith, w.loop-len-test.false, ap length e, l)
    ])
