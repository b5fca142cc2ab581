use Rattle.std.proofs.Common.{sym, ap, ◌∙◌, subst, ◌≡◌, ◌<◌, ◌≢◌, ◌+◌, ◌-◌, ℕ, List, length, take, drop, get_or, arith}
use Rattle.std.proofs.lemmas.List.{take_rest}
use Rattle.std.proofs.lemmas.Str.{IsCharBoundary-from_drop}
use Rattle.std.specs.List.{prefix_len}
use Rattle.wat_lex.specs.grammar.Classes.{is_idchar}
use Rattle.wat_lex.specs.inside.ScannedStrings.{StringTaken, StringFaultFound}
use Rattle.wat_lex.proofs.inside.RunSteps.{Joined, joined_start, joined_string, joined_end, joined_wrong, after_quote}
use Rattle.wat_lex.proofs.lexer.scan.runs.run.Goals as goal
use Rattle.wat_lex.proofs.lexer.scan.runs.run.Goals.{Then-bytes-len-eq34, After-idchar_len-more}

record Quote (text : List ℕ) (len : ℕ) : Type 0 where
  inside : len < length text
  byte : get_or text len 0 ≡ 34

quote_at : (text bs : List ℕ) (len : ℕ) → bs ≡ text → len < length bs → get_or bs len 0 ≡ 34 → Quote text len
quote_at text bs len e l b = record { inside = omega (arith, ap length e); byte = ap (λ x. get_or x len 0) (sym e) ∙ b }

quote : (c : Then-bytes-len-eq34) → Quote c.args.text.now c.loop-len.len
quote c = quote_at c.args.text.now c.as_bytes-bytes.result.now c.loop-len.len c.as_bytes-bytes.ensures.value c.loop-len-test.true c.if-bytes-len-eq34.true

pub loop-len-init : goal.loop-len-init
loop-len-init c = joined_start c.args.flags c.args.text.now _ c.utf8.text (c.idchar_len-idchars.ensures ∙ ap (prefix_len is_idchar) c.as_bytes-bytes.ensures.value)

pub range_from-requires : goal.range_from-requires
range_from-requires c = λ _.
    let q = quote c in
    let i = q.inside in
    IsCharBoundary-from_drop c.args.text.now (c.loop-len.len + 1) (omega (arith, i)) (after_quote c.args.flags c.args.text.now c.loop-len.len c.loop-len.idchars c.loop-len.strings c.loop-len.invariant i q.byte)

pub returns-in-Err-clause-err : goal.returns-in-Err-clause-err
returns-in-Err-clause-err c =
    let q = quote (goal.at.returns-in-Err-clause-err c).Then-bytes-len-eq34 in
    rw c.fault_moved.ensures
    (joined_wrong c.args.flags c.args.text.now c.loop-len.len c.loop-len.idchars c.loop-len.strings c.in-Err.fault c.loop-len.invariant q.inside q.byte
    (subst (λ x. StringFaultFound c.args.flags x c.in-Err.fault) c.range_from.ensures.value c.in-Err.ensures.err))

rest_is : (text bs : List ℕ) (n : ℕ) → bs ≡ text → take (length bs - n) (drop n bs) ≡ drop n text
rest_is text bs n e = take_rest bs n ∙ ap (drop n) e

longer : (c : After-idchar_len-more) → Joined c.args.flags c.args.text.now (c.loop-len.len + (1 + c.in-Ok.taken) + c.idchar_len-more.result) (c.loop-len.idchars + c.idchar_len-more.result) (c.loop-len.strings + 1)
longer c =
    let q = quote_at c.args.text.now c.as_bytes-bytes.result.now c.loop-len.len c.as_bytes-bytes.ensures.value c.loop-len-test.true c.if-bytes-len-eq34.true in
    joined_string c.args.flags c.args.text.now c.loop-len.len c.loop-len.idchars c.loop-len.strings c.in-Ok.taken c.idchar_len-more.result c.loop-len.invariant q.inside q.byte
    (subst (λ x. StringTaken c.args.flags x c.in-Ok.taken) c.range_from.ensures.value c.in-Ok.ensures.ok)
    (c.idchar_len-more.ensures ∙ ap (prefix_len is_idchar) (rest_is c.args.text.now c.as_bytes-bytes.result.now _ c.as_bytes-bytes.ensures.value))

pub overflow_add-idchars : goal.overflow_add-idchars
overflow_add-idchars c = let j = longer c in omega (arith, j.range, j.bound, c.as_bytes-bytes.type_inv.0, ap length c.as_bytes-bytes.ensures.value)

pub overflow_add-len-in-loop-len-3 : goal.overflow_add-len-in-loop-len-3
overflow_add-len-in-loop-len-3 c = let j = longer c in omega (arith, j.range, c.as_bytes-bytes.type_inv.0, ap length c.as_bytes-bytes.ensures.value)

pub loop-len-preserved : goal.loop-len-preserved
loop-len-preserved c = longer c

no_quote : (text bs : List ℕ) (len : ℕ) → bs ≡ text → get_or bs len 0 ≢ 34 → get_or text len 0 ≢ 34
no_quote text bs len e f k = f (ap (λ x. get_or x len 0) e ∙ k)

pub returns-else-bytes-len-eq34-clause-ok : goal.returns-else-bytes-len-eq34-clause-ok
returns-else-bytes-len-eq34-clause-ok c =
    joined_end c.args.flags c.args.text.now c.loop-len.len c.loop-len.idchars c.loop-len.strings c.loop-len.invariant
    (λ _. no_quote c.args.text.now c.as_bytes-bytes.result.now c.loop-len.len c.as_bytes-bytes.ensures.value c.if-bytes-len-eq34.false)

pub returns-after-loop-len-clause-ok : goal.returns-after-loop-len-clause-ok
returns-after-loop-len-clause-ok c =
    joined_end c.args.flags c.args.text.now c.loop-len.len c.loop-len.idchars c.loop-len.strings c.loop-len.invariant
    (λ l. absurd (omega (arith, c.loop-len-test.false, ap length c.as_bytes-bytes.ensures.value)))
