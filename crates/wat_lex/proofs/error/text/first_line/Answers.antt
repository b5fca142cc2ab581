use Rattle.std.proofs.Common.{◌≡◌, ◌≢◌, ◌<◌, ◌≤◌, ◌-◌, sym, ap, ◌∙◌, subst, arith, get_or, take, length, Some, None}
use Rattle.memchr.specs.Find.{IsFirstByte, is_byte}
use Rattle.wat_lex.proofs.errors.Lines.{first_whole, first_cut, strip_one, strip_none}
use Rattle.wat_lex.proofs.error.text.first_line.Goals as goal
use Rattle.wat_lex.proofs.error.text.first_line.Goals.{In-Some, else-end-gt0-via-then-end-gt0+else-bytes-end-eq13, else-end-gt0-via-else-end-gt0}

found : (c : In-Some) → IsFirstByte (is_byte 10) c.args.text.now (Some c.in-Some.end)
found c = subst (λ s. IsFirstByte (is_byte 10) s (Some c.in-Some.end)) c.as_bytes-bytes.ensures.value c.in-Some.ensures

within : (c : In-Some) → c.in-Some.end ≤ length c.args.text.now
within c = let f = (found c).0 in let high = f.high in omega (arith, high)

pub returns-in_default : goal.returns-in_default
returns-in_default c = first_whole c.args.text.now (subst (λ s. IsFirstByte (is_byte 10) s None) c.as_bytes-bytes.ensures.value c.in_default.ensures)

pub returns-then-bytes-end-eq13 : goal.returns-then-bytes-end-eq13
returns-then-bytes-end-eq13 c =
    let at = (goal.at.returns-then-bytes-end-eq13 c).In-Some in
    let text = c.args.text.now in
    let end = c.in-Some.end in
    let whole : end - 1 - 0 ≡ end - 1 = omega arith in
    let byte : get_or text (end - 1) 0 ≡ 13 = ap (λ s. get_or s (end - 1) 0) (sym c.as_bytes-bytes.ensures.value) ∙ c.if-bytes-end-eq13.true in
    c.range.ensures.value ∙ ap (λ n. take n text) whole ∙ strip_one text end (within at) c.if-end-gt0.true byte ∙ first_cut text end (found at)

pub returns : goal.returns
returns c =
    let at = (goal.at.returns c).In-Some in
    let text = c.args.text.now in
    let end = c.in-Some.end in
    let whole : end - 0 ≡ end = omega arith in
    let other : 0 < end → get_or text (end - 1) 0 ≢ 13 =
    elim c.else-end-gt0.branch [
      | else-end-gt0-via-then-end-gt0+else-bytes-end-eq13 w ↦ λ _ e. w.if-bytes-end-eq13.false (ap (λ s. get_or s (end - 1) 0) c.as_bytes-bytes.ensures.value ∙ e)
      | else-end-gt0-via-else-end-gt0 w ↦ λ l _. absurd (omega (arith, w.if-end-gt0.false, l))
    ] in
    c.range-2.ensures.value ∙ ap (λ n. take n text) whole ∙ strip_none text end (within at) other ∙ first_cut text end (found at)
