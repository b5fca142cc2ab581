use Rattle.std.proofs.Common.{◌≡◌, ◌<◌, ◌+◌, ℕ, Bool, true, List, length, drop, get_or, subst, sym, ◌∙◌, arith}
use Rattle.std.proofs.lemmas.List.{take_rest}
use Rattle.wat_lex.specs.grammar.Numbers.{is_digit}
use Rattle.wat_lex.specs.inside.ScannedNumbers.{LongestDigits}
use Rattle.wat_lex.proofs.grammar.Digits.{Row, past_underscore, past_digit, row_ends, row_end, row_wrong, stops_end, stops_place}
use Rattle.wat_lex.proofs.lexer.scan.numbers.after_digits.Goals as goal
use Rattle.wat_lex.proofs.lexer.scan.numbers.after_digits.Goals.{else-last-text-via-then-last-text+else-is_digit-2, else-last-text-via-else-last-text}

pub loop-last-preserved-then-is_digit : goal.loop-last-preserved-then-is_digit
loop-last-preserved-then-is_digit c =
    let digit = sym c.is_digit-in-loop-last.ensures ∙ c.if-is_digit.true in
    record {
      range = omega arith;
      digit = digit;
      row = past_digit c.args.hex c.args.text.now c.loop-last.last (omega arith) c.loop-last.invariant.digit digit c.loop-last.invariant.row;
    }

pub returns-then-next-ne95 : goal.returns-then-next-ne95
returns-then-next-ne95 c =
    let next = c.loop-last.last + 1 in
    subst (LongestDigits c.args.hex c.args.text.now) (sym (take_rest c.args.text.now next))
    (row_ends c.args.hex c.args.text.now c.loop-last.last c.loop-last.invariant.range c.loop-last.invariant.digit
    (stops_place c.args.hex c.args.text.now next (omega arith) (sym c.is_digit-in-loop-last.ensures ∙ c.if-is_digit.false) c.if-next-ne95.true) c.loop-last.invariant.row)

pub returns : goal.returns
returns c =
    let next = c.loop-last.last + 1 in
    subst (LongestDigits c.args.hex c.args.text.now) (sym (take_rest c.args.text.now next))
    (row_ends c.args.hex c.args.text.now c.loop-last.last c.loop-last.invariant.range c.loop-last.invariant.digit
    (stops_end c.args.hex c.args.text.now next (omega arith)) c.loop-last.invariant.row)

-- after the underscore that follows the last digit
after_underscore : (hex : Bool) (text : List ℕ) (last : ℕ) → last + 1 < length text → is_digit hex (get_or text last 0) ≡ true → get_or text (last + 1) 0 ≡ 95 → Row hex text (drop last text) → Row hex text (drop (last + 2) text)
after_underscore hex text last l a e h =
    let same : last + 1 + 1 ≡ last + 2 = omega arith in
    subst (λ n. Row hex text (drop n text)) same (past_underscore hex text last l a e h)

pub loop-last-preserved : goal.loop-last-preserved
loop-last-preserved c = record {
  range = omega arith;
  digit = sym c.is_digit-then-last-text.ensures ∙ c.if-is_digit-2.true;
  row = after_underscore c.args.hex c.args.text.now c.loop-last.last c.loop-last-test.true c.loop-last.invariant.digit (omega (arith, c.if-next-ne95.false)) c.loop-last.invariant.row;
}

pub returns-else-last-text : goal.returns-else-last-text
returns-else-last-text c =
    let row = after_underscore c.args.hex c.args.text.now c.loop-last.last c.loop-last-test.true c.loop-last.invariant.digit (omega (arith, c.if-next-ne95.false)) c.loop-last.invariant.row in
    elim c.else-last-text.branch [
      | else-last-text-via-then-last-text+else-is_digit-2 w ↦ row_wrong c.args.hex c.args.text.now (c.loop-last.last + 2) w.if-last-text.true (sym w.is_digit-then-last-text.ensures ∙ w.if-is_digit-2.false) row
      | else-last-text-via-else-last-text w ↦ row_end c.args.hex c.args.text.now (c.loop-last.last + 2) w.if-last-text.false row
    ]
