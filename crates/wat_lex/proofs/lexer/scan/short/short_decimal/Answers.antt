use Rattle.std.proofs.Common.{◌∙◌, ◌≡◌, ◌≢◌, [], false, refl, sym, ap, length, take, drop, length-drop, arith, subst}
use Rattle.std.proofs.lemmas.List.{length-take-le}
use Rattle.std.specs.Char.{is_ascii_digit}
use Rattle.std.specs.List.{prefix_len}
use Rattle.wat_lex.specs.grammar.Numbers.{unsigned, IntegralPart, decimal}
use Rattle.wat_lex.specs.inside.Blocks.{failures, FirstFailures}
use Rattle.wat_lex.specs.inside.ScannedNumbers.{PlainDecimals}
use Rattle.wat_lex.proofs.grammar.PlainFloats.{decimal_float}
use Rattle.wat_lex.proofs.grammar.PlainIntegers.{digits_alone, digits_no_underscore}
use Rattle.wat_lex.proofs.grammar.ShortNumbers.{all_pass, short_decimals}
use Rattle.wat_lex.proofs.lexer.scan.short.short_decimal.Goals as goal

pub is_short_tail-requires-clause-others : goal.is_short_tail-requires-clause-others
is_short_tail-requires-clause-others c = record { long = c.requires.long; each = c.other_than_digits-others.ensures ∙ ap (failures is_ascii_digit) c.block_at.ensures }

pub is_short_tail-requires-clause-digits : goal.is_short_tail-requires-clause-digits
is_short_tail-requires-clause-digits c = record { long = c.requires.long; each = c.other_than_digits-others.ensures ∙ ap (failures is_ascii_digit) c.block_at.ensures }

pub returns-then-end-len : goal.returns-then-end-len
returns-then-end-len c =
    let text = c.args.text.now in
    let w = take c.args.len text in
    let start = c.sign_len-start.result in
    let marked : FirstFailures is_ascii_digit text c.other_than_digits-others.result = record { long = c.requires.long; each = c.other_than_digits-others.ensures ∙ ap (failures is_ascii_digit) c.block_at.ensures } in
    let cut : unsigned w ≡ drop start w = c.sign_len-start.ensures.unsigned w c.requires.sign in
    let all : prefix_len is_ascii_digit (drop start w) ≡ length (drop start w) = all_pass is_ascii_digit text c.args.len start (omega arith) (omega (arith, c.clear_from.ensures.clear is_ascii_digit text marked)) in
    let some : drop start w ≢ [] = λ e. absurd (omega (arith, ap length e, length-drop start w, length-take-le c.args.len text (omega arith))) in (
      subst (λ x. IntegralPart false x []) (sym cut) (decimal (digits_alone (drop start w) some all)),
      c.requires.sign,
      sym (digits_no_underscore w (subst (λ x. prefix_len is_ascii_digit x ≡ length x) (sym cut) all)),
    )

pub returns : goal.returns
returns c =
    let text = c.args.text.now in
    let w = take c.args.len text in
    let start = c.sign_len-start.result in
    let marked : FirstFailures is_ascii_digit text c.other_than_digits-others.result = record { long = c.requires.long; each = c.other_than_digits-others.ensures ∙ ap (failures is_ascii_digit) c.block_at.ensures } in
    let cut : unsigned w ≡ drop start w = c.sign_len-start.ensures.unsigned w c.requires.sign in
    let parts = short_decimals false text c.args.len start c.clear_from.result (omega arith) (λ e. absurd (omega arith)) (c.clear_from.ensures.clear is_ascii_digit text marked) (c.is_short_tail.ensures c.if-not-is_short_tail.false) in
    decimal_float w _ (refl, subst (PlainDecimals false) (sym cut) parts)
