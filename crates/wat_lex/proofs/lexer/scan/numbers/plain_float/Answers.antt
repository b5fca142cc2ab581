use Rattle.std.proofs.Common.{◌∙◌, ◌≤◌, ◌-◌, ◌≡◌, ◌∷◌, ◌++◌, true, false, refl, sym, ap, length, take, arith, subst}
use Rattle.std.specs.Prelude.{IfSome}
use Rattle.std.proofs.lemmas.List.{length-take-le, take_rest}
use Rattle.wat_lex.specs.grammar.Numbers.{unsigned}
use Rattle.wat_lex.specs.inside.ScannedNumbers.{IsPlainFloat}
use Rattle.wat_lex.proofs.grammar.PlainFloats.{if_decimal, if_hexadecimal}
use Rattle.wat_lex.proofs.grammar.PlainIntegers.{after_two_is_at, unsigned_is_shorter, unsigned_is_at}
use Rattle.wat_lex.proofs.lexer.scan.numbers.plain_float.Goals as goal

pub returns-in-Some : goal.returns-in-Some
returns-in-Some c =
    let text = c.args.text.now in
    let word = take c.args.len text in
    let digits = c.in-Some.after.now in
    let cut : unsigned word ≡ 48 ∷ 120 ∷ digits = sym c.unsigned-number.ensures ∙ c.in-Some.ensures ∙ ap (λ x. x ++ digits) c.as_slice.ensures in
    let there = ap (take (length digits)) (take_rest text (c.args.len - length digits)) ∙ sym (after_two_is_at text c.args.len (length digits) digits c.requires cut refl) in
    if_hexadecimal word digits c.plain_decimals.result cut (subst (λ x. IfSome c.plain_decimals.result (IsPlainFloat true x)) there c.plain_decimals.ensures)

pub returns-in-None : goal.returns-in-None
returns-in-None c =
    let text = c.args.text.now in
    let word = take c.args.len text in
    let number = length c.unsigned-number.result.now in
    let fits : number ≤ c.args.len = omega (arith, unsigned_is_shorter word, ap length c.unsigned-number.ensures, length-take-le c.args.len text c.requires) in
    let there = ap (take number) (take_rest text (c.args.len - number)) ∙ sym (unsigned_is_at text c.args.len number c.requires (ap length c.unsigned-number.ensures) fits) in
    if_decimal word (unsigned word) c.plain_decimals-in-None.result refl (subst (λ x. IfSome c.plain_decimals-in-None.result (IsPlainFloat false x)) there c.plain_decimals-in-None.ensures)
