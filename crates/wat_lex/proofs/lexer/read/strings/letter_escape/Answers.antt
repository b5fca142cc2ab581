use Rattle.std.proofs.Common.{sym, ap, ◌∙◌, subst, ◌≡◌, ◌≤◌, [], ◌∷◌, length, get_or, arith}
use Rattle.std.specs.Prelude.{Some}
use Rattle.std.specs.Str.{chars}
use Rattle.wat_lex.specs.grammar.Strings.{Element, letter_value}
use Rattle.wat_lex.specs.tokens.Setting.{lenient}
use Rattle.wat_lex.proofs.inside.StringElements.{LetterEscape, letter_escaped}
use Rattle.wat_lex.proofs.lexer.read.strings.letter_escape.Goals as goal
use Rattle.wat_lex.proofs.lexer.read.strings.letter_escape.Goals.{In_ok-byte}

escaped : (c : In_ok-byte) → LetterEscape lenient c.args.text.now c.in_ok-byte.byte
escaped c =
    let text = c.args.text.now in
    let same = c.as_bytes.ensures.value in
    let long : 2 ≤ length text = omega (arith, ap length same) in
    let mark : get_or c.as_bytes.result.now 0 0 ≡ 92 = omega arith in
    let value : letter_value (get_or text 1 0) ≡ Some c.in_ok-byte.byte = ap (λ x. letter_value (get_or x 1 0)) (sym same) ∙ sym c.in_ok-byte.ensures in
    letter_escaped lenient text c.in_ok-byte.byte c.utf8.text long (ap (λ x. get_or x 0 0) (sym same) ∙ mark) value

pub range_from-requires : goal.range_from-requires
range_from-requires c = let e = escaped (goal.at.range_from-requires c).In_ok-byte in λ _. e.boundary

pub returns-clause-element : goal.returns-clause-element
returns-clause-element c =
    let e = escaped (goal.at.returns-clause-element c).In_ok-byte in
    subst (λ x. Element lenient (chars c.args.text.now) (c.in_ok-byte.byte ∷ []) (chars x)) (sym c.range_from.ensures.value) e.element
