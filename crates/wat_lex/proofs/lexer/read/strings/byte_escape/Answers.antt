use Rattle.std.proofs.Common.{sym, ap, ◌∙◌, subst, ◌≡◌, ◌+◌, ◌*◌, [], ◌∷◌, drop}
use Rattle.std.specs.Prelude.{slice_index}
use Rattle.std.specs.Char.{digit_value}
use Rattle.std.specs.Str.{chars}
use Rattle.wat_lex.specs.grammar.Strings.{Element}
use Rattle.wat_lex.specs.inside.ScannedStrings.{BeginsByteEscape}
use Rattle.wat_lex.specs.tokens.Setting.{lenient}
use Rattle.wat_lex.proofs.inside.StringElements.{ByteEscape, byte_escaped}
use Rattle.wat_lex.proofs.lexer.read.strings.byte_escape.Goals as goal
use Rattle.wat_lex.proofs.lexer.read.strings.byte_escape.Goals.{In_ok-byte}

escaped : (c : In_ok-byte) → ByteEscape lenient c.args.text.now
escaped c = byte_escaped lenient c.args.text.now c.utf8.text (subst BeginsByteEscape c.as_bytes.ensures.value c.in_ok-byte.ensures.begins)

pub range_from-requires : goal.range_from-requires
range_from-requires c = let e = escaped (goal.at.range_from-requires c).In_ok-byte in λ _. e.boundary

pub returns-clause-element : goal.returns-clause-element
returns-clause-element c =
    let e = escaped (goal.at.returns-clause-element c).In_ok-byte in
    let text = c.args.text.now in
    let value : c.in_ok-byte.byte ≡ 16 * digit_value (slice_index text 1) + digit_value (slice_index text 2) =
    c.in_ok-byte.ensures.value ∙ ap (λ x. 16 * digit_value (slice_index x 1) + digit_value (slice_index x 2)) c.as_bytes.ensures.value in
    subst (λ x. Element lenient (chars text) (c.in_ok-byte.byte ∷ []) (chars x)) (sym c.range_from.ensures.value)
    (subst (λ x. Element lenient (chars text) (x ∷ []) (chars (drop 3 text))) (sym value) e.element)
