use Rattle.std.proofs.Common.{sym, ap, ◌∙◌, subst, ◌+◌, ◌*◌, [], ◌∷◌, length}
use Rattle.std.specs.Str.Iter.{chars_rest}
use Rattle.std.specs.Char.{digit_value}
use Rattle.wat_lex.specs.inside.ScannedStrings.{Escaped}
use Rattle.wat_lex.proofs.inside.StringSteps.{Took, took, refused, second_read, second_missing, second_wrong}
use Rattle.wat_lex.proofs.lexer.scan.strings.second.Goals as goal
use Rattle.wat_lex.proofs.lexer.scan.strings.second.Goals.{In-Some}

first : (c : In-Some) → Took (chars_rest c.args.it.now) c.in-Some.c (chars_rest c.next.new.self)
first c = took (chars_rest c.args.it.now) (chars_rest c.next.new.self) c.in-Some.c c.requires.utf8 c.in-Some.ensures.steps.0

pub returns-in_default-clause-err : goal.returns-in_default-clause-err
returns-in_default-clause-err c = refused _ _ _ c.string_error_at.ensures (second_missing _ _ _ c.in_default.ensures.steps.0.0 c.requires.hex)

pub returns-clause-ok : goal.returns-clause-ok
returns-clause-ok c =
    subst (λ x. Escaped c.args.flags (92 ∷ c.args.first ∷ []) (chars_rest c.args.it.now) (chars_rest c.next.new.self) (x ∷ []))
    (ap (λ x. 16 * x + digit_value c.in-Some.c) (sym c.hex_digit.ensures.value) ∙ ap (λ x. 16 * c.hex_digit.result + x) (sym c.hex_digit-2.ensures.value))
    (second_read _ _ _ _ c.in-Some.c (first (goal.at.returns-clause-ok c).In-Some) c.requires.hex (sym c.is_hex.ensures ∙ c.if-not-is_hex.false))

pub returns-then-not-is_hex-clause-err : goal.returns-then-not-is_hex-clause-err
returns-then-not-is_hex-clause-err c = refused _ _ _ c.string_error_at-then-not-is_hex.ensures (second_wrong _ _ _ _ c.in-Some.c _ (first (goal.at.returns-then-not-is_hex-clause-err c).In-Some) (ap length c.as_str-left.ensures) c.requires.hex (sym c.is_hex.ensures ∙ c.if-not-is_hex.true))
