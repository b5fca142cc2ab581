use Rattle.std.proofs.Common.{sym, ap, ◌∙◌, [], ◌∷◌, length}
use Rattle.std.specs.Str.Iter.{chars_rest}
use Rattle.wat_lex.specs.inside.ScannedStrings.{escape_bytes}
use Rattle.wat_lex.proofs.inside.StringSteps.{Took, took, refused, digits_missing, digits_wrong, escaped_on, breaks_on, if_ok, if_err}
use Rattle.wat_lex.proofs.lexer.scan.strings.braced_number.Goals as goal
use Rattle.wat_lex.proofs.lexer.scan.strings.braced_number.Goals.{In-Some}

first : (c : In-Some) → Took (chars_rest c.args.it.now) c.in-Some.c (chars_rest c.next.new.self)
first c = took (chars_rest c.args.it.now) (chars_rest c.next.new.self) c.in-Some.c c.requires.utf8 c.in-Some.ensures.steps.0

pub number-requires-clause-utf8 : goal.number-requires-clause-utf8
number-requires-clause-utf8 c = let t = first (goal.at.number-requires-clause-utf8 c).In-Some in t.utf8

pub returns-clause-ok : goal.returns-clause-ok
returns-clause-ok c = if_ok c.number.result _ _ (λ e. escaped_on _ (92 ∷ 117 ∷ 123 ∷ []) (chars_rest c.args.it.now) (chars_rest c.next.new.self) (chars_rest c.number.new.it) (escape_bytes e) c.in-Some.c (first (goal.at.returns-clause-ok c).In-Some)) c.number.ensures.ok

pub returns-clause-err : goal.returns-clause-err
returns-clause-err c = if_err c.number.result _ _ (λ f. breaks_on _ (92 ∷ 117 ∷ 123 ∷ []) (chars_rest c.args.it.now) (chars_rest c.next.new.self) c.in-Some.c f (first (goal.at.returns-clause-err c).In-Some)) c.number.ensures.err

pub returns-in_default-clause-err : goal.returns-in_default-clause-err
returns-in_default-clause-err c = refused _ _ _ c.string_error_at.ensures (digits_missing _ _ c.in_default.ensures.steps.0.0)

pub returns-then-not-is_hex-clause-err : goal.returns-then-not-is_hex-clause-err
returns-then-not-is_hex-clause-err c = refused _ _ _ c.string_error_at-then-not-is_hex.ensures (digits_wrong _ _ _ c.in-Some.c _ (first (goal.at.returns-then-not-is_hex-clause-err c).In-Some) (ap length c.as_str-left.ensures) (sym c.is_hex.ensures ∙ c.if-not-is_hex.true))
