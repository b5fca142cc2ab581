use Rattle.std.proofs.Common.{sym, ap, ◌∙◌, subst, ◌≡◌, [], ◌∷◌, length}
use Rattle.std.specs.Str.Iter.{chars_rest}
use Rattle.wat_lex.specs.inside.ScannedStrings.{escape_bytes}
use Rattle.wat_lex.proofs.inside.StringSteps.{Took, took, refused, escape_missing, escape_letter, escape_wrong, escaped_on, breaks_on, if_ok, if_err}
use Rattle.wat_lex.proofs.lexer.scan.strings.escape.Goals as goal
use Rattle.wat_lex.proofs.lexer.scan.strings.escape.Goals.{In-Some}

first : (c : In-Some) → Took (chars_rest c.args.it.now) c.in-Some.c (chars_rest c.next.new.self)
first c = took (chars_rest c.args.it.now) (chars_rest c.next.new.self) c.in-Some.c c.requires.utf8 c.in-Some.ensures.steps.0

was : (c : In-Some) → c.in-Some.c ≡ 117 → Took (chars_rest c.args.it.now) 117 (chars_rest c.next.new.self)
was c e = subst (λ x. Took (chars_rest c.args.it.now) x (chars_rest c.next.new.self)) e (first c)

pub returns-in-Some-letter-clause-ok : goal.returns-in-Some-letter-clause-ok
returns-in-Some-letter-clause-ok c = escape_letter _ _ _ c.in-Some.c _ (first (goal.at.returns-in-Some-letter-clause-ok c).In-Some) (sym c.in-Some-letter.ensures)

pub second-requires-clause-utf8 : goal.second-requires-clause-utf8
second-requires-clause-utf8 c = let t = first (goal.at.second-requires-clause-utf8 c).In-Some in t.utf8

pub returns-then-is_hex-clause-ok : goal.returns-then-is_hex-clause-ok
returns-then-is_hex-clause-ok c = if_ok c.second.result _ _ (λ e. escaped_on _ (92 ∷ []) (chars_rest c.args.it.now) (chars_rest c.next.new.self) (chars_rest c.second.new.it) (escape_bytes e) c.in-Some.c (first (goal.at.returns-then-is_hex-clause-ok c).In-Some)) c.second.ensures.ok

pub returns-then-is_hex-clause-err : goal.returns-then-is_hex-clause-err
returns-then-is_hex-clause-err c = if_err c.second.result _ _ (λ f. breaks_on _ (92 ∷ []) (chars_rest c.args.it.now) (chars_rest c.next.new.self) c.in-Some.c f (first (goal.at.returns-then-is_hex-clause-err c).In-Some)) c.second.ensures.err

pub braced-requires : goal.braced-requires
braced-requires c = let t = first (goal.at.braced-requires c).In-Some in record { utf8 = t.utf8 }

pub returns-clause-ok : goal.returns-clause-ok
returns-clause-ok c = if_ok c.braced.result _ _ (λ e. escaped_on _ (92 ∷ []) (chars_rest c.args.it.now) (chars_rest c.next.new.self) (chars_rest c.braced.new.it) (escape_bytes e) 117 (was (goal.at.returns-clause-ok c).In-Some c.if-c-ne117.false)) c.braced.ensures.ok

pub returns-clause-err : goal.returns-clause-err
returns-clause-err c = if_err c.braced.result _ _ (λ f. breaks_on _ (92 ∷ []) (chars_rest c.args.it.now) (chars_rest c.next.new.self) 117 f (was (goal.at.returns-clause-err c).In-Some c.if-c-ne117.false)) c.braced.ensures.err

pub returns-in_default-clause-err : goal.returns-in_default-clause-err
returns-in_default-clause-err c = refused _ _ _ c.string_error_at.ensures (escape_missing _ _ c.in_default.ensures.steps.0.0)

pub returns-then-c-ne117-clause-err : goal.returns-then-c-ne117-clause-err
returns-then-c-ne117-clause-err c = refused _ _ _ c.string_error_at-then-c-ne117.ensures (escape_wrong _ _ _ c.in-Some.c _ (first (goal.at.returns-then-c-ne117-clause-err c).In-Some) (ap length c.as_str-left.ensures) (sym c.in_default-letter.ensures) (sym c.is_hex.ensures ∙ c.if-is_hex.false) c.if-c-ne117.true)
