use Rattle.std.proofs.Common.{ap, subst, ◌≡◌, [], ◌∷◌, length}
use Rattle.std.specs.Str.Iter.{chars_rest}
use Rattle.wat_lex.specs.inside.ScannedStrings.{escape_bytes}
use Rattle.wat_lex.proofs.inside.StringSteps.{Took, took, refused, open_missing, open_wrong, escaped_on, breaks_on, if_ok, if_err}
use Rattle.wat_lex.proofs.lexer.scan.strings.braced.Goals as goal
use Rattle.wat_lex.proofs.lexer.scan.strings.braced.Goals.{In-Some}

first : (c : In-Some) → Took (chars_rest c.args.it.now) c.in-Some.c (chars_rest c.next.new.self)
first c = took (chars_rest c.args.it.now) (chars_rest c.next.new.self) c.in-Some.c c.requires.utf8 c.in-Some.ensures.steps.0

was : (c : In-Some) → c.in-Some.c ≡ 123 → Took (chars_rest c.args.it.now) 123 (chars_rest c.next.new.self)
was c e = subst (λ x. Took (chars_rest c.args.it.now) x (chars_rest c.next.new.self)) e (first c)

pub braced_number-requires : goal.braced_number-requires
braced_number-requires c = let t = first (goal.at.braced_number-requires c).In-Some in record { utf8 = t.utf8 }

pub returns-clause-ok : goal.returns-clause-ok
returns-clause-ok c = if_ok c.braced_number.result _ _ (λ e. escaped_on _ (92 ∷ 117 ∷ []) (chars_rest c.args.it.now) (chars_rest c.next.new.self) (chars_rest c.braced_number.new.it) (escape_bytes e) 123 (was (goal.at.returns-clause-ok c).In-Some c.if-c-ne123.false)) c.braced_number.ensures.ok

pub returns-clause-err : goal.returns-clause-err
returns-clause-err c = if_err c.braced_number.result _ _ (λ f. breaks_on _ (92 ∷ 117 ∷ []) (chars_rest c.args.it.now) (chars_rest c.next.new.self) 123 f (was (goal.at.returns-clause-err c).In-Some c.if-c-ne123.false)) c.braced_number.ensures.err

pub returns-in_default-clause-err : goal.returns-in_default-clause-err
returns-in_default-clause-err c = refused _ _ _ c.string_error_at.ensures (open_missing _ _ c.in_default.ensures.steps.0.0)

pub returns-then-c-ne123-clause-err : goal.returns-then-c-ne123-clause-err
returns-then-c-ne123-clause-err c = refused _ _ _ c.string_error_at-then-c-ne123.ensures (open_wrong _ _ _ c.in-Some.c _ (first (goal.at.returns-then-c-ne123-clause-err c).In-Some) (ap length c.as_str-left.ensures) c.if-c-ne123.true)
