use Rattle.std.proofs.Common.{ap, sym, ◌∙◌, ◌++◌}
use Rattle.std.specs.Prelude.{codes}
use Rattle.std.proofs.lemmas.Bool.{both_ways}
use Rattle.wat_lex.specs.grammar.Numbers.{unsigned, payload}
use Rattle.wat_lex.proofs.grammar.NumberKinds.{no_number, none_payload, no_payload}
use Rattle.wat_lex.proofs.inside.NumberSteps.{not_prefix}
use Rattle.wat_lex.proofs.lexer.scan.numbers.classify.Goals as goal

pub digits_kind-requires-clause-payload : goal.digits_kind-requires-clause-payload
digits_kind-requires-clause-payload c =
    no_payload (unsigned c.args.word.now) (not_prefix (unsigned c.args.word.now) c.unsigned-number.result.now (codes "nan:0x") c.as_slice-3.result.now c.unsigned-number.ensures c.as_slice-3.ensures c.in_default.ensures)

pub returns-then-not-is_digits-clause-none : goal.returns-then-not-is_digits-clause-none
returns-then-not-is_digits-clause-none c =
    no_number c.args.word.now (none_payload (unsigned c.args.word.now) c.in-Some.payload.now (sym c.unsigned-number.ensures ∙ c.in-Some.ensures ∙ ap (λ x. x ++ c.in-Some.payload.now) c.as_slice-3.ensures)
    (λ d. both_ways c.is_digits.result c.if-not-is_digits.true (c.is_digits.ensures.1 d)))

pub returns-clause-some : goal.returns-clause-some
returns-clause-some c =
    (payload (sym c.unsigned-number.ensures ∙ c.in-Some.ensures ∙ ap (λ x. x ++ c.in-Some.payload.now) c.as_slice-3.ensures) (c.is_digits.ensures.0 c.if-not-is_digits.false), c.is_negative-negative.ensures, c.has_underscores.ensures)
