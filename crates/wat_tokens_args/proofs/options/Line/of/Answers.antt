use Rattle.std.proofs.Common.{sym, ◌∙◌}
use Rattle.wat_tokens_args.proofs.LineLaws.{split_own}
use Rattle.wat_tokens_args.proofs.options.Line.of.Goals as goal

pub returns-then-owns_operands : goal.returns-then-owns_operands
returns-then-owns_operands c =
    split_own c.args.words.now c.split_at.result.0.now c.after_front-rest.result.now c.split_verb-verb.result.1.now c.split_verb-verb.result.0 c.after_front-rest.ensures.rest c.split_at.ensures.front c.split_verb-verb.ensures.verb c.split_verb-verb.ensures.after (sym c.owns_operands.ensures ∙ c.if-owns_operands.true)
