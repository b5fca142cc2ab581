use Rattle.std.proofs.lemmas.Iterator.Consumers.{count_from_yields_List}
use Rattle.std.proofs.lemmas.Iterator.Splits.{YieldsList-from_lines}
use Rattle.std.proofs.Common.{arith}
use Rattle.wat_lex.proofs.errors.Positions.{past_end}
use Rattle.wat_lex.proofs.token.Span.linecol_in.Goals as goal

pub returns-then-self-text-clause-place : goal.returns-then-self-text-clause-place
returns-then-self-text-clause-place c =
    past_end c.args.text.now c.args.self.now c.count.result (omega (arith, c.if-self-text.true, c.self.view_is)) (count_from_yields_List c.lines.result c.count.result c.count.ensures.ran (YieldsList-from_lines c.args.text.now c.lines.ensures.rest))
