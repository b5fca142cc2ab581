use Rattle.wat_tokens_run.proofs.PrintLaws.{Gathered, gathered_ok, gathered_cut, writes}
use Rattle.wat_tokens_run.proofs.print.print_text.Goals as goal

pub returns-clause-printed : goal.returns-clause-printed
returns-clause-printed g c =
    let text = c.args.text.now in
    writes g.W.Sink.held g.W.Sink.failure (Gathered text c.args.error) _ _ c.args.error c.write_all.result c.answer.result c.answer.ensures (gathered_ok text c.args.error _ _ c.write_all.result c.write_all.ensures.bytes)
    (gathered_cut text c.args.error _ _ c.write_all.result c.write_all.ensures.cut) c.requires c.write_all.ensures.failed
