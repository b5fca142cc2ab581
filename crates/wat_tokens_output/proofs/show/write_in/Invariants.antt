use Rattle.std.proofs.Common.{◌≡◌}
use Rattle.wat_tokens_output.proofs.ShownLaws.{PuttingShown}
use Rattle.wat_tokens_output.proofs.show.write_in.Given as goal

abbrev pub invariant-tokens : goal.invariant-tokens
invariant-tokens g l = record {
  parser : l.parser ≡ record l.initial.parser { place = l.parser.place };
  each : g.F.Form.each l.form ≡ g.F.Form.each l.fn.form;
  text : g.F.Form.text l.form ≡ g.F.Form.text l.fn.form;
  putting : PuttingShown (g.F.Form.each l.fn.form) l.initial.parser.source l.initial.parser.names l.initial.parser.place l.parser.place l.left l.count (g.W.Sink.held l.initial.output) (g.W.Sink.held l.output) l.block;
  failed : g.W.Sink.failure l.output ≡ g.W.Sink.failure l.initial.output;
}

abbrev pub decreases-tokens : goal.decreases-tokens
decreases-tokens g l = l.left
