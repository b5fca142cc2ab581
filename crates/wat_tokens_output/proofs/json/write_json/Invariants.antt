use Rattle.std.proofs.Common.{◌≡◌, length, ◌-◌}
use Rattle.wat_tokens_io.specs.JsonRows.{json_line}
use Rattle.wat_tokens_io.specs.lemmas.BlockLaws.{Putting}
use Rattle.wat_tokens_output.proofs.json.write_json.Given as goal

abbrev pub invariant-tokens : goal.invariant-tokens
invariant-tokens g l = record {
  putting : Putting (json_line l.begin l.lexer.text) l.lexer l.pos (g.W.Sink.held l.initial.output) (g.W.Sink.held l.output) l.block;
  positions : l.positions ≡ l.lexer.text;
  failed : g.W.Sink.failure l.output ≡ g.W.Sink.failure l.initial.output;
}

abbrev pub decreases-tokens : goal.decreases-tokens
decreases-tokens g l = length l.lexer.text - l.pos
