use Rattle.std.proofs.Common.{◌≡◌, ◌≤◌, ◌-◌, length, take}
use Rattle.std.specs.Prelude.{flat_map}
use Rattle.wat_tokens_io.specs.JsonStrings.{escaped}
use Rattle.wat_tokens_io.specs.Blocks.{Puts}
use Rattle.wat_tokens_io.proofs.row.put_escaped.Given as goal

abbrev pub invariant-loop-put : goal.invariant-loop-put
invariant-loop-put g l = record {
  within : l.put ≤ length l.text;
  puts : Puts (g.W.Sink.held l.initial.output) (g.W.Sink.held l.output) l.initial.block l.block (flat_map escaped (take l.put l.text));
  failed : g.W.Sink.failure l.output ≡ g.W.Sink.failure l.initial.output;
}

abbrev pub decreases-loop-put : goal.decreases-loop-put
decreases-loop-put g l = length l.text - l.put
