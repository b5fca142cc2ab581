use Rattle.std.proofs.Common.{◌≡◌, ◌-◌, ◌≤◌, None, vec_len}
use Rattle.std.specs.Io.KnownBytes.{Consumes}
use Rattle.wat_tokens_output.proofs.input.read_whole.Given as goal

abbrev pub invariant-pieces : goal.invariant-pieces
invariant-pieces g l = record {
  so_far : Consumes (g.R.Source.left l.initial.input) (g.R.Source.left l.input) l.bytes.items;
  fresh : g.R.Source.failure l.input ≡ None;
  short : vec_len l.bytes ≤ 4294967295;
}

abbrev pub decreases-pieces : goal.decreases-pieces
decreases-pieces g l = 4294967296 - vec_len l.bytes
