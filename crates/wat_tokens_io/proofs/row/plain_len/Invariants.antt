use Rattle.std.proofs.Common.{◌≡◌, ◌≤◌, ◌-◌, length, take}
use Rattle.std.specs.Prelude.{flat_map}
use Rattle.wat_tokens_io.specs.JsonStrings.{escaped}
use Rattle.wat_tokens_io.proofs.row.plain_len.Given as goal

abbrev pub invariant-loop-len : goal.invariant-loop-len
invariant-loop-len l = record {
  plain : flat_map escaped (take l.len l.text) ≡ take l.len l.text;
  within : l.len ≤ length l.text;
}

abbrev pub decreases-loop-len : goal.decreases-loop-len
decreases-loop-len l = length l.text - l.len
