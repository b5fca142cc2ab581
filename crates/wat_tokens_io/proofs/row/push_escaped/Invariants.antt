use Rattle.std.proofs.Common.{◌≡◌, ◌++◌, take}
use Rattle.std.specs.Prelude.{flat_map}
use Rattle.wat_tokens_io.specs.JsonStrings.{escaped}
use Rattle.wat_tokens_io.proofs.row.push_escaped.Given as goal

abbrev pub invariant-loop-byte : goal.invariant-loop-byte
invariant-loop-byte l = l.lines.items ≡ l.initial.lines.items ++ flat_map escaped (take l.byte-index l.text)
