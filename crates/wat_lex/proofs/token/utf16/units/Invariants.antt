use Rattle.std.proofs.Common.{◌≡◌, ◌≤◌, ◌+◌, ◌-◌, length, drop}
use Rattle.std.specs.List.{sum_by}
use Rattle.wat_lex.specs.inside.Utf16Bytes.{byte_units}
use Rattle.wat_lex.proofs.token.utf16.units.Given as goal

abbrev pub invariant-loop-i : goal.invariant-loop-i
invariant-loop-i l = record {
  range : l.i ≤ length l.text;
  so_far : l.units + sum_by byte_units (drop l.i l.text) ≡ sum_by byte_units l.text;
}

abbrev pub decreases-loop-i : goal.decreases-loop-i
decreases-loop-i l = length l.text - l.i
