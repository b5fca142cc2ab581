use Rattle.std.proofs.Common.{◌≡◌, ◌≤◌, ◌*◌, ◌-◌, length, take}
use Rattle.std.specs.List.{sum_by}
use Rattle.wat_lex.specs.inside.Utf16Bytes.{AreUnits, byte_units}
use Rattle.wat_lex.proofs.token.lines.units_at_marks.Given as goal

abbrev pub decreases-loop-at : goal.decreases-loop-at
decreases-loop-at l = length l.text - l.at

abbrev pub invariant-loop-at : goal.invariant-loop-at
invariant-loop-at l = (l.at ≡ length l.marks.items * 0x10000) × (l.at ≤ length l.text) × AreUnits l.text l.marks.items × (l.before ≡ sum_by byte_units (take l.at l.text))
