use Rattle.std.proofs.Common.{◌≡◌, ◌≤◌, ◌+◌, ◌-◌, length, drop}
use Rattle.std.specs.List.{prefix_len}
use Rattle.wat_c.specs.inside.SplitFloats.{is_of_digits}
use Rattle.wat_c.proofs.float_parts.digits_len.Given as goal

abbrev pub invariant-loop-i : goal.invariant-loop-i
invariant-loop-i l = record {
  range : l.i ≤ length l.text;
  so_far : prefix_len (is_of_digits l.hex) l.text ≡ l.i + prefix_len (is_of_digits l.hex) (drop l.i l.text);
}

abbrev pub decreases-loop-i : goal.decreases-loop-i
decreases-loop-i l = length l.text - l.i
