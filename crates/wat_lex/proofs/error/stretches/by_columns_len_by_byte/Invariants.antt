use Rattle.std.proofs.Common.{◌≡◌, ◌≤◌, ◌+◌, ◌-◌, length, drop}
use Rattle.std.specs.List.{prefix_len}
use Rattle.wat_lex.specs.errors.LineBytes.{is_by_columns}
use Rattle.wat_lex.proofs.error.stretches.by_columns_len_by_byte.Given as goal

abbrev pub invariant-loop-i : goal.invariant-loop-i
invariant-loop-i l = record {
  range : l.i ≤ length l.text;
  so_far : prefix_len is_by_columns l.text ≡ l.i + prefix_len is_by_columns (drop l.i l.text);
}

abbrev pub decreases-loop-i : goal.decreases-loop-i
decreases-loop-i l = length l.text - l.i
