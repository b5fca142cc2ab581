use Rattle.std.proofs.Common.{◌≡◌, ◌≤◌, ◌+◌, ◌-◌, length, drop}
use Rattle.std.specs.List.{prefix_len}
use Rattle.wat_lex.specs.inside.Blocks.{is_plain_in_line}
use Rattle.wat_lex.proofs.lexer.scan.comments.plain_by_four_blocks.Given as goal

abbrev pub invariant-loop-i : goal.invariant-loop-i
invariant-loop-i l = record {
  range : l.i ≤ length l.text;
  so_far : prefix_len is_plain_in_line l.text ≡ l.i + prefix_len is_plain_in_line (drop l.i l.text);
}

abbrev pub decreases-loop-i : goal.decreases-loop-i
decreases-loop-i l = length l.text - l.i
