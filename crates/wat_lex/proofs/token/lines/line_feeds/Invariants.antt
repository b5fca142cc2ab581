use Rattle.std.proofs.Common.{◌≡◌, ◌≤◌, ◌+◌, ◌-◌, length, drop}
use Rattle.std.specs.List.{count_by}
use Rattle.wat_lex.specs.errors.Positions.{is_line_feed}
use Rattle.wat_lex.proofs.token.lines.line_feeds.Given as goal

abbrev pub invariant-loop-i : goal.invariant-loop-i
invariant-loop-i l = record {
  range : l.i ≤ length l.text;
  so_far : l.count + count_by is_line_feed (drop l.i l.text) ≡ count_by is_line_feed l.text;
}

abbrev pub decreases-loop-i : goal.decreases-loop-i
decreases-loop-i l = length l.text - l.i
