use Rattle.std.proofs.Common.{◌≡◌, ◌<◌, ◌≤◌, ◌+◌, ◌-◌, ◌/◌, ℕ, length, get_or}
use Rattle.wat_lexer_parser.specs.inside.Table.{block}
use Rattle.wat_lexer_parser.proofs.parser.table.start_blocks.Given as goal

abbrev pub invariant-loop-starts : goal.invariant-loop-starts
invariant-loop-starts l = record {
  longer : length l.fn.starts.items ≤ length l.starts.items;
  kept : (b : ℕ) → b < length l.fn.starts.items → get_or l.starts.items b 0 ≡ get_or l.fn.starts.items b 0;
  begun : (b : ℕ) → length l.fn.starts.items ≤ b → b < length l.starts.items → get_or l.starts.items b 0 ≡ l.before;
}

abbrev pub decreases-loop-starts : goal.decreases-loop-starts
decreases-loop-starts l = l.place / block + 1 - length l.starts.items
