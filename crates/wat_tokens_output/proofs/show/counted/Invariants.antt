use Rattle.std.proofs.Common.{◌≡◌, ◌≤◌, ◌+◌, length, ◌-◌}
use Rattle.wat_tokens_output.proofs.ShownLaws.{Counted}
use Rattle.wat_tokens_output.proofs.show.counted.Given as goal

abbrev pub invariant-tokens : goal.invariant-tokens
invariant-tokens l = record {
  parser : l.cursor.parser ≡ l.fn.from.parser;
  on : l.fn.from.at + l.count ≤ l.cursor.at;
  counted : Counted l.fn.from.parser.now.source l.fn.from.parser.now.names l.fn.from.at l.cursor.at l.count;
}

abbrev pub decreases-tokens : goal.decreases-tokens
decreases-tokens l = length l.fn.from.parser.now.source.tokens - l.cursor.at
