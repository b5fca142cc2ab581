use Rattle.std.proofs.Common.{◌≡◌, ◌≤◌, length, ◌-◌}
use Rattle.wat_module_lexer.proofs.ShownLaws.{ShownSoFar}
use Rattle.wat_module_lexer.proofs.tokens_from.Given as goal

abbrev pub invariant-tokens : goal.invariant-tokens
invariant-tokens l = record {
  parser : l.cursor.parser ≡ l.fn.from.parser;
  on : l.fn.from.at ≤ l.cursor.at;
  shown : ShownSoFar l.fn.from.parser.now.source l.fn.from.parser.now.names l.fn.from.at l.cursor.at l.tokens.items;
}

abbrev pub decreases-tokens : goal.decreases-tokens
decreases-tokens l = length l.fn.from.parser.now.source.tokens - l.cursor.at
