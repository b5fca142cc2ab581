use Rattle.std.proofs.Common.{◌≡◌, ◌≤◌, List, length, map, ◌-◌}
use Rattle.wat_lex.specs.declared.lexer.kinds.Token.{Token}
use Rattle.wat_module_lexer.specs.Drafts.{IsPacking, draft_terminals}
use Rattle.wat_module_lexer.specs.TokenTerminals.{terminal_of}
use Rattle.wat_module_lexer.proofs.ShownLaws.{ShownSoFar}
use Rattle.wat_module_lexer.proofs.pack_all.Given as goal

abbrev pub invariant-tokens : goal.invariant-tokens
invariant-tokens l = record {
  parser : l.parser ≡ record l.initial.parser { place = l.parser.place };
  within : l.parser.place ≤ length l.initial.parser.source.tokens;
  tokens : List Token;
  shown : ShownSoFar l.initial.parser.source l.initial.parser.names l.initial.parser.place l.parser.place tokens;
  are : draft_terminals l.text l.packed ≡ map (terminal_of l.text) tokens;
  sound : IsPacking l.text l.packed l.groups.items;
  count : length l.packed.tokens.items ≤ l.parser.place;
  few : length l.packed.kept.items ≤ l.parser.place;
}

abbrev pub decreases-tokens : goal.decreases-tokens
decreases-tokens l = length l.initial.parser.source.tokens - l.parser.place
