use Rattle.std.proofs.Common.{◌≡◌, length, ◌-◌, map, None}
use Rattle.wat_lexer_parser.specs.inside.TableNames.{name_view}
use Rattle.wat_lexer_parser.proofs.inside.Filling.{Filling}
use Rattle.wat_lexer_parser.proofs.parser.table.fill.Given as goal

abbrev pub invariant-tokens : goal.invariant-tokens
invariant-tokens l = record {
  filling : Filling l.lexer l.pos l.table.tokens.items l.table.opens.items (map name_view l.table.names.items);
  fault : l.table.fault ≡ None;
}

abbrev pub decreases-tokens : goal.decreases-tokens
decreases-tokens l = length l.lexer.text - l.pos
