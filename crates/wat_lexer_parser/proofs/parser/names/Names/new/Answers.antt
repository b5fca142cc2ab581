use Rattle.std.proofs.Common.{rules, subst, sym, ◌≡◌, []}
use Rattle.wat_lexer_parser.specs.inside.MapEntries.{names_of}
use Rattle.wat_lexer_parser.specs.names.RegisteredNames.{IsPositive}
use Rattle.wat_lexer_parser.proofs.names.MapsOfTexts.{positive-empty}
use Rattle.wat_lexer_parser.proofs.parser.names.Names.new.Goals as goal

pub invariant_of-result : goal.invariant_of-result
invariant_of-result c = let none : c.new.result.entries ≡ [] = search rules in subst (λ es. IsPositive (names_of es)) (sym none) positive-empty
