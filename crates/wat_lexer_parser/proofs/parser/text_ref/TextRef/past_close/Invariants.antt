use Rattle.std.proofs.Common.{◌≡◌, ◌≤◌, ◌-◌, length}
use Rattle.wat_lex.specs.declared.lexer.kinds.Token.{Token}
use Rattle.wat_lexer_parser.specs.inside.Groups.{found_inside}
use Rattle.wat_lexer_parser.specs.inside.Next.{IsPlace}
use Rattle.wat_lexer_parser.specs.names.RegisteredNames.{Names}
use Rattle.wat_lexer_parser.proofs.parser.text_ref.TextRef.past_close.Given as goal

abbrev pub invariant-tokens : goal.invariant-tokens
invariant-tokens l = record {
  place : IsPlace l.self l.i l.pos;
  on : l.place ≤ l.i;
  deep : l.depth ≤ l.i;
  same : (n : Names) (o : Token) → found_inside l.self l.place 0 n o ≡ found_inside l.self l.i l.depth n o;
}

abbrev pub decreases-tokens : goal.decreases-tokens
decreases-tokens l = length l.self.tokens - l.i
