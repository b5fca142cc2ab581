use Rattle.std.proofs.Common.{length, ◌-◌, Option}
use Rattle.std.specs.Str.{IsCharBoundary}
use Rattle.wat_lex.specs.declared.lexer.faults.LexFault.{LexFault}
use Rattle.wat_lex.specs.tokens.UniqueTilings.{EndsFrom}
use Rattle.wat_lex.proofs.lexer.Lexer.first_fault.Given as goal

abbrev pub invariant-tokens : goal.invariant-tokens
invariant-tokens l = record {
  boundary : IsCharBoundary l.self.text l.at;
  ends : (e : Option LexFault) → EndsFrom l.self l.at e → EndsFrom l.self l.pos e;
}

abbrev pub decreases-tokens : goal.decreases-tokens
decreases-tokens l = length l.self.text - l.at
