use Rattle.std.proofs.Common.{◌≤◌, ◌-◌, suc, length, map}
use Rattle.wat_lexer_parser.specs.lemmas.WhileLaws.{IsSoFar}
use Rattle.wat_lexer_parser.specs.readings.Reads.{IsKept}
use Rattle.wat_lexer_parser.proofs.parser.Parser.all_while.Given as goal

abbrev pub invariant-each : goal.invariant-each
invariant-each g l = record {
  kept : IsKept l.fn.self l.self;
  on : l.fn.self.place ≤ l.self.place;
  within : l.self.place ≤ length l.fn.self.source.tokens;
  so_far : IsSoFar g.P.Peek.sight g.T.Parse.meaning l.fn.self (map g.T.Parse.value l.values.items) l.self.place;
}

abbrev pub decreases-each : goal.decreases-each
decreases-each g l = suc (length l.self.source.tokens) - l.self.place
