use Rattle.std.proofs.Common.{◌≡◌, ◌≤◌}
use Rattle.wat_lexer_parser.specs.inside.Next.{IsPlace}
use Rattle.wat_lexer_parser.specs.calls.Calls.{after_taking}
use Rattle.wat_lexer_parser.proofs.parser.Parser.after_taking.Given as goal

abbrev pub invariant-loop-left : goal.invariant-loop-left
invariant-loop-left l = record {
  same : after_taking l.self.source l.self.names l.count l.place ≡ after_taking l.self.source l.self.names l.left l.at;
  on : l.place ≤ l.at;
  within : IsPlace l.self.source l.at l.pos;
}

abbrev pub decreases-loop-left : goal.decreases-loop-left
decreases-loop-left l = l.left
