use Rattle.std.proofs.Common.{◌≤◌, ◌-◌, suc, length}
use Rattle.wat_lexer_parser.specs.lemmas.WhileLaws.{IsSoFar}
use Rattle.wat_lexer_parser.specs.readings.Readings.{group, more_comes}
use Rattle.wat_lexer_parser.specs.readings.Reads.{IsKept}
use Rattle.wat_types.specs.Meanings.{definition}
use Rattle.wat_types.specs.Signatures.{signatures}
use Rattle.wat_types.proofs.text.definitions.Given as goal

abbrev pub invariant-loop-parser : goal.invariant-loop-parser
invariant-loop-parser l = record {
  kept : IsKept l.fn.parser l.parser;
  on : l.fn.parser.place ≤ l.parser.place;
  so_far : IsSoFar more_comes (group definition) l.fn.parser (signatures l.types.items) l.parser.place;
}

abbrev pub decreases-loop-parser : goal.decreases-loop-parser
decreases-loop-parser l = suc (length l.parser.source.tokens) - l.parser.place
