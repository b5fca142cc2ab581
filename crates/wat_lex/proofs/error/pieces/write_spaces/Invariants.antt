use Rattle.std.specs.Prelude.{replicate}
use Rattle.wat_lex.specs.errors.LaidPieces.{WritesAfter}
use Rattle.wat_lex.proofs.error.pieces.write_spaces.Given as goal

abbrev pub invariant-loop : goal.invariant-loop
invariant-loop l = WritesAfter l.initial.out l.initial.at (replicate l.counter 32) l.out l.at
