use Rattle.std.proofs.Common.{◌≡◌, length, ◌-◌, List, ℕ, string_bytes}
use Rattle.std.specs.Str.{IsCharBoundary}
use Rattle.wat_format.specs.Formatting.{Formatted}
use Rattle.wat_format.specs.inside.Steps.{Few}
use Rattle.wat_format.specs.inside.Writing.{Remains}
use Rattle.wat_format.proofs.stream.write_formatted.Given as goal

abbrev pub invariant-tokens : goal.invariant-tokens
invariant-tokens g l = record {
  boundary : IsCharBoundary l.lexer.text l.pos;
  few : Few l.pos l.formatter;
  kept : g.W.Sink.failure l.output ≡ g.W.Sink.failure l.initial.output;
  answer : List ℕ;
  formatted : Formatted l.lexer answer;
  remains : Remains l.lexer answer l.pos l.formatter (g.W.Sink.held l.initial.output) (g.W.Sink.held l.output) (string_bytes l.block);
}

abbrev pub decreases-tokens : goal.decreases-tokens
decreases-tokens g l = length l.lexer.text - l.pos
