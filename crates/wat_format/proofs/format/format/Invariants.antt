use Rattle.std.proofs.Common.{length, ◌-◌, ◌<◌, ◌^◌, string_bytes}
use Rattle.std.specs.Str.{IsCharBoundary}
use Rattle.wat_format.specs.inside.Steps.{Few, Formats}
use Rattle.wat_format.proofs.format.format.Given as goal

abbrev pub invariant-tokens : goal.invariant-tokens
invariant-tokens l = record {
  boundary : IsCharBoundary l.lexer.text l.pos;
  formats : Formats l.lexer l.pos l.formatter (string_bytes l.out);
  few : Few l.pos l.formatter;
  short : length (string_bytes l.out) < 2 ^ 32;
}

abbrev pub decreases-tokens : goal.decreases-tokens
decreases-tokens l = length l.lexer.text - l.pos
