use Rattle.std.proofs.Common.{◌≡◌, map, take}
use Rattle.wat_lexer_parser.specs.laws.BlankTexts.{blank_byte}
use Rattle.wat_tokens_io.specs.Blocks.{Puts}
use Rattle.wat_tokens_output.proofs.blank.put_blanks.Given as goal

abbrev pub invariant-loop-byte : goal.invariant-loop-byte
invariant-loop-byte g l = record {
  puts : Puts (g.W.Sink.held l.initial.output) (g.W.Sink.held l.output) l.initial.block l.block (map blank_byte (take l.byte-index l.comment));
  failed : g.W.Sink.failure l.output ≡ g.W.Sink.failure l.initial.output;
}
