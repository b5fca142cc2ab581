use Rattle.std.proofs.Common.{rules}
use Rattle.wat_lexer_parser.proofs.parser.Parser.lemma_sound.Goals as goal

pub returns : goal.returns
returns c = record {
  sound = record { read = search rules; utf8 = search rules; short = search rules; within = search rules; small = search rules; deep = search rules; counts = search rules };
}
