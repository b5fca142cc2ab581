use Rattle.std.proofs.Common.{refl}
use Rattle.wat_lexer_parser.specs.rules.FormatTypes.{bytes}
use Rattle.wat_module_custom.proofs.reading.strings.Goals as goal

pub all_of-requires : goal.all_of-requires
all_of-requires c = λ k. ((refl, tt), bytes.advances refl)
