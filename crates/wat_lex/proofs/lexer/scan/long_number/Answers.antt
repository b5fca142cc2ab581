use Rattle.std.proofs.Common.{arith}
use Rattle.std.proofs.lemmas.List.Sums.{prefix_len-le-length}
use Rattle.wat_lex.specs.grammar.Classes.{is_idchar}
use Rattle.wat_lex.proofs.lexer.scan.long_number.Goals as goal

pub long_number_kind-kind-requires : goal.long_number_kind-kind-requires
long_number_kind-kind-requires c = omega (arith, c.requires, prefix_len-le-length is_idchar c.args.text.now)
