use Rattle.std.proofs.Common.{arith}
use Rattle.std.proofs.lemmas.List.Sums.{prefix_len-le-length}
use Rattle.wat_lex.specs.grammar.Classes.{is_idchar}
use Rattle.wat_lex.proofs.lexer.scan.number_by_byte.Goals as goal

pub decimal_kind-kind-requires : goal.decimal_kind-kind-requires
decimal_kind-kind-requires c = omega (arith, c.word_len-len.ensures, prefix_len-le-length is_idchar c.args.text.now)
