use Rattle.std.proofs.Common.{◌∙◌, sym}
use Rattle.wat_lex.proofs.grammar.ShortNumbers.{no_sign, some_sign}
use Rattle.wat_lex.proofs.lexer.scan.short.sign_len.Goals as goal

pub returns-in-None-clause-unsigned : goal.returns-in-None-clause-unsigned
returns-in-None-clause-unsigned c = λ word e. no_sign word (sym c.in-None.is ∙ e)

pub returns-in_default-clause-unsigned : goal.returns-in_default-clause-unsigned
returns-in_default-clause-unsigned c = λ word e. some_sign c.args.sign word c.in_default.not-None e
