use Rattle.wat_lex.proofs.inside.Blocks.{clear_pass}
use Rattle.wat_lex.proofs.lexer.scan.short.clear_from.Goals as goal

pub returns-clause-clear : goal.returns-clause-clear
returns-clause-clear c = λ p text marked. clear_pass p text c.args.bits c.args.i marked c.requires
