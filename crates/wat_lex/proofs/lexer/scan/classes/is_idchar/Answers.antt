use Rattle.std.proofs.Common.{not, ◌==◌, bit_and, get_or, refl}
use Rattle.std.proofs.lemmas.Bool.{agree_below_at}
use Rattle.wat_lex.specs.grammar.Classes.{is_idchar}
use Rattle.wat_lex.specs.declared.lexer.scan.classes.TheConstants.{CLASSES, IDCHAR}
use Rattle.wat_lex.proofs.lexer.scan.classes.is_idchar.Goals as goal

pub returns : goal.returns
returns c = agree_below_at (λ b. not (bit_and (get_or CLASSES b 0) IDCHAR == 0)) is_idchar 256 c.args.b refl c.ranges.b.fits
