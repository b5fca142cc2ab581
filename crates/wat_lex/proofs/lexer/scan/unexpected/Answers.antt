use Rattle.std.proofs.Common.{sym, ◌∙◌}
use Rattle.std.specs.Str.Iter.{chars_rest}
use Rattle.wat_lex.proofs.inside.LineComments.{found_unexpected}
use Rattle.wat_lex.proofs.lexer.scan.unexpected.Goals as goal

pub returns : goal.returns
returns c = λ flags. found_unexpected flags c.args.text.now (chars_rest c.next.new.self) c.in-Some.c c.utf8.text (sym c.chars.ensures.rest ∙ c.in-Some.ensures.steps.0) c.requires.no_word
