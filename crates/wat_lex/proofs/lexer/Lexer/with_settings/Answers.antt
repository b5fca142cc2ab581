use Rattle.std.proofs.lemmas.Str.{IsCharBoundary-start}
use Rattle.wat_lex.proofs.lexer.Lexer.with_settings.Goals as goal

pub returns-clause-start : goal.returns-clause-start
returns-clause-start c = IsCharBoundary-start c.args.input.now c.utf8.input
