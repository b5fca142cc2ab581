use Rattle.std.proofs.Common.{drop, length-drop, refl, arith}
use Rattle.std.proofs.lemmas.Str.{IsUtf8-drop}
use Rattle.wat_lex.proofs.tokens.ReadableTokens.{token_of}
use Rattle.wat_lex.proofs.tokens.Scans.{token_at, found_some, found_fits, part_ends}
use Rattle.wat_lex.proofs.lexer.Lexer.token.Goals as goal

pub overflow_cast-result : goal.overflow_cast-result
overflow_cast-result c = record { fits = omega (arith, found_fits c.args.self.now.flags (drop c.args.pos c.args.self.now.text) c.args.lexeme (IsUtf8-drop c.args.self.now.text c.args.pos c.input.ensures.utf8 c.requires.start) c.requires.found, length-drop c.args.pos c.args.self.now.text, c.requires.start.0, c.input.ensures.short) }

pub returns-clause-reader : goal.returns-clause-reader
returns-clause-reader c = token_of c.args.self.now c.args.pos _ c.requires.start (token_at c.args.self.now (drop c.args.pos c.args.self.now.text) c.args.pos c.args.lexeme refl c.requires.found)

pub returns-clause-some : goal.returns-clause-some
returns-clause-some c = found_some c.args.self.now.flags (drop c.args.pos c.args.self.now.text) c.args.lexeme c.requires.found

pub returns-clause-boundary : goal.returns-clause-boundary
returns-clause-boundary c =
    part_ends c.args.self.now (drop c.args.pos c.args.self.now.text) c.args.pos c.args.lexeme c.requires.start.0 refl
    (IsUtf8-drop c.args.self.now.text c.args.pos c.input.ensures.utf8 c.requires.start) c.requires.found

pub returns-clause-short : goal.returns-clause-short
returns-clause-short c = omega (arith, found_fits c.args.self.now.flags (drop c.args.pos c.args.self.now.text) c.args.lexeme (IsUtf8-drop c.args.self.now.text c.args.pos c.input.ensures.utf8 c.requires.start) c.requires.found, length-drop c.args.pos c.args.self.now.text, c.requires.start.0, c.input.ensures.short)
