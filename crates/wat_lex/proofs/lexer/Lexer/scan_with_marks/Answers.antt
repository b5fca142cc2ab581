use Rattle.std.specs.Prelude.{Err}
use Rattle.std.proofs.Common.{refl}
use Rattle.wat_lex.specs.declared.lexer.faults.LexError.TheVariants.{DanglingBlockComment}
use Rattle.wat_lex.proofs.tokens.OneTilings.{is_at_one}
use Rattle.wat_lex.proofs.lexer.Lexer.scan_with_marks.Goals as goal

pub returns-then-is_marked-clause-one : goal.returns-then-is_marked-clause-one
returns-then-is_marked-clause-one c = λ r h. is_at_one c.args.self.now c.args.pos r (Err (record { offset = c.args.pos; error = DanglingBlockComment })) h (c.if-is_marked.ensures.unclosed refl).fault
