use Rattle.std.specs.Prelude.{Some, None, Ok, Err}
use Rattle.std.proofs.Common.{length, arith, ap, length-drop}
use Rattle.wat_lex.proofs.tokens.OneTilings.{is_at_one}
use Rattle.wat_lex.proofs.lexer.Lexer.scan.Goals as goal

pub returns-in-Lexeme-clause-one : goal.returns-in-Lexeme-clause-one
returns-in-Lexeme-clause-one c = λ r h. is_at_one c.args.self.now c.args.pos r (Ok (Some c.token.result)) h c.token.ensures.token

pub returns-in-End-clause-one : goal.returns-in-End-clause-one
returns-in-End-clause-one c =
    let nothing = ap length c.in-End.ensures in
    λ r h. is_at_one c.args.self.now c.args.pos r (Ok None) h (omega (arith, nothing, length-drop c.args.pos c.args.self.now.text, c.requires.0))

pub returns-in-Fault-clause-one : goal.returns-in-Fault-clause-one
returns-in-Fault-clause-one c = λ r h. is_at_one c.args.self.now c.args.pos r (Err c.fault.result) h c.fault.ensures
