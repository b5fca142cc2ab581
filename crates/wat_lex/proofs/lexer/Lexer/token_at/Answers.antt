use Rattle.std.proofs.Common.{drop, refl, inr}
use Rattle.wat_lex.proofs.tokens.Scans.{fault_at}
use Rattle.wat_lex.proofs.lexer.Lexer.token_at.Goals as goal

pub returns-in-Fault-clause-none : goal.returns-in-Fault-clause-none
returns-in-Fault-clause-none c =
    let refused = c.in-Fault.ensures in
    inr (_, fault_at c.args.self.now (drop c.args.pos c.args.self.now.text) c.args.pos refused.0 c.requires.0 refl refused.1)
