use Rattle.std.proofs.Common.{◌-◌, arith}
use Rattle.wat_lex.proofs.inside.Unclosed.{marks_set}
use Rattle.wat_lex.proofs.lexer.unclosed.remove_passed.Goals as goal

pub loop-left-preserved : goal.loop-left-preserved
loop-left-preserved c =
    let i = c.loop-left.invariant in
    (omega (arith, i.0), marks_set c.args.lexer.now c.loop-left.marks (c.loop-left.left - 1) 0 (omega (arith, i.0, c.requires.known, c.loop-left.auto.marks, c.loop-left-test.true)) i.1 (λ p e. absurd (omega (arith, e))))
