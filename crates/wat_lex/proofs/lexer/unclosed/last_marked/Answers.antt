use Rattle.std.proofs.Common.{◌≡◌, ◌+◌, ◌-◌, get_or, arith}
use Rattle.wat_lex.proofs.lexer.unclosed.last_marked.Goals as goal

pub returns-then-marks-known-gt0-clause-range : goal.returns-then-marks-known-gt0-clause-range
returns-then-marks-known-gt0-clause-range c =
    let mark = get_or c.args.marks.now (c.args.known - 1) 0 in
    let e : mark ≡ mark - 1 + 1 = omega (arith, c.if-marks-known-gt0.true) in
    (c.requires.marks (c.args.known - 1) (mark - 1) e).boundary.0
