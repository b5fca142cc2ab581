use Rattle.std.proofs.Common.{◌≡◌, ◌<◌, ◌+◌, ◌-◌, length, ap, subst, arith}
use Rattle.wat_lex.specs.tokens.Unclosed.{UnclosedAt}
use Rattle.wat_lex.proofs.inside.Unclosed.{marks_set}
use Rattle.wat_lex.proofs.lexer.unclosed.mark_at.Goals as goal
use Rattle.wat_lex.proofs.lexer.unclosed.mark_at.Goals.{then-at-half, else-at-half}

pub returns-then-used-gt0-clause-marks : goal.returns-then-used-gt0-clause-marks
returns-then-used-gt0-clause-marks c =
    let i = c.if-at-half.used.0 - 1 in
    let l : i < length c.args.marks.now = elim c.if-at-half.branch [
      | then-at-half w ↦ omega (arith, ap (λ x. x.0) w.used-is, w.min.ensures, c.if-used-gt0.true)
      | else-at-half w ↦ omega (arith, ap (λ x. x.0) w.used-is, c.requires.used, c.if-used-gt0.true)
    ] in
    marks_set c.args.lexer.now c.args.marks.now i (c.args.at + 1) l c.requires.marks
    (λ p e. let same : c.args.at ≡ p = omega (arith, e) in subst (UnclosedAt c.args.lexer.now) same c.requires.unclosed)
