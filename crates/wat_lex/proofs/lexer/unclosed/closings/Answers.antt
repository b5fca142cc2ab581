use Rattle.std.proofs.Common.{drop, refl, sym, subst, arith}
use Rattle.std.proofs.lemmas.Bool.{false≢true}
use Rattle.wat_lex.specs.inside.Closings.{ClosesAtMost}
use Rattle.wat_lex.proofs.inside.Unclosed.{opening_step, closing_step, next_step}
use Rattle.wat_lex.proofs.lexer.unclosed.closings.Goals as goal

pub returns-then-opens_at-clause-most : goal.returns-then-opens_at-clause-most
returns-then-opens_at-clause-most c =
    let h = c.if-opens_at.ensures.0 refl in
    let t = c.args.text.now in
    let made = opening_step t c.args.i c.args.after h.0 h.1 (c.requires.after (λ e. omega (arith, e, h.1))) in
    subst (λ n. ClosesAtMost n (drop c.args.i t)) (sym c.saturating_sub.ensures) made

pub returns-then-closes_at-clause-most : goal.returns-then-closes_at-clause-most
returns-then-closes_at-clause-most c =
    let h = c.if-closes_at.ensures.0 refl in
    closing_step c.args.text.now c.args.i c.args.after h.0 h.1 (c.requires.after (λ e. omega (arith, e, h.1)))

pub returns-else-closes_at-clause-most : goal.returns-else-closes_at-clause-most
returns-else-closes_at-clause-most c =
    next_step c.args.text.now c.args.i c.args.next c.requires.range (λ h. false≢true (c.if-opens_at.ensures.1 h)) (λ h. false≢true (c.if-closes_at.ensures.1 h)) c.requires.next
