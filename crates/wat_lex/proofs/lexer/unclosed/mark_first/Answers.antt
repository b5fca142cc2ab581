use Rattle.std.proofs.Common.{arith}
use Rattle.wat_lex.proofs.inside.Unclosed.{inside, stays}
use Rattle.wat_lex.proofs.lexer.unclosed.mark_first.Goals as goal

pub mark_at-requires-clause-range : goal.mark_at-requires-clause-range
mark_at-requires-clause-range c =
    let s = c.args.lexer.now in
    let k = stays s c.args.pos c.input-end.ensures.utf8 c.requires.unclosed in
    (omega arith, omega (arith, inside s.text c.args.pos 39 k.first, c.input-end.ensures.short))
