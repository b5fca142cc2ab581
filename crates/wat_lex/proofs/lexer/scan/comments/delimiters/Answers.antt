use Rattle.std.proofs.Common.{ap, ap₂, ◌∙◌, eqb, map, List, ℕ, bit_and, bit_or, arith}
use Rattle.std.specs.Simd.Lanes.{mask_l}
use Rattle.wat_lex.specs.inside.Nesting.{opens_at, closes_at}
use Rattle.wat_lex.proofs.inside.Nesting.{either, pairs}
use Rattle.wat_lex.proofs.lexer.scan.comments.delimiters.Goals as goal

marks : ℕ → List ℕ → ℕ
marks a v = mask_l (map (λ x. eqb x a) v)

pub returns : goal.returns
unfolding marks
returns c =
    let s = c.args.text.now in
    let opens = ap₂ bit_and (c.equal_to.ensures ∙ ap (marks 40) c.block_at-here.ensures) (c.equal_to-2.ensures ∙ ap (marks 59) c.block_at-next.ensures) ∙ pairs s 40 59 c.args.i 16 (omega arith) in
    let closes = ap₂ bit_and (c.equal_to-3.ensures ∙ ap (marks 59) c.block_at-here.ensures) (c.equal_to-4.ensures ∙ ap (marks 41) c.block_at-next.ensures) ∙ pairs s 59 41 c.args.i 16 (omega arith) in
    ap₂ bit_or opens closes ∙ either (opens_at s) (closes_at s) c.args.i 16
