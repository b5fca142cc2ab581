use Rattle.std.proofs.Common.{◌≡◌, ◌+◌, ap, ap₂, ◌∙◌, eqb, not, map, List, ℕ, bit_and, bit_or, arith}
use Rattle.std.proofs.Math.Bool.{not-not}
use Rattle.std.specs.Simd.Lanes.{chunk, mask_l}
use Rattle.wat_lex.specs.inside.Blocks.{is_confusing_end}
use Rattle.wat_lex.proofs.inside.Leads.{triples}
use Rattle.wat_lex.proofs.lexer.scan.comments.confusing_leads.Goals as goal

marks : ℕ → List ℕ → ℕ
marks a v = mask_l (map (λ x. eqb x a) v)

others : List ℕ → ℕ
others v = mask_l (map (λ x. not (not (is_confusing_end x))) v)

twice : (v : List ℕ) → mask_l (map (λ x. not (not (is_confusing_end x))) v) ≡ mask_l (map is_confusing_end v)
twice v = ap (λ t. mask_l (map t v)) (λ i x. not-not (is_confusing_end x) i)

pub returns : goal.returns
unfolding marks others
returns c =
    let lead = c.equal_to-leads.ensures ∙ ap (marks 226) c.block_at.ensures in
    let first = c.equal_to.ensures ∙ ap (marks 128) c.block_at-next.ensures in
    let second = c.equal_to-2.ensures ∙ ap (marks 129) c.block_at-next.ensures in
    let last = c.confusing_ends.ensures ∙ ap others c.block_at-2.ensures ∙ twice (chunk (c.args.i + 2) 16 c.args.text.now) in
    ap₂ bit_and (ap₂ bit_or (ap₂ bit_and lead first) (ap₂ bit_and lead second)) last ∙ triples c.args.text.now c.args.i (omega arith)
