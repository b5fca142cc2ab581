use Rattle.std.proofs.Common.{◌≡◌, ◌≤◌, ◌-◌, take, List, ℕ, replicate, refl, subst, sym, arith, ◌∙◌, ap}
use Rattle.std.proofs.lemmas.List.{take-replicate, get_or-replicate}
use Rattle.std.specs.Str.{IsCharBoundary}
use Rattle.wat_format.proofs.blanks.blanks.Goals as goal

cut : (bs : List ℕ) (k : ℕ) → bs ≡ replicate 80 32 → k ≤ 80 → take (k - 0) bs ≡ replicate k 32
cut bs k e h =
    let n : k - 0 ≡ k = omega arith in
    ap (λ x. take x bs) n ∙ ap (λ xs. take k xs) e ∙ take-replicate k 80 32 h

boundary : (bs : List ℕ) (k : ℕ) → bs ≡ replicate 80 32 → k ≤ 80 → IsCharBoundary bs k
boundary bs k e h = subst (λ xs. IsCharBoundary xs k) (sym e) (h, λ lt. λ big. absurd (omega (arith, get_or-replicate {A = ℕ} 80 k 32 0 lt)))

pub range-requires-clause-end_boundary : goal.range-requires-clause-end_boundary
range-requires-clause-end_boundary c = boundary _ c.args.count refl c.requires

pub returns : goal.returns
returns c = c.range.ensures.value ∙ cut _ c.args.count refl c.requires
