-- Lemmas about the first characters of a source line.
use Rattle.std.proofs.Common.{◌≡◌, ◌-◌, ℕ, List, [], ◌∷◌, ◌++◌, refl, ap}
use Rattle.std.specs.Prelude.{codes, encode_utf8, if◌then◌else◌}
use Rattle.std.proofs.lemmas.Bool.{ne_eqb}
use Rattle.wat_tokens_output.specs.Places.{start_of}

pub start_none : (n : ℕ) → start_of n [] ≡ []
unfolding start_of
start_none n = refl

pub start_cut : (c : ℕ) (cs : List ℕ) → start_of 0 (c ∷ cs) ≡ codes "..."
unfolding start_of
start_cut c cs = refl

pub start_more : (n c : ℕ) (cs : List ℕ) → (n ≡ 0 → ⊥) → start_of n (c ∷ cs) ≡ encode_utf8 c ++ start_of (n - 1) cs
unfolding start_of
start_more n c cs h = ap (λ b. if b then codes "..." else encode_utf8 c ++ start_of (n - 1) cs) (ne_eqb n 0 h)
