-- Literals without underscores.
use Rattle.std.proofs.Common.{◌≡◌, ℕ, false, List, [], ◌∷◌, refl, ap, inl, inr, true≢false}
use Rattle.std.proofs.lemmas.Bool.{cases_Bool}
use Rattle.std.specs.Prelude.{◌==◌}
use Rattle.wat_lex.specs.grammar.Classes.{underscore}
use Rattle.wat_lex.specs.grammar.Numbers.{has_underscores}
use Rattle.wat_lex.specs.values.NumberValues.{joined}

pub joined_is : (w : List ℕ) → has_underscores w ≡ false → joined w ≡ w
joined_is [] h = refl
joined_is (c ∷ w) h =
    elim (cases_Bool (c == underscore)) [
      | inl e ↦ absurd (true≢false (rw e at h))
      | inr e ↦ rw e (ap (λ x. c ∷ x) (joined_is w (rw e at h)))
    ]
