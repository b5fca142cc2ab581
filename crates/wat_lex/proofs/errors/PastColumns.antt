-- What remains of a line after its first columns.
use Rattle.std.proofs.Common.{◌≡◌, ◌<◌, ◌≤◌, ◌-◌, ℕ, List, [], ◌∷◌, refl, arith, ap, sym, ◌∙◌}
use Rattle.std.specs.Prelude.{if◌then◌else◌}
use Rattle.std.proofs.lemmas.Bool.{ne_eqb}
use Rattle.wat_lex.specs.errors.Rendering.{past_columns, width_alone}

past_nil : (n column : ℕ) → past_columns n column [] ≡ ([], column)
unfolding past_columns
past_nil n column = refl

past_zero : (column : ℕ) (cs : List ℕ) → past_columns 0 column cs ≡ (cs, column)
unfolding past_columns
past_zero column [] = refl
past_zero column (c ∷ cs) = refl

past_cons : (n column c : ℕ) (cs : List ℕ) → 0 < n → past_columns n column (c ∷ cs) ≡ past_columns (n - width_alone c) (column - width_alone c) cs
unfolding past_columns
past_cons n column c cs l = ap (λ b. if b then (c ∷ cs, column) else past_columns (n - width_alone c) (column - width_alone c) cs) (ne_eqb n 0 (λ e. omega (arith, l, e)))

-- No characters remain.
pub past_none : (n column : ℕ) (cs rest : List ℕ) (r : List ℕ × ℕ) → past_columns n column cs ≡ r → cs ≡ [] → rest ≡ [] → (rest ≡ r.0) × (column ≡ r.1)
past_none n column cs rest r h e f =
    let all : ([], column) ≡ r = sym (past_nil n column) ∙ ap (past_columns n column) (sym e) ∙ h in
    (f ∙ ap (λ x. x.0) all, ap (λ x. x.1) all)

-- Enough columns are skipped.
pub past_enough : (n column : ℕ) (cs : List ℕ) (r : List ℕ × ℕ) → past_columns n column cs ≡ r → n ≤ 0 → (cs ≡ r.0) × (column ≡ r.1)
past_enough n column cs r h l =
    let none : n ≡ 0 = omega (arith, l) in
    let all : (cs, column) ≡ r = sym (past_zero column cs) ∙ ap (λ k. past_columns k column cs) (sym none) ∙ h in
    (ap (λ x. x.0) all, ap (λ x. x.1) all)

-- One character is skipped.
pub past_one : (n column c : ℕ) (cs all : List ℕ) (r : List ℕ × ℕ) → past_columns n column all ≡ r → all ≡ c ∷ cs → 0 < n → past_columns (n - width_alone c) (column - width_alone c) cs ≡ r
past_one n column c cs all r h e l = sym (past_cons n column c cs l) ∙ ap (past_columns n column) (sym e) ∙ h
