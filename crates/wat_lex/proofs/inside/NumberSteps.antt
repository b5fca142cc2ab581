-- Steps of the readers of numbers.
use Rattle.std.proofs.Common.{◌≡◌, ◌≢◌, ◌⊎◌, ◌<◌, ℕ, List, [], ◌∷◌, ◌++◌, length, drop, get_or, refl, arith, ap, sym, ◌∙◌, subst, Bool, true, false, inl, inr}
use Rattle.std.specs.Prelude.{◌==◌, ◌↔◌, IsTrue}
use Rattle.std.proofs.lemmas.Bool.{both_ways, ne_eqb}
use Rattle.wat_lex.specs.grammar.Numbers.{Digits, is_exponent_letter, Exponent, exponent, Tail, fraction, power, both, bare, filled, unsigned}
use Rattle.wat_lex.specs.inside.ScannedNumbers.{LongestDigits, NoDigits}
use Rattle.wat_lex.proofs.grammar.Tails.{digits_end, exponent_some, tail_power, past_digits, after_none}

pub empty_or : (xs : List ℕ) (b : Bool) → b ≡ (length xs == 0) → ((b ≡ true) × (xs ≡ [])) ⊎ ((b ≡ false) × (xs ≢ []))
empty_or [] b e = inl (e, refl)
empty_or (x ∷ xs) b e = inr (e ∙ ne_eqb (length (x ∷ xs)) 0 (omega arith), λ k. cc)

pub not_empty : (xs : List ℕ) (b : Bool) → b ≡ (length xs == 0) → b ≡ false → xs ≢ []
not_empty xs b e f = elim (empty_or xs b e) [ inl k ↦ absurd (both_ways b f k.0) | inr k ↦ k.1 ]

pub is_nil : (xs : List ℕ) (b : Bool) → b ≡ (length xs == 0) → b ≡ true → xs ≡ []
is_nil xs b e f = elim (empty_or xs b e) [ inl k ↦ k.1 | inr k ↦ absurd (both_ways b k.0 f) ]

pub digits_whole : (hex : Bool) (text rest : List ℕ) (b : Bool) → b ≡ (length rest == 0) → LongestDigits hex text rest → (IsTrue b ↔ Digits hex text [])
digits_whole hex text rest b e l =
    elim (empty_or rest b e) [
      | inl k ↦ (λ h. subst (Digits hex text) k.1 l.digits, λ h. k.0)
      | inr k ↦ (λ h. absurd (both_ways b k.0 h), λ h. absurd (k.1 (digits_end hex text rest l h)))
    ]

pub exponent_is : (hex : Bool) (text body : List ℕ) (b : Bool) → text ≢ [] → is_exponent_letter hex (get_or text 0 0) ≡ true → body ≡ unsigned (drop 1 text) → (IsTrue b ↔ Digits false body []) → (IsTrue b ↔ Exponent hex text)
exponent_is hex [] body b n l e d = absurd (n refl)
exponent_is hex (c ∷ t) body b n l e d = (λ h. exponent l (subst (λ x. Digits false x []) e (d.0 h)), λ h. d.1 (subst (λ x. Digits false x []) (sym e) (exponent_some hex c t h).1))

no_tail : (hex : Bool) → Tail hex [] → ⊥
no_tail hex (fraction h) = elim h [ ]
no_tail hex (power h) = elim h [ ]
no_tail hex (both h k) = elim h [ ]

pub tail_no_dot : (hex : Bool) (text : List ℕ) (b : Bool) → (length text < 1) ⊎ (get_or text 0 0 ≢ 46) → (IsTrue b ↔ Exponent hex text) → (IsTrue b ↔ Tail hex text)
tail_no_dot hex [] b d e = (λ h. power (e.0 h), λ h. absurd (no_tail hex h))
tail_no_dot hex (c ∷ t) b (inl l) e = absurd (omega arith)
tail_no_dot hex (c ∷ t) b (inr d) e = (λ h. power (e.0 h), λ h. e.1 (tail_power hex c t d h))

-- after a dot
module _ (hex : Bool) (text after : List ℕ) (n : text ≢ []) (d : get_or text 0 0 ≡ 46) (at : after ≡ drop 1 text) where
  dotted : text ≡ 46 ∷ after
  dotted = by text n d at
    where
      by : (text : List ℕ) → text ≢ [] → get_or text 0 0 ≡ 46 → after ≡ drop 1 text → text ≡ 46 ∷ after
      by [] n d at = absurd (n refl)
      by (c ∷ t) n d at = cc

  pub tail_bare : after ≡ [] → Tail hex text
  tail_bare e = subst (Tail hex) (sym (dotted ∙ ap (λ x. 46 ∷ x) e)) (fraction bare)

  pub tail_bare_power : Exponent hex after → Tail hex text
  tail_bare_power h = subst (Tail hex) (sym dotted) (both bare h)

  pub tail_digits : (rest : List ℕ) (b : Bool) → b ≡ true → rest ≡ [] → LongestDigits hex after rest → (IsTrue b ↔ Tail hex text)
  tail_digits rest b e z l = (λ h. subst (Tail hex) (sym dotted) (fraction (filled (subst (Digits hex after) z l.digits))), λ h. e)

  pub tail_digits_power : (rest : List ℕ) (b : Bool) → after ≢ [] → (Exponent hex after → ⊥) → rest ≢ [] → (IsTrue b ↔ Exponent hex rest) → LongestDigits hex after rest → (IsTrue b ↔ Tail hex text)
  tail_digits_power rest b m x z e l =
      (λ h. subst (Tail hex) (sym dotted) (both (filled l.digits) (e.0 h)), λ h. e.1 (past_digits hex after rest m x l (subst (Tail hex) dotted h) z))

  pub tail_no_digits : after ≢ [] → (Exponent hex after → ⊥) → NoDigits hex after → (Tail hex text → ⊥)
  tail_no_digits m x l h = after_none hex after m x l (subst (Tail hex) dotted h)

-- no prefix
pub not_prefix : (s t word given : List ℕ) → t ≡ s → given ≡ word → ((rest : List ℕ) → t ≢ given ++ rest) → (rest : List ℕ) → s ≢ word ++ rest
not_prefix s t word given q g n rest e = n rest (q ∙ e ∙ ap (λ x. x ++ rest) (sym g))
