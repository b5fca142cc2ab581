-- A word that does not begin like a number is not a number.
use Rattle.std.proofs.Common.{◌≡◌, ◌≢◌, ℕ, List, [], ◌∷◌, sym, ◌∙◌, subst, ap, Bool, false, cond, ◌||◌}
use Rattle.std.specs.Prelude.{◌==◌, codes}
use Rattle.std.specs.Char.{is_ascii_digit}
use Rattle.std.proofs.lemmas.Bool.{ne_eqb}
use Rattle.wat_lex.specs.grammar.Numbers.{IntegralPart, decimal, hexadecimal, Decimals, decimals, Payload, payload, unsigned, Number}
use Rattle.wat_lex.specs.declared.lexer.kinds.TokenKind.{TokenKind}
use Rattle.wat_lex.proofs.grammar.Digits.{digits_first}
use Rattle.wat_lex.proofs.grammar.NumberKinds.{NoNumber, no_number}

-- neither a digit, nor a sign, nor the first letter of `inf` or `nan`
pub record BeginsNone (c : ℕ) : Type 0 where
  pub digit : is_ascii_digit c ≡ false
  pub plus : c ≢ 43
  pub minus : c ≢ 45
  pub inf : c ≢ 105
  pub nan : c ≢ 110

no_integral : (c : ℕ) (t r : List ℕ) → is_ascii_digit c ≡ false → (hex : Bool) → IntegralPart hex (c ∷ t) r → ⊥
no_integral c t r n hex (decimal h) = let e = sym n ∙ digits_first false c t r h in cc
no_integral c t r n hex (hexadecimal h) = cc

none : (c : ℕ) (t : List ℕ) → BeginsNone c → NoNumber (c ∷ t)
none c t n = record {
  inf = λ e. n.inf (head e);
  nan = λ e. n.nan (head e);
  payload = by;
  integer = λ hex h. no_integral c t [] n.digit hex h;
  float = tail;
}
  where
    head : {x : ℕ} {s u : List ℕ} → (c ∷ s) ≡ (x ∷ u) → c ≡ x
    head e = cc

    by : Payload (c ∷ t) → ⊥
    by (payload {t = s} e h) = n.nan (head e)

    tail : (hex : Bool) → Decimals hex (c ∷ t) → ⊥
    tail hex (decimals {t = s} h k) = no_integral c t s n.digit hex h

-- A word whose first character is not a sign is its own unsigned part.
own : (c : ℕ) (t : List ℕ) → c ≢ 43 → c ≢ 45 → unsigned (c ∷ t) ≡ c ∷ t
own c t p m = ap (λ b. cond (b || c == 45) t (c ∷ t)) (ne_eqb c 43 p) ∙ ap (λ b. cond b t (c ∷ t)) (ne_eqb c 45 m)

pub begins_none : (c : ℕ) (t : List ℕ) → BeginsNone c → (kind : TokenKind) → Number (c ∷ t) kind → ⊥
begins_none c t n = no_number (c ∷ t) (subst NoNumber (sym (own c t n.plus n.minus)) (none c t n))

-- A word whose first character is neither a digit nor a sign is not a number if it is neither `inf` nor `nan`, and has no
-- payload.
other_none : (c : ℕ) (t : List ℕ) → is_ascii_digit c ≡ false → c ≢ 43 → c ≢ 45 → (c ∷ t) ≢ codes "inf" → (c ∷ t) ≢ codes "nan" → (Payload (c ∷ t) → ⊥) → (kind : TokenKind) → Number (c ∷ t) kind → ⊥
other_none c t n p m i a by = no_number (c ∷ t) (subst NoNumber (sym (own c t p m)) (record {
  inf = i;
  nan = a;
  payload = by;
  integer = λ hex h. no_integral c t [] n hex h;
  float = tail;
}))
  where
    tail : (hex : Bool) → Decimals hex (c ∷ t) → ⊥
    tail hex (decimals {t = s} h k) = no_integral c t s n hex h

-- The third characters of `inf` and of `nan` are `f` and `n`.
pub third_none : (c d x : ℕ) (t : List ℕ) → is_ascii_digit c ≡ false → c ≢ 43 → c ≢ 45 → x ≢ 102 → x ≢ 110 → (kind : TokenKind) → Number (c ∷ d ∷ x ∷ t) kind → ⊥
third_none c d x t n p m i a = other_none c (d ∷ x ∷ t) n p m (λ e. i (third e)) (λ e. a (third e)) by
  where
    third : {v w y : ℕ} {s u : List ℕ} → (c ∷ d ∷ x ∷ s) ≡ (v ∷ w ∷ y ∷ u) → x ≡ y
    third e = cc

    by : Payload (c ∷ d ∷ x ∷ t) → ⊥
    by (payload {t = s} e h) = a (third e)

-- A word of one or two characters is not a number if the first is neither a digit nor a sign.
pub one_none : (c : ℕ) → is_ascii_digit c ≡ false → c ≢ 43 → c ≢ 45 → (kind : TokenKind) → Number (c ∷ []) kind → ⊥
one_none c n p m = other_none c [] n p m (λ e. cc) (λ e. cc) by
  where
    by : Payload (c ∷ []) → ⊥
    by (payload {t = s} e h) = cc

pub two_none : (c d : ℕ) → is_ascii_digit c ≡ false → c ≢ 43 → c ≢ 45 → (kind : TokenKind) → Number (c ∷ d ∷ []) kind → ⊥
two_none c d n p m = other_none c (d ∷ []) n p m (λ e. cc) (λ e. cc) by
  where
    by : Payload (c ∷ d ∷ []) → ⊥
    by (payload {t = s} e h) = cc
