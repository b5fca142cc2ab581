-- Whether a word is a number, and which.
use Rattle.std.proofs.Common.{◌≡◌, ◌≢◌, ◌⊎◌, ℕ, List, [], ◌∷◌, ◌++◌, refl, sym, subst, Bool, true, false, inl, inr}
use Rattle.std.specs.Prelude.{IsTrue, codes}
use Rattle.std.proofs.lemmas.Bool.{both_ways, cases_eq, cases_Bool}
use Rattle.wat_lex.specs.grammar.Numbers.{Digits, last, next, parted, is_digit, is_exponent_letter, bare, filled, Exponent, exponent, Tail, fraction, power, both, decimals, payload, unsigned, sign_of, is_negative, has_underscores, Number}
use Rattle.wat_lex.specs.inside.ScannedNumbers.{LongestDigits, NoDigits, OnlyIntegralPart, NoIntegralPart}
use Rattle.wat_lex.specs.declared.lexer.kinds.FloatKind.TheVariants.{Inf, Nan, NanVal, Normal}
use Rattle.wat_lex.specs.declared.lexer.kinds.TokenKind.{TokenKind}
use Rattle.wat_lex.specs.declared.lexer.kinds.TokenKind.TheVariants.{Integer, Float}
use Rattle.wat_lex.proofs.grammar.Digits.{digits_first, digits_none, digits_next, digits_parted, stops_at}
use Rattle.wat_lex.proofs.grammar.Tails.{stops_nil, digits_end, exponent_some, exponent_none, tail_power, past_digits, after_none}
use Rattle.wat_lex.proofs.grammar.NumberKinds.{no_number, none_payload, no_payload, none_integral, none_tail, integral_hex, integral_no_hex, integral_decimal, integral_no_decimal}

-- decided
Either : Type 0 → Type 0
Either A = A ⊎ (A → ⊥)

data SomeDigits (hex : Bool) (text : List ℕ) : Type 0 where
  digits : {rest : List ℕ} → LongestDigits hex text rest → SomeDigits hex text
  none : NoDigits hex text → SomeDigits hex text

digits_on : (hex : Bool) (d e : ℕ) (u : List ℕ) → IsTrue (is_digit hex d) → IsTrue (is_digit hex e) → SomeDigits hex (e ∷ u) → SomeDigits hex (d ∷ e ∷ u)
digits_on hex d e u h k (digits l) = digits (record { digits = next h l.digits; stops = l.stops })
digits_on hex d e u h k (none n) = none (λ rest l. n rest (record { digits = digits_next hex d e u rest k l.digits l.stops; stops = l.stops }))

digits_past : (hex : Bool) (d : ℕ) (u : List ℕ) → IsTrue (is_digit hex d) → SomeDigits hex u → SomeDigits hex (d ∷ 95 ∷ u)
digits_past hex d u h (digits l) = digits (record { digits = parted h l.digits; stops = l.stops })
digits_past hex d u h (none n) = none (λ rest l. n rest (record { digits = digits_parted hex d u rest l.digits l.stops; stops = l.stops }))

no_first : (hex : Bool) (d : ℕ) (t : List ℕ) → is_digit hex d ≡ false → SomeDigits hex (d ∷ t)
no_first hex d t h = none (λ rest l. both_ways (is_digit hex d) h (digits_first hex d t rest l.digits))

some_digits : (hex : Bool) (text : List ℕ) → SomeDigits hex text
some_digits hex [] = none (λ rest l. digits_none hex rest l.digits)
some_digits hex (d ∷ []) = elim (cases_Bool (is_digit hex d)) [ inl h ↦ digits (record { digits = last h; stops = stops_nil hex }) | inr h ↦ no_first hex d [] h ]
some_digits hex (d ∷ e ∷ u) =
    elim (cases_Bool (is_digit hex d)) [
      | inl h ↦ elim (cases_Bool (is_digit hex e)) [
        | inl k ↦ digits_on hex d e u h k (some_digits hex (e ∷ u))
        | inr k ↦ elim (cases_eq e 95) [
          | inl b ↦ subst (λ x. SomeDigits hex (d ∷ x ∷ u)) (sym b) (digits_past hex d u h (some_digits hex u))
          | inr b ↦ digits (record { digits = last h; stops = stops_at hex e u k b })
        ]
      ]
      | inr h ↦ no_first hex d (e ∷ u) h
    ]

all_digits : (hex : Bool) (t : List ℕ) → Either (Digits hex t [])
unfolding Either
all_digits hex t = by (some_digits hex t)
  where
    by : SomeDigits hex t → Digits hex t [] ⊎ (Digits hex t [] → ⊥)
    by (digits {rest = []} l) = inl l.digits
    by (digits {rest = c ∷ r} l) = inr (λ k. let e = digits_end hex t (c ∷ r) l k in cc)
    by (none n) = inr (λ k. n [] (record { digits = k; stops = stops_nil hex }))

some_exponent : (hex : Bool) (s : List ℕ) → Either (Exponent hex s)
unfolding Either
some_exponent hex [] = inr (exponent_none hex)
some_exponent hex (c ∷ t) =
    elim (cases_Bool (is_exponent_letter hex c)) [
      | inl h ↦ elim (all_digits false (unsigned t)) [ inl k ↦ inl (exponent h k) | inr n ↦ inr (λ e. n (exponent_some hex c t e).1) ]
      | inr h ↦ inr (λ e. both_ways (is_exponent_letter hex c) h (exponent_some hex c t e).0)
    ]

-- after a dot
past_dot : (hex : Bool) (c : ℕ) (t : List ℕ) → Either (Tail hex (46 ∷ c ∷ t))
unfolding Either
past_dot hex c t =
    elim (some_exponent hex (c ∷ t)) [
      | inl e ↦ inl (both bare e)
      | inr n ↦ by n (some_digits hex (c ∷ t))
    ]
  where
    some : c ∷ t ≢ []
    some e = cc

    by : (Exponent hex (c ∷ t) → ⊥) → SomeDigits hex (c ∷ t) → Tail hex (46 ∷ c ∷ t) ⊎ (Tail hex (46 ∷ c ∷ t) → ⊥)
    by n (digits {rest = []} l) = inl (fraction (filled l.digits))
    by n (digits {rest = x ∷ r} l) = elim (some_exponent hex (x ∷ r)) [ inl e ↦ inl (both (filled l.digits) e) | inr m ↦ inr (λ k. m (past_digits hex (c ∷ t) (x ∷ r) some n l k (λ e. cc))) ]
    by n (none l) = inr (λ k. after_none hex (c ∷ t) some n l k)

some_tail : (hex : Bool) (s : List ℕ) → s ≢ [] → Either (Tail hex s)
unfolding Either
some_tail hex [] n = absurd (n refl)
some_tail hex (c ∷ []) n =
    elim (cases_eq c 46) [
      | inl e ↦ inl (subst (λ x. Tail hex (x ∷ [])) (sym e) (fraction bare))
      | inr e ↦ elim (some_exponent hex (c ∷ [])) [ inl k ↦ inl (power k) | inr k ↦ inr (λ t. k (tail_power hex c [] e t)) ]
    ]
some_tail hex (c ∷ d ∷ t) n =
    elim (cases_eq c 46) [
      | inl e ↦ elim (past_dot hex d t) [ inl k ↦ inl (subst (λ x. Tail hex (x ∷ d ∷ t)) (sym e) k) | inr k ↦ inr (λ h. k (subst (λ x. Tail hex (x ∷ d ∷ t)) e h)) ]
      | inr e ↦ elim (some_exponent hex (c ∷ d ∷ t)) [ inl k ↦ inl (power k) | inr k ↦ inr (λ h. k (tail_power hex c (d ∷ t) e h)) ]
    ]

data SomeIntegralPart (s : List ℕ) : Type 0 where
  integral : {hex : Bool} {rest : List ℕ} → OnlyIntegralPart hex s rest → SomeIntegralPart s
  none : NoIntegralPart s → SomeIntegralPart s

-- the text begins with this word
data Begun (word s : List ℕ) : Type 0 where
  begun : (t : List ℕ) → s ≡ word ++ t → Begun word s
  other : ((t : List ℕ) → s ≢ word ++ t) → Begun word s

begun_by : (word s : List ℕ) → Begun word s
begun_by [] s = begun s refl
begun_by (c ∷ word) [] = other (λ t e. cc)
begun_by (c ∷ word) (d ∷ s) =
    elim (cases_eq d c) [
      | inl e ↦ more (begun_by word s) e
      | inr n ↦ other (λ t e. n (let k : d ≡ c = cc in k))
    ]
  where
    more : Begun word s → d ≡ c → Begun (c ∷ word) (d ∷ s)
    more (begun t k) e = let q : d ∷ s ≡ c ∷ word ++ t = cc in begun t q
    more (other n) e = other (λ t k. n t (let q : s ≡ word ++ t = cc in q))

same_list : (s word : List ℕ) → Either (s ≡ word)
unfolding Either
same_list [] [] = inl refl
same_list [] (d ∷ word) = inr (λ e. cc)
same_list (c ∷ s) [] = inr (λ e. cc)
same_list (c ∷ s) (d ∷ word) =
    elim (cases_eq c d) [
      | inl e ↦ elim (same_list s word) [ inl k ↦ inl (let q : c ∷ s ≡ d ∷ word = cc in q) | inr n ↦ inr (λ k. n (let q : s ≡ word = cc in q)) ]
      | inr n ↦ inr (λ k. n (let q : c ≡ d = cc in q))
    ]

hex_integral : (t : List ℕ) → SomeDigits true t → SomeIntegralPart (48 ∷ 120 ∷ t)
hex_integral t (digits {rest = r} l) = integral (integral_hex t r l)
hex_integral t (none n) = none (integral_no_hex t n)

decimal_integral : (s : List ℕ) → ((t : List ℕ) → s ≢ 48 ∷ 120 ∷ t) → SomeDigits false s → SomeIntegralPart s
decimal_integral s o (digits {rest = r} l) = integral (integral_decimal s r o l)
decimal_integral s o (none n) = none (integral_no_decimal s o n)

some_integral : (s : List ℕ) → SomeIntegralPart s
some_integral s = by (begun_by (48 ∷ 120 ∷ []) s)
  where
    by : Begun (48 ∷ 120 ∷ []) s → SomeIntegralPart s
    by (begun t e) = subst SomeIntegralPart (sym e) (hex_integral t (some_digits true t))
    by (other n) = decimal_integral s n (some_digits false s)

-- a word is a number of a kind, or of none
pub data SomeNumber (w : List ℕ) : Type 0 where
  is : (kind : TokenKind) → Number w kind → SomeNumber w
  none : ((kind : TokenKind) → Number w kind → ⊥) → SomeNumber w

with_tail : (w rest : List ℕ) (hex : Bool) → unsigned w ≢ codes "inf" → unsigned w ≢ codes "nan" → ((t : List ℕ) → unsigned w ≢ codes "nan:0x" ++ t) → OnlyIntegralPart hex (unsigned w) rest → rest ≢ [] → SomeNumber w
unfolding Either
with_tail w rest hex i a p o n =
    elim (some_tail hex rest n) [
      | inl t ↦ is (Float (Normal (has_underscores w) hex)) (decimals o.integral t, refl)
      | inr t ↦ none (no_number w (none_tail (unsigned w) rest hex i a (no_payload (unsigned w) p) o n t))
    ]

with_integral : (w : List ℕ) → unsigned w ≢ codes "inf" → unsigned w ≢ codes "nan" → ((t : List ℕ) → unsigned w ≢ codes "nan:0x" ++ t) → SomeIntegralPart (unsigned w) → SomeNumber w
with_integral w i a p (none n) = none (no_number w (none_integral (unsigned w) i a (no_payload (unsigned w) p) n))
with_integral w i a p (integral {hex = hex} {rest = []} o) = is (Integer (record { sign = sign_of w; has_underscores = has_underscores w; hex = hex })) (o.integral, refl, refl)
with_integral w i a p (integral {hex = hex} {rest = c ∷ r} o) = with_tail w (c ∷ r) hex i a p o (λ e. cc)

with_payload : (w : List ℕ) → unsigned w ≢ codes "inf" → unsigned w ≢ codes "nan" → Begun (codes "nan:0x") (unsigned w) → SomeNumber w
unfolding Either
with_payload w i a (begun t e) =
    elim (all_digits true t) [
      | inl h ↦ is (Float (NanVal (is_negative w) (has_underscores w))) (payload e h, refl, refl)
      | inr n ↦ none (no_number w (none_payload (unsigned w) t e n))
    ]
with_payload w i a (other p) = with_integral w i a p (some_integral (unsigned w))

pub some_number : (w : List ℕ) → SomeNumber w
unfolding Either
some_number w =
    elim (same_list (unsigned w) (codes "inf")) [
      | inl e ↦ is (Float (Inf (is_negative w))) (e, refl)
      | inr i ↦ elim (same_list (unsigned w) (codes "nan")) [
        | inl e ↦ is (Float (Nan (is_negative w))) (e, refl)
        | inr a ↦ with_payload w i a (begun_by (codes "nan:0x") (unsigned w))
      ]
    ]
