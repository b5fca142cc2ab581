-- What follows a float's first digits.
use Rattle.std.proofs.Common.{◌≡◌, ◌≢◌, ℕ, List, [], ◌∷◌, refl, arith, subst, Bool, true, false, inl, inr}
use Rattle.std.specs.Prelude.{◌==◌}
use Rattle.std.proofs.lemmas.Bool.{or_cases, eqb-true}
use Rattle.wat_lex.specs.grammar.Numbers.{Digits, is_digit, is_exponent_letter, Fraction, bare, filled, Exponent, exponent, Tail, fraction, power, both, unsigned}
use Rattle.wat_lex.specs.inside.ScannedNumbers.{Stops, LongestDigits, NoDigits}
use Rattle.wat_lex.proofs.grammar.Digits.{digits_one, stops_at}

pub stops_nil : (hex : Bool) → Stops hex []
stops_nil hex h = h

-- A letter of an exponent is not a digit.
letter_no_digit : (hex : Bool) (c : ℕ) → is_exponent_letter hex c ≡ true → is_digit hex c ≡ false
letter_no_digit true c h = elim (or_cases (112 == c) _ h) [ inl e ↦ subst (λ x. is_digit true x ≡ false) (eqb-true 112 c e) refl | inr r ↦ elim (or_cases (80 == c) _ r) [ inl e ↦ subst (λ x. is_digit true x ≡ false) (eqb-true 80 c e) refl | inr q ↦ cc ] ]
letter_no_digit false c h = elim (or_cases (101 == c) _ h) [ inl e ↦ subst (λ x. is_digit false x ≡ false) (eqb-true 101 c e) refl | inr r ↦ elim (or_cases (69 == c) _ r) [ inl e ↦ subst (λ x. is_digit false x ≡ false) (eqb-true 69 c e) refl | inr q ↦ cc ] ]

pub letter_no_underscore : (hex : Bool) (c : ℕ) → is_exponent_letter hex c ≡ true → c ≢ 95
letter_no_underscore true c h e = let k = subst (λ x. is_exponent_letter true x ≡ true) e h in cc
letter_no_underscore false c h e = let k = subst (λ x. is_exponent_letter false x ≡ true) e h in cc

pub exponent_stops : (hex : Bool) (r : List ℕ) → Exponent hex r → Stops hex r
exponent_stops hex r (exponent {c = c} {t = t} h k) = stops_at hex c t (letter_no_digit hex c h) (letter_no_underscore hex c h)

dot_stops : (hex : Bool) (r : List ℕ) → Stops hex (46 ∷ r)
dot_stops true r = stops_at true 46 r refl (omega arith)
dot_stops false r = stops_at false 46 r refl (omega arith)

fraction_stops : (hex : Bool) (s t : List ℕ) → Fraction hex s t → Stops hex s
fraction_stops hex s t bare = dot_stops hex t
fraction_stops hex s t (filled {t = u} h) = dot_stops hex u

pub tail_stops : (hex : Bool) (s : List ℕ) → Tail hex s → Stops hex s
tail_stops hex s (fraction h) = fraction_stops hex s [] h
tail_stops hex s (power h) = exponent_stops hex s h
tail_stops hex s (both {t = t} h k) = fraction_stops hex s t h

-- nothing but these digits: as the longest digits say
pub digits_end : (hex : Bool) (text rest : List ℕ) → LongestDigits hex text rest → Digits hex text [] → rest ≡ []
digits_end hex text rest h k = digits_one hex text rest [] h.digits h.stops k (stops_nil hex)

pub exponent_some : (hex : Bool) (c : ℕ) (t : List ℕ) → Exponent hex (c ∷ t) → (is_exponent_letter hex c ≡ true) × Digits false (unsigned t) []
exponent_some hex c t (exponent h k) = (h, k)

pub exponent_none : (hex : Bool) → Exponent hex [] → ⊥
exponent_none hex h = elim h [ ]

pub tail_none : (hex : Bool) → Tail hex [] → ⊥
tail_none hex (fraction h) = elim h [ ]
tail_none hex (power h) = exponent_none hex h
tail_none hex (both h k) = elim h [ ]

-- with no dot there is an exponent
pub tail_power : (hex : Bool) (c : ℕ) (t : List ℕ) → c ≢ 46 → Tail hex (c ∷ t) → Exponent hex (c ∷ t)
tail_power hex c t n (fraction h) = absurd (no_dot hex c t [] n h)
  where
    no_dot : (hex : Bool) (c : ℕ) (t r : List ℕ) → c ≢ 46 → Fraction hex (c ∷ t) r → ⊥
    no_dot hex c t r n bare = n refl
    no_dot hex c t r n (filled h) = n refl
tail_power hex c t n (power h) = h
tail_power hex c t n (both {t = r} h k) = absurd (no_dot hex c t r n h)
  where
    no_dot : (hex : Bool) (c : ℕ) (t r : List ℕ) → c ≢ 46 → Fraction hex (c ∷ t) r → ⊥
    no_dot hex c t r n bare = n refl
    no_dot hex c t r n (filled h) = n refl

-- what may follow a dot: nothing or an exponent, or digits and then one of these
pub data After : Bool → List ℕ → Type 0 where
  nothing : {hex : Bool} → After hex []
  powered : {hex : Bool} {s : List ℕ} → Exponent hex s → After hex s
  digits : {hex : Bool} {s : List ℕ} → Digits hex s [] → After hex s
  digits_powered : {hex : Bool} {s r : List ℕ} → Digits hex s r → Exponent hex r → After hex s

dot_power : (hex : Bool) (t : List ℕ) → Exponent hex (46 ∷ t) → ⊥
dot_power true t (exponent h k) = cc
dot_power false t (exponent h k) = cc

pub after : (hex : Bool) (t : List ℕ) → Tail hex (46 ∷ t) → After hex t
after hex t (fraction bare) = nothing
after hex t (fraction (filled h)) = digits h
after hex t (power h) = absurd (dot_power hex t h)
after hex t (both bare k) = powered k
after hex t (both (filled h) k) = digits_powered h k

after_dot : (hex : Bool) (t rest : List ℕ) → t ≢ [] → (Exponent hex t → ⊥) → LongestDigits hex t rest → rest ≢ [] → After hex t → Exponent hex rest
after_dot hex t rest n never l some nothing = absurd (n refl)
after_dot hex t rest n never l some (powered k) = absurd (never k)
after_dot hex t rest n never l some (digits d) = absurd (some (digits_end hex t rest l d))
after_dot hex t rest n never l some (digits_powered {r = r} d k) = subst (Exponent hex) (digits_one hex t r rest d (exponent_stops hex r k) l.digits l.stops) k

pub past_digits : (hex : Bool) (t rest : List ℕ) → t ≢ [] → (Exponent hex t → ⊥) → LongestDigits hex t rest → Tail hex (46 ∷ t) → (rest ≢ [] → Exponent hex rest)
past_digits hex t rest n never l h some = after_dot hex t rest n never l some (after hex t h)

no_after_dot : (hex : Bool) (t : List ℕ) → t ≢ [] → (Exponent hex t → ⊥) → NoDigits hex t → After hex t → ⊥
no_after_dot hex t n never l nothing = n refl
no_after_dot hex t n never l (powered k) = never k
no_after_dot hex t n never l (digits d) = l [] (record { digits = d; stops = stops_nil hex })
no_after_dot hex t n never l (digits_powered {r = r} d k) = l r (record { digits = d; stops = exponent_stops hex r k })

pub after_none : (hex : Bool) (t : List ℕ) → t ≢ [] → (Exponent hex t → ⊥) → NoDigits hex t → Tail hex (46 ∷ t) → ⊥
after_none hex t n never l h = no_after_dot hex t n never l (after hex t h)
