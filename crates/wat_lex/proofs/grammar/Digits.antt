-- Rows of digits.
use Rattle.std.proofs.Common.{◌≡◌, ◌≢◌, ◌<◌, ◌≤◌, ◌+◌, ℕ, List, [], ◌∷◌, length, drop, get_or, refl, arith, ap, sym, ◌∙◌, subst, Bool, true, false, ◌||◌}
use Rattle.std.specs.Prelude.{◌==◌}
use Rattle.std.proofs.lemmas.Bool.{both_ways, or_from, ne_eqb}
use Rattle.std.proofs.lemmas.List.{drop_more, drop_all}
use Rattle.wat_lex.specs.grammar.Classes.{Begins}
use Rattle.wat_lex.specs.grammar.Numbers.{Digits, last, next, parted, is_digit}
use Rattle.wat_lex.specs.inside.ScannedNumbers.{Stops, LongestDigits, NoDigits}

-- a digit or an underscore
abbrev in_row : Bool → ℕ → Bool
in_row hex c = is_digit hex c || c == 95

pub underscore_no_digit : (hex : Bool) → is_digit hex 95 ≡ true → ⊥
underscore_no_digit true h = cc
underscore_no_digit false h = cc

stops_digit : (hex : Bool) (d : ℕ) (r : List ℕ) → Stops hex (d ∷ r) → is_digit hex d ≡ true → ⊥
stops_digit hex d r s h = s (ap (λ b. b || d == 95) h)

stops_underscore : (hex : Bool) (r : List ℕ) → Stops hex (95 ∷ r) → ⊥
stops_underscore true r s = s refl
stops_underscore false r s = s refl

pub stops_at : (hex : Bool) (d : ℕ) (r : List ℕ) → is_digit hex d ≡ false → d ≢ 95 → Stops hex (d ∷ r)
stops_at hex d r a b h = both_ways (in_row hex d) (or_from (is_digit hex d) (d == 95) a (ne_eqb d 95 b)) h

-- no reading goes on after a stop
pub digits_first : (hex : Bool) (d : ℕ) (t r : List ℕ) → Digits hex (d ∷ t) r → is_digit hex d ≡ true
digits_first hex d t r (last h) = h
digits_first hex d t r (next h k) = h
digits_first hex d t r (parted h k) = h

pub digits_none : (hex : Bool) (r : List ℕ) → Digits hex [] r → ⊥
digits_none hex r h = elim h [ ]

-- after a digit comes an underscore
pub digits_parted : (hex : Bool) (d : ℕ) (t r : List ℕ) → Digits hex (d ∷ 95 ∷ t) r → Stops hex r → Digits hex t r
digits_parted hex d t r (last h) s = absurd (stops_underscore hex t s)
digits_parted hex d t r (next h k) s = absurd (underscore_no_digit hex (digits_first hex 95 t r k))
digits_parted hex d t r (parted h k) s = k

-- after a digit comes a digit
pub digits_next : (hex : Bool) (d e : ℕ) (t r : List ℕ) → is_digit hex e ≡ true → Digits hex (d ∷ e ∷ t) r → Stops hex r → Digits hex (e ∷ t) r
digits_next hex d e t r a (last h) s = absurd (stops_digit hex e t s a)
digits_next hex d e t r a (next h k) s = k
digits_next hex d e t r a (parted h k) s = absurd (underscore_no_digit hex a)

-- after a digit comes something else
pub digits_last : (hex : Bool) (d : ℕ) (t r : List ℕ) → Stops hex t → Digits hex (d ∷ t) r → r ≡ t
digits_last hex d t r s (last h) = refl
digits_last hex d [] r s (next h k) = absurd (digits_none hex r k)
digits_last hex d (e ∷ t) r s (next h k) = absurd (stops_digit hex e t s (digits_first hex e t r k))
digits_last hex d (e ∷ t) r s (parted h k) = absurd (stops_underscore hex t s)

-- there is one reading up to a stop
pub digits_one : (hex : Bool) (t r q : List ℕ) → Digits hex t r → Stops hex r → Digits hex t q → Stops hex q → r ≡ q
digits_one hex t r q (last {d = d} h) s k u = sym (digits_last hex d r q s k)
digits_one hex t r q (next {d = d} {t = []} h g) s k u = absurd (digits_none hex r g)
digits_one hex t r q (next {d = d} {t = e ∷ t2} h g) s k u = digits_one hex (e ∷ t2) r q g s (digits_next hex d e t2 q (digits_first hex e t2 r g) k u) u
digits_one hex t r q (parted {d = d} {t = t2} h g) s k u = digits_one hex t2 r q g s (digits_parted hex d t2 q k u) u

-- up to a stop, the text and its rest are read alike
pub record Row (hex : Bool) (text rest : List ℕ) : Type 0 where
  pub on : (r : List ℕ) → Digits hex rest r → Digits hex text r
  pub back : (r : List ℕ) → Stops hex r → Digits hex text r → Digits hex rest r

row_parted : (hex : Bool) (text t : List ℕ) (d : ℕ) → is_digit hex d ≡ true → Row hex text (d ∷ 95 ∷ t) → Row hex text t
row_parted hex text t d a h = record { on = λ r k. h.on r (parted a k); back = λ r s k. digits_parted hex d t r (h.back r s k) s }

row_next : (hex : Bool) (text t : List ℕ) (d e : ℕ) → is_digit hex d ≡ true → is_digit hex e ≡ true → Row hex text (d ∷ e ∷ t) → Row hex text (e ∷ t)
row_next hex text t d e a b h = record { on = λ r k. h.on r (next a k); back = λ r s k. digits_next hex d e t r b (h.back r s k) s }

-- A text from an index on is the byte there, and then the text after it.
at : (text : List ℕ) (i : ℕ) → i < length text → drop i text ≡ get_or text i 0 ∷ drop (i + 1) text
at text i l = drop_more text i 0 l

two : (text : List ℕ) (i e : ℕ) → i + 1 < length text → get_or text (i + 1) 0 ≡ e → drop i text ≡ get_or text i 0 ∷ e ∷ drop (i + 1 + 1) text
two text i e l k = at text i (omega arith) ∙ ap (λ x. get_or text i 0 ∷ x) (at text (i + 1) l ∙ ap (λ x. x ∷ drop (i + 1 + 1) text) k)

pub past_underscore : (hex : Bool) (text : List ℕ) (i : ℕ) → i + 1 < length text → is_digit hex (get_or text i 0) ≡ true → get_or text (i + 1) 0 ≡ 95 → Row hex text (drop i text) → Row hex text (drop (i + 1 + 1) text)
past_underscore hex text i l a e h = row_parted hex text (drop (i + 1 + 1) text) (get_or text i 0) a (subst (Row hex text) (two text i 95 l e) h)

pub past_digit : (hex : Bool) (text : List ℕ) (i : ℕ) → i + 1 < length text → is_digit hex (get_or text i 0) ≡ true → is_digit hex (get_or text (i + 1) 0) ≡ true → Row hex text (drop i text) → Row hex text (drop (i + 1) text)
past_digit hex text i l a b h =
    subst (Row hex text) (sym (at text (i + 1) l))
    (row_next hex text (drop (i + 1 + 1) text) (get_or text i 0) (get_or text (i + 1) 0) a b (subst (Row hex text) (two text i (get_or text (i + 1) 0) l refl) h))

pub row_ends : (hex : Bool) (text : List ℕ) (i : ℕ) → i < length text → is_digit hex (get_or text i 0) ≡ true → Stops hex (drop (i + 1) text) → Row hex text (drop i text) → LongestDigits hex text (drop (i + 1) text)
row_ends hex text i l a s h = record { digits = h.on (drop (i + 1) text) (subst (λ x. Digits hex x (drop (i + 1) text)) (sym (at text i l)) (last a)); stops = s }

pub stops_end : (hex : Bool) (text : List ℕ) (i : ℕ) → length text ≤ i → Stops hex (drop i text)
stops_end hex text i l h = subst (Begins (in_row hex)) (drop_all i text l) h

pub stops_place : (hex : Bool) (text : List ℕ) (i : ℕ) → i < length text → is_digit hex (get_or text i 0) ≡ false → get_or text i 0 ≢ 95 → Stops hex (drop i text)
stops_place hex text i l a b = subst (Stops hex) (sym (at text i l)) (stops_at hex (get_or text i 0) (drop (i + 1) text) a b)

pub row_end : (hex : Bool) (text : List ℕ) (i : ℕ) → length text ≤ i → Row hex text (drop i text) → NoDigits hex text
row_end hex text i l h r k = digits_none hex r (subst (λ x. Digits hex x r) (drop_all i text l) (h.back r k.stops k.digits))

pub row_wrong : (hex : Bool) (text : List ℕ) (i : ℕ) → i < length text → is_digit hex (get_or text i 0) ≡ false → Row hex text (drop i text) → NoDigits hex text
row_wrong hex text i l a h r k = both_ways (is_digit hex (get_or text i 0)) a (digits_first hex (get_or text i 0) (drop (i + 1) text) r (subst (λ x. Digits hex x r) (at text i l) (h.back r k.stops k.digits)))
