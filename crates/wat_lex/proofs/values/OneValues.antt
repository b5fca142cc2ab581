-- Each word reads as one value.
use Rattle.std.proofs.Common.{◌≡◌, ◌≢◌, ℕ, List, [], ◌∷◌, ◌++◌, refl, ap, sym, ◌∙◌, subst, Bool, true, false, cond, ◌||◌, inl, inr}
use Rattle.std.specs.Prelude.{◌==◌, Option, Some}
use Rattle.std.specs.Str.{IsUtf8}
use Rattle.std.proofs.lemmas.Bool.{false≢true}
use Rattle.std.proofs.lemmas.List.{append_cancel_right}
use Rattle.std.proofs.lemmas.Str.{IsUtf8-nil}
use Rattle.wat_lex.specs.values.Names.{Name, Named, bare, quoted as named_string, NameFault, no_name, not_utf8}
use Rattle.wat_lex.specs.grammar.Numbers.{Digits, last, next, parted, IntegralPart, decimal, hexadecimal, Fraction, bare as dot_alone, filled as dot_filled, exponent, fraction, power, both, unsigned}
use Rattle.wat_lex.specs.inside.ScannedNumbers.{Stops, Follows}
use Rattle.wat_lex.specs.values.NumberValues.{Point, no_point, bare as point_bare, filled, Power, no_power, present, FloatParts}
use Rattle.wat_lex.specs.values.UniqueValues.{OneValue, OneName, OneCut}
use Rattle.wat_lex.specs.tokens.Setting.{lenient}
use Rattle.wat_lex.specs.grammar.Strings.{quoted}
use Rattle.wat_lex.specs.declared.lexer.faults.LexError.{LexError}
use Rattle.wat_lex.proofs.grammar.Digits.{digits_one, digits_first, digits_none}
use Rattle.wat_lex.proofs.grammar.OneKind.{integral_one}
use Rattle.wat_lex.proofs.grammar.Tails.{stops_nil, exponent_stops}
use Rattle.wat_lex.proofs.grammar.OneString.{quoted_unique}

-- ---- strings

pub one_value : (w : List ℕ) → OneValue w
one_value w u v (quoted {t = t} h) (quoted k) = (quoted_unique lenient t u v [] [] h k).0

-- ---- names

named_one : (t a b : List ℕ) → Named t a → Named t b → a ≡ b
named_one t a b (bare h) (bare k) = refl
named_one t a b (bare h) (named_string (quoted k)) = absurd (false≢true h.0)
named_one t a b (named_string (quoted k)) (bare h) = absurd (false≢true h.0)
named_one t a b (named_string h) (named_string k) = one_value t a b h k

name_one : (w a b : List ℕ) → Name w a → Name w b → a ≡ b
name_one [] a b h k = absurd h
name_one (c ∷ t) a b h k = named_one t a b h k

fault_one : (empty : LexError) (w : List ℕ) (e f : LexError) → NameFault empty w e → NameFault empty w f → e ≡ f
fault_one empty w e f (no_name h) (no_name k) = refl
fault_one empty w e f (no_name h) (not_utf8 {bytes = b} k n) = absurd (n (subst IsUtf8 (name_one w [] b h k) IsUtf8-nil))
fault_one empty w e f (not_utf8 {bytes = b} k n) (no_name h) = absurd (n (subst IsUtf8 (name_one w [] b h k) IsUtf8-nil))
fault_one empty w e f (not_utf8 h m) (not_utf8 k n) = refl

no_fault : (empty : LexError) (w a : List ℕ) (e : LexError) → Name w a → IsUtf8 a → a ≢ [] → NameFault empty w e → ⊥
no_fault empty w a e h u n (no_name k) = n (name_one w a [] h k)
no_fault empty w a e h u n (not_utf8 {bytes = b} k m) = m (subst IsUtf8 (name_one w a b h k) u)

pub one_name : (empty : LexError) (w : List ℕ) → OneName empty w
one_name empty w = record { name = name_one w; fault = fault_one empty w; good = no_fault empty w }

-- ---- floats

-- digits, joined with what follows them
digits_on : (hex : Bool) (s q r : List ℕ) → Digits hex s q → Digits hex (s ++ r) (q ++ r)
digits_on hex s q r (last h) = last h
digits_on hex s q r (next {t = t} h k) = next h (digits_on hex t q r k)
digits_on hex s q r (parted {t = t} h k) = parted h (digits_on hex t q r k)

integral_on : (hex : Bool) (s q r : List ℕ) → IntegralPart hex s q → IntegralPart hex (s ++ r) (q ++ r)
integral_on hex s q r (decimal h) = decimal (digits_on false s q r h)
integral_on hex s q r (hexadecimal {t = t} h) = hexadecimal (digits_on true t q r h)

integral_none : (hex : Bool) (r : List ℕ) → IntegralPart hex [] r → ⊥
integral_none hex r (decimal h) = digits_none false r h

unsigned_on : (hex : Bool) (s q r : List ℕ) → IntegralPart hex (unsigned s) q → unsigned (s ++ r) ≡ unsigned s ++ r
unsigned_on hex [] q r h = absurd (integral_none hex q h)
unsigned_on hex (c ∷ t) q r h = by (c == 43 || c == 45)
  where
    by : (b : Bool) → cond b (t ++ r) (c ∷ t ++ r) ≡ cond b t (c ∷ t) ++ r
    by true = refl
    by false = refl

power_stops : (hex : Bool) (r : List ℕ) (x : Option (List ℕ)) → Power hex r x → Stops hex r
power_stops hex r x no_power = stops_nil hex
power_stops hex r x (present {c = c} {t = t} h k) = exponent_stops hex (c ∷ t) (exponent h k)

fraction_follows : (hex : Bool) (s r : List ℕ) (x : Option (List ℕ)) → Fraction hex s r → Power hex r x → Follows hex s
fraction_follows hex s r x h no_power = inr (fraction h)
fraction_follows hex s r x h (present g k) = inr (both h (exponent g k))

parts_follow : (hex : Bool) (s r : List ℕ) (f x : Option (List ℕ)) → Point hex s f r → Power hex r x → Follows hex s
parts_follow hex s r f x no_point no_power = inl refl
parts_follow hex s r f x no_point (present h k) = inr (power (exponent h k))
parts_follow hex s r f x point_bare p = fraction_follows hex s r x dot_alone p
parts_follow hex s r f x (filled {t = t} {d = d} e h) p =
    fraction_follows hex s r x (dot_filled (subst (λ y. Digits hex y r) (sym e) (digits_on hex d [] r h))) p

-- one exponent
power_one : (hex : Bool) (r : List ℕ) (x y : Option (List ℕ)) → Power hex r x → Power hex r y → x ≡ y
power_one hex r x y no_power no_power = refl
power_one hex r x y (present h k) (present g l) = refl

dot_no_power : (hex : Bool) (r : List ℕ) (x : Option (List ℕ)) → Power hex (46 ∷ r) x → ⊥
dot_no_power true r x (present h k) = false≢true h
dot_no_power false r x (present h k) = false≢true h

-- no digit begins an exponent
digits_no_power : (hex : Bool) (d r : List ℕ) (x : Option (List ℕ)) → Digits hex d [] → Power hex (d ++ r) x → ⊥
digits_no_power hex [] r x h p = digits_none hex [] h
digits_no_power hex (c ∷ d) r x h p = power_stops hex (c ∷ d ++ r) x p (ap (λ b. b || c == 95) (digits_first hex c d [] h))

-- one fraction, and one exponent after it
record SameParts (f g x y : Option (List ℕ)) : Type 0 where
  fraction : f ≡ g
  exponent : x ≡ y

parts_one : (hex : Bool) (s r q : List ℕ) (f g x y : Option (List ℕ)) → Point hex s f r → Power hex r x → Point hex s g q → Power hex q y → SameParts f g x y
parts_one hex s r q f g x y no_point p no_point k = record { fraction = refl; exponent = power_one hex s x y p k }
parts_one hex s r q f g x y no_point p point_bare k = absurd (dot_no_power hex q x p)
parts_one hex s r q f g x y no_point p (filled {t = t} e h) k = absurd (dot_no_power hex t x p)
parts_one hex s r q f g x y point_bare p no_point k = absurd (dot_no_power hex r y k)
parts_one hex s r q f g x y point_bare p point_bare k = record { fraction = refl; exponent = power_one hex r x y p k }
parts_one hex s r q f g x y point_bare p (filled {d = d} e h) k = absurd (digits_no_power hex d q x h (subst (λ z. Power hex z x) e p))
parts_one hex s r q f g x y (filled {t = t} e h) p no_point k = absurd (dot_no_power hex t y k)
parts_one hex s r q f g x y (filled {d = d} e h) p point_bare k = absurd (digits_no_power hex d r y h (subst (λ z. Power hex z y) e k))
parts_one hex s r q f g x y (filled {t = t} {d = d} e h) p (filled {d = b} u i) k =
    let a : Digits hex t r = subst (λ z. Digits hex z r) (sym e) (digits_on hex d [] r h) in
    let c : Digits hex t q = subst (λ z. Digits hex z q) (sym u) (digits_on hex b [] q i) in
    let same : r ≡ q = digits_one hex t r q a (power_stops hex r x p) c (power_stops hex q y k) in
    let digits : d ≡ b = append_cancel_right d b r (sym e ∙ u ∙ ap (λ z. b ++ z) (sym same)) in
    record { fraction = ap Some digits; exponent = power_one hex r x y p (subst (λ z. Power hex z y) (sym same) k) }

-- the first digits in the whole word
integral_at : (hex : Bool) (w leading tail : List ℕ) → w ≡ leading ++ tail → IntegralPart hex (unsigned leading) [] → IntegralPart hex (unsigned w) tail
integral_at hex w leading tail e h =
    subst (λ s. IntegralPart hex s tail) (sym (ap unsigned e ∙ unsigned_on hex leading [] tail h)) (integral_on hex (unsigned leading) [] tail h)

-- where the first digits end, and the base
record SameTail (h k : Bool) (s t : List ℕ) : Type 0 where
  base : h ≡ k
  tail : s ≡ t

same_tail : (w : List ℕ) (h k : Bool) (a b : List ℕ) (f g x y : Option (List ℕ)) (p : FloatParts h w a f x) (q : FloatParts k w b g y) → SameTail h k p.tail q.tail
same_tail w h k a b f g x y p q =
    let s = parts_follow h p.tail p.rest f x p.point p.power in
    let t = parts_follow k q.tail q.rest g y q.point q.power in
    let same = integral_one h k (unsigned w) p.tail q.tail (integral_at h w a p.tail p.cut p.first) s (integral_at k w b q.tail q.cut q.first) t in
    record { base = same.0; tail = same.1 }

same_parts : (w : List ℕ) (hex : Bool) (a b : List ℕ) (f g x y : Option (List ℕ)) → FloatParts hex w a f x → FloatParts hex w b g y → (a ≡ b) × (f ≡ g) × (x ≡ y)
same_parts w hex a b f g x y p q =
    let tails = (same_tail w hex hex a b f g x y p q).tail in
    let leading : a ≡ b = append_cancel_right a b p.tail (sym p.cut ∙ q.cut ∙ ap (λ z. b ++ z) (sym tails)) in
    let parts = parts_one hex p.tail p.rest q.rest f g x y p.point p.power (subst (λ z. Point hex z g q.rest) (sym tails) q.point) q.power in
    (leading, parts.fraction, parts.exponent)

pub one_cut : (w : List ℕ) → OneCut w
one_cut w = record { base = λ h k a b f g x y p q. (same_tail w h k a b f g x y p q).base; parts = same_parts w }
