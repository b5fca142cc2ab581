-- The parts of a float's word.
use Rattle.std.proofs.Common.{◌≡◌, ◌≢◌, ◌<◌, ◌≤◌, ◌-◌, ◌+◌, ℕ, List, [], ◌∷◌, ◌++◌, length, take, drop, get_or, refl, arith, ap, sym, ◌∙◌, subst, Bool, true, false, cond, ◌||◌, inl, inr, length-append, Bor}
use Rattle.std.specs.Prelude.{◌==◌, Option, Some, None, IfSome}
use Rattle.std.specs.Option.{option_map}
use Rattle.std.proofs.lemmas.Bool.{eqb-true, ne_eqb, or_from, or_parts}
use Rattle.std.proofs.lemmas.List.{take_at, drop_at}
use Rattle.std.proofs.lemmas.List.Folds.{list_any-append}
use Rattle.std.proofs.lemmas.Str.{IsAscii-take, IsAscii-drop}
use Rattle.std.specs.Str.{IsAscii}
use Rattle.wat_lex.specs.grammar.Numbers.{Digits, last, next, parted, is_digit, IntegralPart, decimal, hexadecimal, Exponent, exponent, Tail, Decimals, decimals, Payload, payload, unsigned, is_negative, has_underscores}
use Rattle.wat_lex.specs.inside.ScannedNumbers.{LongestDigits, NoDigits, EndsFloat}
use Rattle.wat_lex.specs.values.NumberValues.{joined, after_prefix, number_text, payload_text, Point, no_point, bare, filled, Power, no_power, present}
use Rattle.wat_lex.proofs.grammar.Digits.{digits_one, digits_first, digits_none}
use Rattle.wat_lex.proofs.grammar.Tails.{tail_stops, tail_none, tail_power, exponent_stops, stops_nil, digits_end, After, after, nothing, powered, digits, digits_powered}

-- A digit is not a sign.
pub no_plus : (hex : Bool) (c : ℕ) → is_digit hex c ≡ true → c ≢ 43
no_plus true c h e = let k = subst (λ x. is_digit true x ≡ true) e h in cc
no_plus false c h e = let k = subst (λ x. is_digit false x ≡ true) e h in cc

pub no_minus : (hex : Bool) (c : ℕ) → is_digit hex c ≡ true → c ≢ 45
no_minus true c h e = let k = subst (λ x. is_digit true x ≡ true) e h in cc
no_minus false c h e = let k = subst (λ x. is_digit false x ≡ true) e h in cc

pub digits_unsigned : (hex : Bool) (d r : List ℕ) → Digits hex d r → unsigned d ≡ d
digits_unsigned hex [] r h = refl
digits_unsigned hex (c ∷ t) r h =
    let k = digits_first hex c t r h in
    ap (λ b. cond b t (c ∷ t)) (or_from (c == 43) (c == 45) (ne_eqb c 43 (no_plus hex c k)) (ne_eqb c 45 (no_minus hex c k)))

digits_positive : (hex : Bool) (d r : List ℕ) → Digits hex d r → is_negative d ≡ false
digits_positive hex [] r h = refl
digits_positive hex (c ∷ t) r h = ne_eqb c 45 (no_minus hex c (digits_first hex c t r h))

pub digits_text : (hex : Bool) (d r : List ℕ) → Digits hex d r → number_text false d ≡ joined d
digits_text hex d r h = ap (λ b. cond b (45 ∷ joined (unsigned d)) (joined (unsigned d))) (digits_positive hex d r h) ∙ ap joined (digits_unsigned hex d r h)

integral_unsigned : (hex : Bool) (s r : List ℕ) → IntegralPart hex s r → unsigned s ≡ s
integral_unsigned hex s r (decimal h) = digits_unsigned false s r h
integral_unsigned hex s r (hexadecimal h) = refl

-- digits, cut from what follows them
pub cut_digits : (hex : Bool) (s r : List ℕ) → Digits hex s r → (d : List ℕ) × (s ≡ d ++ r) × Digits hex d []
cut_digits hex s r (last {d = d} h) = (d ∷ [], refl, last h)
cut_digits hex s r (next {d = d} {t = t} h k) = let p = cut_digits hex t r k in (d ∷ p.0, ap (λ x. d ∷ x) p.1, next h p.2)
cut_digits hex s r (parted {d = d} {t = t} h k) = let p = cut_digits hex t r k in (d ∷ 95 ∷ p.0, ap (λ x. d ∷ 95 ∷ x) p.1, parted h p.2)

cut_integral : (hex : Bool) (s r : List ℕ) → IntegralPart hex s r → (d : List ℕ) × (s ≡ d ++ r) × IntegralPart hex d []
cut_integral hex s r (decimal h) = let p = cut_digits false s r h in (p.0, p.1, decimal p.2)
cut_integral hex s r (hexadecimal {t = t} h) = let p = cut_digits true t r h in (48 ∷ 120 ∷ p.0, ap (λ x. 48 ∷ 120 ∷ x) p.1, hexadecimal p.2)

pub cut_word : (hex : Bool) (w r : List ℕ) → IntegralPart hex (unsigned w) r → (d : List ℕ) × (w ≡ d ++ r) × IntegralPart hex (unsigned d) []
cut_word hex [] r h = absurd (none hex r h)
  where
    none : (hex : Bool) (r : List ℕ) → IntegralPart hex [] r → ⊥
    none hex r (decimal h) = digits_none false r h
cut_word hex (c ∷ t) r h = by (c == 43 || c == 45) refl h
  where
    by : (b : Bool) → (c == 43 || c == 45) ≡ b → IntegralPart hex (cond b t (c ∷ t)) r → (d : List ℕ) × (c ∷ t ≡ d ++ r) × IntegralPart hex (unsigned d) []
    by true e h = let p = cut_integral hex t r h in (c ∷ p.0, ap (λ x. c ∷ x) p.1, subst (λ b. IntegralPart hex (cond b p.0 (c ∷ p.0)) []) (sym e) p.2)
    by false e h = let p = cut_integral hex (c ∷ t) r h in (p.0, p.1, subst (λ x. IntegralPart hex x []) (sym (integral_unsigned hex p.0 [] p.2)) p.2)

pub integral_digits : (hex : Bool) (s r : List ℕ) → IntegralPart hex s r → Digits hex (after_prefix hex s) r
integral_digits hex s r (decimal h) = h
integral_digits hex s r (hexadecimal h) = h

decimals_long : (s : List ℕ) → Decimals true s → 2 ≤ length s
decimals_long s (decimals (hexadecimal h) k) = omega arith

pub long : (hex : Bool) (w s : List ℕ) → s ≡ unsigned w → Decimals hex (unsigned w) → hex ≡ true → 2 ≤ length s
long hex w s e h f = subst (λ x. 2 ≤ length x) (sym e) (decimals_long (unsigned w) (subst (λ x. Decimals x (unsigned w)) f h))

-- a float's word after its first digits
pub record Split (hex : Bool) (w tail : List ℕ) : Type 0 where
  pub leading : List ℕ
  pub cut : w ≡ leading ++ tail
  pub integral : IntegralPart hex (unsigned leading) []
  pub is : Tail hex tail

pub split : (hex : Bool) (w b tail : List ℕ) → Decimals hex (unsigned w) → b ≡ after_prefix hex (unsigned w) → LongestDigits hex b tail → Split hex w tail
split hex w b tail h e l = by (unsigned w) refl h
  where
    by : (s : List ℕ) → s ≡ unsigned w → Decimals hex s → Split hex w tail
    by s f (decimals {t = t} a k) =
        let d : Digits hex b t = subst (λ x. Digits hex x t) (ap (after_prefix hex) f ∙ sym e) (integral_digits hex s t a) in
        let g : t ≡ tail = digits_one hex b t tail d (tail_stops hex t k) l.digits l.stops in
        let p = cut_word hex w tail (subst (λ x. IntegralPart hex x tail) f (subst (IntegralPart hex s) g a)) in
        record { leading = p.0; cut = p.1; integral = p.2; is = subst (Tail hex) g k }

pub no_split : (hex : Bool) (s b : List ℕ) → Decimals hex s → b ≡ after_prefix hex s → NoDigits hex b → ⊥
no_split hex s b (decimals {t = t} a k) e n = n t (record { digits = subst (λ x. Digits hex x t) (sym e) (integral_digits hex s t a); stops = tail_stops hex t k })

-- the seam, by the length of what follows it
pub seam : (s f r : List ℕ) → s ≡ f ++ r → length s - length r ≡ length f
seam s f r e = omega (arith, ap length e, length-append f r)

pub seam_prefix : (s f r : List ℕ) → s ≡ f ++ r → take (length s - length r) s ≡ f
seam_prefix s f r e = ap (take (length s - length r)) e ∙ take_at f r (length s - length r) (sym (seam s f r e))

pub seam_back : (s f r : List ℕ) → s ≡ f ++ r → drop (length s - length r) s ≡ r
seam_back s f r e = ap (drop (length s - length r)) e ∙ drop_at f r (length s - length r) (sym (seam s f r e))

pub seam_fits : (s f r : List ℕ) → s ≡ f ++ r → length r ≤ length s
seam_fits s f r e = omega (arith, ap length e, length-append f r)

-- what follows first digits
pub tail_some : (hex : Bool) (s : List ℕ) → Tail hex s → 0 < length s
tail_some hex [] h = absurd (tail_none hex h)
tail_some hex (c ∷ s) h = omega arith

pub no_dot : (hex : Bool) (s : List ℕ) → get_or s 0 0 ≢ 46 → Tail hex s → Exponent hex s
no_dot hex [] n h = absurd (tail_none hex h)
no_dot hex (c ∷ s) n h = tail_power hex c s n h

pub dotted : (hex : Bool) (s t : List ℕ) → get_or s 0 0 ≡ 46 → t ≡ drop 1 s → Tail hex s → (s ≡ 46 ∷ t) × After hex t
dotted hex [] t e f h = absurd (tail_none hex h)
dotted hex (c ∷ s) t e f h = let g : c ∷ s ≡ 46 ∷ t = ap (λ x. x ∷ s) e ∙ ap (λ x. 46 ∷ x) (sym f) in (g, after hex t (subst (Tail hex) g h))

letter_digit : (hex : Bool) (s r : List ℕ) → Exponent hex s → LongestDigits hex s r → ⊥
letter_digit hex s r k l = digits_none hex r (subst (λ x. Digits hex x r) (by s r k l.digits) l.digits)
  where
    by : (s r : List ℕ) → Exponent hex s → Digits hex s r → s ≡ []
    by [] r k d = refl
    by (c ∷ t) r k d = absurd (exponent_stops hex (c ∷ t) k (ap (λ b. b || c == 95) (digits_first hex c t r d)))

pub ends_some : (hex : Bool) (t rest : List ℕ) → After hex t → LongestDigits hex t rest → EndsFloat hex rest
ends_some hex t rest nothing l = absurd (digits_none hex rest l.digits)
ends_some hex t rest (powered k) l = absurd (letter_digit hex t rest k l)
ends_some hex t rest (digits d) l = inl (digits_end hex t rest l d)
ends_some hex t rest (digits_powered {r = r} d k) l = inr (subst (Exponent hex) (digits_one hex t r rest d (exponent_stops hex r k) l.digits l.stops) k)

pub ends_none : (hex : Bool) (t : List ℕ) → After hex t → NoDigits hex t → EndsFloat hex t
ends_none hex t nothing n = inl refl
ends_none hex t (powered k) n = inr k
ends_none hex t (digits d) n = absurd (n [] (record { digits = d; stops = stops_nil hex }))
ends_none hex t (digits_powered {r = r} d k) n = absurd (n r (record { digits = d; stops = exponent_stops hex r k }))

pub point_some : (hex : Bool) (s t rest : List ℕ) → s ≡ 46 ∷ t → LongestDigits hex t rest → (d r : List ℕ) → d ≡ take (length t - length rest) t → r ≡ drop (length t - length rest) t → Point hex s (Some d) r
point_some hex s t rest e l d r f g =
    let p = cut_digits hex t rest l.digits in
    let x : d ≡ p.0 = f ∙ seam_prefix t p.0 rest p.1 in
    let y : r ≡ rest = g ∙ seam_back t p.0 rest p.1 in
    subst (λ u. Point hex u (Some d) r) (sym e) (filled (p.1 ∙ ap (λ u. u ++ rest) (sym x) ∙ ap (λ u. d ++ u) (sym y)) (subst (λ u. Digits hex u []) (sym x) p.2))

pub point_bare : (hex : Bool) (s t : List ℕ) → s ≡ 46 ∷ t → Point hex s None t
point_bare hex s t e = subst (λ u. Point hex u None t) (sym e) bare

-- what ends a float
pub power_none : (hex : Bool) (r : List ℕ) → true ≡ (length r == 0) → Power hex r None
power_none hex [] e = no_power
power_none hex (c ∷ r) e = let k = eqb-true (length (c ∷ r)) 0 (sym e) in absurd (omega (arith, k))

pub power_some : (hex : Bool) (r t : List ℕ) → false ≡ (length r == 0) → EndsFloat hex r → t ≡ drop 1 r → Power hex r (Some t)
power_some hex r t n (inl e) f = let k : false ≡ (length {A = ℕ} [] == 0) = n ∙ ap (λ x. length x == 0) e in absurd cc
power_some hex r t n (inr (exponent {c = c} {t = u} h k)) f = subst (λ x. Power hex (c ∷ u) (Some x)) (sym f) (present h k)

-- what the parts have from the whole word
abbrev pub Inherited : (List ℕ → Type 0) → Type 0
Inherited P = (f r : List ℕ) → P (f ++ r) → P f × P r

pub point_inherits : (P : List ℕ → Type 0) → Inherited P → (hex : Bool) (s r : List ℕ) (o : Option (List ℕ)) → Point hex s o r → P s → IfSome o P × P r
point_inherits P k hex s r o no_point h = (tt, h)
point_inherits P k hex s r o bare h = (tt, (k (46 ∷ []) r h).1)
point_inherits P k hex s r o (filled {t = t} {d = d} e g) h = k d r (subst P e (k (46 ∷ []) t h).1)

pub power_inherits : (P : List ℕ → Type 0) → Inherited P → (hex : Bool) (r : List ℕ) (o : Option (List ℕ)) → Power hex r o → P r → IfSome o P
power_inherits P k hex r o no_power h = tt
power_inherits P k hex r o (present {c = c} {t = t} g d) h = (k (c ∷ []) t h).1

pub ascii_inherited : Inherited IsAscii
ascii_inherited f r h =
    (subst IsAscii (take_at f r (length f) refl) (IsAscii-take (f ++ r) (length f) h), subst IsAscii (drop_at f r (length f) refl) (IsAscii-drop (f ++ r) (length f) h))

abbrev pub Plain : List ℕ → Type 0
Plain s = has_underscores s ≡ false

pub plain_inherited : Inherited Plain
plain_inherited f r h = or_parts (has_underscores f) (has_underscores r) (sym (list_any-append (λ c. c == 95) f r) ∙ h)

-- a payload after its prefix
after_nan : (w : List ℕ) → drop (length w - length (unsigned w) + 6) w ≡ drop 6 (unsigned w)
after_nan [] = refl
after_nan (c ∷ t) = by (c == 43 || c == 45)
  where
    by : (b : Bool) → drop (length (c ∷ t) - length (cond b t (c ∷ t)) + 6) (c ∷ t) ≡ drop 6 (cond b t (c ∷ t))
    by true = let k : length (c ∷ t) - length t + 6 ≡ 7 = omega arith in ap (λ n. drop n (c ∷ t)) k
    by false = let k : length (c ∷ t) - length (c ∷ t) + 6 ≡ 6 = omega arith in ap (λ n. drop n (c ∷ t)) k

payload_digits : (s : List ℕ) → Payload s → Digits true (drop 6 s) []
payload_digits s (payload e h) = subst (λ x. Digits true (drop 6 x) []) (sym e) h

pub payload_is : (w n d : List ℕ) → n ≡ unsigned w → d ≡ drop (length w - length n + 6) w → Payload (unsigned w) → number_text false d ≡ payload_text w
payload_is w n d e f h =
    let g : d ≡ drop 6 (unsigned w) = f ∙ ap (λ x. drop (length w - length x + 6) w) e ∙ after_nan w in
    ap (number_text false) g ∙ digits_text true (drop 6 (unsigned w)) [] (payload_digits (unsigned w) h)

-- What holds of an optional reference's bytes holds of the reference.
pub each : (P : List ℕ → Type 0) (o : Option (Bor (List ℕ))) → IfSome (option_map (λ r. r.now) o) P → IfSome o (λ p. P p.now)
each P None h = h
each P (Some r) h = h

pub point_texts : (hex : Bool) (s r : List ℕ) (o : Option (List ℕ)) → Point hex s o r → option_map (number_text false) o ≡ option_map joined o
point_texts hex s r o no_point = refl
point_texts hex s r o bare = refl
point_texts hex s r o (filled {d = d} e h) = ap Some (digits_text hex d [] h)

pub after_reference : (f : List ℕ → List ℕ) (o : Option (Bor (List ℕ))) → option_map (λ p. f p.now) o ≡ option_map f (option_map (λ r. r.now) o)
after_reference f None = refl
after_reference f (Some r) = refl
