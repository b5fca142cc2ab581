-- What the words of numbers read as.
use Rattle.std.proofs.Common.{◌≡◌, ℕ, List, [], ◌∷◌, ◌++◌, take, drop, refl, arith, ap, sym, ◌∙◌, subst, Bool, true, false, cond, not, ◌||◌, append_assoc}
use Rattle.std.specs.Prelude.{◌==◌}
use Rattle.std.proofs.lemmas.Bool.{eqb-true, or_parts}
use Rattle.std.proofs.lemmas.List.{take-append-drop}
use Rattle.std.proofs.lemmas.Str.{IsAscii-drop}
use Rattle.std.specs.List.{list_any}
use Rattle.std.specs.Str.{IsAscii}
use Rattle.wat_lex.specs.grammar.Numbers.{unsigned, has_underscores}
use Rattle.wat_lex.specs.inside.ScannedNumbers.{without_plus}
use Rattle.wat_lex.specs.values.NumberValues.{joined, after_prefix, number_text}

unsigned_ascii : (w : List ℕ) → IsAscii w → IsAscii (unsigned w)
unsigned_ascii [] h = h
unsigned_ascii (c ∷ t) h = by (c == 43 || c == 45)
  where
    by : (b : Bool) → IsAscii (cond b t (c ∷ t))
    by true = IsAscii-drop (c ∷ t) 1 h
    by false = h

prefix_ascii : (hex : Bool) (s : List ℕ) → IsAscii s → IsAscii (after_prefix hex s)
prefix_ascii true s h = IsAscii-drop s 2 h
prefix_ascii false s h = h

pub digits_ascii : (hex : Bool) (w s t : List ℕ) → IsAscii w → s ≡ unsigned w → t ≡ after_prefix hex s → IsAscii t
digits_ascii hex w s t h e f = subst IsAscii (sym (f ∙ ap (after_prefix hex) e)) (prefix_ascii hex (unsigned w) (unsigned_ascii w h))

-- with no underscore nothing is left out
pub joined_same : (s : List ℕ) → list_any (λ c. c == 95) s ≡ false → joined s ≡ s
joined_same [] h = refl
joined_same (c ∷ s) h =
    let p = or_parts (c == 95) (list_any (λ d. d == 95) s) h in
    ap (λ b. cond (not b) (c ∷ joined s) (joined s)) p.0 ∙ ap (λ x. c ∷ x) (joined_same s p.1)

unsigned_cut : (w : List ℕ) → (front : List ℕ) × (w ≡ front ++ unsigned w)
unsigned_cut [] = ([], refl)
unsigned_cut (c ∷ t) = by (c == 43 || c == 45)
  where
    by : (b : Bool) → (front : List ℕ) × (c ∷ t ≡ front ++ cond b t (c ∷ t))
    by true = (c ∷ [], refl)
    by false = ([], refl)

-- a word is its sign and `0x`, and then its digits
pub digits_cut : (hex : Bool) (w : List ℕ) → (front : List ℕ) × (w ≡ front ++ after_prefix hex (unsigned w))
digits_cut false w = unsigned_cut w
digits_cut true w =
    let u = unsigned_cut w in
    let s = unsigned w in
    (u.0 ++ take 2 s, u.1 ∙ ap (λ x. u.0 ++ x) (sym (take-append-drop 2 s)) ∙ sym (append_assoc u.0 (take 2 s) (drop 2 s)))

none_after : (front digits : List ℕ) → has_underscores (front ++ digits) ≡ false → has_underscores digits ≡ false
none_after [] digits h = h
none_after (c ∷ front) digits h = none_after front digits (or_parts (c == 95) (list_any (λ d. d == 95) (front ++ digits)) h).1

-- the digits of a word without underscores are joined
pub digits_joined : (hex : Bool) (w : List ℕ) → has_underscores w ≡ false → joined (after_prefix hex (unsigned w)) ≡ after_prefix hex (unsigned w)
digits_joined hex w h =
    let d = digits_cut hex w in
    joined_same (after_prefix hex (unsigned w)) (none_after d.0 (after_prefix hex (unsigned w)) (subst (λ x. has_underscores x ≡ false) d.1 h))

-- a decimal number without underscores is its word without a `+`
plain_by : (c : ℕ) (t : List ℕ) (a b : Bool) → (c == 43) ≡ a → (c == 45) ≡ b → joined t ≡ t → joined (c ∷ t) ≡ c ∷ t
    → cond b (45 ∷ joined (cond (a || b) t (c ∷ t))) (joined (cond (a || b) t (c ∷ t))) ≡ cond a t (c ∷ t)
plain_by c t true true e f j k = let x = eqb-true c 43 e in let y = eqb-true c 45 f in absurd (omega (arith, x, y))
plain_by c t true false e f j k = j
plain_by c t false true e f j k = let x = eqb-true c 45 f in ap (λ z. z ∷ joined t) (sym x) ∙ ap (λ z. c ∷ z) j
plain_by c t false false e f j k = k

pub plain_text : (w : List ℕ) → has_underscores w ≡ false → without_plus w ≡ number_text false w
plain_text [] h = refl
plain_text (c ∷ t) h =
    let p = or_parts (c == 95) (list_any (λ d. d == 95) t) h in
    sym (plain_by c t (c == 43) (c == 45) refl refl (joined_same t p.1) (joined_same (c ∷ t) h))
