-- Digits with what may follow a float's first digits are a float, and have no underscores where that has none.
use Rattle.std.proofs.Common.{◌≡◌, ◌≢◌, ◌≤◌, ◌<◌, ◌+◌, ◌-◌, ℕ, zero, suc, List, [], ◌∷◌, length, take, drop, get_or, refl, arith, ap, sym, ◌∙◌, subst, Bool, true, false, cond, ◌||◌, inl, inr}
use Rattle.std.specs.Prelude.{Option, Some, None, IfSome}
use Rattle.wat_lex.specs.declared.lexer.kinds.TokenKind.{TokenKind}
use Rattle.std.specs.Char.{is_ascii_digit}
use Rattle.std.specs.List.{prefix_len}
use Rattle.std.proofs.lemmas.List.{drop-drop, drop-take, length-drop, length-take-le}
use Rattle.std.proofs.lemmas.Bool.{cases_Bool, ne_eqb}
use Rattle.wat_lex.specs.grammar.Numbers.{Digits, last, next, is_digit, is_exponent_letter, exponent, fraction, both, bare, filled, unsigned, has_underscores, Number, Decimals, decimals, decimal, hexadecimal}
use Rattle.wat_lex.specs.inside.ScannedNumbers.{IsPlainFloat, PlainDecimals, PlainExponent, PlainTail}
use Rattle.wat_lex.proofs.grammar.Digits.{underscore_no_digit}
use Rattle.wat_lex.proofs.grammar.PlainIntegers.{digits_alone, digits_of, digits_of_word, digits_no_underscore, no_underscore, signed_no_underscore, taken_pass, unsigned_is_shorter}
use Rattle.wat_lex.proofs.grammar.Tails.{letter_no_underscore}

-- a letter, a sign or none, and digits alone
exponent_of : (hex : Bool) (c : ℕ) (t : List ℕ) → is_exponent_letter hex c ≡ true → unsigned t ≢ [] → prefix_len is_ascii_digit (unsigned t) ≡ length (unsigned t) → PlainExponent hex (c ∷ t)
exponent_of hex c t h n e =
    (exponent h (digits_alone (unsigned t) n e), ap (λ b. b || has_underscores t) (ne_eqb c 95 (letter_no_underscore hex c h)) ∙ digits_no_underscore t e)

pub plain_exponent : (hex : Bool) (w t : List ℕ) → w ≢ [] → t ≡ drop 1 w → is_exponent_letter hex (get_or w 0 0) ≡ true → unsigned t ≢ [] → prefix_len is_ascii_digit (unsigned t) ≡ length (unsigned t) → PlainExponent hex w
plain_exponent hex [] t s at h n e = absurd (s refl)
plain_exponent hex (c ∷ w) t s at h n e =
    exponent_of hex c w h (λ k. n (ap unsigned at ∙ k)) (subst (λ x. prefix_len is_ascii_digit (unsigned x) ≡ length (unsigned x)) at e)

-- The first len bytes of a text are an exponent without underscores, if the body after their letter is a sign or none,
-- and digits.
pub exponent_is_at : (hex : Bool) (text body : List ℕ) (len : ℕ) → len ≤ length text → 1 ≤ len → body ≡ drop 1 (take len text) → is_exponent_letter hex (get_or (take len text) 0 0) ≡ true → length (unsigned body) ≢ 0 → length (unsigned body) ≤ prefix_len is_ascii_digit (drop (len - length (unsigned body)) text) → PlainExponent hex (take len text)
exponent_is_at hex text body len within one at letter some h =
    let n = length (unsigned body) in
    let parts : 1 + (len - 1) ≡ len = omega arith in
    let same : body ≡ take (len - 1) (drop 1 text) = at ∙ ap (λ k. drop 1 (take k text)) (sym parts) ∙ drop-take 1 (len - 1) text in
    let room : len - 1 ≤ length (drop 1 text) = omega (arith, length-drop 1 text) in
    let fits : n ≤ len - 1 = omega (arith, unsigned_is_shorter body, ap length same, length-take-le (len - 1) (drop 1 text) room) in
    let place : 1 + (len - 1 - n) ≡ len - n = omega arith in
    let there : drop (len - 1 - n) (drop 1 text) ≡ drop (len - n) text = drop-drop (len - 1 - n) 1 text ∙ ap (λ k. drop k text) place in
    let all = digits_of_word (drop 1 text) (len - 1) n room (ap (λ x. length (unsigned x)) same) fits (subst (λ x. n ≤ prefix_len is_ascii_digit x) (sym there) h) in
    plain_exponent hex (take len text) body (λ e. absurd (omega (arith, length-take-le len text within, ap length e))) at letter (λ e. some (ap length e))
    (subst (λ x. prefix_len is_ascii_digit (unsigned x) ≡ length (unsigned x)) (sym same) all)

one_more : (p : ℕ → Bool) (d : ℕ) (t : List ℕ) → p d ≡ true → prefix_len p (d ∷ t) ≡ suc (prefix_len p t)
one_more p d t e = omega (arith, ap (λ b. cond b (1 + prefix_len p t) 0) e)

none_there : (p : ℕ → Bool) (d : ℕ) (t : List ℕ) → p d ≡ false → prefix_len p (d ∷ t) ≡ 0
none_there p d t e = ap (λ b. cond b (1 + prefix_len p t) 0) e

-- the first of some that pass, and the others
pub first_passes : (p : ℕ → Bool) (n d : ℕ) (t : List ℕ) → suc n ≤ prefix_len p (d ∷ t) → (p d ≡ true) × (n ≤ prefix_len p t)
first_passes p n d t h =
    elim (cases_Bool (p d)) [
      | inl e ↦ (e, omega (arith, h, one_more p d t e))
      | inr e ↦ absurd (omega (arith, h, none_there p d t e))
    ]

-- some of the digits that are there, and then the rest
pub digits_then : (hex : Bool) (n : ℕ) (t : List ℕ) → n ≤ prefix_len (is_digit hex) t → n ≢ 0 → Digits hex t (drop n t)
digits_then hex zero t h some = absurd (some refl)
digits_then hex (suc n) [] h some = absurd (omega arith)
digits_then hex (suc zero) (d ∷ t) h some = last (first_passes (is_digit hex) 0 d t h).0
digits_then hex (suc (suc n)) (d ∷ t) h some = let k = first_passes (is_digit hex) (suc n) d t h in next k.0 (digits_then hex (suc n) t k.1 (λ z. cc))

pub underscore_then : (hex : Bool) (n : ℕ) (t : List ℕ) → n ≤ prefix_len (is_digit hex) t → has_underscores (drop n t) ≡ false → has_underscores t ≡ false
underscore_then hex zero t h e = e
underscore_then hex (suc n) [] h e = refl
underscore_then hex (suc n) (d ∷ t) h e =
    let k = first_passes (is_digit hex) n d t h in
    let other : d ≢ 95 = λ z. underscore_no_digit hex (sym (ap (is_digit hex) z) ∙ k.0) in
    ap (λ b. b || has_underscores t) (ne_eqb d 95 other) ∙ underscore_then hex n t k.1 e

-- as many as are at the start are at the start of as many or more bytes
taken_prefix : (p : ℕ → Bool) (k : ℕ) (xs : List ℕ) → prefix_len p xs ≤ k → prefix_len p (take k xs) ≡ prefix_len p xs
taken_prefix p zero [] h = refl
taken_prefix p (suc k) [] h = refl
taken_prefix p zero (x ∷ xs) h = omega arith
taken_prefix p (suc k) (x ∷ xs) h =
    elim (cases_Bool (p x)) [
      | inl e ↦ omega (arith, taken_prefix p k xs (omega (arith, h, one_more p x xs e)), one_more p x xs e, one_more p x (take k xs) e)
      | inr e ↦ none_there p x (take k xs) e ∙ sym (none_there p x xs e)
    ]

-- a dot and digits alone
pub tail_of_digits : (hex : Bool) (t : List ℕ) → prefix_len (is_digit hex) t ≡ length t → PlainTail hex (46 ∷ t)
tail_of_digits hex [] e = (fraction bare, refl)
tail_of_digits hex (d ∷ t) e = (fraction (filled (digits_of hex (d ∷ t) (λ z. cc) e)), no_underscore hex (d ∷ t) e)

-- a dot, digits or none, and an exponent
pub tail_of_parts : (hex : Bool) (t : List ℕ) (n : ℕ) → n ≤ prefix_len (is_digit hex) t → PlainExponent hex (drop n t) → PlainTail hex (46 ∷ t)
tail_of_parts hex t zero e h = (both bare h.0, h.1)
tail_of_parts hex t (suc n) e h = (both (filled (digits_then hex (suc n) t e (λ z. cc))) h.0, underscore_then hex (suc n) t e h.1)

-- first digits, and what follows them
pub decimals_then : (hex : Bool) (t : List ℕ) (n : ℕ) → n ≤ prefix_len (is_digit hex) t → n ≢ 0 → PlainTail hex (drop n t) → PlainDecimals hex t
decimals_then hex t n e some tail = (drop n t, digits_then hex n t e some, tail.0, underscore_then hex n t e tail.1)

pub word_dotted : (text : List ℕ) (len : ℕ) → len ≤ length text → 1 ≤ len → get_or (take len text) 0 0 ≡ 46 → take len text ≡ 46 ∷ take (len - 1) (drop 1 text)
word_dotted [] len within one d = absurd (omega arith)
word_dotted (c ∷ t) zero within one d = absurd (omega arith)
word_dotted (c ∷ t) (suc n) within one d =
    let e : suc n - 1 ≡ n = omega arith in
    ap (λ x. x ∷ take n t) d ∙ ap (λ k. 46 ∷ take k t) (sym e)

-- The first len bytes of a text begin with a dot: they are a fraction, with or without an exponent after it.
module _ (hex : Bool) (text w : List ℕ) (len : ℕ) (n : ℕ) (at : w ≡ 46 ∷ take (len - 1) (drop 1 text)) (digits : n ≡ prefix_len (is_digit hex) (drop 1 text)) where
  pub tail_digits : len - 1 ≤ n → PlainTail hex w
  tail_digits h = subst (PlainTail hex) (sym at) (tail_of_digits hex (take (len - 1) (drop 1 text)) (taken_pass (is_digit hex) (len - 1) (drop 1 text) (omega (arith, h, digits))))

  pub tail_parts : n < len - 1 → PlainExponent hex (take (len - 1 - n) (drop (1 + n) text)) → PlainTail hex w
  tail_parts h x =
      let after = drop 1 text in
      let same : prefix_len (is_digit hex) (take (len - 1) after) ≡ prefix_len (is_digit hex) after = taken_prefix (is_digit hex) (len - 1) after (omega (arith, h, digits)) in
      let parts : n + (len - 1 - n) ≡ len - 1 = omega arith in
      let there : drop n (take (len - 1) after) ≡ take (len - 1 - n) (drop (1 + n) text) =
      ap (λ k. drop n (take k after)) (sym parts) ∙ drop-take n (len - 1 - n) after ∙ ap (take (len - 1 - n)) (drop-drop n 1 text) in
      subst (PlainTail hex) (sym at) (tail_of_parts hex (take (len - 1) after) n (omega (arith, digits, same)) (subst (PlainExponent hex) (sym there) x))

-- The first len bytes of a text are digits, and then a fraction, an exponent or both.
pub decimals_of : (hex : Bool) (text : List ℕ) (len n : ℕ) → n ≡ prefix_len (is_digit hex) text → n ≢ 0 → n < len → PlainTail hex (take (len - n) (drop n text)) → PlainDecimals hex (take len text)
decimals_of hex text len n digits some fewer tail =
    let same : prefix_len (is_digit hex) (take len text) ≡ n = taken_prefix (is_digit hex) len text (omega (arith, digits, fewer)) ∙ sym digits in
    let parts : n + (len - n) ≡ len = omega arith in
    let there : drop n (take len text) ≡ take (len - n) (drop n text) = ap (λ k. drop n (take k text)) (sym parts) ∙ drop-take n (len - n) text in
    decimals_then hex (take len text) n (omega (arith, same)) some (subst (PlainTail hex) (sym there) tail)

-- a word of such parts after a sign or none is a float, and so is one of hexadecimal parts after `0x`
pub decimal_float : (w : List ℕ) (kind : TokenKind) → IsPlainFloat false (unsigned w) kind → Number w kind
decimal_float w kind (e, (t, d, h, u)) = subst (Number w) (sym e) (decimals (decimal d) h, sym (signed_no_underscore w u))

pub hexadecimal_float : (w ds : List ℕ) (kind : TokenKind) → unsigned w ≡ 48 ∷ 120 ∷ ds → IsPlainFloat true ds kind → Number w kind
hexadecimal_float w ds kind cut (e, (t, d, h, u)) =
    subst (Number w) (sym e) (subst (Decimals true) (sym cut) (decimals (hexadecimal d) h), sym (signed_no_underscore w (ap has_underscores cut ∙ u)))

pub if_decimal : (w u : List ℕ) (found : Option TokenKind) → unsigned w ≡ u → IfSome found (IsPlainFloat false u) → IfSome found (Number w)
if_decimal w u None e h = tt
if_decimal w u (Some kind) e h = decimal_float w kind (subst (λ x. IsPlainFloat false x kind) (sym e) h)

pub if_hexadecimal : (w ds : List ℕ) (found : Option TokenKind) → unsigned w ≡ 48 ∷ 120 ∷ ds → IfSome found (IsPlainFloat true ds) → IfSome found (Number w)
if_hexadecimal w ds None e h = tt
if_hexadecimal w ds (Some kind) e h = hexadecimal_float w ds kind e h
