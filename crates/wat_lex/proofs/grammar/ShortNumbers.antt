-- Numbers whose digits a bit mask tells: parts of the first len bytes of a text, from an index on.
use Rattle.std.proofs.Common.{◌≡◌, ◌≢◌, ◌≤◌, ◌<◌, ◌+◌, ◌-◌, ℕ, zero, suc, List, [], ◌∷◌, length, take, drop, get_or, refl, arith, ap, sym, ◌∙◌, subst, Bool, true, false, cond, ◌||◌}
use Rattle.std.specs.Prelude.{◌==◌}
use Rattle.std.specs.Char.{is_ascii_digit}
use Rattle.std.specs.List.{prefix_len}
use Rattle.std.proofs.lemmas.List.{drop-drop, drop-take, length-drop, length-take-le}
use Rattle.wat_lex.specs.grammar.Numbers.{is_digit, is_exponent_letter, sign_of, unsigned}
use Rattle.wat_lex.specs.inside.ScannedNumbers.{PlainDecimals, PlainExponent, PlainTail}
use Rattle.wat_lex.specs.declared.lexer.kinds.Sign.{Sign}
use Rattle.wat_lex.specs.declared.lexer.kinds.Sign.TheVariants as sign
use Rattle.wat_lex.proofs.grammar.PlainFloats.{decimals_then, exponent_is_at, first_passes, tail_of_digits, tail_of_parts}
use Rattle.wat_lex.proofs.grammar.PlainIntegers.{taken_pass, unsigned_is_shorter}

-- The first len bytes of a text from the index i on.
pub word_from : (text : List ℕ) (len i : ℕ) → i ≤ len → drop i (take len text) ≡ take (len - i) (drop i text)
word_from text len i h =
    let parts : i + (len - i) ≡ len = omega arith in
    ap (λ k. drop i (take k text)) (sym parts) ∙ drop-take i (len - i) text

taken_still : (p : ℕ → Bool) (k n : ℕ) (xs : List ℕ) → n ≤ k → n ≤ prefix_len p xs → n ≤ prefix_len p (take k xs)
taken_still p k zero xs h e = omega arith
taken_still p k (suc n) [] h e = absurd (omega arith)
taken_still p zero (suc n) (x ∷ xs) h e = absurd (omega arith)
taken_still p (suc k) (suc n) (x ∷ xs) h e =
    let f = first_passes p n x xs e in
    omega (arith, taken_still p k n xs (omega arith) f.1, ap (λ b. cond b (1 + prefix_len p (take k xs)) 0) f.0)

module _ (p : ℕ → Bool) (text : List ℕ) (len i : ℕ) where
  -- what passes within the word
  pub some_pass : (n : ℕ) → i + n ≤ len → n ≤ prefix_len p (drop i text) → n ≤ prefix_len p (drop i (take len text))
  some_pass n fits h = subst (λ x. n ≤ prefix_len p x) (sym (word_from text len i (omega arith))) (taken_still p (len - i) n (drop i text) (omega arith) h)

  -- what passes up to its end
  pub all_pass : i ≤ len → len - i ≤ prefix_len p (drop i text) → prefix_len p (drop i (take len text)) ≡ length (drop i (take len text))
  all_pass fits h = subst (λ x. prefix_len p x ≡ length x) (sym (word_from text len i fits)) (taken_pass p (len - i) (drop i text) h)

-- The first len bytes of a text are an exponent without underscores from the index i on, if the body after its letter
-- is a sign or none, and digits.
pub short_exponent : (hex : Bool) (text body : List ℕ) (len i : ℕ) → len ≤ length text → i < len → body ≡ drop 1 (take (len - i) (drop i text)) → is_exponent_letter hex (get_or (take (len - i) (drop i text)) 0 0) ≡ true
    → length (unsigned body) ≢ 0 → length (unsigned body) ≤ prefix_len is_ascii_digit (drop (len - length (unsigned body)) text) → PlainExponent hex (drop i (take len text))
short_exponent hex text body len i within one at letter some h =
    let n = length (unsigned body) in
    let room : len - i ≤ length (drop i text) = omega (arith, length-drop i text) in
    let shorter : n ≤ len - i - 1 = omega (arith, unsigned_is_shorter body, ap length at, length-drop 1 (take (len - i) (drop i text)), length-take-le (len - i) (drop i text) room) in
    let place : i + (len - i - n) ≡ len - n = omega arith in
    let there : drop (len - i - n) (drop i text) ≡ drop (len - n) text = drop-drop (len - i - n) i text ∙ ap (λ k. drop k text) place in
    subst (PlainExponent hex) (sym (word_from text len i (omega arith)))
    (exponent_is_at hex (drop i text) body (len - i) room (omega arith) at letter some (subst (λ x. n ≤ prefix_len is_ascii_digit x) (sym there) h))

-- The first len bytes of a text from the index i on, at which there is a dot.
module _ (hex : Bool) (text : List ℕ) (len i : ℕ) (within : len ≤ length text) (place : i < len) (dot : get_or text i 0 ≡ 46) where
  from_dot : drop i (take len text) ≡ 46 ∷ drop (i + 1) (take len text)
  from_dot = dot_there i text len within place dot ∙ ap (λ t. 46 ∷ t) (drop-drop 1 i (take len text))
    where
      dot_there : (i : ℕ) (text : List ℕ) (len : ℕ) → len ≤ length text → i < len → get_or text i 0 ≡ 46 → drop i (take len text) ≡ 46 ∷ drop 1 (drop i (take len text))
      dot_there i [] len within place dot = absurd (omega arith)
      dot_there i (x ∷ xs) zero within place dot = absurd (omega arith)
      dot_there zero (x ∷ xs) (suc len) within place dot = ap (λ c. c ∷ take len xs) dot
      dot_there (suc i) (x ∷ xs) (suc len) within place dot = dot_there i xs len (omega arith) (omega arith) dot

  pub short_tail_digits : len - (i + 1) ≤ prefix_len (is_digit hex) (drop (i + 1) text) → PlainTail hex (drop i (take len text))
  short_tail_digits h = subst (PlainTail hex) (sym from_dot) (tail_of_digits hex (drop (i + 1) (take len text)) (all_pass (is_digit hex) text len (i + 1) (omega arith) h))

  pub short_tail_parts : (n : ℕ) → i + 1 + n ≤ len → n ≤ prefix_len (is_digit hex) (drop (i + 1) text) → PlainExponent hex (drop (i + 1 + n) (take len text)) → PlainTail hex (drop i (take len text))
  short_tail_parts n fits h x =
      subst (PlainTail hex) (sym from_dot) (tail_of_parts hex (drop (i + 1) (take len text)) n (some_pass (is_digit hex) text len (i + 1) n fits h)
      (subst (PlainExponent hex) (sym (drop-drop n (i + 1) (take len text))) x))

-- The first len bytes of a text from the index i on are digits, and then a fraction, an exponent or both.
pub short_decimals : (hex : Bool) (text : List ℕ) (len i n : ℕ) → i + n ≤ len → n ≢ 0 → n ≤ prefix_len (is_digit hex) (drop i text) → PlainTail hex (drop (i + n) (take len text)) → PlainDecimals hex (drop i (take len text))
short_decimals hex text len i n fits some h tail =
    decimals_then hex (drop i (take len text)) n (some_pass (is_digit hex) text len i n fits h) some (subst (PlainTail hex) (sym (drop-drop n i (take len text))) tail)

-- a sign takes one byte
no_sign_by : (a b : Bool) (c : ℕ) (w : List ℕ) → sign.None ≡ cond a sign.Plus (cond b sign.Minus sign.None) → cond (a || b) w (c ∷ w) ≡ c ∷ w
no_sign_by true b c w e = cc
no_sign_by false true c w e = cc
no_sign_by false false c w e = refl

pub no_sign : (w : List ℕ) → sign.None ≡ sign_of w → unsigned w ≡ drop 0 w
no_sign [] e = refl
no_sign (c ∷ w) e = no_sign_by (c == 43) (c == 45) c w e

some_sign_by : (s : Sign) (a b : Bool) (c : ℕ) (w : List ℕ) → s ≢ sign.None → s ≡ cond a sign.Plus (cond b sign.Minus sign.None) → cond (a || b) w (c ∷ w) ≡ w
some_sign_by s true b c w n e = refl
some_sign_by s false true c w n e = refl
some_sign_by s false false c w n e = absurd (n e)

pub some_sign : (s : Sign) (w : List ℕ) → s ≢ sign.None → s ≡ sign_of w → unsigned w ≡ drop 1 w
some_sign s [] n e = absurd (n e)
some_sign s (c ∷ w) n e = some_sign_by s (c == 43) (c == 45) c w n e

-- the first byte alone tells the sign
pub sign_there : (text : List ℕ) (len : ℕ) → 0 < len → 0 < length text → sign_of (get_or text 0 0 ∷ []) ≡ sign_of (take len text)
sign_there [] len p l = absurd (omega arith)
sign_there (c ∷ t) zero p l = absurd (omega arith)
sign_there (c ∷ t) (suc n) p l = refl
