-- A word of decimal digits alone is an integer, and so is one of hexadecimal digits alone after `0x`.
use Rattle.std.proofs.Common.{◌≡◌, ◌≢◌, ◌≤◌, ◌+◌, ◌-◌, ℕ, zero, suc, List, [], ◌∷◌, length, take, drop, refl, arith, ap, sym, ◌∙◌, subst, Bool, true, false, cond, ◌||◌, inl, inr}
use Rattle.std.specs.Prelude.{◌==◌}
use Rattle.std.specs.Char.{is_ascii_digit}
use Rattle.std.specs.List.{prefix_len}
use Rattle.std.proofs.lemmas.List.{drop-drop, drop-take, length-take-le}
use Rattle.std.proofs.lemmas.Bool.{cases_Bool, eqb-true, or_cases, ne_eqb}
use Rattle.wat_lex.specs.grammar.Numbers.{Digits, last, next, is_digit, unsigned, has_underscores}
use Rattle.wat_lex.specs.grammar.Classes.{is_hex}
use Rattle.wat_lex.proofs.grammar.Digits.{underscore_no_digit}

-- the first passes, and the others do
record AllPass (p : ℕ → Bool) (d : ℕ) (t : List ℕ) : Type 0 where
  first : p d ≡ true
  others : prefix_len p t ≡ length t

all_pass : (p : ℕ → Bool) (d : ℕ) (t : List ℕ) → prefix_len p (d ∷ t) ≡ length (d ∷ t) → AllPass p d t
all_pass p d t e =
    elim (cases_Bool (p d)) [
      | inl h ↦ record { first = h; others = omega (arith, e, ap (λ x. cond x (1 + prefix_len p t) 0) h) }
      | inr h ↦ absurd (omega (arith, e, ap (λ x. cond x (1 + prefix_len p t) 0) h))
    ]

pub digits_of : (hex : Bool) (t : List ℕ) → t ≢ [] → prefix_len (is_digit hex) t ≡ length t → Digits hex t []
digits_of hex [] n e = absurd (n refl)
digits_of hex (d ∷ []) n e = let k = all_pass (is_digit hex) d [] e in last k.first
digits_of hex (d ∷ c ∷ t) n e = let k = all_pass (is_digit hex) d (c ∷ t) e in next k.first (digits_of hex (c ∷ t) (λ z. cc) k.others)

pub digits_alone : (t : List ℕ) → t ≢ [] → prefix_len is_ascii_digit t ≡ length t → Digits false t []
digits_alone t n e = digits_of false t n e

pub hex_digits_alone : (t : List ℕ) → t ≢ [] → prefix_len is_hex t ≡ length t → Digits true t []
hex_digits_alone t n e = digits_of true t n e

pub no_underscore : (hex : Bool) (t : List ℕ) → prefix_len (is_digit hex) t ≡ length t → has_underscores t ≡ false
no_underscore hex [] e = refl
no_underscore hex (d ∷ t) e =
    let k = all_pass (is_digit hex) d t e in
    let other : d ≢ 95 = λ z. underscore_no_digit hex (sym (ap (is_digit hex) z) ∙ k.first) in
    ap (λ b. b || has_underscores t) (ne_eqb d 95 other) ∙ no_underscore hex t k.others

-- A sign is not an underscore.
pub signed_no_underscore : (w : List ℕ) → has_underscores (unsigned w) ≡ false → has_underscores w ≡ false
signed_no_underscore [] e = refl
signed_no_underscore (c ∷ w) e =
    elim (cases_Bool (c == 43 || c == 45)) [
      | inl h ↦
          let after : unsigned (c ∷ w) ≡ w = ap (λ b. cond b w (c ∷ w)) h in
          let other : c ≢ 95 = elim (or_cases (c == 43) (c == 45) h) [ inl a ↦ (λ z. let k = eqb-true c 43 a in omega arith) | inr a ↦ (λ z. let k = eqb-true c 45 a in omega arith) ] in
          ap (λ b. b || has_underscores w) (ne_eqb c 95 other) ∙ sym (ap has_underscores after) ∙ e
      | inr h ↦
          let same : unsigned (c ∷ w) ≡ c ∷ w = ap (λ b. cond b w (c ∷ w)) h in
          sym (ap has_underscores same) ∙ e
    ]

pub digits_no_underscore : (w : List ℕ) → prefix_len is_ascii_digit (unsigned w) ≡ length (unsigned w) → has_underscores w ≡ false
digits_no_underscore w e = signed_no_underscore w (no_underscore false (unsigned w) e)

pub hex_digits_no_underscore : (w ds : List ℕ) → unsigned w ≡ 48 ∷ 120 ∷ ds → prefix_len is_hex ds ≡ length ds → has_underscores w ≡ false
hex_digits_no_underscore w ds cut e = signed_no_underscore w (ap has_underscores cut ∙ no_underscore true ds e)

pub unsigned_is_shorter : (w : List ℕ) → length (unsigned w) ≤ length w
unsigned_is_shorter [] = omega arith
unsigned_is_shorter (c ∷ w) =
    elim (cases_Bool (c == 43 || c == 45)) [
      | inl h ↦ omega (arith, ap (λ b. length (cond b w (c ∷ w))) h)
      | inr h ↦ omega (arith, ap (λ b. length (cond b w (c ∷ w))) h)
    ]

-- what is without its sign is the word's end
pub unsigned_is_end : (w : List ℕ) → unsigned w ≡ drop (length w - length (unsigned w)) w
unsigned_is_end [] = refl
unsigned_is_end (c ∷ w) =
    elim (cases_Bool (c == 43 || c == 45)) [
      | inl h ↦
          let after : unsigned (c ∷ w) ≡ w = ap (λ b. cond b w (c ∷ w)) h in
          let one : length (c ∷ w) - length (unsigned (c ∷ w)) ≡ 1 = omega (arith, ap length after) in
          after ∙ sym (ap (λ k. drop k (c ∷ w)) one)
      | inr h ↦
          let same : unsigned (c ∷ w) ≡ c ∷ w = ap (λ b. cond b w (c ∷ w)) h in
          let none : length (c ∷ w) - length (unsigned (c ∷ w)) ≡ 0 = omega (arith, ap length same) in
          same ∙ sym (ap (λ k. drop k (c ∷ w)) none)
    ]

-- as many as pass at the start all pass
pub taken_pass : (p : ℕ → Bool) (k : ℕ) (xs : List ℕ) → k ≤ prefix_len p xs → prefix_len p (take k xs) ≡ length (take k xs)
taken_pass p zero xs h = refl
taken_pass p (suc k) [] h = refl
taken_pass p (suc k) (x ∷ xs) h =
    elim (cases_Bool (p x)) [
      | inl e ↦
          let rest = taken_pass p k xs (omega (arith, h, ap (λ b. cond b (1 + prefix_len p xs) 0) e)) in
          omega (arith, rest, ap (λ b. cond b (1 + prefix_len p (take k xs)) 0) e)
      | inr e ↦ absurd (omega (arith, h, ap (λ b. cond b (1 + prefix_len p xs) 0) e))
    ]

-- The first len bytes of a text without their sign are the last n of them.
pub unsigned_is_at : (text : List ℕ) (len n : ℕ) → len ≤ length text → n ≡ length (unsigned (take len text)) → n ≤ len → unsigned (take len text) ≡ take n (drop (len - n) text)
unsigned_is_at text len n within e fits =
    let w = take len text in
    let first : length w - length (unsigned w) ≡ len - n = omega (arith, e, length-take-le len text within) in
    let parts : len - n + n ≡ len = omega arith in
    unsigned_is_end w ∙ ap (λ k. drop k w) first ∙ ap (λ k. drop (len - n) (take k text)) (sym parts) ∙ drop-take (len - n) n text

-- so it is of digits where as many digits are there
pub digits_of_word : (text : List ℕ) (len n : ℕ) → len ≤ length text → n ≡ length (unsigned (take len text)) → n ≤ len → n ≤ prefix_len is_ascii_digit (drop (len - n) text) → prefix_len is_ascii_digit (unsigned (take len text)) ≡ length (unsigned (take len text))
digits_of_word text len n within e fits h =
    subst (λ x. prefix_len is_ascii_digit x ≡ length x) (sym (unsigned_is_at text len n within e fits)) (taken_pass is_ascii_digit n (drop (len - n) text) h)

-- The first len bytes of a text without their sign and k bytes after it are the last n of them.
pub end_is_at : (text : List ℕ) (len n k : ℕ) → len ≤ length text → k + n ≡ length (unsigned (take len text)) → drop k (unsigned (take len text)) ≡ take n (drop (len - n) text)
end_is_at text len n k within e =
    let w = take len text in
    let long : length w ≡ len = length-take-le len text within in
    let fits = unsigned_is_shorter w in
    let first : length w - length (unsigned w) + k ≡ len - n = omega (arith, long, fits, e) in
    let parts : len - n + n ≡ len = omega (arith, long, fits, e) in
    ap (drop k) (unsigned_is_end w) ∙ drop-drop k (length w - length (unsigned w)) w ∙ ap (λ k. drop k w) first
    ∙ ap (λ k. drop (len - n) (take k text)) (sym parts) ∙ drop-take (len - n) n text

pub after_two_is_at : (text : List ℕ) (len n : ℕ) (ds : List ℕ) → len ≤ length text → unsigned (take len text) ≡ 48 ∷ 120 ∷ ds → n ≡ length ds → ds ≡ take n (drop (len - n) text)
after_two_is_at text len n ds within cut e = sym (ap (drop 2) cut) ∙ end_is_at text len n 2 within (omega (arith, e, ap length cut))

pub hex_digits_of_word : (text : List ℕ) (len n : ℕ) (ds : List ℕ) → len ≤ length text → unsigned (take len text) ≡ 48 ∷ 120 ∷ ds → n ≡ length ds → n ≤ prefix_len is_hex (drop (len - n) text) → prefix_len is_hex ds ≡ length ds
hex_digits_of_word text len n ds within cut e h =
    subst (λ x. prefix_len is_hex x ≡ length x) (sym (after_two_is_at text len n ds within cut e)) (taken_pass is_hex n (drop (len - n) text) h)
