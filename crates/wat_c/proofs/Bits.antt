-- The sign, the magnitude and the two's complement of an integer's row.
use Rattle.std.proofs.Common.{◌≡◌, ◌≢◌, ◌≤◌, ◌*◌, ◌^◌, ℕ, List, [], ◌∷◌, refl, ap, sym, ◌∙◌, subst, arith, inl, inr, Bool, true, false, cond}
use Rattle.std.specs.Prelude.{◌==◌, if◌then◌else◌, Option, Some, None, Ok, nat_lt, nat_le}
use Rattle.std.specs.Str.Parse.{digits_value}
use Rattle.std.proofs.lemmas.Bool.{cases_Bool, eqb-true}
use Rattle.std.proofs.lemmas.Bool.Decides.{nat_tests}
use Rattle.wat_lex.specs.grammar.Numbers.{is_negative, sign_of, sign_token, unsigned}
use Rattle.wat_lex.specs.tokens.ReadableTokens.{word_of}
use Rattle.wat_lex.specs.values.NumberValues.{base, after_prefix, joined, number_text, bare_digits}
use Rattle.wat_lex.specs.declared.lexer.kinds.Sign.TheVariants as sign
use Rattle.wat_lex.specs.declared.lexer.kinds.Token.{Token}
use Rattle.wat_lex.specs.declared.lexer.kinds.TokenKind.{TokenKind}
use Rattle.wat_lex.specs.declared.lexer.kinds.TokenKind.TheVariants as kind
use Rattle.wat_lexer_parser.specs.parser.Takers.{as_integer, is_minus}
use Rattle.wat_c_records.specs.Counting.{IsRow}
use Rattle.wat_c_records.specs.Rows.{sign_code}
use Rattle.wat_c_records.specs.declared.counting.Row.{Row}
use Rattle.wat_c.specs.ByRow.{kind_of, token_of, sign_known}
use Rattle.wat_c.specs.Numbers.{half_range, wrap_to_bits, in_bits_of, bits_known, number_known, no_number, signed_digits}
use Rattle.wat_c.specs.Readings.{IsInteger, ReadsInteger}
use Rattle.wat_c.proofs.IntegerRows.{IntegerWord}
use Rattle.wat_c.proofs.RowTokens.{integer_by_code, not_integer}

minus_known : (s : ℕ) → is_minus (sign_token (sign_known s)) ≡ (s == 2)
minus_known s = elim (cases_Bool (s == 1)) [
  | inl e ↦ (let one = eqb-true s 1 e in subst (λ x. is_minus (sign_token (sign_known x)) ≡ (x == 2)) (sym one) refl)
  | inr e ↦ ap (λ b. is_minus (sign_token (cond b sign.Plus (cond (s == 2) sign.Minus sign.None)))) e ∙ by (s == 2)
]
  where
    by : (b : Bool) → is_minus (sign_token (cond b sign.Minus sign.None)) ≡ b
    by true = refl
    by false = refl

-- what is written after the sign and `0x` of an integer's row
abbrev pub written : List ℕ → Row → List ℕ
written text row = after_prefix row.kind.hex (unsigned (word_of text (token_of row)))

pub number_of_row : (text : List ℕ) (row : Row) → row.kind.code ≡ 11
    → as_integer text (token_of row) (kind_of row.kind) ≡ Some (Ok (row.kind.sign == 2, digits_value (base row.kind.hex) (joined (written text row))))
number_of_row text row e =
    ap (as_integer text (token_of row)) (integer_by_code row.kind e) ∙ ap (λ b. Some (Ok (b, digits_value (base row.kind.hex) (joined (written text row))))) (minus_known row.kind.sign)

pub no_integer : (text : List ℕ) (t : Token) (k : TokenKind) → (IsInteger k → ⊥) → as_integer text t k ≡ None
no_integer text t kind.LineComment n = refl
no_integer text t kind.BlockComment n = refl
no_integer text t kind.Whitespace n = refl
no_integer text t kind.LParen n = refl
no_integer text t kind.RParen n = refl
no_integer text t kind.String n = refl
no_integer text t kind.Id n = refl
no_integer text t kind.Keyword n = refl
no_integer text t kind.Annotation n = refl
no_integer text t kind.Reserved n = refl
no_integer text t (kind.Integer k) n = absurd (n (k, refl))
no_integer text t (kind.Float k) n = refl

-- Integers of more than 64 bits are out of range.
pub too_big : (half : ℕ) (signed minus : Bool) (n : ℕ) → half ≤ 2 ^ 63 → 2 ^ 64 ≤ n → wrap_to_bits half signed (minus, n) ≡ None
too_big half true true n b m = let f : nat_le n half ≡ false = grind (arith, nat_tests) in rw f refl
too_big half true false n b m =
    let f : nat_lt n half ≡ false = grind (arith, nat_tests) in
    let g : nat_lt n (2 * half) ≡ false = grind (arith, nat_tests) in
    rw (f, g) refl
too_big half false true n b m = refl
too_big half false false n b m = let g : nat_lt n (2 * half) ≡ false = grind (arith, nat_tests) in rw g refl

negative_known : (w : List ℕ) → is_negative w ≡ (sign_code (sign_token (sign_of w)) == 2)
negative_known [] = refl
negative_known (c ∷ t) = elim (cases_Bool (c == 43)) [
  | inl e ↦ (let plus = eqb-true c 43 e in subst (λ x. (x == 45) ≡ (sign_code (sign_token (sign_of (x ∷ t))) == 2)) (sym plus) refl)
  | inr e ↦ sym (ap (λ b. sign_code (sign_token (cond b sign.Plus (cond (c == 45) sign.Minus sign.None))) == 2) e ∙ by (c == 45))
]
  where
    by : (b : Bool) → (sign_code (sign_token (cond b sign.Minus sign.None)) == 2) ≡ b
    by true = refl
    by false = refl

signed_text : (hex : Bool) (w : List ℕ) (b : Bool) → is_negative w ≡ b → signed_digits b (after_prefix hex (unsigned w)) ≡ number_text hex w
signed_text hex w b e = by b ∙ ap (λ x. if x then (45 ∷ bare_digits hex w) else bare_digits hex w) (sym e)
  where
    by : (b : Bool) → signed_digits b (after_prefix hex (unsigned w)) ≡ (if b then (45 ∷ bare_digits hex w) else bare_digits hex w)
    by true = refl
    by false = refl

-- the digits of an integer's row
pub digits_read : (text : List ℕ) (row : Row) → IntegerWord text row → row.kind.code ≡ 11 → (ds : List ℕ) → ds ≡ written text row → ReadsInteger text (token_of row) (Ok (signed_digits (row.kind.sign == 2) ds))
digits_read text row h e ds f =
    let w = word_of text (token_of row) in
    let minus : is_negative w ≡ (row.kind.sign == 2) = ap is_negative h.is ∙ negative_known h.word ∙ ap (λ s. s == 2) (sym h.sign) in
    (_, integer_by_code row.kind e, ap (signed_digits (row.kind.sign == 2)) f ∙ signed_text row.kind.hex w (row.kind.sign == 2) minus)

-- ---- what is reported of a row

pub known_none : (text : List ℕ) (row : Row) (bits : ℕ) (signed : Bool) → IsRow text row → row.kind.code ≢ 11
    → number_known bits signed (as_integer text (token_of row) (kind_of row.kind)) ≡ no_number 1
known_none text row bits signed h n = ap (number_known bits signed) (no_integer text (token_of row) (kind_of row.kind) (not_integer text row h n))

module _ (text : List ℕ) (row : Row) (bits : ℕ) (signed : Bool) (e : row.kind.code ≡ 11) (ds : List ℕ) (f : ds ≡ written text row) where
  known_bits : (half : Option ℕ) → half_range bits ≡ half
      → number_known bits signed (as_integer text (token_of row) (kind_of row.kind)) ≡ bits_known (in_bits_of half signed (row.kind.sign == 2, digits_value (base row.kind.hex) (joined ds)))
  known_bits half g =
      ap (number_known bits signed) (number_of_row text row e)
      ∙ (λ i. bits_known (in_bits_of (g i) signed (row.kind.sign == 2, digits_value (base row.kind.hex) (joined (sym f i)))))

  pub known_no_half : half_range bits ≡ None → number_known bits signed (as_integer text (token_of row) (kind_of row.kind)) ≡ no_number 5
  known_no_half g = known_bits None g

  pub known_too_big : (half : ℕ) → half_range bits ≡ Some half → half ≤ 2 ^ 63 → 2 ^ 64 ≤ digits_value (base row.kind.hex) (joined ds)
      → number_known bits signed (as_integer text (token_of row) (kind_of row.kind)) ≡ no_number 5
  known_too_big half g b m = known_bits (Some half) g ∙ ap bits_known (too_big half signed (row.kind.sign == 2) (digits_value (base row.kind.hex) (joined ds)) b m)

  pub known_in_bits : (half n : ℕ) (found : Option ℕ) → half_range bits ≡ Some half → n ≡ digits_value (base row.kind.hex) (joined ds) → found ≡ wrap_to_bits half signed (row.kind.sign == 2, n)
      → number_known bits signed (as_integer text (token_of row) (kind_of row.kind)) ≡ bits_known found
  known_in_bits half n found g m k = known_bits (Some half) g ∙ ap (λ x. bits_known (wrap_to_bits half signed (row.kind.sign == 2, x))) (sym m) ∙ ap bits_known (sym k)
