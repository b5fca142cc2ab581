-- The lexemes of numbers: idchars, which are ASCII.
use Rattle.std.proofs.Common.{◌≡◌, ◌<◌, ℕ, zero, suc, List, [], ◌∷◌, refl, ap, sym, ◌∙◌, subst, arith, inl, inr, Bool, true, false, cond}
use Rattle.std.specs.Prelude.{◌==◌, ◌&&◌, ◌||◌, nat_le, Option, Some, None, MatchOption}
use Rattle.std.specs.Option.{option_map}
use Rattle.std.specs.Str.{chars, IsUtf8, IsAscii}
use Rattle.std.proofs.lemmas.Bool.{cases_Bool, eqb-true, or_cases}
use Rattle.std.proofs.lemmas.Bool.Decides.{nat_tests}
use Rattle.std.proofs.lemmas.Str.{encodes-chars, encodes-IsAscii}
use Rattle.wat_lex.specs.grammar.Numbers.{Number, Digits, last, next, parted, IntegralPart, decimal, hexadecimal, Fraction, bare, filled, Exponent, exponent, Tail, fraction, power, both, Decimals, decimals, Payload, payload, is_digit, is_exponent_letter, unsigned}
use Rattle.wat_lex.specs.grammar.Runs.{Piece, Idchar, Quoted, Run, none, idchar, string, idchars, RunKind, RunWord, WordKind}
use Rattle.wat_lex.specs.tokens.Setting.{lenient}
use Rattle.wat_lex.specs.declared.lexer.kinds.FloatKind.TheVariants.{Inf, Nan, NanVal, Normal}
use Rattle.wat_lex.specs.declared.lexer.kinds.TokenKind.{TokenKind}
use Rattle.wat_lex.specs.declared.lexer.kinds.TokenKind.TheVariants.{Id, Keyword, Annotation, Reserved, String, Integer, Float}

-- ---- a run of a number's kind is the lexeme of a number

abbrev is_number : TokenKind → Bool
is_number (Integer k) = true
is_number (Float k) = true
is_number kind = false

module _ (k : TokenKind) (n : is_number k ≡ true) where
  by_first : (a b d : Bool) → k ≡ cond a Keyword (cond b Id (cond d Annotation Reserved)) → ⊥
  by_first true b d e = let h : true ≡ false = sym n ∙ ap is_number e in absurd cc
  by_first false true d e = let h : true ≡ false = sym n ∙ ap is_number e in absurd cc
  by_first false false true e = let h : true ≡ false = sym n ∙ ap is_number e in absurd cc
  by_first false false false e = let h : true ≡ false = sym n ∙ ap is_number e in absurd cc

  no_string : k ≡ String → ⊥
  no_string e = let h : true ≡ false = sym n ∙ ap is_number e in absurd cc

  by_kind : (v : List ℕ) → WordKind v k → Number v k
  by_kind v (inl n) = n
  by_kind [] (inr h) = absurd (by_first false false false h.1)
  by_kind (c ∷ v) (inr h) = absurd (by_first (nat_le 97 c && nat_le c 122) (c == 36) (c == 64) h.1)

  -- idchars that are a number
  record Spelled (ps : List Piece) : Type 0 where
    word : List ℕ
    same : idchars ps ≡ Some word
    is : Number word k

  by_option : (ps : List Piece) (o : Option (List ℕ)) → idchars ps ≡ o → MatchOption o (k ≡ Reserved) (λ w. WordKind w k) → Spelled ps
  by_option ps None e h = absurd (by_first false false false h)
  by_option ps (Some w) e h = record { word = w; same = e; is = by_kind w h }

  spelled : (ps : List Piece) → RunKind ps k → Spelled ps
  spelled [] h = by_option [] (idchars []) refl h
  spelled (Quoted v ∷ []) h = absurd (no_string h)
  spelled (Quoted v ∷ p ∷ ps) h = by_option (Quoted v ∷ p ∷ ps) (idchars (Quoted v ∷ p ∷ ps)) refl h
  spelled (Idchar c ∷ []) h = by_option (Idchar c ∷ []) (idchars (Idchar c ∷ [])) refl h
  spelled (Idchar c ∷ Quoted v ∷ []) h = absurd (by_first false (c == 36) (c == 64) h)
  spelled (Idchar c ∷ Quoted v ∷ p ∷ ps) h = by_option (Idchar c ∷ Quoted v ∷ p ∷ ps) (idchars (Idchar c ∷ Quoted v ∷ p ∷ ps)) refl h
  spelled (Idchar c ∷ Idchar d ∷ ps) h = by_option (Idchar c ∷ Idchar d ∷ ps) (idchars (Idchar c ∷ Idchar d ∷ ps)) refl h

some_tail : (c : ℕ) (o : Option (List ℕ)) (v : List ℕ) → option_map (λ cs. c ∷ cs) o ≡ Some v → (cs : List ℕ) × (o ≡ Some cs) × (c ∷ cs ≡ v)
some_tail c None v e = absurd cc
some_tail c (Some cs) v e = (cs, refl, let h : c ∷ cs ≡ v = cc in h)

run_word : (w : List ℕ) (ps : List Piece) (v : List ℕ) → Run lenient w ps [] → idchars ps ≡ Some v → w ≡ v
run_word w ps v none e = cc
run_word w ps v (idchar {c = c} {t = t} {ps = qs} h r) e =
    let s = some_tail c (idchars qs) v e in
    ap (λ x. c ∷ x) (run_word t qs s.0 r s.1) ∙ s.2
run_word w ps v (string h r) e = absurd cc

pub number_word : (k : TokenKind) (w : List ℕ) → is_number k ≡ true → RunWord k w lenient → Number w k
number_word k w n h =
    let s = spelled k n h.0 h.3 in
    subst (λ x. Number x k) (sym (run_word w h.0 s.word h.2 s.same)) s.is

-- ---- numbers are ASCII

ascii_more : (c : ℕ) (s : List ℕ) → c < 128 → IsAscii s → IsAscii (c ∷ s)
ascii_more c s h k zero = h
ascii_more c s h k (suc i) = k i

ascii_none : IsAscii []
ascii_none i = omega arith

digit_ascii : (hex : Bool) (c : ℕ) → is_digit hex c ≡ true → c < 128
digit_ascii true c h = grind (arith, nat_tests)
digit_ascii false c h = grind (arith, nat_tests)

digits_ascii : (hex : Bool) (s r : List ℕ) → IsAscii r → Digits hex s r → IsAscii s
digits_ascii hex s r k (last {d = d} h) = ascii_more d r (digit_ascii hex d h) k
digits_ascii hex s r k (next {d = d} {t = t} h m) = ascii_more d t (digit_ascii hex d h) (digits_ascii hex t r k m)
digits_ascii hex s r k (parted {d = d} {t = t} h m) = ascii_more d (95 ∷ t) (digit_ascii hex d h) (ascii_more 95 t (omega arith) (digits_ascii hex t r k m))

integral_ascii : (hex : Bool) (s r : List ℕ) → IsAscii r → IntegralPart hex s r → IsAscii s
integral_ascii hex s r k (decimal h) = digits_ascii false s r k h
integral_ascii hex s r k (hexadecimal {t = t} h) = ascii_more 48 (120 ∷ t) (omega arith) (ascii_more 120 t (omega arith) (digits_ascii true t r k h))

word_ascii : (w : List ℕ) → IsAscii (unsigned w) → IsAscii w
word_ascii [] h = ascii_none
word_ascii (c ∷ t) h = elim (cases_Bool (c == 43 || c == 45)) [
  | inl e ↦ ascii_more c t (sign_ascii e) (subst IsAscii (ap (λ b. cond b t (c ∷ t)) e) h)
  | inr e ↦ subst IsAscii (ap (λ b. cond b t (c ∷ t)) e) h
]
  where
    sign_ascii : (c == 43 || c == 45) ≡ true → c < 128
    sign_ascii e = elim (or_cases (c == 43) (c == 45) e) [ inl a ↦ (let k = eqb-true c 43 a in omega arith) | inr a ↦ (let k = eqb-true c 45 a in omega arith) ]

letter_ascii : (hex : Bool) (c : ℕ) → is_exponent_letter hex c ≡ true → c < 128
letter_ascii true c h = elim (or_cases (112 == c) _ h) [ inl e ↦ (let k = eqb-true 112 c e in omega (arith, k)) | inr r ↦ elim (or_cases (80 == c) _ r) [ inl e ↦ (let k = eqb-true 80 c e in omega (arith, k)) | inr q ↦ cc ] ]
letter_ascii false c h = elim (or_cases (101 == c) _ h) [ inl e ↦ (let k = eqb-true 101 c e in omega (arith, k)) | inr r ↦ elim (or_cases (69 == c) _ r) [ inl e ↦ (let k = eqb-true 69 c e in omega (arith, k)) | inr q ↦ cc ] ]

exponent_ascii : (hex : Bool) (s : List ℕ) → Exponent hex s → IsAscii s
exponent_ascii hex s (exponent {c = c} {t = t} h k) = ascii_more c t (letter_ascii hex c h) (word_ascii t (digits_ascii false (unsigned t) [] ascii_none k))

fraction_ascii : (hex : Bool) (s r : List ℕ) → IsAscii r → Fraction hex s r → IsAscii s
fraction_ascii hex s r k bare = ascii_more 46 r (omega arith) k
fraction_ascii hex s r k (filled {t = t} h) = ascii_more 46 t (omega arith) (digits_ascii hex t r k h)

tail_ascii : (hex : Bool) (s : List ℕ) → Tail hex s → IsAscii s
tail_ascii hex s (fraction h) = fraction_ascii hex s [] ascii_none h
tail_ascii hex s (power h) = exponent_ascii hex s h
tail_ascii hex s (both {t = t} h k) = fraction_ascii hex s t (exponent_ascii hex t k) h

decimals_ascii : (hex : Bool) (s : List ℕ) → Decimals hex s → IsAscii s
decimals_ascii hex s (decimals {t = t} h k) = integral_ascii hex s t (tail_ascii hex t k) h

nan_ascii : (t : List ℕ) → IsAscii t → IsAscii (110 ∷ 97 ∷ 110 ∷ t)
nan_ascii t h = ascii_more 110 (97 ∷ 110 ∷ t) (omega arith) (ascii_more 97 (110 ∷ t) (omega arith) (ascii_more 110 t (omega arith) h))

payload_ascii : (s : List ℕ) → Payload s → IsAscii s
payload_ascii s (payload {t = t} e h) =
    let digits = ascii_more 48 (120 ∷ t) (omega arith) (ascii_more 120 t (omega arith) (digits_ascii true t [] ascii_none h)) in
    subst IsAscii (sym e) (nan_ascii (58 ∷ 48 ∷ 120 ∷ t) (ascii_more 58 (48 ∷ 120 ∷ t) (omega arith) digits))

name_ascii : (a b c : ℕ) → a < 128 → b < 128 → c < 128 → IsAscii (a ∷ b ∷ c ∷ [])
name_ascii a b c h k m = ascii_more a (b ∷ c ∷ []) h (ascii_more b (c ∷ []) k (ascii_more c [] m ascii_none))

unsigned_ascii : (k : TokenKind) (w : List ℕ) → is_number k ≡ true → Number w k → IsAscii (unsigned w)
unsigned_ascii (Integer k) w n h = integral_ascii k.hex (unsigned w) [] ascii_none h.0
unsigned_ascii (Float (Inf b)) w n h = subst IsAscii (sym h.0) (name_ascii 105 110 102 (omega arith) (omega arith) (omega arith))
unsigned_ascii (Float (Nan b)) w n h = subst IsAscii (sym h.0) (name_ascii 110 97 110 (omega arith) (omega arith) (omega arith))
unsigned_ascii (Float (NanVal b u)) w n h = payload_ascii (unsigned w) h.0
unsigned_ascii (Float (Normal u x)) w n h = decimals_ascii x (unsigned w) h.0
unsigned_ascii kind w n h = absurd h

pub number_ascii : (k : TokenKind) (w : List ℕ) → is_number k ≡ true → Number w k → IsAscii w
number_ascii k w n h = word_ascii w (unsigned_ascii k w n h)

-- The bytes of a number's lexeme are its characters.
pub record NumberText (bytes : List ℕ) (k : TokenKind) : Type 0 where
  pub same : chars bytes ≡ bytes
  pub is : Number bytes k

pub number_text : (bytes : List ℕ) (k : TokenKind) → IsUtf8 bytes → is_number k ≡ true → RunWord k (chars bytes) lenient → NumberText bytes k
number_text bytes k u n h =
    let is = number_word k (chars bytes) n h in
    let same : chars bytes ≡ bytes = sym (encodes-IsAscii (chars bytes) (number_ascii k (chars bytes) n is)) ∙ encodes-chars bytes u in
    record { same = same; is = subst (λ x. Number x k) same is }
