-- A word has one kind.
use Rattle.std.proofs.Common.{◌≡◌, ℕ, List, [], ◌∷◌, refl, arith, get_or, drop, ap, ap₂, sym, ◌∙◌, subst, Bool, true, false, inl, inr}
use Rattle.std.specs.Prelude.{codes, Option, Some, None, MatchOption}
use Rattle.std.proofs.lemmas.Bool.{both_ways}
use Rattle.wat_lex.specs.grammar.Numbers.{Digits, is_digit, sign_of, is_negative, has_underscores, IntegralPart, decimal, hexadecimal, Tail, Decimals, decimals, Payload, payload, unsigned, Number}
use Rattle.wat_lex.specs.inside.ScannedNumbers.{Follows}
use Rattle.wat_lex.specs.grammar.Runs.{Piece, Idchar, Quoted, idchars, RunKind, WordKind}
use Rattle.wat_lex.specs.declared.lexer.kinds.Sign.{Sign}
use Rattle.wat_lex.specs.declared.lexer.kinds.IntegerKind.{IntegerKind}
use Rattle.wat_lex.specs.declared.lexer.kinds.FloatKind.TheVariants.{Inf, Nan, NanVal, Normal}
use Rattle.wat_lex.specs.declared.lexer.kinds.TokenKind.{TokenKind}
use Rattle.wat_lex.specs.declared.lexer.kinds.TokenKind.TheVariants.{LineComment, BlockComment, Whitespace, LParen, RParen, String, Id, Keyword, Annotation, Reserved, Integer, Float}
use Rattle.wat_lex.proofs.grammar.Digits.{digits_one, digits_first}
use Rattle.wat_lex.proofs.grammar.Tails.{tail_none}
use Rattle.wat_lex.proofs.grammar.NumberKinds.{follows_stops, no_decimal}

-- first digits, up to what may follow them, are read in one way
pub integral_one : (h k : Bool) (s r q : List ℕ) → IntegralPart h s r → Follows h r → IntegralPart k s q → Follows k q → (h ≡ k) × (r ≡ q)
integral_one h k s r q (decimal a) f (decimal b) g = (refl, digits_one false s r q a (follows_stops false r f) b (follows_stops false q g))
integral_one h k s r q (decimal a) f (hexadecimal {t = t} b) g = absurd (no_decimal t r a f)
integral_one h k s r q (hexadecimal {t = t} a) f (decimal b) g = absurd (no_decimal t q b g)
integral_one h k s r q (hexadecimal {t = t} a) f (hexadecimal b) g = (refl, digits_one true t r q a (follows_stops true r f) b (follows_stops true q g))

-- a number, by its language
data IsNumber : List ℕ → TokenKind → Type 0 where
  integer : {w : List ℕ} {k : IntegerKind} → IntegralPart k.hex (unsigned w) [] → k.sign ≡ sign_of w → k.has_underscores ≡ has_underscores w → IsNumber w (Integer k)
  inf : {w : List ℕ} {n : Bool} → unsigned w ≡ codes "inf" → n ≡ is_negative w → IsNumber w (Float (Inf n))
  nan : {w : List ℕ} {n : Bool} → unsigned w ≡ codes "nan" → n ≡ is_negative w → IsNumber w (Float (Nan n))
  nan_payload : {w : List ℕ} {n u : Bool} → Payload (unsigned w) → n ≡ is_negative w → u ≡ has_underscores w → IsNumber w (Float (NanVal n u))
  float : {w : List ℕ} {u h : Bool} → Decimals h (unsigned w) → u ≡ has_underscores w → IsNumber w (Float (Normal u h))

is_number : (w : List ℕ) (kind : TokenKind) → Number w kind → IsNumber w kind
is_number w (Integer k) h = integer h.0 h.1 h.2
is_number w (Float (Inf n)) h = inf h.0 h.1
is_number w (Float (Nan n)) h = nan h.0 h.1
is_number w (Float (NanVal n u)) h = nan_payload h.0 h.1 h.2
is_number w (Float (Normal u x)) h = float h.0 h.1
is_number w LineComment h = absurd h
is_number w BlockComment h = absurd h
is_number w Whitespace h = absurd h
is_number w LParen h = absurd h
is_number w RParen h = absurd h
is_number w String h = absurd h
is_number w Id h = absurd h
is_number w Keyword h = absurd h
is_number w Annotation h = absurd h
is_number w Reserved h = absurd h

-- by the first character
first : List ℕ → ℕ
first s = get_or s 0 0

payload_first : (s : List ℕ) → Payload s → first s ≡ 110
unfolding first
payload_first s (payload e h) = ap (λ x. get_or x 0 0) e

payload_nan : (s : List ℕ) → Payload s → s ≡ codes "nan" → ⊥
payload_nan s (payload {t = t} e h) k = let g : 58 ∷ 48 ∷ 120 ∷ t ≡ [] = ap (drop 3) (sym e ∙ k) in cc

digits_digit : (s r : List ℕ) → Digits false s r → is_digit false (first s) ≡ true
unfolding first
digits_digit [] r h = elim h [ ]
digits_digit (d ∷ t) r h = digits_first false d t r h

integral_digit : (hex : Bool) (s r : List ℕ) → IntegralPart hex s r → is_digit false (first s) ≡ true
unfolding first
integral_digit hex s r (decimal h) = digits_digit s r h
integral_digit hex s r (hexadecimal h) = refl

apart : (s : List ℕ) (c : ℕ) → first s ≡ c → is_digit false c ≡ false → (hex : Bool) (r : List ℕ) → IntegralPart hex s r → ⊥
apart s c e f hex r h = both_ways (is_digit false c) f (subst (λ x. is_digit false x ≡ true) e (integral_digit hex s r h))

no_float : (s : List ℕ) (c : ℕ) → first s ≡ c → is_digit false c ≡ false → (hex : Bool) → Decimals hex s → ⊥
no_float s c e f hex (decimals {t = t} h k) = apart s c e f hex t h

integer_float : (h k : Bool) (s : List ℕ) → IntegralPart h s [] → Decimals k s → ⊥
integer_float h k s a (decimals {t = t} b g) = let e = integral_one h k s [] t a (inl refl) b (inr g) in tail_none k (subst (Tail k) (sym e.1) g)

float_float : (h k : Bool) (s : List ℕ) → Decimals h s → Decimals k s → h ≡ k
float_float h k s (decimals {t = t} a f) (decimals {t = u} b g) = (integral_one h k s t u a (inr f) b (inr g)).0

made : Sign → Bool → Bool → IntegerKind
made s u h = record { sign = s; has_underscores = u; hex = h }

integer_same : (k l : IntegerKind) → k.sign ≡ l.sign → k.has_underscores ≡ l.has_underscores → k.hex ≡ l.hex → k ≡ l
unfolding made
integer_same k l a b c = ap (λ s. made s k.has_underscores k.hex) a ∙ ap (λ u. made l.sign u k.hex) b ∙ ap (λ h. made l.sign l.has_underscores h) c

inf_first : (s : List ℕ) → s ≡ codes "inf" → first s ≡ 105
unfolding first
inf_first s e = ap (λ x. get_or x 0 0) e

nan_first : (s : List ℕ) → s ≡ codes "nan" → first s ≡ 110
unfolding first
nan_first s e = ap (λ x. get_or x 0 0) e

one : (w : List ℕ) (k l : TokenKind) → IsNumber w k → IsNumber w l → k ≡ l
one w k l (integer {k = x} h a b) (integer {k = y} g c d) = ap Integer (integer_same x y (a ∙ sym c) (b ∙ sym d) (integral_one x.hex y.hex (unsigned w) [] [] h (inl refl) g (inl refl)).0)
one w k l (integer {k = x} h a b) (inf e f) = absurd (apart (unsigned w) 105 (inf_first (unsigned w) e) refl x.hex [] h)
one w k l (integer {k = x} h a b) (nan e f) = absurd (apart (unsigned w) 110 (nan_first (unsigned w) e) refl x.hex [] h)
one w k l (integer {k = x} h a b) (nan_payload e f g) = absurd (apart (unsigned w) 110 (payload_first (unsigned w) e) refl x.hex [] h)
one w k l (integer {k = x} h a b) (float {h = y} e f) = absurd (integer_float x.hex y (unsigned w) h e)
one w k l (inf e f) (integer {k = x} h a b) = absurd (apart (unsigned w) 105 (inf_first (unsigned w) e) refl x.hex [] h)
one w k l (inf e f) (inf g h) = ap (λ n. Float (Inf n)) (f ∙ sym h)
one w k l (inf e f) (nan g h) = let c = inf_first (unsigned w) e in let d = nan_first (unsigned w) g in absurd (omega (arith, c, d))
one w k l (inf e f) (nan_payload g h i) = let c = inf_first (unsigned w) e in let d = payload_first (unsigned w) g in absurd (omega (arith, c, d))
one w k l (inf e f) (float {h = y} g h) = absurd (no_float (unsigned w) 105 (inf_first (unsigned w) e) refl y g)
one w k l (nan e f) (integer {k = x} h a b) = absurd (apart (unsigned w) 110 (nan_first (unsigned w) e) refl x.hex [] h)
one w k l (nan e f) (inf g h) = let c = nan_first (unsigned w) e in let d = inf_first (unsigned w) g in absurd (omega (arith, c, d))
one w k l (nan e f) (nan g h) = ap (λ n. Float (Nan n)) (f ∙ sym h)
one w k l (nan e f) (nan_payload g h i) = absurd (payload_nan (unsigned w) g e)
one w k l (nan e f) (float {h = y} g h) = absurd (no_float (unsigned w) 110 (nan_first (unsigned w) e) refl y g)
one w k l (nan_payload e f j) (integer {k = x} h a b) = absurd (apart (unsigned w) 110 (payload_first (unsigned w) e) refl x.hex [] h)
one w k l (nan_payload e f j) (inf g h) = let c = payload_first (unsigned w) e in let d = inf_first (unsigned w) g in absurd (omega (arith, c, d))
one w k l (nan_payload e f j) (nan g h) = absurd (payload_nan (unsigned w) e g)
one w k l (nan_payload e f j) (nan_payload g h i) = ap₂ (λ n u. Float (NanVal n u)) (f ∙ sym h) (j ∙ sym i)
one w k l (nan_payload e f j) (float {h = y} g h) = absurd (no_float (unsigned w) 110 (payload_first (unsigned w) e) refl y g)
one w k l (float {h = z} e f) (integer {k = x} h a b) = absurd (integer_float x.hex z (unsigned w) h e)
one w k l (float {h = z} e f) (inf g h) = absurd (no_float (unsigned w) 105 (inf_first (unsigned w) g) refl z e)
one w k l (float {h = z} e f) (nan g h) = absurd (no_float (unsigned w) 110 (nan_first (unsigned w) g) refl z e)
one w k l (float {h = z} e f) (nan_payload g h i) = absurd (no_float (unsigned w) 110 (payload_first (unsigned w) g) refl z e)
one w k l (float {h = z} e f) (float {h = y} g h) = ap₂ (λ u x. Float (Normal u x)) (f ∙ sym h) (float_float z y (unsigned w) e g)

pub number_one : (w : List ℕ) (k l : TokenKind) → Number w k → Number w l → k ≡ l
number_one w k l h g = one w k l (is_number w k h) (is_number w l g)

-- and so has a run
pub word_one : (w : List ℕ) (k l : TokenKind) → WordKind w k → WordKind w l → k ≡ l
word_one w k l (inl a) (inl b) = number_one w k l a b
word_one w k l (inl a) (inr b) = absurd (b.0 k a)
word_one w k l (inr a) (inl b) = absurd (a.0 l b)
word_one w k l (inr a) (inr b) = a.1 ∙ sym b.1

option_one : (o : Option (List ℕ)) (k l : TokenKind) → MatchOption o (k ≡ Reserved) (λ w. WordKind w k) → MatchOption o (l ≡ Reserved) (λ w. WordKind w l) → k ≡ l
option_one None k l h g = h ∙ sym g
option_one (Some w) k l h g = word_one w k l h g

pub run_kind_one : (ps : List Piece) (k l : TokenKind) → RunKind ps k → RunKind ps l → k ≡ l
run_kind_one [] k l h g = option_one (Some []) k l h g
run_kind_one (Quoted v ∷ []) k l h g = h ∙ sym g
run_kind_one (Quoted v ∷ p ∷ ps) k l h g = h ∙ sym g
run_kind_one (Idchar c ∷ []) k l h g = option_one (Some (c ∷ [])) k l h g
run_kind_one (Idchar c ∷ Quoted v ∷ []) k l h g = h ∙ sym g
run_kind_one (Idchar c ∷ Quoted v ∷ p ∷ ps) k l h g = option_one (idchars (Idchar c ∷ Quoted v ∷ p ∷ ps)) k l h g
run_kind_one (Idchar c ∷ Idchar d ∷ ps) k l h g = option_one (idchars (Idchar c ∷ Idchar d ∷ ps)) k l h g
