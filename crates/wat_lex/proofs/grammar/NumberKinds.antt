-- Number words and their kinds.
use Rattle.std.proofs.Common.{◌≡◌, ◌≢◌, ℕ, List, [], ◌∷◌, ◌++◌, refl, arith, sym, ◌∙◌, subst, Bool, true, false, inl, inr}
use Rattle.std.specs.Prelude.{codes}
use Rattle.wat_lex.specs.grammar.Numbers.{Digits, Fraction, Exponent, exponent, Tail, fraction, power, both, IntegralPart, decimal, hexadecimal, Decimals, decimals, Payload, payload, unsigned, Number}
use Rattle.wat_lex.specs.inside.ScannedNumbers.{Stops, LongestDigits, NoDigits, Follows, OnlyIntegralPart, NoIntegralPart}
use Rattle.wat_lex.specs.declared.lexer.kinds.FloatKind.TheVariants.{Inf, Nan, NanVal, Normal}
use Rattle.wat_lex.specs.declared.lexer.kinds.TokenKind.{TokenKind}
use Rattle.wat_lex.specs.declared.lexer.kinds.TokenKind.TheVariants.{LineComment, BlockComment, Whitespace, LParen, RParen, String, Id, Keyword, Annotation, Reserved, Integer, Float}
use Rattle.wat_lex.proofs.grammar.Digits.{digits_one, digits_first, digits_last, stops_at}
use Rattle.wat_lex.proofs.grammar.Tails.{stops_nil, tail_stops}

pub follows_stops : (hex : Bool) (r : List ℕ) → Follows hex r → Stops hex r
follows_stops hex r (inl e) = subst (Stops hex) (sym e) (stops_nil hex)
follows_stops hex r (inr t) = tail_stops hex r t

x_no_fraction : (t r : List ℕ) → Fraction false (120 ∷ t) r → ⊥
x_no_fraction t r h = elim h [ ]

x_no_exponent : (t : List ℕ) → Exponent false (120 ∷ t) → ⊥
x_no_exponent t (exponent h k) = cc

x_no_tail : (t : List ℕ) → Tail false (120 ∷ t) → ⊥
x_no_tail t (fraction h) = x_no_fraction t [] h
x_no_tail t (power h) = x_no_exponent t h
x_no_tail t (both {t = r} h k) = x_no_fraction t r h

-- `0x` begins no decimal number
pub no_decimal : (t r : List ℕ) → Digits false (48 ∷ 120 ∷ t) r → Follows false r → ⊥
no_decimal t r h f = by (digits_last false 48 (120 ∷ t) r (stops_at false 120 t refl (omega arith)) h) f
  where
    by : r ≡ 120 ∷ t → Follows false r → ⊥
    by e (inl n) = cc
    by e (inr k) = x_no_tail t (subst (Tail false) e k)

pub integral_hex : (t rest : List ℕ) → LongestDigits true t rest → OnlyIntegralPart true (48 ∷ 120 ∷ t) rest
integral_hex t rest l = record { integral = hexadecimal l.digits; only = only }
  where
    only : (k : Bool) (r : List ℕ) → IntegralPart k (48 ∷ 120 ∷ t) r → Follows k r → (k ≡ true) × (r ≡ rest)
    only k r (decimal h) f = absurd (no_decimal t r h f)
    only k r (hexadecimal h) f = (refl, digits_one true t r rest h (follows_stops true r f) l.digits l.stops)

pub integral_no_hex : (t : List ℕ) → NoDigits true t → NoIntegralPart (48 ∷ 120 ∷ t)
integral_no_hex t n k r (decimal h) f = no_decimal t r h f
integral_no_hex t n k r (hexadecimal h) f = n r (record { digits = h; stops = follows_stops true r f })

pub integral_decimal : (text rest : List ℕ) → ((t : List ℕ) → text ≢ 48 ∷ 120 ∷ t) → LongestDigits false text rest → OnlyIntegralPart false text rest
integral_decimal text rest n l = record { integral = decimal l.digits; only = λ k r h f. only text n l k r h f }
  where
    only : (text : List ℕ) → ((t : List ℕ) → text ≢ 48 ∷ 120 ∷ t) → LongestDigits false text rest → (k : Bool) (r : List ℕ) → IntegralPart k text r → Follows k r → (k ≡ false) × (r ≡ rest)
    only text n l k r (decimal h) f = (refl, digits_one false text r rest h (follows_stops false r f) l.digits l.stops)
    only text n l k r (hexadecimal {t = t} h) f = absurd (n t refl)

pub integral_no_decimal : (text : List ℕ) → ((t : List ℕ) → text ≢ 48 ∷ 120 ∷ t) → NoDigits false text → NoIntegralPart text
integral_no_decimal text n l k r (decimal h) f = l r (record { digits = h; stops = follows_stops false r f })
integral_no_decimal text n l k r (hexadecimal {t = t} h) f = n t refl

-- what no number is, a kind at a time
pub record NoNumber (s : List ℕ) : Type 0 where
  pub inf : s ≢ codes "inf"
  pub nan : s ≢ codes "nan"
  pub payload : Payload s → ⊥
  pub integer : (hex : Bool) → IntegralPart hex s [] → ⊥
  pub float : (hex : Bool) → Decimals hex s → ⊥

pub no_number : (w : List ℕ) → NoNumber (unsigned w) → (kind : TokenKind) → Number w kind → ⊥
no_number w n (Integer k) h = n.integer k.hex h.0
no_number w n (Float (Inf negative)) h = n.inf h.0
no_number w n (Float (Nan negative)) h = n.nan h.0
no_number w n (Float (NanVal negative underscores)) h = n.payload h.0
no_number w n (Float (Normal underscores hex)) h = n.float hex h.0
no_number w n LineComment h = h
no_number w n BlockComment h = h
no_number w n Whitespace h = h
no_number w n LParen h = h
no_number w n RParen h = h
no_number w n String h = h
no_number w n Id h = h
no_number w n Keyword h = h
no_number w n Annotation h = h
no_number w n Reserved h = h

no_integral : (s : List ℕ) → NoIntegralPart s → (hex : Bool) → Decimals hex s → ⊥
no_integral s n hex (decimals {t = t} h k) = n hex t h (inr k)

pub no_payload : (s : List ℕ) → ((t : List ℕ) → s ≢ codes "nan:0x" ++ t) → Payload s → ⊥
no_payload s p (payload {t = t} e h) = p t e

-- no first digits
pub none_integral : (s : List ℕ) → s ≢ codes "inf" → s ≢ codes "nan" → (Payload s → ⊥) → NoIntegralPart s → NoNumber s
none_integral s i a p n = record { inf = i; nan = a; payload = p; integer = λ hex h. n hex [] h (inl refl); float = no_integral s n }

-- first digits, and then no tail
pub none_tail : (s rest : List ℕ) (hex : Bool) → s ≢ codes "inf" → s ≢ codes "nan" → (Payload s → ⊥) → OnlyIntegralPart hex s rest → rest ≢ [] → (Tail hex rest → ⊥) → NoNumber s
none_tail s rest hex i a p o e n = none_integral s i a p (λ k r h f. by k r f (o.only k r h f))
  where
    by : (k : Bool) (r : List ℕ) → Follows k r → (k ≡ hex) × (r ≡ rest) → ⊥
    by k r (inl z) q = e (sym q.1 ∙ z)
    by k r (inr t) q = n (subst (λ x. Tail x rest) q.0 (subst (Tail k) q.1 t))

-- `nan:0x` and no digits
n_no_integral : (hex : Bool) (t r : List ℕ) → IntegralPart hex (110 ∷ t) r → ⊥
n_no_integral hex t r (decimal h) = let k = digits_first false 110 t r h in cc

n_no_decimals : (hex : Bool) (t : List ℕ) → Decimals hex (110 ∷ t) → ⊥
n_no_decimals hex t (decimals {t = r} h k) = n_no_integral hex t r h

none_after : (t : List ℕ) → (Digits true t [] → ⊥) → NoNumber (codes "nan:0x" ++ t)
none_after t n = record { inf = λ e. cc; nan = λ e. cc; payload = no_digits; integer = λ hex h. n_no_integral hex _ [] h; float = λ hex h. n_no_decimals hex _ h }
  where
    no_digits : Payload (codes "nan:0x" ++ t) → ⊥
    no_digits (payload {t = u} e h) = let k : t ≡ u = cc in n (subst (λ x. Digits true x []) (sym k) h)

pub none_payload : (s t : List ℕ) → s ≡ codes "nan:0x" ++ t → (Digits true t [] → ⊥) → NoNumber s
none_payload s t e n = subst NoNumber (sym e) (none_after t n)
