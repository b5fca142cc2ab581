-- The bits of a number's value are unique, unless an allocation fails.
use Rattle.std.proofs.Common.{◌≡◌, ◌≢◌, ℕ, List, sym, ◌∙◌, ap, subst}
use Rattle.std.specs.Prelude.{Option, Some, None, Ok, IfOk, IfSome, unwrap_or}
use Rattle.std.specs.Float.Ieee.{Format}
use Rattle.wat_floats.specs.Literals.{literal}
use Rattle.wat_lex.specs.tokens.EverySetting.{ScanResultIsUnique}
use Rattle.wat_lex.specs.tokens.ReadableTokens.{token_text}
use Rattle.wat_lex.specs.tokens.Setting.{Setting}
use Rattle.wat_lex.specs.tokens.Tiling.{TokenAt}
use Rattle.wat_lex.specs.declared.lexer.kinds.Token.{Token}
use Rattle.wat_c.specs.FloatBits.{IsNumber, ReadsBits, given, out_of_range, memory, TellsBits, number, other, FindsBits, number as number_at, other as other_at, OneBits}
use Rattle.wat_c.specs.Readings.{OtherAt}
use Rattle.wat_c.proofs.OneFinding.{some_token}

some_or_none : (a : ℕ) (o : Option ℕ) → o ≡ Some a → o ≡ None → ⊥
some_or_none a o h k = let e : Some a ≡ None = sym h ∙ k in absurd cc

one_read : (format : Format) (w : List ℕ) (a b s k : ℕ) → ReadsBits format w a s → ReadsBits format w b k → s ≢ 2 → k ≢ 2 → (a ≡ b) × (s ≡ k)
one_read format w a b s k (given x h) (given y g) n m = (ap (λ o. unwrap_or o 0) (sym h ∙ g), x ∙ sym y)
one_read format w a b s k (given x h) (out_of_range y z g) n m = absurd (some_or_none a (literal format w) h g)
one_read format w a b s k (out_of_range x z h) (given y g) n m = absurd (some_or_none b (literal format w) g h)
one_read format w a b s k (out_of_range x z h) (out_of_range y u g) n m = (z ∙ sym u, x ∙ sym y)
one_read format w a b s k (memory x z h) q n m = absurd (n x)
one_read format w a b s k (given x h) (memory y z g) n m = absurd (m y)
one_read format w a b s k (out_of_range x z h) (memory y u g) n m = absurd (m y)

one_told : (format : Format) (text : List ℕ) (t : Token) (a b s k : ℕ) → TellsBits format text t a s → TellsBits format text t b k → s ≢ 2 → k ≢ 2 → (a ≡ b) × (s ≡ k)
one_told format text t a b s k (number x h) (number y g) n m = one_read format (token_text text t) a b s k h g n m
one_told format text t a b s k (number x h) (other y z g) n m = absurd (y x)
one_told format text t a b s k (other x z h) (number y g) n m = absurd (x y)
one_told format text t a b s k (other x z h) (other y u g) n m = (z ∙ sym u, h ∙ sym g)

pub bits_of_row : (format : Format) (text : List ℕ) (t : Token) → OneBits (TellsBits format text t)
unfolding OneBits
bits_of_row format text t = one_told format text t

module _ (is_at : ScanResultIsUnique) (s : Setting) (p : ℕ) where
  apart : (t : Token) → OtherAt IsNumber s p → TokenAt s p t → IsNumber t.kind → ⊥
  apart t h k x = subst (λ r. IfOk r (λ found. IfSome found (λ t. IsNumber t.kind → ⊥))) (is_at s p h.answer (Ok (Some t)) h.is_at k) h.other x

  one_found : (format : Format) (a b x k : ℕ) → FindsBits format s p a x → FindsBits format s p b k → x ≢ 2 → k ≢ 2 → (a ≡ b) × (x ≡ k)
  one_found format a b x k (number_at t i j h) (number_at u c d g) n m =
      let same = some_token u t (is_at s p (Ok (Some u)) (Ok (Some t)) c i) in
      one_read format (token_text s.text t) a b x k h (subst (λ y. ReadsBits format (token_text s.text y) b k) same g) n m
  one_found format a b x k (number_at t i j h) (other_at y z g) n m = absurd (apart t y i j)
  one_found format a b x k (other_at y z h) (number_at u c d g) n m = absurd (apart u y c d)
  one_found format a b x k (other_at y z h) (other_at u v g) n m = (z ∙ sym v, h ∙ sym g)

pub bits_at : ScanResultIsUnique → (format : Format) (s : Setting) (p : ℕ) → OneBits (FindsBits format s p)
unfolding OneBits
bits_at is_at format s p = one_found is_at s p format
