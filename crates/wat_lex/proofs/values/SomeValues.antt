-- Each word of a token reads as something.
use Rattle.std.proofs.Common.{◌≡◌, ◌⊎◌, ℕ, List, [], ◌∷◌, refl, sym, subst, Bool, true, false}
use Rattle.std.specs.Prelude.{Option, Some, None}
use Rattle.std.specs.Str.{IsUtf8, chars, is_utf8}
use Rattle.std.proofs.lemmas.Bool.{both_ways}
use Rattle.std.proofs.lemmas.Str.{IsUtf8-from_is_utf8, is_utf8-from_IsUtf8}
use Rattle.wat_lex.specs.values.Names.{Name, no_name, not_utf8}
use Rattle.wat_lex.specs.grammar.Numbers.{Fraction, bare, filled, Exponent, exponent, Tail, fraction, power, both, Decimals, decimals, unsigned, Number}
use Rattle.wat_lex.specs.values.NumberValues.{Point, no_point, bare as point_bare, filled as point_filled, Power, no_power, present}
use Rattle.wat_lex.specs.values.UniqueValues.{SomeValue, SomeName, good, fault, SomeParts, SomeCut}
use Rattle.wat_lex.specs.tokens.ReadableTokens.{IsTokenOf, token_text}
use Rattle.wat_lex.specs.tokens.Setting.{lenient}
use Rattle.wat_lex.specs.grammar.Strings.{StringWord, quoted}
use Rattle.wat_lex.specs.grammar.Words.{Word}
use Rattle.wat_lex.specs.declared.lexer.faults.LexError.{LexError}
use Rattle.wat_lex.specs.declared.lexer.kinds.FloatKind.{FloatKind}
use Rattle.wat_lex.specs.declared.lexer.kinds.FloatKind.TheVariants.{Inf, Nan, NanVal, Normal}
use Rattle.wat_lex.specs.declared.lexer.kinds.Token.{Token}
use Rattle.wat_lex.specs.declared.lexer.kinds.TokenKind.{TokenKind}
use Rattle.wat_lex.specs.declared.lexer.kinds.TokenKind.TheVariants.{String, Id, Annotation, Float}
use Rattle.wat_lex.proofs.values.Names.{string_word, name_word}
use Rattle.wat_lex.proofs.values.NumberParts.{cut_digits, cut_word}
use Rattle.wat_lex.proofs.values.NumberWords.{float_word}
use Rattle.wat_lex.proofs.tokens.ReadableTokens.{token_word}

-- ---- strings

pub value_of : (kind : TokenKind) (w : List ℕ) → kind ≡ String → Word kind w lenient → SomeValue w
value_of kind w e h =
    let s = string_word kind w e h in
    let q = s.2 in
    record { value = q.0; is = subst (λ x. StringWord lenient x q.0) (sym s.1) (quoted q.1) }

pub some_value : (text : List ℕ) (t : Token) → IsUtf8 text → IsTokenOf text t → t.kind ≡ String → SomeValue (chars (token_text text t))
some_value text t u h e = value_of t.kind (chars (token_text text t)) e (token_word text t u h)

-- ---- names

name_with : (empty : LexError) (w name : List ℕ) → Name w name → SomeName empty w
name_with empty w [] h = fault (no_name h)
name_with empty w (c ∷ s) h = by (is_utf8 (c ∷ s)) refl
  where
    by : (b : Bool) → is_utf8 (c ∷ s) ≡ b → SomeName empty w
    by true e = good h (IsUtf8-from_is_utf8 (c ∷ s) e) (λ n. cc)
    by false e = fault (not_utf8 h (λ u. both_ways (is_utf8 (c ∷ s)) e (is_utf8-from_IsUtf8 (c ∷ s) u)))

pub name_of : (empty : LexError) (kind : TokenKind) (w : List ℕ) → (kind ≡ Id) ⊎ (kind ≡ Annotation) → Word kind w lenient → SomeName empty w
name_of empty kind w e h =
    let n = name_word kind w e h in
    name_with empty w n.named.0 (subst (λ x. Name x n.named.0) (sym n.cut) n.named.1)

pub some_name : (empty : LexError) (text : List ℕ) (t : Token) → IsUtf8 text → IsTokenOf text t → (t.kind ≡ Id) ⊎ (t.kind ≡ Annotation) → SomeName empty (chars (token_text text t))
some_name empty text t u h e = name_of empty t.kind (chars (token_text text t)) e (token_word text t u h)

-- ---- floats

-- what follows first digits, in its parts
record After (hex : Bool) (tail : List ℕ) : Type 0 where
  rest : List ℕ
  fraction : Option (List ℕ)
  exponent : Option (List ℕ)
  point : Point hex tail fraction rest
  power : Power hex rest exponent

fraction_point : (hex : Bool) (s r : List ℕ) → Fraction hex s r → (f : Option (List ℕ)) × Point hex s f r
fraction_point hex s r bare = (None, point_bare)
fraction_point hex s r (filled {t = t} h) = let p = cut_digits hex t r h in (Some p.0, point_filled p.1 p.2)

exponent_power : (hex : Bool) (s : List ℕ) → Exponent hex s → (x : Option (List ℕ)) × Power hex s x
exponent_power hex s (exponent {t = t} h k) = (Some t, present h k)

after : (hex : Bool) (s : List ℕ) → Tail hex s → After hex s
after hex s (fraction h) = let p = fraction_point hex s [] h in record { rest = []; fraction = p.0; exponent = None; point = p.1; power = no_power }
after hex s (power h) = let q = exponent_power hex s h in record { rest = s; fraction = None; exponent = q.0; point = no_point; power = q.1 }
after hex s (both {t = t} h k) =
    let p = fraction_point hex s t h in
    let q = exponent_power hex t k in
    record { rest = t; fraction = p.0; exponent = q.0; point = p.1; power = q.1 }

parts_of : (hex : Bool) (w : List ℕ) → Decimals hex (unsigned w) → SomeParts hex w
parts_of hex w (decimals {t = t} h k) =
    let p = cut_word hex w t h in
    let b = after hex t k in
    record {
      leading = p.0;
      fraction = b.fraction;
      exponent = b.exponent;
      parts = record { tail = t; rest = b.rest; cut = p.1; first = p.2; point = b.point; power = b.power };
    }

cut_of : (kind : FloatKind) (w : List ℕ) → Number w (Float kind) → SomeCut kind w
cut_of (Inf n) w h = tt
cut_of (Nan n) w h = tt
cut_of (NanVal n u) w h = tt
cut_of (Normal u hex) w h = parts_of hex w h.0

pub some_cut : (kind : FloatKind) (text : List ℕ) (t : Token) → IsUtf8 text → IsUtf8 (token_text text t) → IsTokenOf text t → t.kind ≡ Float kind → SomeCut kind (chars (token_text text t))
some_cut kind text t u v h e =
    let n = float_word (token_text text t) t.kind kind v e (token_word text t u h) in
    subst (SomeCut kind) (sym n.same) (cut_of kind (token_text text t) n.is)
