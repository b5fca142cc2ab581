-- What the code of a row says of its token's kind.
use Rattle.std.proofs.Common.{◌≡◌, ◌⊎◌, ℕ, List, true, false, refl, sym, ap, ◌∙◌, inl, inr, arith}
use Rattle.std.specs.Prelude.{if◌then◌else◌, Bool, map}
use Rattle.std.proofs.lemmas.Bool.{cases_Bool}
use Rattle.wat_lex.specs.declared.lexer.kinds.FloatKind.TheVariants.{Inf, Nan, NanVal, Normal}
use Rattle.wat_lex.specs.declared.lexer.kinds.Token.{Token}
use Rattle.wat_lex.specs.declared.lexer.kinds.TokenKind.{TokenKind}
use Rattle.wat_lex.specs.declared.lexer.kinds.TokenKind.TheVariants.{LineComment, BlockComment, Whitespace, LParen, RParen, String, Id, Keyword}
use Rattle.wat_lex.specs.declared.lexer.kinds.TokenKind.TheVariants.{Annotation, Reserved, Integer, Float}
use Rattle.wat_lex.specs.tokens.Blanks.{is_marked}
use Rattle.wat_lexer_parser.specs.lemmas.Parts.{is_paren}
use Rattle.wat_c_records.specs.Counting.{row_kind_of, opens_at}
use Rattle.wat_c_records.specs.Links.{closes, opens}
use Rattle.wat_c_records.specs.Rows.{kind_row, plain}

abbrev pub code_by : List ℕ → Token → TokenKind → ℕ
code_by x t k = (row_kind_of x t k).code

-- the code of a token's row
abbrev pub code_of : List ℕ → Token → ℕ
code_of x t = code_by x t t.kind

abbrev pub codes : List ℕ → List Token → List ℕ
codes x ts = map (code_of x) ts

abbrev open_code : Bool → ℕ
open_code b = (if b then plain opens_at else kind_row LParen).code

marked_open : (x : List ℕ) (t : Token) → code_by x t LParen ≡ 16 → is_marked x t ≡ true
marked_open x t h = elim (cases_Bool (is_marked x t)) [
  | inl on ↦ on
  | inr off ↦ let f : 4 ≡ 16 = sym (ap open_code off) ∙ h in absurd (omega (arith, f))
]

-- of a `(` with `@` after it, and of no other
pub marked_kind : (x : List ℕ) (t : Token) (k : TokenKind) → code_by x t k ≡ 16 → (k ≡ LParen) × (is_marked x t ≡ true)
marked_kind x t LParen h = (refl, marked_open x t h)
marked_kind x t LineComment h = absurd (omega (arith, h))
marked_kind x t BlockComment h = absurd (omega (arith, h))
marked_kind x t Whitespace h = absurd (omega (arith, h))
marked_kind x t RParen h = absurd (omega (arith, h))
marked_kind x t String h = absurd (omega (arith, h))
marked_kind x t Id h = absurd (omega (arith, h))
marked_kind x t Keyword h = absurd (omega (arith, h))
marked_kind x t Annotation h = absurd (omega (arith, h))
marked_kind x t Reserved h = absurd (omega (arith, h))
marked_kind x t (Integer i) h = absurd (omega (arith, h))
marked_kind x t (Float (Inf n)) h = absurd (omega (arith, h))
marked_kind x t (Float (Nan n)) h = absurd (omega (arith, h))
marked_kind x t (Float (NanVal n u)) h = absurd (omega (arith, h))
marked_kind x t (Float (Normal u w)) h = absurd (omega (arith, h))

pub code_marked : (x : List ℕ) (t : Token) → t.kind ≡ LParen → is_marked x t ≡ true → code_of x t ≡ 16
code_marked x t e m = ap (code_by x t) e ∙ ap open_code m

open_no_annotation : (x : List ℕ) (t : Token) → code_by x t LParen ≡ 9 → ⊥
open_no_annotation x t h = elim (cases_Bool (is_marked x t)) [
  | inl on ↦ let f : 16 ≡ 9 = sym (ap open_code on) ∙ h in omega (arith, f)
  | inr off ↦ let f : 4 ≡ 9 = sym (ap open_code off) ∙ h in omega (arith, f)
]

-- of an annotation, and of no other
pub annotation_kind : (x : List ℕ) (t : Token) (k : TokenKind) → code_by x t k ≡ 9 → k ≡ Annotation
annotation_kind x t Annotation h = refl
annotation_kind x t LParen h = absurd (open_no_annotation x t h)
annotation_kind x t LineComment h = absurd (omega (arith, h))
annotation_kind x t BlockComment h = absurd (omega (arith, h))
annotation_kind x t Whitespace h = absurd (omega (arith, h))
annotation_kind x t RParen h = absurd (omega (arith, h))
annotation_kind x t String h = absurd (omega (arith, h))
annotation_kind x t Id h = absurd (omega (arith, h))
annotation_kind x t Keyword h = absurd (omega (arith, h))
annotation_kind x t Reserved h = absurd (omega (arith, h))
annotation_kind x t (Integer i) h = absurd (omega (arith, h))
annotation_kind x t (Float (Inf n)) h = absurd (omega (arith, h))
annotation_kind x t (Float (Nan n)) h = absurd (omega (arith, h))
annotation_kind x t (Float (NanVal n u)) h = absurd (omega (arith, h))
annotation_kind x t (Float (Normal u w)) h = absurd (omega (arith, h))

pub code_annotation : (x : List ℕ) (t : Token) → t.kind ≡ Annotation → code_of x t ≡ 9
code_annotation x t e = ap (code_by x t) e

-- a code opens, closes or does neither, as the kind does
pub record Opening (k : TokenKind) (c : ℕ) : Type 0 where
  pub kind : k ≡ LParen
  pub opening : opens c ≡ true

pub record Ending (k : TokenKind) (c : ℕ) : Type 0 where
  pub kind : k ≡ RParen
  pub closing : closes c ≡ true

pub record Neither (k : TokenKind) (c : ℕ) : Type 0 where
  pub no_paren : is_paren k ≡ false
  pub no_opening : opens c ≡ false
  pub no_closing : closes c ≡ false

abbrev pub Sorted : TokenKind → ℕ → Type 0
Sorted k c = Opening k c ⊎ (Ending k c ⊎ Neither k c)

neither : (k : TokenKind) (c : ℕ) → is_paren k ≡ false → opens c ≡ false → closes c ≡ false → Sorted k c
neither k c p o e = inr (inr (record { no_paren = p; no_opening = o; no_closing = e }))

opening_by : (b : Bool) → opens (open_code b) ≡ true
opening_by true = refl
opening_by false = refl

pub sort : (x : List ℕ) (t : Token) (k : TokenKind) → Sorted k (code_by x t k)
sort x t LParen = inl (record { kind = refl; opening = opening_by (is_marked x t) })
sort x t RParen = inr (inl (record { kind = refl; closing = refl }))
sort x t LineComment = neither LineComment 1 refl refl refl
sort x t BlockComment = neither BlockComment 2 refl refl refl
sort x t Whitespace = neither Whitespace 3 refl refl refl
sort x t String = neither String 6 refl refl refl
sort x t Id = neither Id 7 refl refl refl
sort x t Keyword = neither Keyword 8 refl refl refl
sort x t Annotation = neither Annotation 9 refl refl refl
sort x t Reserved = neither Reserved 10 refl refl refl
sort x t (Integer i) = neither (Integer i) 11 refl refl refl
sort x t (Float (Inf n)) = neither (Float (Inf n)) 12 refl refl refl
sort x t (Float (Nan n)) = neither (Float (Nan n)) 13 refl refl refl
sort x t (Float (NanVal n u)) = neither (Float (NanVal n u)) 14 refl refl refl
sort x t (Float (Normal u w)) = neither (Float (Normal u w)) 15 refl refl refl
