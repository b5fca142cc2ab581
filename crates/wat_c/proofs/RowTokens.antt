-- The token that a row of a text tells, and that it may be read.
use Rattle.std.proofs.Common.{◌≡◌, ◌≢◌, ◌≤◌, ◌+◌, ℕ, List, length, refl, ap, sym, ◌∙◌, subst, inl, inr, Bool, true, false}
use Rattle.std.specs.Prelude.{◌==◌, if◌then◌else◌}
use Rattle.std.specs.Str.{IsUtf8, IsCharBoundary}
use Rattle.wat_lex.specs.grammar.Numbers.{sign_token}
use Rattle.wat_lex.specs.tokens.EverySetting.{TokensAreReadable, TokensEndAtBoundaries}
use Rattle.wat_lex.specs.tokens.ReadableTokens.{IsTokenOf}
use Rattle.wat_lex.specs.values.KindNumbers.{kind_number}
use Rattle.wat_lex.specs.declared.lexer.kinds.FloatKind.{FloatKind}
use Rattle.wat_lex.specs.declared.lexer.kinds.FloatKind.TheVariants.{Inf, Nan, NanVal, Normal}
use Rattle.wat_lex.specs.declared.lexer.kinds.Sign.{Sign}
use Rattle.wat_lex.specs.declared.lexer.kinds.Sign.TheVariants as sign
use Rattle.wat_lex.specs.declared.lexer.kinds.Token.{Token}
use Rattle.wat_lex.specs.declared.lexer.kinds.TokenKind.{TokenKind}
use Rattle.wat_lex.specs.declared.lexer.kinds.TokenKind.TheVariants as kind
use Rattle.wat_lex.specs.tokens.Blanks.{is_marked}
use Rattle.wat_c_records.specs.Counting.{IsRow, row_kind_of, opens_at}
use Rattle.wat_c_records.specs.Rows.{kind_row, plain, sign_code, minus_code}
use Rattle.wat_c_records.specs.declared.counting.Row.{Row}
use Rattle.wat_c_records.specs.declared.rows.KindRow.{KindRow}
use Rattle.wat_c.specs.ByRow.{kind_of, kind_known, sign_known, token_of}
use Rattle.wat_c.specs.Readings.{IsNamed, IsInteger}

sign_back : (s : Sign) → sign_known (sign_code (sign_token s)) ≡ s
sign_back sign.None = refl
sign_back sign.Plus = refl
sign_back sign.Minus = refl

minus_back : (negative : Bool) → (minus_code negative == 2) ≡ negative
minus_back true = refl
minus_back false = refl

float_back : (k : FloatKind) → kind_of (kind_row (kind.Float k)) ≡ kind.Float k
float_back (Inf n) = ap (λ b. kind.Float (Inf b)) (minus_back n)
float_back (Nan n) = ap (λ b. kind.Float (Nan b)) (minus_back n)
float_back (NanVal n u) = ap (λ b. kind.Float (NanVal b u)) (minus_back n)
float_back (Normal u h) = refl

open_back : (marked : Bool) → kind_of (if marked then plain opens_at else kind_row kind.LParen) ≡ kind.LParen
open_back true = refl
open_back false = refl

kind_back : (text : List ℕ) (t : Token) (k : TokenKind) → kind_of (row_kind_of text t k) ≡ k
kind_back text t kind.LineComment = refl
kind_back text t kind.BlockComment = refl
kind_back text t kind.Whitespace = refl
kind_back text t kind.LParen = open_back (is_marked text t)
kind_back text t kind.RParen = refl
kind_back text t kind.String = refl
kind_back text t kind.Id = refl
kind_back text t kind.Keyword = refl
kind_back text t kind.Annotation = refl
kind_back text t kind.Reserved = refl
kind_back text t (kind.Integer k) = ap (λ s. kind.Integer (record { sign = s; has_underscores = k.has_underscores; hex = k.hex })) (sign_back k.sign)
kind_back text t (kind.Float k) = float_back k

-- a row tells one token
pub row_token : (text : List ℕ) (row : Row) (h : IsRow text row) → h.token ≡ token_of row
row_token text row h =
    let t = h.token in
    let known = h.known in
    let offset : t.offset ≡ row.offset = sym (ap (λ r. r.offset) known) in
    let len : t.len ≡ row.len = sym (ap (λ r. r.len) known) in
    let same : t.kind ≡ kind_of row.kind = sym (kind_back text t t.kind) ∙ ap (λ r. kind_of r.kind) (sym known) in
    λ i. record { offset = offset i; len = len i; kind = same i }

-- and what the row says of it
pub row_kind : (text : List ℕ) (row : Row) (h : IsRow text row) → row.kind ≡ row_kind_of text h.token (kind_of row.kind)
row_kind text row h =
    let known = h.known in
    let same = row_token text row h in
    ap (λ r. r.kind) known ∙ ap (λ k. row_kind_of text h.token k) (ap (λ t. t.kind) same)

pub row_readable : TokensAreReadable → (text : List ℕ) (row : Row) (k : TokenKind) → IsRow text row → kind_of row.kind ≡ k → IsTokenOf text (record { offset = row.offset; len = row.len; kind = k })
row_readable readable text row k h e =
    let is = readable (record { text = text; flags = h.flags }) row.offset h.token h.boundary h.is_at in
    let token : IsTokenOf text (token_of row) = subst (IsTokenOf text) (row_token text row h) is in
    subst (λ x. IsTokenOf text (record { offset = row.offset; len = row.len; kind = x })) e token

-- ---- codes of kinds

pub string_by_code : (k : KindRow) → k.code ≡ 6 → kind_of k ≡ kind.String
string_by_code k e = ap (λ c. kind_known c k.sign k.has_underscores k.hex) e

pub id_by_code : (k : KindRow) → k.code ≡ 7 → kind_of k ≡ kind.Id
id_by_code k e = ap (λ c. kind_known c k.sign k.has_underscores k.hex) e

pub annotation_by_code : (k : KindRow) → k.code ≡ 9 → kind_of k ≡ kind.Annotation
annotation_by_code k e = ap (λ c. kind_known c k.sign k.has_underscores k.hex) e

pub integer_by_code : (k : KindRow) → k.code ≡ 11 → kind_of k ≡ kind.Integer (record { sign = sign_known k.sign; has_underscores = k.has_underscores; hex = k.hex })
integer_by_code k e = ap (λ c. kind_known c k.sign k.has_underscores k.hex) e

-- the code of a kind that has one
pub code_of_row : (text : List ℕ) (row : Row) (k : TokenKind) → IsRow text row → kind_of row.kind ≡ k → k ≢ kind.LParen → row.kind.code ≡ kind_number k
code_of_row text row k h e n =
    let known = row_kind text row h in
    ap (λ r. r.code) (known ∙ ap (λ x. row_kind_of text h.token x) e) ∙ beside k n
  where
    beside : (k : TokenKind) → k ≢ kind.LParen → (row_kind_of text h.token k).code ≡ kind_number k
    beside kind.LineComment n = refl
    beside kind.BlockComment n = refl
    beside kind.Whitespace n = refl
    beside kind.LParen n = absurd (n refl)
    beside kind.RParen n = refl
    beside kind.String n = refl
    beside kind.Id n = refl
    beside kind.Keyword n = refl
    beside kind.Annotation n = refl
    beside kind.Reserved n = refl
    beside (kind.Integer k) n = refl
    beside (kind.Float (Inf b)) n = refl
    beside (kind.Float (Nan b)) n = refl
    beside (kind.Float (NanVal b u)) n = refl
    beside (kind.Float (Normal u x)) n = refl

pub name_by_code : (k : KindRow) (x : TokenKind) → IsNamed x → k.code ≡ kind_number x → kind_of k ≡ x
name_by_code k x (inl e) h = id_by_code k (h ∙ ap kind_number e) ∙ sym e
name_by_code k x (inr e) h = annotation_by_code k (h ∙ ap kind_number e) ∙ sym e

pub not_string : (text : List ℕ) (row : Row) → IsRow text row → row.kind.code ≢ 6 → kind_of row.kind ≡ kind.String → ⊥
not_string text row h n e = n (code_of_row text row kind.String h e (λ x. cc))

pub not_integer : (text : List ℕ) (row : Row) → IsRow text row → row.kind.code ≢ 11 → IsInteger (kind_of row.kind) → ⊥
not_integer text row h n (k, e) = n (code_of_row text row (kind.Integer k) h e (λ x. cc))

pub row_boundary : TokensEndAtBoundaries → (text : List ℕ) (row : Row) → IsUtf8 text → IsRow text row → IsCharBoundary text (row.offset + row.len)
row_boundary ends text row u h =
    let b = ends (record { text = text; flags = h.flags }) row.offset h.token u h.boundary h.is_at in
    subst (λ t. IsCharBoundary text (t.offset + t.len)) (row_token text row h) b

pub row_ends : TokensEndAtBoundaries → (text : List ℕ) (row : Row) → IsUtf8 text → IsRow text row → row.offset + row.len ≤ length text
row_ends ends text row u h = (row_boundary ends text row u h).0
