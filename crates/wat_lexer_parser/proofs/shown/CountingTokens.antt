-- Neither whitespace nor a comment follows a `(` that is followed by `@`, because they begin with other characters.
use lib.Utf8.{encode, encodes}
use Rattle.std.proofs.Common.{◌≡◌, ◌≢◌, ◌⊎◌, ◌+◌, ℕ, zero, suc, true, List, [], ◌∷◌, ◌++◌, length, drop, refl, sym, ap, ◌∙◌, arith, inl, inr, Some, None}
use Rattle.std.specs.Prelude.{Option, slice_get, get_or}
use Rattle.std.specs.Str.{IsUtf8, IsCharBoundary}
use Rattle.std.proofs.lemmas.Bool.{cases_Bool, both_ways, eqb-true}
use Rattle.std.proofs.lemmas.Str.{IsCharBoundary-start, IsUtf8-drop, encodes-chars, char_from_byte}
use Rattle.wat_lex.specs.grammar.Classes.{at_sign, Each, is_whitespace}
use Rattle.wat_lex.specs.grammar.Comments.{BlockComment as Commented, LineComment as CommentedLine, begun, opened}
use Rattle.wat_lex.specs.grammar.Words.{Word}
use Rattle.wat_lex.specs.tokens.EverySetting.{TokensEndAtBoundaries}
use Rattle.wat_lex.specs.tokens.Setting.{Setting}
use Rattle.wat_lex.specs.tokens.Tiling.{TokenAt, Tiling}
use Rattle.wat_lex.specs.declared.lexer.settings.Settings.{Settings}
use Rattle.wat_lex.specs.declared.lexer.kinds.Token.{Token}
use Rattle.wat_lex.specs.declared.lexer.kinds.TokenKind.{TokenKind}
use Rattle.wat_lex.specs.declared.lexer.kinds.TokenKind.TheVariants.{LineComment, BlockComment, Whitespace, LParen, RParen, String, Id, Keyword, Annotation, Reserved, Integer, Float}
use Rattle.wat_lex.specs.tokens.Blanks.{is_blank, is_marked}
use Rattle.wat_lexer_parser.specs.lemmas.Parts.{is_mark}
use Rattle.wat_lexer_parser.specs.laws.Counting.{CountingShowsTheSame, PlainTokensAreShown}
use Rattle.wat_lexer_parser.specs.shown.Shown.{other, unmarked}
use Rattle.wat_lexer_parser.proofs.shown.Counting.{IsFollowed, AreFollowed, shown_counts}
use Rattle.wat_lexer_parser.proofs.shown.Marks.{paren_len}

-- The word begins with a character other than `@`.
abbrev BeginsOther : List ℕ → Type 0
BeginsOther w = (c : ℕ) × (r : List ℕ) × (w ≡ c ∷ r) × (c ≢ at_sign)

white_other : (w : List ℕ) → w ≢ [] → Each is_whitespace w → BeginsOther w
white_other [] n h = absurd (n refl)
white_other (c ∷ w) n h = (c, w, refl, λ e. both_ways (is_whitespace c) (ap is_whitespace e) h.0)

line_other : (w : List ℕ) → CommentedLine w → BeginsOther w
line_other w (begun {t = t} h) = (59, 59 ∷ t, refl, λ e. omega (arith, e))

block_other : (w r : List ℕ) → Commented w r → BeginsOther w
block_other w r (opened {t = t} h) = (40, 59 ∷ t, refl, λ e. omega (arith, e))

blank_other : (k : TokenKind) (w : List ℕ) (flags : Settings) → is_blank k ≡ true → Word k w flags → BeginsOther w
blank_other Whitespace w flags b h = white_other w h.0 h.1
blank_other LineComment w flags b h = line_other w h.0
blank_other BlockComment w flags b h = block_other w [] h.0
blank_other LParen w flags b h = cc
blank_other RParen w flags b h = cc
blank_other String w flags b h = cc
blank_other Id w flags b h = cc
blank_other Keyword w flags b h = cc
blank_other Annotation w flags b h = cc
blank_other Reserved w flags b h = cc
blank_other (Integer i) w flags b h = cc
blank_other (Float i) w flags b h = cc

-- An element is the first of those from its index on.
is_at_first : (xs : List ℕ) (i b : ℕ) → slice_get xs i ≡ Some b → (r : List ℕ) × (drop i xs ≡ b ∷ r)
is_at_first [] zero b e = cc
is_at_first [] (suc i) b e = cc
is_at_first (x ∷ xs) zero b e = let k : x ≡ b = cc in (xs, ap (λ y. y ∷ xs) k)
is_at_first (x ∷ xs) (suc i) b e = is_at_first xs i b e

mark_is : (o : Option ℕ) → is_mark o ≡ true → o ≡ Some at_sign
mark_is None e = cc
mark_is (Some b) e = ap Some (eqb-true b at_sign e)

no_blank : (s : Setting) (p : ℕ) (u : Token) → IsUtf8 s.text → IsCharBoundary s.text p → TokenAt s p u → slice_get s.text p ≡ Some at_sign → is_blank u.kind ≡ true → ⊥
no_blank s p u utf8 boundary h mark b =
    let v = blank_other u.kind h.word s.flags b h.is_at.word in
    let bytes : drop p s.text ≡ encode v.0 ++ encodes (v.1 ++ h.rest) =
    sym (encodes-chars (drop p s.text) (IsUtf8-drop s.text p utf8 boundary)) ∙ ap encodes (h.is_at.cut ∙ ap (λ w. w ++ h.rest) v.2) in
    let at = is_at_first s.text p at_sign mark in
    let byte : get_or (drop p s.text) 0 0 ≡ at_sign = ap (λ x. get_or x 0 0) at.1 in
    let c = char_from_byte (drop p s.text) (encodes (v.1 ++ h.rest)) v.0 bytes (omega (arith, byte)) (omega (arith, ap length at.1)) in
    v.3 (c ∙ byte)

is_followed : (s : Setting) (from to : ℕ) (t : Token) (ts : List Token) → IsUtf8 s.text → IsCharBoundary s.text (t.offset + t.len) → Tiling s from to (t ∷ ts) → IsFollowed s.text t ts
is_followed s from to t [] utf8 boundary h = tt
is_followed s from to t (u ∷ ts) utf8 boundary h = λ e m.
    let one : t.offset + t.len ≡ t.offset + 1 = ap (λ n. t.offset + n) (paren_len s from t h.0 e) in
    let mark = ap (slice_get s.text) one ∙ mark_is (slice_get s.text (t.offset + 1)) m in
    elim (cases_Bool (is_blank u.kind)) [
      | inl b ↦ absurd (no_blank s (t.offset + t.len) u utf8 boundary h.1.0 mark b)
      | inr b ↦ b
    ]

are_followed : TokensEndAtBoundaries → (s : Setting) (from to : ℕ) (ts : List Token) → IsUtf8 s.text → IsCharBoundary s.text from → Tiling s from to ts → AreFollowed s.text ts
are_followed ends s from to [] utf8 boundary h = tt
are_followed ends s from to (t ∷ ts) utf8 boundary h =
    let after = ends s from t utf8 boundary h.0 in
    (is_followed s from to t ts utf8 after h, are_followed ends s (t.offset + t.len) to ts utf8 after h.1)

followed_drop : (text : List ℕ) (p : ℕ) (ts : List Token) → AreFollowed text ts → AreFollowed text (drop p ts)
followed_drop text zero ts f = f
followed_drop text (suc p) [] f = tt
followed_drop text (suc p) (t ∷ ts) f = followed_drop text p ts f.1

pub counting_shows_the_same : TokensEndAtBoundaries → CountingShowsTheSame
counting_shows_the_same ends s names p a utf8 read h =
    let f = are_followed ends s.setting 0 read.to s.tokens utf8 (IsCharBoundary-start s.setting.text utf8) read.tiling in
    shown_counts s.setting.text s.ending names (drop p s.tokens) a (followed_drop s.setting.text p s.tokens f) h

is_open_or_not : (k : TokenKind) → (k ≡ LParen) ⊎ (k ≢ LParen)
is_open_or_not LParen = inl refl
is_open_or_not Whitespace = inr (λ e. cc)
is_open_or_not LineComment = inr (λ e. cc)
is_open_or_not BlockComment = inr (λ e. cc)
is_open_or_not RParen = inr (λ e. cc)
is_open_or_not String = inr (λ e. cc)
is_open_or_not Id = inr (λ e. cc)
is_open_or_not Keyword = inr (λ e. cc)
is_open_or_not Annotation = inr (λ e. cc)
is_open_or_not Reserved = inr (λ e. cc)
is_open_or_not (Integer k) = inr (λ e. cc)
is_open_or_not (Float k) = inr (λ e. cc)

pub plain_tokens_are_shown : PlainTokensAreShown
plain_tokens_are_shown text z n t r b m = elim (is_open_or_not t.kind) [
  | inl e ↦ elim (cases_Bool (is_marked text t)) [
    | inl on ↦ absurd (m (e, on))
    | inr off ↦ unmarked e off
  ]
  | inr e ↦ other b e
]
