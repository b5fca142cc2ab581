-- WebAssembly 2.0, 6.2.2 (tokens), 6.2.3 (whitespace) and 6.2.4 (comments): between which tokens whitespace may be
-- added or removed, so that the other tokens remain the same. As each token is the longest possible, some tokens
-- without whitespace between them would be lexed as other tokens.
use Rattle.std.specs.Prelude.{◌≡◌, ◌⊎◌, ◌↔◌, ℕ, Bool, false, IsFalse, List, [], ◌∷◌, ◌++◌, None, if◌then◌else◌}
use Rattle.std.specs.Str.{IsUtf8, chars}
use Rattle.wat_lex.specs.grammar.Classes.{Begins, Each, is_line_end, is_whitespace, semicolon}
use Rattle.wat_lex.specs.grammar.Words.{Word, Punctuation}
use Rattle.wat_lex.specs.tokens.Setting.{Setting}
use Rattle.wat_lex.specs.tokens.Tiling.{MaximalTiling}
use Rattle.wat_lex.specs.declared.lexer.kinds.Token.{Token}
use Rattle.wat_lex.specs.declared.lexer.kinds.TokenKind.{TokenKind}
use Rattle.wat_lex.specs.declared.lexer.kinds.TokenKind.TheVariants.{LineComment, BlockComment, Whitespace, LParen, RParen, Reserved}
use Rattle.wat_lex.specs.declared.lexer.settings.Settings.{Settings}
use Rattle.wat_format.specs.Laws.{words, begins_at, is_opening, marks}
use Rattle.wat_format.specs.Layout.{is_white}

-- A token other than whitespace, as its kind and bytes, and the whitespace after it.
pub record Spaced : Type 0 where
  pub kind : TokenKind
  pub bytes : List ℕ
  pub white : List ℕ

abbrev pub spread : List Spaced → List ℕ
spread [] = []
spread (x ∷ xs) = x.bytes ++ (x.white ++ spread xs)

abbrev pub words_of : List Spaced → List (TokenKind × List ℕ)
words_of [] = []
words_of (x ∷ xs) = (x.kind, x.bytes) ∷ words_of xs

pub record IsSpaced (flags : Settings) (x : Spaced) : Type 0 where
  pub no_white : IsFalse (is_white x.kind)
  pub utf8 : IsUtf8 x.bytes
  pub word : Word x.kind (chars x.bytes) flags
  pub white : Each is_whitespace x.white

abbrev pub AreSpaced : Settings → List Spaced → Type 0
AreSpaced flags [] = Unit {0}
AreSpaced flags (x ∷ xs) = IsSpaced flags x × AreSpaced flags xs

-- `IsRun kind w`: the token is a run of idchars and string literals, i.e. a string literal, identifier, annotation,
-- keyword, number, or a reserved token other than a single punctuation character.
abbrev pub IsRun : TokenKind → List ℕ → Type 0
IsRun Whitespace w = ⊥
IsRun LineComment w = ⊥
IsRun BlockComment w = ⊥
IsRun LParen w = ⊥
IsRun RParen w = ⊥
IsRun Reserved w = Punctuation w → ⊥
IsRun kind w = Unit {0}

-- `BeginsWithSemicolon kind w`: the token is `;` or a line comment.
abbrev pub BeginsWithSemicolon : TokenKind → List ℕ → Type 0
BeginsWithSemicolon LineComment w = Unit {0}
BeginsWithSemicolon Reserved w = w ≡ semicolon ∷ []
BeginsWithSemicolon kind w = ⊥

-- `Joins j v k w`: the tokens must not touch. Two runs would be one run, `(` and `;` would begin a block comment, and
-- `;` and `;` a line comment.
pub data Joins (j : TokenKind) (v : List ℕ) (k : TokenKind) (w : List ℕ) : Type 0 where
  one_run : IsRun j v → IsRun k w → Joins j v k w
  block_comment : j ≡ LParen → BeginsWithSemicolon k w → Joins j v k w
  line_comment : j ≡ Reserved → v ≡ semicolon ∷ [] → BeginsWithSemicolon k w → Joins j v k w

-- `IsLegal x y`: the gap between the tokens is legal. All tokens except those of `Joins` may touch, and there may
-- always be whitespace between two tokens. After a line comment it must begin with a line end.
pub record IsLegal (x y : Spaced) : Type 0 where
  pub apart : x.white ≡ [] → Joins x.kind (chars x.bytes) y.kind (chars y.bytes) → ⊥
  pub ended : x.kind ≡ LineComment → Begins is_line_end x.white

-- `IsLegalEnd x`: the whitespace after the last token is legal. After a line comment, it is empty or begins with a line
-- end.
abbrev pub IsLegalEnd : Spaced → Type 0
IsLegalEnd x = x.kind ≡ LineComment → (x.white ≡ []) ⊎ Begins is_line_end x.white

abbrev pub AreLegal : List Spaced → Type 0
AreLegal [] = Unit {0}
AreLegal (x ∷ []) = IsLegalEnd x
AreLegal (x ∷ y ∷ ys) = IsLegal x y × AreLegal (y ∷ ys)

-- `ReadsAsWords s xs`: the text has no lexical error, and these are its tokens except whitespace.
pub record ReadsAsWords (s : Setting) (xs : List Spaced) : Type 0 where
  pub tokens : List Token
  pub tiling : MaximalTiling s 0 tokens None
  pub same : words s.text tokens ≡ words_of xs

-- Theorem: tokens with whitespace between them, and in front, are lexed as these tokens if and only if each gap is
-- legal.
abbrev pub GapsAreExact : Type 0
GapsAreExact = (flags : Settings) (front : List ℕ) (xs : List Spaced) → Each is_whitespace front → AreSpaced flags xs → AreLegal xs ↔ ReadsAsWords (record { text = front ++ spread xs; flags = flags }) xs

-- `touches white xs`: after this whitespace, which is empty, the first of these tokens begins with `@`. `touch_marks
-- xs` tells this for each `(` of the tokens.
abbrev pub touches : List ℕ → List Spaced → Bool
touches [] [] = false
touches [] (y ∷ ys) = begins_at y.bytes
touches (c ∷ w) ys = false

abbrev pub touch_marks : List Spaced → List Bool
touch_marks [] = []
touch_marks (x ∷ xs) = if is_opening x.kind then touches x.white xs ∷ touch_marks xs else touch_marks xs

-- Theorem: if the text is lexed as these tokens, `touch_marks` tells which parentheses are followed immediately by `@`.
-- So whitespace may neither be added nor removed between `(` and `@`.
abbrev pub MarksGoByGaps : Type 0
MarksGoByGaps = (flags : Settings) (front : List ℕ) (xs : List Spaced) → Each is_whitespace front → AreSpaced flags xs
    → (reads : ReadsAsWords (record { text = front ++ spread xs; flags = flags }) xs) → marks (front ++ spread xs) reads.tokens ≡ touch_marks xs
