-- WebAssembly 2.0, 6.2.3 (white space) and 6.2.4 (comments). Comments are white space, and so are spaces and line
-- ends: a text whose comments are all overwritten with spaces, except the line ends in them, and its visible tokens.
use Rattle.std.specs.Prelude.{◌≡◌, ◌↔◌, ℕ, List, length, map, flat_map, slice_get, if◌then◌else◌, Some, None, IsTrue, IsFalse}
use Rattle.std.specs.List.{All}
use Rattle.std.specs.Str.{IsUtf8}
use Rattle.wat_lex.specs.grammar.Classes.{is_line_end}
use Rattle.wat_lex.specs.tokens.Blanking.{space, with_other_text}
use Rattle.wat_lex.specs.tokens.ReadableTokens.{token_text}
use Rattle.wat_lex.specs.tokens.Setting.{Setting}
use Rattle.wat_lex.specs.tokens.Tiling.{MaximalTiling}
use Rattle.wat_lex.specs.declared.lexer.kinds.Token.{Token}
use Rattle.wat_lex.specs.tokens.Blanks.{is_comment}
use Rattle.wat_lexer_parser.specs.laws.Blanking.{ShowTheSame}

-- The byte that replaces a byte of a comment: LF and CR stay, others become a space.
abbrev pub blank_byte : ℕ → ℕ
blank_byte b = if is_line_end b then b else space

-- The bytes of a token in the new text: those of a comment are replaced, those of other tokens stay.
abbrev pub blank_text : List ℕ → Token → List ℕ
blank_text text t = if is_comment t.kind then map blank_byte (token_text text t) else token_text text t

-- The bytes of the new text, for all its tokens.
abbrev pub blank_texts : List ℕ → List Token → List ℕ
blank_texts text tokens = flat_map (blank_text text) tokens

-- Both texts have LF and CR at the same offsets.
abbrev pub SameLineEnds : List ℕ → List ℕ → Type 0
SameLineEnds text other = (i c : ℕ) → IsTrue (is_line_end c) → (slice_get text i ≡ Some c) ↔ (slice_get other i ≡ Some c)

-- The text has neither a comment nor a lexical error.
pub record HasNoComment (s : Setting) : Type 0 where
  pub tokens : List Token
  pub tiling : MaximalTiling s 0 tokens None
  pub none : All (λ t. IsFalse (is_comment t.kind)) tokens

-- The text `other` is as long as that of `s`, has the same line ends and no comment, and the same tokens are visible
-- in it.
pub record IsBlanked (s : Setting) (other : List ℕ) : Type 0 where
  pub utf8 : IsUtf8 other
  pub long : length other ≡ length s.text
  pub line_ends : SameLineEnds s.text other
  pub no_comment : HasNoComment (with_other_text s other)
  pub same : ShowTheSame s (with_other_text s other)

-- Theorem: for a text without lexical errors, `blank_texts` is such a text.
abbrev pub BlankTextsShowTheSame : Type 0
BlankTextsShowTheSame = (s : Setting) (tokens : List Token) → IsUtf8 s.text → MaximalTiling s 0 tokens None → IsBlanked s (blank_texts s.text tokens)
