-- The first token at a position, and its classification for a peek. Not part of the standard.
use Rattle.std.specs.Prelude.{◌≡◌, ◌≤◌, ◌<◌, ◌+◌, ◌^◌, ⊤, ℕ, Bool, true, false, Option, Some, slice_get}
use Rattle.wat_lex.specs.declared.lexer.kinds.Token.{Token}
use Rattle.wat_lex.specs.declared.lexer.kinds.TokenKind.TheVariants.{LParen}
use Rattle.wat_lex.specs.grammar.Classes.{at_sign}
use Rattle.wat_lex.specs.tokens.Blanks.{is_blank, is_marked}
use Rattle.wat_lexer_parser.specs.declared.parser.fault.Step.TheVariants.{Take}
use Rattle.wat_lexer_parser.specs.declared.parser.text_ref.Sight.{Sight}
use Rattle.wat_lexer_parser.specs.declared.parser.text_ref.Sight.TheVariants.{Plain, Blank, Marked, Nothing}
use Rattle.wat_lexer_parser.specs.inside.Next.{IsNext, IsPlace}
use Rattle.wat_lexer_parser.specs.inside.ShownIn.{step_of}
use Rattle.wat_lexer_parser.specs.names.RegisteredNames.{Names}
use Rattle.wat_lexer_parser.specs.places.Source.{Source}
use Rattle.wat_lexer_parser.specs.shown.Showing.{shown}

-- The class of a token: visible under each set of names, whitespace or a comment, or a `(` followed immediately by
-- `@`.
abbrev pub SightOf : Source → Token → Sight → Type 0
SightOf s t Plain = (names : Names) (next : Option Token) → step_of s.setting.text names t next ≡ Take
SightOf s t Blank = is_blank t.kind ≡ true
SightOf s t Marked = (t.kind ≡ LParen) × (is_marked s.setting.text t ≡ true)
SightOf s t Nothing = ⊥

-- The token at position `p`, which has the byte offset `byte`, is a `(` followed immediately by `@`.
pub record IsMarkedAt (s : Source) (p byte : ℕ) : Type 0 where
  pub paren : Token
  pub there : slice_get s.tokens p ≡ Some paren
  pub kind : paren.kind ≡ LParen
  pub marked : is_marked s.setting.text paren ≡ true
  pub place : IsPlace s p byte
  pub inner : IsPlace s (p + 1) (byte + 1)
  pub mark : slice_get s.setting.text (byte + 1) ≡ Some at_sign

-- The token visible at position `p` is the one visible at `q`, which is not before `p`.
pub record IsShownFrom (s : Source) (p q : ℕ) : Type 0 where
  pub on : p ≤ q
  pub same : (names : Names) → shown s p names ≡ shown s q names

-- The token visible at position `p` is the one visible after the token at position `at`, which ends at the end of `t`.
-- It is used for a `t` that is whitespace or a comment.
pub record IsBlankAt (s : Source) (p : ℕ) (t : Token) (at : ℕ) : Type 0 where
  pub on : p ≤ at
  pub same : (names : Names) → shown s p names ≡ shown s (at + 1) names
  pub place : IsPlace s (at + 1) (t.offset + t.len)
  pub short : t.offset + t.len < 2 ^ 32

-- `IsSight s p sight t at`: from position `p`, the first token except leading whitespace is `t`, at position `at`, and
-- `sight` is its class. For `Nothing` it states nothing.
abbrev pub IsSight : Source → ℕ → Sight → Token → ℕ → Type 0
IsSight s p Plain t at = (names : Names) → IsNext s p names (t, at + 1)
IsSight s p Blank t at = IsBlankAt s p t at
IsSight s p Marked t at = IsShownFrom s p at × IsMarkedAt s at t.offset
IsSight s p Nothing t at = ⊤

-- The slack in a strict lower bound of a new position: 0 if a parenthesis is passed, so the position increases;
-- otherwise 1, so it may stay the same.
abbrev pub not_passed : Bool → ℕ
not_passed true = 0
not_passed false = 1
