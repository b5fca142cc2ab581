-- WebAssembly 2.0, 6.2.3 (whitespace) and 6.2.4 (comments): a comment is whitespace, so overwriting its bytes with
-- spaces, tabs or line ends keeps all significant tokens. These are the definitions and theorems for such texts.
use Rattle.std.specs.Prelude.{◌≡◌, ◌+◌, ℕ, List, [], ◌∷◌, ◌++◌, length, take, drop, replicate, Option}
use Rattle.std.specs.List.{All, Contains}
use Rattle.std.specs.Str.{IsUtf8, IsCharBoundary}
use Rattle.wat_lex.specs.grammar.Classes.{Each, is_whitespace}
use Rattle.wat_lex.specs.tokens.Faults.{IsComment}
use Rattle.wat_lex.specs.tokens.ReadableTokens.{token_text}
use Rattle.wat_lex.specs.tokens.Setting.{Setting, lenient}
use Rattle.wat_lex.specs.tokens.Tiling.{MaximalTiling}
use Rattle.wat_lex.specs.declared.lexer.faults.LexFault.{LexFault}
use Rattle.wat_lex.specs.declared.lexer.kinds.Token.{Token}
use Rattle.wat_lex.specs.declared.lexer.kinds.TokenKind.TheVariants.{Whitespace}

abbrev pub space : ℕ
space = 32

-- `AreBlanksOf t white`: `white` is bytes of whitespace, as many as the token `t` has.
pub record AreBlanksOf (t : Token) (white : List ℕ) : Type 0 where
  pub long : length white ≡ t.len
  pub blank : Each is_whitespace white

-- The text with the bytes `white` instead of those of the token.
abbrev pub overwritten : List ℕ → Token → List ℕ → List ℕ
overwritten text t white = take t.offset text ++ white ++ drop (t.offset + t.len) text

-- The text with a space instead of each byte of the token.
abbrev pub blanked : List ℕ → Token → List ℕ
blanked text t = overwritten text t (replicate t.len space)

-- The setting with another text and the same flags.
abbrev pub with_other_text : Setting → List ℕ → Setting
with_other_text s text = record s { text = text }

-- The list is empty, or one whitespace token.
abbrev pub AtMostOneSpace : List Token → Type 0
AtMostOneSpace [] = Unit {0}
AtMostOneSpace (t ∷ []) = t.kind ≡ Whitespace
AtMostOneSpace (t ∷ u ∷ ts) = ⊥

-- `Spaced text other comment ts us`: the tokens `us` of the text `other` are those of `ts`, with one whitespace token
-- instead of the comment and the whitespace directly before and after it. All other tokens have the same bytes in both
-- texts.
pub record Spaced (text other : List ℕ) (comment : Token) (ts us : List Token) : Type 0 where
  pub before : List Token
  pub left : List Token
  pub right : List Token
  pub after : List Token
  pub white : Token
  pub was : ts ≡ before ++ ((left ++ comment ∷ right) ++ after)
  pub is : us ≡ before ++ white ∷ after
  pub beside_left : AtMostOneSpace left
  pub beside_right : AtMostOneSpace right
  pub kind : white.kind ≡ Whitespace
  pub texts_before : All (λ t. token_text other t ≡ token_text text t) before
  pub texts_after : All (λ t. token_text other t ≡ token_text text t) after

-- `IsRawComment s p comment`: the comment is one of the raw tokens from byte `p`.
pub record IsRawComment (s : Setting) (p : ℕ) (comment : Token) : Type 0 where
  pub tokens : List Token
  pub ending : Option LexFault
  pub tiling : MaximalTiling s p tokens ending
  pub among : Contains tokens comment
  pub kind : IsComment comment.kind

-- The theorem that the raw tokens are `Spaced` and have the same ending if whitespace overwrites a comment.
abbrev pub BlanksAreSpace : Type 0
BlanksAreSpace = (s : Setting) (p : ℕ) (comment : Token) (white : List ℕ) → IsUtf8 s.text → IsCharBoundary s.text p → AreBlanksOf comment white → (raw : IsRawComment s p comment)
    → (us : List Token) × MaximalTiling (with_other_text s (overwritten s.text comment white)) p us raw.ending × Spaced s.text (overwritten s.text comment white) comment raw.tokens us

-- The theorem that the text in which whitespace overwrites a comment is UTF-8 of the same length.
abbrev pub BlanksAreText : Type 0
BlanksAreText = (s : Setting) (p : ℕ) (comment : Token) (white : List ℕ) → IsUtf8 s.text → IsCharBoundary s.text p → AreBlanksOf comment white → IsRawComment s p comment
    → (length (overwritten s.text comment white) ≡ length s.text) × IsUtf8 (overwritten s.text comment white)

-- The theorem that a comment among the raw tokens is also one under the most permissive flags.
abbrev pub CommentsStay : Type 0
CommentsStay = (s : Setting) (p : ℕ) (comment : Token) → IsUtf8 s.text → IsCharBoundary s.text p → IsRawComment s p comment → IsRawComment (record s { flags = lenient }) p comment
