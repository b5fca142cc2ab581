-- WebAssembly 2.0, 6.2.2 (tokens), 6.2.3 (whitespace) and 6.2.4 (comments): theorems about the raw tokens of formatted
-- texts, which are not part of the standard.
use Rattle.std.specs.Prelude.{◌≡◌, ◌≢◌, ◌⊎◌, ℕ, ◌+◌, ◌==◌, Bool, true, false, drop, List, [], ◌∷◌, ◌++◌, Option, None, if◌then◌else◌}
use Rattle.std.specs.Str.{IsUtf8}
use Rattle.wat_lex.specs.grammar.Classes.{line_feed, at_sign}
use Rattle.wat_lex.specs.tokens.ReadableTokens.{token_text}
use Rattle.wat_lex.specs.tokens.Setting.{Setting}
use Rattle.wat_lex.specs.tokens.Tiling.{MaximalTiling}
use Rattle.wat_lex.specs.declared.lexer.faults.LexFault.{LexFault}
use Rattle.wat_lex.specs.declared.lexer.kinds.Token.{Token}
use Rattle.wat_lex.specs.declared.lexer.kinds.TokenKind.{TokenKind}
use Rattle.wat_lex.specs.declared.lexer.kinds.TokenKind.TheVariants.{LParen, Whitespace}
use Rattle.wat_format.specs.Formatting.{Formatted, Refuses}
use Rattle.wat_format.specs.Gaps.{gap_text}
use Rattle.wat_format.specs.Layout.{is_white, layout}
use Rattle.wat_format.specs.declared.error.Error.TheVariants.{Fault}
use Rattle.wat_format.specs.declared.gap.Gap.{Gap}

-- Theorem: each UTF-8 text has a formatted text or a lexical error.
abbrev pub EachTextIsAnswered : Type 0
EachTextIsAnswered = (s : Setting) → IsUtf8 s.text → ((answer : List ℕ) × Formatted s answer) ⊎ ((fault : LexFault) × Refuses s (Fault fault))

-- Theorem: the formatted text of a text is unique.
abbrev pub LayoutsAreOne : Type 0
LayoutsAreOne = (s : Setting) (answer other : List ℕ) → Formatted s answer → Formatted s other → answer ≡ other

-- Theorem: a text with a formatted text has no lexical error.
abbrev pub LayoutsHaveNoFault : Type 0
LayoutsHaveNoFault = (s : Setting) (answer : List ℕ) (fault : LexFault) → Formatted s answer → Refuses s (Fault fault) → ⊥

-- `words text tokens` is the kind and the bytes of each token except whitespace.
abbrev pub words : List ℕ → List Token → List (TokenKind × List ℕ)
words text [] = []
words text (t ∷ ts) = if is_white t.kind then words text ts else (t.kind, token_text text t) ∷ words text ts

abbrev pub begins_at : List ℕ → Bool
begins_at [] = false
begins_at (c ∷ w) = c == at_sign

abbrev pub is_opening : TokenKind → Bool
is_opening LParen = true
is_opening kind = false

-- `marks text tokens` tells for each `(` if it is followed immediately by `@`, and so may begin an annotation.
abbrev pub marks : List ℕ → List Token → List Bool
marks text [] = []
marks text (t ∷ ts) = if is_opening t.kind then begins_at (drop (t.offset + t.len) text) ∷ marks text ts else marks text ts

-- `EndsClean w`: a space is never directly before a line feed.
abbrev pub EndsClean : List ℕ → Type 0
EndsClean w = (front back : List ℕ) → w ≢ front ++ 32 ∷ line_feed ∷ back

-- `Written w`: the bytes are a gap as the formatter writes it.
pub record Written (w : List ℕ) : Type 0 where
  pub gap : Gap
  pub level : ℕ
  pub text : w ≡ gap_text gap level
  pub clean : EndsClean w

abbrev pub WhiteIsWritten : List ℕ → List Token → Type 0
WhiteIsWritten text [] = Unit {0}
WhiteIsWritten text (t ∷ ts) = (t.kind ≡ Whitespace → Written (token_text text t)) × WhiteIsWritten text ts

-- `over s result` has the same settings, but another text.
abbrev pub over : Setting → List ℕ → Setting
over s answer = record s { text = answer }

-- `KeepsTokens s tokens laid ending`: the raw tokens `laid` and their ending are those of a formatted text. There is no
-- lexical error. Without whitespace, the tokens are those of the text, in order, with the same kinds and bytes. The
-- same parentheses are followed immediately by `@`. Each whitespace token is a gap as the formatter writes it.
pub record KeepsTokens (s : Setting) (tokens : List Token) (laid : List Token) (ending : Option LexFault) : Type 0 where
  pub no_fault : ending ≡ None
  pub same : words (layout s.text tokens) laid ≡ words s.text tokens
  pub marked : marks (layout s.text tokens) laid ≡ marks s.text tokens
  pub white : WhiteIsWritten (layout s.text tokens) laid

abbrev pub LayoutsKeepTokens : Type 0
LayoutsKeepTokens = (s : Setting) (tokens laid : List Token) (ending : Option LexFault) → IsUtf8 s.text → MaximalTiling s 0 tokens None → MaximalTiling (over s (layout s.text tokens)) 0 laid ending → KeepsTokens s tokens laid ending

abbrev pub LayoutsAreUtf8 : Type 0
LayoutsAreUtf8 = (s : Setting) (answer : List ℕ) → IsUtf8 s.text → Formatted s answer → IsUtf8 answer

-- Theorem: formatting is idempotent.
abbrev pub LayoutsStay : Type 0
LayoutsStay = (s : Setting) (answer : List ℕ) → IsUtf8 s.text → Formatted s answer → Formatted (over s answer) answer
