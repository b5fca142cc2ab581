-- WebAssembly 2.0, 6.2 (lexical format): a source text is a sequence of tokens, whitespace and comments. The results of
-- formatting a text; the formatted text is not part of the standard.
use Rattle.std.specs.Prelude.{◌≡◌, ◌≤◌, ◌^◌, ℕ, List, length, Some, None}
use Rattle.wat_lex.specs.tokens.Setting.{Setting}
use Rattle.wat_lex.specs.tokens.Tiling.{MaximalTiling}
use Rattle.wat_lex.specs.declared.lexer.kinds.Token.{Token}
use Rattle.wat_format.specs.Layout.{layout}
use Rattle.wat_format.specs.declared.error.Error.{Error}
use Rattle.wat_format.specs.declared.error.Error.TheVariants.{Memory, Fault, TooLong}

-- `Formatted s result`: the text has no lexical error, and `result` is the formatted text of its raw tokens.
pub record Formatted (s : Setting) (answer : List ℕ) : Type 0 where
  pub tokens : List Token
  pub tiling : MaximalTiling s 0 tokens None
  pub laid : answer ≡ layout s.text tokens

-- `Refuses s error`: formatting may return this error. It is the lexical error of the text, or `TooLong` if there is
-- none and the formatted text has more than 2^32-1 bytes. `Memory` is possible for every text.
abbrev pub Refuses : Setting → Error → Type 0
Refuses s (Memory refused) = Unit {0}
Refuses s (Fault fault) = (tokens : List Token) × MaximalTiling s 0 tokens (Some fault)
Refuses s TooLong = (answer : List ℕ) × Formatted s answer × (2 ^ 32 ≤ length answer)
