-- The results of lexing a text for a page. They are not part of the standard.
use Rattle.std.specs.Prelude.{◌≡◌, ◌≤◌, ◌^◌, ℕ, List, [], ◌++◌, length, drop, map, Some, None}
use Rattle.std.specs.Str.{IsUtf8, IsValidUpTo}
use Rattle.wat_lex.specs.errors.Rendering.{overwrite_start}
use Rattle.wat_lex.specs.tokens.Setting.{Setting}
use Rattle.wat_lex.specs.tokens.Tiling.{TokenAt, Tiling, MaximalTiling}
use Rattle.wat_lex.specs.declared.lexer.kinds.Token.{Token}
use Rattle.wat_wasm.specs.Endings.{row_of, known, report_of}
use Rattle.wat_wasm.specs.declared.report.Ending.{Ending}
use Rattle.wat_wasm.specs.declared.report.Ending.TheVariants.{Whole, Faulty, Full, NotUtf8, TooLong}
use Rattle.wat_wasm.specs.declared.report.Report.{Report}
use Rattle.wat_wasm.specs.declared.rows.Row.{Row}

-- `Front s tokens`: the tokens are the first of the text, and another token follows.
pub record Front (s : Setting) (tokens : List Token) : Type 0 where
  pub to : ℕ
  pub tiling : Tiling s 0 to tokens
  pub next : Token
  pub after : TokenAt s to next

-- `EndsWith s room tokens ending`: with a buffer of `room` rows, these are the tokens with rows. They are all tokens up
-- to the end or the lexical error, or the first `room` tokens if more follow. There are none if the bytes are not UTF-8
-- or too many.
abbrev pub EndsWith : Setting → ℕ → List Token → Ending → Type 0
EndsWith s room tokens Whole = MaximalTiling s 0 tokens None
EndsWith s room tokens (Faulty f) = MaximalTiling s 0 tokens (Some f)
EndsWith s room tokens Full = Front s tokens × (length tokens ≡ room)
EndsWith s room tokens (NotUtf8 at) = IsValidUpTo s.text at × (tokens ≡ [])
EndsWith s room tokens TooLong = IsUtf8 s.text × (2 ^ 32 ≤ length s.text) × (tokens ≡ [])

-- `Filled s old new n ending`: the contents of the rows change from `old` to `new`, where the rows of the `n` tokens
-- replace the first old ones.
pub record Filled (s : Setting) (old new : List Row) (n : ℕ) (ending : Ending) : Type 0 where
  pub tokens : List Token
  pub ends : EndsWith s (length old) tokens ending
  pub rows : new ≡ map row_of tokens ++ drop (length tokens) old
  pub count : n ≡ length tokens

-- `Reports s old new before after r`: the rows change from `old` to `new`, the buffer of the message from `before` to
-- `after`, and `r` is the report.
pub record Reports (s : Setting) (old new : List Row) (before after : List ℕ) (r : Report) : Type 0 where
  pub count : ℕ
  pub ending : Ending
  pub rows : Filled s old new count ending
  pub message : after ≡ overwrite_start (known s.text ending) before
  pub report : r ≡ report_of s.text (length before) count ending
