-- WebAssembly 2.0, 6.2 (lexical format): a source text is a sequence of tokens, whitespace and comments. The output of
-- a run that formats such a text, and the result of comparing a text with its formatted text. Formatting is not part of
-- the standard.
use Rattle.std.specs.Prelude.{◌≡◌, ◌≢◌, ◌⊎◌, ◌<◌, ◌≤◌, ◌^◌, ℕ, List, length, string_bytes, Option, Some, MatchOption}
use Rattle.std.specs.Io.KnownBytes.{Keeps}
use Rattle.std.specs.Str.{IsUtf8}
use Rattle.wat_tokens_output.specs.declared.fmt.Compared.{Compared}
use Rattle.wat_tokens_output.specs.declared.fmt.Compared.TheVariants.{Same, Other, Longer, Faulty}
use Rattle.wat_format.specs.Formatting.{Formatted}
use Rattle.wat_format.specs.Streams.{AppendsLayout, AppendsPart}
use Rattle.wat_lex.specs.errors.Errors.{Report, lexical}
use Rattle.wat_lex.specs.tokens.Setting.{Setting}
use Rattle.wat_lex.specs.tokens.Tiling.{MaximalTiling}
use Rattle.wat_lex.specs.declared.lexer.faults.LexFault.{LexFault}
use Rattle.wat_lex.specs.declared.lexer.kinds.Token.{Token}
use Rattle.wat_lex.specs.declared.lexer.settings.Settings.{Settings}

-- `error` reports the lexical error at which the raw tokens of the text of `s` end.
pub record IsFaultOf (s : Setting) (error : Option Report) : Type 0 where
  pub fault : LexFault
  pub tokens : List Token
  pub tiling : MaximalTiling s 0 tokens (Some fault)
  pub reported : error ≡ Some (lexical s.text fault)

-- `bytes` are UTF-8 and shorter than 2^32 bytes. Without an `error`, the formatted text was appended to the output,
-- whose bytes change from `old` to `new` if they are known. Otherwise `error` reports the lexical error of the text,
-- and nothing was written.
pub record WritesLayout (settings : Settings) (bytes : List ℕ) (error : Option (Option Report)) (old new : Option (List ℕ)) : Type 0 where
  pub utf8 : IsUtf8 bytes
  pub short : length bytes < 2 ^ 32
  pub written : MatchOption error (AppendsLayout (record { text = bytes; flags = settings }) old new) (λ e. IsFaultOf (record { text = bytes; flags = settings }) e × Keeps old new)

-- The text has no lexical error, and a prefix of its formatted text was appended to the output, whose bytes change from
-- `old` to `new` if they are known; or nothing was written.
abbrev pub WritesPart : Settings → List ℕ → Option (List ℕ) → Option (List ℕ) → Type 0
WritesPart settings bytes old new = AppendsPart (record { text = bytes; flags = settings }) old new ⊎ Keeps old new

-- The text of `s` is formatted; or its formatted text is another one, or has 2^32 bytes or more; or it has a lexical
-- error.
abbrev pub ComparesText : Setting → Compared → Type 0
ComparesText s Same = Formatted s s.text
ComparesText s (Other answer) = Formatted s (string_bytes answer) × (string_bytes answer ≢ s.text)
ComparesText s Longer = (answer : List ℕ) × Formatted s answer × (2 ^ 32 ≤ length answer)
ComparesText s (Faulty error) = IsFaultOf s error

-- `bytes` are UTF-8 and shorter than 2^32 bytes, and `compared` is the result of comparing them with their formatted
-- text.
pub record Compares (settings : Settings) (bytes : List ℕ) (compared : Compared) : Type 0 where
  pub utf8 : IsUtf8 bytes
  pub short : length bytes < 2 ^ 32
  pub text : ComparesText (record { text = bytes; flags = settings }) compared
