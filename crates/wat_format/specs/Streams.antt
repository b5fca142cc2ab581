-- The bytes that formatting a text appends to those of a sink. They are not part of the standard.
use Rattle.std.specs.Prelude.{ℕ, List, Option, Some, Result, Ok, Err}
use Rattle.std.specs.Io.KnownBytes.{Appends, Keeps}
use Rattle.wat_lex.specs.tokens.Setting.{Setting}
use Rattle.wat_lex.specs.tokens.Tiling.{MaximalTiling}
use Rattle.wat_lex.specs.declared.lexer.kinds.Token.{Token}
use Rattle.wat_tokens_io.specs.Streams.{AppendsPrefix}
use Rattle.wat_tokens_io.specs.declared.failed.Failed.{Failed as Failure}
use Rattle.wat_format.specs.Formatting.{Formatted}
use Rattle.wat_format.specs.declared.stream.WriteError.{WriteError}
use Rattle.wat_format.specs.declared.stream.WriteError.TheVariants.{Memory, Fault, Failed}

-- `AppendsLayout s old new`: the text has no lexical error. If the bytes of the sink are known, its formatted text is
-- appended to them.
pub record AppendsLayout (s : Setting) (old new : Option (List ℕ)) : Type 0 where
  pub answer : List ℕ
  pub formatted : Formatted s answer
  pub appended : Appends old new answer

-- `AppendsPart s old new`: the text has no lexical error. If the bytes of the sink are known, a prefix of its formatted
-- text is appended to them.
pub record AppendsPart (s : Setting) (old new : Option (List ℕ)) : Type 0 where
  pub answer : List ℕ
  pub formatted : Formatted s answer
  pub appended : AppendsPrefix old new answer

-- `RefusesToWrite s old new error`: writing may fail with this error. If it is the lexical error of the text, nothing
-- is written. If an allocation or a write fails, the text has no lexical error, and a prefix of its formatted text is
-- written.
abbrev pub RefusesToWrite : Setting → Option (List ℕ) → Option (List ℕ) → WriteError → Type 0
RefusesToWrite s old new (Memory refused) = AppendsPart s old new
RefusesToWrite s old new (Fault fault) = ((tokens : List Token) × MaximalTiling s 0 tokens (Some fault)) × Keeps old new
RefusesToWrite s old new (Failed cause) = AppendsPart s old new

-- `failed_after before result` is the failure of the last call of the sink that failed, after formatting. Other errors
-- do not change it.
abbrev pub failed_after : Option Failure → Result (Unit {0}) WriteError → Option Failure
failed_after before (Ok u) = before
failed_after before (Err (Memory refused)) = before
failed_after before (Err (Fault fault)) = before
failed_after before (Err (Failed failure)) = Some failure
