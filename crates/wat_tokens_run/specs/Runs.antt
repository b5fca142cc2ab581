-- Specification of a run from a source to a sink. For a source, `left` is the remaining bytes, if they are known,
-- `read_failed` the failure of a read, if one failed, and `has_ended` whether the last read returned the end. For a
-- sink, `held` is the bytes that it has received, if they are known, and `write_failed` the failure of a write, if one
-- failed. Not part of the standard.
use Rattle.std.specs.Prelude.{◌≡◌, ◌⊎◌, ◌↔◌, ℕ, Bool, true, List, Option, None, IsSome, IfSome, Result, Ok, Err, IfOk, IfErr, OnOk, IsErrOf}
use Rattle.std.specs.Str.{IsValidUpTo}
use Rattle.wat_lex.specs.errors.Errors.{Report}
use Rattle.wat_tokens_io.specs.declared.failed.Failed.{Failed}
use Rattle.wat_tokens_output.specs.Inputs.{HasEnded, ReadsPast, ReadsShort}
use Rattle.wat_tokens_output.specs.Refusals.{IsFailedWrite, error_of, read_failure, write_failure}
use Rattle.wat_tokens_output.specs.declared.input.RunError.{RunError}
use Rattle.wat_tokens_output.specs.declared.input.RunError.TheVariants as error
use Rattle.wat_tokens_output.specs.declared.input.RunFailure.{RunFailure}
use Rattle.wat_tokens_output.specs.declared.input.RunFailure.TheVariants.{TooLong, NotUtf8, Write}
use Rattle.wat_tokens_run.specs.Printed.{Prints, AppendsText, AppendsCut}

-- Specification of a run that prints the texts `prints` for the bytes that it reads. The source becomes `input'`, the
-- sink becomes `output'`, and `run` is the result, without the cause of a failure.
pub record Runs {S T : Type 0} (left : S → Option (List ℕ)) (read_failed : S → Option Failed) (has_ended : S → Bool) (held : T → Option (List ℕ)) (write_failed : T → Option Failed) (prints : Prints) (input input' : S) (output output' : T) (run : Result (Option (Option Report)) RunError) : Type 0 where
  -- The whole text is written, or a prefix of it if the write failed, and nothing after any other failure.
  pub written : IfOk run (λ error. IfSome (left input) (λ bytes. AppendsText (prints bytes) error (held output) (held output')))
  pub cut : IsErrOf run error.Write → IfSome (left input) (λ bytes. AppendsCut (prints bytes) (held output) (held output'))
  pub unwritten : IfErr run (λ e. (e ≡ error.Write) ⊎ (output' ≡ output))
  -- These results are only possible after the source was read to its end.
  pub ended : OnOk run (HasEnded (left input') (has_ended input'))
  pub not_utf8_ended : IsErrOf run error.NotUtf8 → HasEnded (left input') (has_ended input')
  pub write_ended : IsErrOf run error.Write → HasEnded (left input') (has_ended input')
  -- The exact condition of each failure except an allocation failure.
  pub read : IsErrOf run error.Read ↔ IsSome (read_failed input')
  pub write : IsErrOf run error.Write ↔ IsSome (write_failed output')
  pub short : IsErrOf run error.TooLong ⊎ ReadsShort (left input) (left input')
  pub too_long : IfSome (left input) (λ _. IsErrOf run error.TooLong ↔ ReadsPast (left input) (left input'))
  pub not_utf8 : IfSome (left input) (λ bytes. IsErrOf run error.NotUtf8 ↔ ((has_ended input' ≡ true) × (offset : ℕ) × IsValidUpTo bytes offset))

-- Like `Runs`, for a result that contains the cause of a failure.
pub record RunsWithCause {S T : Type 0} (left : S → Option (List ℕ)) (read_failed : S → Option Failed) (has_ended : S → Bool) (held : T → Option (List ℕ)) (write_failed : T → Option Failed) (prints : Prints) (input input' : S) (output output' : T) (run : Result (Option (Option Report)) RunFailure) : Type 0 where
  -- The whole text is written, or a prefix of it if the write failed, and nothing after any other failure.
  pub written : IfOk run (λ error. IfSome (left input) (λ bytes. AppendsText (prints bytes) error (held output) (held output')))
  pub cut : (failed : Failed) → IsErrOf run (Write failed) → IfSome (left input) (λ bytes. AppendsCut (prints bytes) (held output) (held output'))
  pub unwritten : IfErr run (λ e. IsFailedWrite e ⊎ (output' ≡ output))
  -- These results are only possible after the source was read to its end.
  pub ended : OnOk run (HasEnded (left input') (has_ended input'))
  pub not_utf8_ended : (offset : ℕ) → IsErrOf run (NotUtf8 offset) → HasEnded (left input') (has_ended input')
  pub write_ended : (failed : Failed) → IsErrOf run (Write failed) → HasEnded (left input') (has_ended input')
  -- The exact condition of each failure except an allocation failure.
  pub read : read_failure run ≡ read_failed input'
  pub write : write_failure run ≡ write_failed output'
  pub short : IsErrOf run TooLong ⊎ ReadsShort (left input) (left input')
  pub too_long : IfSome (left input) (λ _. IsErrOf run TooLong ↔ ReadsPast (left input) (left input'))
  pub not_utf8 : (offset : ℕ) → IfSome (left input) (λ bytes. IsErrOf run (NotUtf8 offset) ↔ ((has_ended input' ≡ true) × IsValidUpTo bytes offset))

-- The result of a run without the cause of its failure.
abbrev pub without_cause : {T : Type 0} → Result T RunFailure → Result T RunError
without_cause (Ok t) = Ok t
without_cause (Err failure) = Err (error_of failure)

-- The result of a run that returns no error of the text, in the form of `Runs`.
abbrev pub without_error : Result (Unit {0}) RunError → Result (Option (Option Report)) RunError
without_error (Ok u) = Ok None
without_error (Err e) = Err e
