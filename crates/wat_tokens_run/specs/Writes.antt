-- Specification of a function that writes the output for a text. For a sink, `held` is the bytes that it has received,
-- if they are known, and `failure` the failure of a write, if one failed. Not part of the standard.
use Rattle.std.specs.Prelude.{◌≡◌, ◌⊎◌, ℕ, List, Option, Result, IfOk, IfErr, IsErrOf}
use Rattle.wat_lex.specs.errors.Errors.{Report}
use Rattle.wat_tokens_io.specs.declared.failed.Failed.{Failed}
use Rattle.wat_tokens_output.specs.Refusals.{IsFailedWrite, write_failure}
use Rattle.wat_tokens_output.specs.declared.input.RunFailure.{RunFailure}
use Rattle.wat_tokens_output.specs.declared.input.RunFailure.TheVariants.{Write}
use Rattle.wat_tokens_run.specs.Printed.{AppendsText, AppendsCut}

-- The whole text is written, or a prefix of it if the write failed, and nothing after any other failure. The sink
-- becomes `output'`, and `answer` is the result.
pub record Writes {T : Type 0} (held : T → Option (List ℕ)) (failure : T → Option Failed) (prints : List ℕ → Option (Option Report) → Type 0) (output output' : T) (answer : Result (Option (Option Report)) RunFailure) : Type 0 where
  pub written : IfOk answer (λ error. AppendsText prints error (held output) (held output'))
  pub cut : (failed : Failed) → IsErrOf answer (Write failed) → AppendsCut prints (held output) (held output')
  pub unwritten : IfErr answer (λ e. IsFailedWrite e ⊎ (output' ≡ output))
  pub write : write_failure answer ≡ failure output'
