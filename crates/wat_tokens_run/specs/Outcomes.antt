-- Outcomes of a run: its exit status, and its report on standard error. Not part of the standard.
use Rattle.std.specs.Prelude.{◌≡◌, ◌==◌, ◌&&◌, ℕ, Bool, true, false, List, [], ◌++◌, codes, Option, Some, None, IfSome, Result, Ok, Err, if◌then◌else◌}
use Rattle.std.specs.Io.KnownBytes.{Keeps}
use Rattle.wat_lex.specs.errors.Errors.{Report, lex_error_of, offset_of}
use Rattle.wat_lex.specs.declared.lexer.faults.LexError.{LexError}
use Rattle.wat_lex.specs.declared.lexer.faults.LexError.TheVariants.{Unexpected}
use Rattle.wat_tokens_io.specs.Causes.{cause, is_closed_pipe}
use Rattle.wat_tokens_io.specs.declared.failed.Failed.{Failed}
use Rattle.wat_tokens_output.specs.Places.{shown_in, of_file}
use Rattle.wat_tokens_output.specs.Refusals.{reason_message, error_of, refusal}
use Rattle.wat_tokens_output.specs.declared.input.RunFailure.{RunFailure}
use Rattle.wat_tokens_output.specs.declared.input.RunFailure.TheVariants.{Read, TooLong, NotUtf8, Write, Memory}
use Rattle.wat_tokens_args.specs.Complaints.{complaint}
use Rattle.wat_tokens_run.specs.Printed.{Prints, AppendsText, AppendsCut}
use Rattle.wat_tokens_run.specs.Runs.{RunsWithCause}
use Rattle.wat_tokens_run.specs.declared.outcome.Exit.{Exit}
use Rattle.wat_tokens_run.specs.declared.outcome.Outcome.{Outcome}
use Rattle.wat_tokens_run.specs.declared.outcome.Outcome.TheVariants.{Listed, Faulty, Refused, Unopened, Wrong, Differs, Kept}

-- The outcome of a run.
abbrev pub outcome_of : Result (Option (Option Report)) RunFailure → Outcome
outcome_of (Ok None) = Listed
outcome_of (Ok (Some error)) = Faulty error
outcome_of (Err failure) = Refused failure

-- Writing the output of a named file failed because the pipe is closed. Nothing is reported then.
abbrev pub is_closed_output : Bool → RunFailure → Bool
is_closed_output named (Read failed) = false
is_closed_output named TooLong = false
is_closed_output named (NotUtf8 offset) = false
is_closed_output named (Write failed) = named && is_closed_pipe failed
is_closed_output named (Memory refused) = false

-- The exit status of an outcome: 0 if the whole output is written, or its pipe is closed for a named file; 1 if the
-- text has an error or is not formatted; 2 otherwise.
abbrev pub status : Bool → Outcome → ℕ
status named Listed = 0
status named (Faulty error) = 1
status named (Refused failure) = if is_closed_output named failure then 0 else 2
status named (Unopened failed) = 2
status named (Wrong words) = 2
status named Differs = 1
status named Kept = 2

-- The exit status as an integer.
abbrev pub exit_code : Exit → ℕ
exit_code exit = exit.code

-- The error is a byte order mark at the start of the text.
abbrev pub is_marked : Option Report → Bool
is_marked error = offset_of error == 0 && is_mark (lex_error_of error)
  where
    is_mark : Option LexError → Bool
    is_mark None = false
    is_mark (Some (Unexpected c)) = c == 0xFEFF
    is_mark (Some e) = false

-- The second line of the report of a byte order mark.
abbrev pub hint : Option Report → List ℕ
hint error = if is_marked error then codes "\nthe text begins with a byte order mark, which has to go" else []

-- The report of a failure: with its cause if the input has a name, and empty if the pipe for the output of a named
-- input is closed.
abbrev pub refused : Option (List ℕ) → RunFailure → List ℕ
refused None failure = codes "wat_tokens: " ++ (reason_message (error_of failure) ++ codes "\n")
refused (Some name) failure = if is_closed_output true failure then [] else codes "wat_tokens: " ++ (of_file (Some name) ++ (refusal failure ++ codes "\n"))

-- The report of an error in the text. It ends with a hint if the input has a name.
abbrev pub fault_report : Option (List ℕ) → Option Report → List ℕ
fault_report None error = shown_in None error ++ codes "\n"
fault_report (Some name) error = shown_in (Some name) error ++ hint error ++ codes "\n"

-- The text on standard error for the input `name`, or for standard input that is not named.
abbrev pub report : Option (List ℕ) → Outcome → List ℕ
report name Listed = []
report name (Faulty error) = fault_report name error
report name (Refused failure) = refused name failure
report name (Unopened failed) = codes "wat_tokens: " ++ (of_file name ++ (codes "open failed" ++ (cause failed ++ codes "\n")))
report name (Wrong words) = complaint words ++ codes "\n"
report name Differs = []
report name Kept = []

-- The output grows from `old` to `new` as the outcome requires, if the task prints the texts `prints` for the bytes of
-- the input: by the whole text, by a prefix after a failed write, and not at all after any other failure. The remaining
-- outcomes are not those of a run.
abbrev pub Responds : (List ℕ → Option (Option Report) → Type 0) → Outcome → Option (List ℕ) → Option (List ℕ) → Type 0
Responds prints Listed old new = AppendsText prints None old new
Responds prints (Faulty error) old new = AppendsText prints (Some error) old new
Responds prints (Refused (Write failed)) old new = AppendsCut prints old new
Responds prints (Refused (Read failed)) old new = Keeps old new
Responds prints (Refused TooLong) old new = Keeps old new
Responds prints (Refused (NotUtf8 offset)) old new = Keeps old new
Responds prints (Refused (Memory refused)) old new = Keeps old new
Responds prints (Unopened failed) old new = ⊥
Responds prints (Wrong words) old new = ⊥
Responds prints Differs old new = ⊥
Responds prints Kept old new = ⊥

-- Specification of a run that ends in `outcome`. A source `input` becomes `input'`, and a sink `output` becomes
-- `output'`.
pub record Ran {S T : Type 0} (left : S → Option (List ℕ)) (read_failed : S → Option Failed) (has_ended : S → Bool) (held : T → Option (List ℕ)) (write_failed : T → Option Failed) (prints : Prints) (input input' : S) (output output' : T) (outcome : Outcome) : Type 0 where
  pub run : Result (Option (Option Report)) RunFailure
  pub runs : RunsWithCause left read_failed has_ended held write_failed prints input input' output output' run
  pub outcome_is : outcome ≡ outcome_of run
  pub responds : IfSome (left input) (λ bytes. Responds (prints bytes) outcome (held output) (held output'))
