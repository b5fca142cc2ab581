-- The reasons why a run ends without its output. Not part of the standard.
use Rattle.std.specs.Prelude.{◌≡◌, ℕ, List, ◌++◌, codes, Option, Some, None, Result, Ok, Err}
use Rattle.std.specs.Fmt.{decimal}
use Rattle.wat_tokens_io.specs.Causes.{cause}
use Rattle.wat_tokens_io.specs.declared.failed.Failed.{Failed}
use Rattle.wat_tokens_output.specs.declared.input.RunError.{RunError}
use Rattle.wat_tokens_output.specs.declared.input.RunError.TheVariants as error
use Rattle.wat_tokens_output.specs.declared.input.RunFailure.{RunFailure}
use Rattle.wat_tokens_output.specs.declared.input.RunFailure.TheVariants.{Read, TooLong, NotUtf8, Write, Memory}

-- The run failed because a read failed.
abbrev pub IsFailedRead : RunFailure → Type 0
IsFailedRead e = (failed : Failed) × (e ≡ Read failed)

-- The run failed because a write failed.
abbrev pub IsFailedWrite : RunFailure → Type 0
IsFailedWrite e = (failed : Failed) × (e ≡ Write failed)

-- The run failed because the input is not UTF-8.
abbrev pub IsNotUtf8 : RunFailure → Type 0
IsNotUtf8 e = (offset : ℕ) × (e ≡ NotUtf8 offset)

-- The result of a run after a call that wrote its output: `error`, the error of the text, or the failure of the write.
abbrev pub answered : {T : Type 0} → Result (Unit {0}) Failed → T → Result T RunFailure
answered (Ok u) error = Ok error
answered (Err failed) error = Err (Write failed)

-- The failure of the read that ended the run, if one did.
abbrev pub read_failure : {T : Type 0} → Result T RunFailure → Option Failed
read_failure (Ok t) = None
read_failure (Err (Read failed)) = Some failed
read_failure (Err TooLong) = None
read_failure (Err (NotUtf8 offset)) = None
read_failure (Err (Write failed)) = None
read_failure (Err (Memory refused)) = None

-- The failure of the write that ended the run, if one did.
abbrev pub write_failure : {T : Type 0} → Result T RunFailure → Option Failed
write_failure (Ok t) = None
write_failure (Err (Read failed)) = None
write_failure (Err TooLong) = None
write_failure (Err (NotUtf8 offset)) = None
write_failure (Err (Write failed)) = Some failed
write_failure (Err (Memory refused)) = None

-- The failure of the last write that failed, after a run with this result. `before` is that of earlier writes.
abbrev pub failure_after : {T : Type 0} → Option Failed → Result T RunFailure → Option Failed
failure_after before (Ok t) = before
failure_after before (Err (Read failed)) = before
failure_after before (Err TooLong) = before
failure_after before (Err (NotUtf8 offset)) = before
failure_after before (Err (Write failed)) = Some failed
failure_after before (Err (Memory refused)) = before

-- The reason for a failed run, without its cause.
abbrev pub error_of : RunFailure → RunError
error_of (Read failed) = error.Read
error_of TooLong = error.TooLong
error_of (NotUtf8 offset) = error.NotUtf8
error_of (Write failed) = error.Write
error_of (Memory refused) = error.Memory

-- The message for the reason of a failed run.
abbrev pub reason_message : RunError → List ℕ
reason_message error.Read = codes "read failed"
reason_message error.TooLong = codes "input is too long"
reason_message error.NotUtf8 = codes "input is not UTF-8"
reason_message error.Write = codes "write failed"
reason_message error.Memory = codes "out of memory"

-- The message for a failed run: its reason, and its cause if that is known.
abbrev pub refusal : RunFailure → List ℕ
refusal (Read failed) = codes "read failed" ++ cause failed
refusal TooLong = codes "input is too long"
refusal (NotUtf8 offset) = codes "input is not UTF-8 at byte " ++ decimal offset
refusal (Write failed) = codes "write failed" ++ cause failed
refusal (Memory refused) = codes "out of memory"
