-- Results of readers for C, and the contents of the caller's buffer after a call. They are not part of the standard.
use Rattle.std.specs.Prelude.{◌≡◌, ◌≢◌, ◌++◌, nat_le, ℕ, List, length, drop, Result, Ok, Err, alloc_error, if◌then◌else◌}
use Rattle.wat_c_records.specs.Rows.{fault_code}
use Rattle.wat_c.specs.declared.answers.Answer.{Answer}
use Rattle.wat_c.specs.declared.answers.Refusal.{Refusal}
use Rattle.wat_c.specs.declared.answers.Refusal.TheVariants.{Other, Memory, Absent, Fault}

-- `put bytes old` is the contents of a buffer after bytes are written to its front if they all fit, otherwise the old
-- contents.
abbrev pub put : List ℕ → List ℕ → List ℕ
put bytes old = if nat_le (length bytes) (length old) then bytes ++ drop (length bytes) old else old

abbrev pub status_of : Refusal → ℕ
status_of Other = 1
status_of (Memory refused) = 2
status_of Absent = 3
status_of (Fault e) = fault_code e

-- `answer_of result` is the length of the bytes, or the status that tells why there are none.
abbrev pub answer_of : Result (List ℕ) Refusal → Answer
answer_of (Ok bytes) = record { needed = length bytes; status = 0 }
answer_of (Err refusal) = record { needed = 0; status = status_of refusal }

abbrev pub left_of : List ℕ → Result (List ℕ) Refusal → List ℕ
left_of old (Ok bytes) = put bytes old
left_of old (Err refusal) = old

-- `Answers Reads old new answer`: a reader found a result for which `Reads` holds. It reports this as `answer`, and
-- writes it to the buffer if it fits, whose contents change from `old` to `new`.
pub record Answers (Reads : Result (List ℕ) Refusal → Type 0) (old new : List ℕ) (answer : Answer) : Type 0 where
  pub found : Result (List ℕ) Refusal
  pub reads : Reads found
  pub known : answer ≡ answer_of found
  pub left : new ≡ left_of old found

-- `OneAnswer Reads old`: any two results of such a reader that are not allocation failures are equal, in the length,
-- the status and the contents of the buffer afterwards.
unfoldable pub OneAnswer : (Result (List ℕ) Refusal → Type 0) → List ℕ → Type 0
OneAnswer Reads old = (new other : List ℕ) (answer known : Answer) → Answers Reads old new answer → Answers Reads old other known
    → answer.status ≢ status_of (Memory alloc_error) → known.status ≢ status_of (Memory alloc_error) → (answer ≡ known) × (new ≡ other)
