-- The effect of a read on the remaining bytes of a source, and of a write on the bytes of a sink. Not part of the
-- standard.
use Rattle.std.specs.Prelude.{◌≡◌, ◌<◌, ◌≤◌, ℕ, Bool, false, List, length, take, Option, Some, Result, Ok, Err, MatchResult, ⊤, ◌&&◌, nat_eq, nat_lt}
use Rattle.std.specs.Io.KnownBytes.{Appends, Consumes, IsAtEnd}
use Rattle.wat_tokens_io.specs.declared.failed.Failed.{Failed}

-- `n` bytes were read into `buffer`, in their order. The remaining bytes, if they are known, changed from `old` to
-- `new`. If `n` is 0 and the buffer is not empty, the end of the input was reached.
pub record ReadsInto (old new : Option (List ℕ)) (buffer : List ℕ) (n : ℕ) : Type 0 where
  pub few : n ≤ length buffer
  pub given : Consumes old new (take n buffer)
  pub ended : n ≡ 0 → 0 < length buffer → IsAtEnd new

-- If the bytes of an output are known, they grow from `old` to `new` by a prefix of `bs`, and by nothing else.
pub record AppendsPrefix (old new : Option (List ℕ)) (bs : List ℕ) : Type 0 where
  pub n : ℕ
  pub appended : Appends old new (take n bs)

-- The failure of the last call that failed, after one more call with this result. `before` is that of the earlier
-- calls.
abbrev pub failure_after : {T : Type 0} → Option Failed → Result T Failed → Option Failed
failure_after before (Ok t) = before
failure_after before (Err failed) = Some failed

-- A read with this result found the end of the input: its `buffer` was not empty, and it read no bytes.
abbrev pub reached_end : {E : Type 0} → Result ℕ E → List ℕ → Bool
reached_end (Ok n) buffer = nat_eq n 0 && nat_lt 0 (length buffer)
reached_end (Err e) buffer = false

-- A write with this result failed, or consumed none of its bytes.
abbrev pub WroteNothing : {E : Type 0} → Result ℕ E → Type 0
WroteNothing written = MatchResult written (λ count. count ≡ 0) (λ _. ⊤)
