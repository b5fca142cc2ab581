-- Texts that are written to a buffer one after another, as far as its capacity allows.
use Rattle.std.specs.Prelude.{◌≡◌, ◌≤◌, ℕ, List, ◌++◌, length, min}
use Rattle.wat_lex.specs.errors.Rendering.{overwrite_start}

-- `Laid before text bytes at`: writing the text over the buffer `before` gives `bytes`, with the text up to offset
-- `at`.
pub record Laid (before text bytes : List ℕ) (at : ℕ) : Type 0 where
  pub over : bytes ≡ overwrite_start text before
  pub place : at ≡ min (length text) (length before)

-- `WritesAfter bytes at text bytes' at'`: after any texts before it, this text is written at offset `at`, and ends at
-- offset `at'`.
pub record WritesAfter (bytes : List ℕ) (at : ℕ) (text bytes' : List ℕ) (at' : ℕ) : Type 0 where
  pub within : at' ≤ length bytes'
  pub long : length bytes' ≡ length bytes
  pub more : (before already : List ℕ) → Laid before already bytes at → Laid before (already ++ text) bytes' at'
