-- The result of reading a source to its end. The remaining bytes, if they are known, change from `old` to `new`. Not
-- part of the standard.
use Rattle.std.specs.Prelude.{◌≡◌, ◌<◌, ◌^◌, ℕ, Bool, true, List, length, Option}
use Rattle.std.specs.Io.KnownBytes.{Consumes, IsAtEnd}

-- All remaining bytes were read: these are `bytes`, fewer than 2^32.
pub record ReadsWhole (old new : Option (List ℕ)) (bytes : List ℕ) : Type 0 where
  pub given : Consumes old new bytes
  pub ended : IsAtEnd new
  pub short : length bytes < 2 ^ 32

-- Fewer than 2^32 bytes were read: no more than a text may have.
pub record ReadsShort (old new : Option (List ℕ)) : Type 0 where
  pub bytes : List ℕ
  pub given : Consumes old new bytes
  pub short : length bytes < 2 ^ 32

-- Exactly 2^32 bytes were read, one more than a text may have.
pub record ReadsPast (old new : Option (List ℕ)) : Type 0 where
  pub bytes : List ℕ
  pub given : Consumes old new bytes
  pub long : length bytes ≡ 2 ^ 32

-- The last read found the end of the input, and no bytes remain.
abbrev pub HasEnded : Option (List ℕ) → Bool → Type 0
HasEnded left ended = (ended ≡ true) × IsAtEnd left
