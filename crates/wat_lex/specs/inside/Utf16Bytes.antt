-- The count of UTF-16 code units, computed from the bytes of UTF-8.
use Rattle.std.specs.Prelude.{◌≡◌, ◌<◌, ℕ, ◌+◌, ◌*◌, Bool, nat_le, List, length, take, get_or, if◌then◌else◌}
use Rattle.std.specs.Fmt.{is_char_start}
use Rattle.std.specs.List.{sum_by}

-- The first byte of a character at or above U+10000, which has two code units.
abbrev pub begins_pair : ℕ → Bool
begins_pair b = nat_le 0xF0 b

-- The code units of the character that begins with this byte, or 0 for a byte inside a character.
abbrev pub byte_units : ℕ → ℕ
byte_units b = (if is_char_start b then 1 else 0) + (if begins_pair b then 1 else 0)

-- `AreUnits text marks`: item `k` of `marks` is the count of code units in the first `k` times 64 KiB of the text.
abbrev pub AreUnits : List ℕ → List ℕ → Type 0
AreUnits text marks = (k : ℕ) → k < length marks → get_or marks k 0 ≡ sum_by byte_units (take (k * 0x10000) text)
