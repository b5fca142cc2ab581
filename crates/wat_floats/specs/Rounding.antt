-- Contracts between private functions.
use Rattle.std.specs.Prelude.{◌≡◌, ℕ, ◌+◌, ◌-◌, ◌*◌, ◌/◌, ◌%◌, ◌^◌, ◌<◌, ◌≤◌, Bool, true, false, not, ◌&&◌, ◌||◌, ◌==◌, if◌then◌else◌}
use Rattle.std.specs.Float.Ieee.{Format, binary32, binary64}
use Rattle.core.specs.Dec2flt.Rounding.{scaled_bits}
use Rattle.wat_floats.specs.declared.precision.Precision.{Precision}
use Rattle.wat_floats.specs.declared.precision.Precision.TheVariants.{Single, Double}

-- The format of a precision.
abbrev pub format : Precision → Format
format Single = binary32
format Double = binary64

-- `IsLeading n count dropped more`: `n` is `count * 16 ^ dropped`; if `more` is set, it exceeds this by less than `16 ^
-- dropped`. If digits are dropped, `count` is at least 2^60.
pub record IsLeading (n count dropped : ℕ) (more : Bool) : Type 0 where
  pub from : count * 16 ^ dropped ≤ n
  pub below : n < (count + 1) * 16 ^ dropped
  pub exact : more ≡ false → count * 16 ^ dropped ≡ n
  pub strict : more ≡ true → count * 16 ^ dropped < n
  pub full : 0 < dropped → 2 ^ 60 ≤ count

-- `IsScaled num den count more up down`: `num / den` is `count * 2 ^ up / 2 ^ down`; if `more` is set, it exceeds this
-- by less than `2 ^ up / 2 ^ down`.
pub record IsScaled (num den count : ℕ) (more : Bool) (up down : ℕ) : Type 0 where
  pub from : count * 2 ^ up * den ≤ num * 2 ^ down
  pub below : num * 2 ^ down < (count + 1) * 2 ^ up * den
  pub exact : more ≡ false → count * 2 ^ up * den ≡ num * 2 ^ down
  pub strict : more ≡ true → count * 2 ^ up * den < num * 2 ^ down

-- `IsCapped n capped`: `capped` is `n`, or a smaller number that is at least 2^100.
pub record IsCapped (n capped : ℕ) : Type 0 where
  pub most : capped ≤ n
  pub same : capped < 2 ^ 100 → capped ≡ n

-- `AreCapped u v up down`: `up` and `down` are `u` and `v`, or smaller. A smaller one exceeds the other by at least
-- 4096.
pub record AreCapped (u v up down : ℕ) : Type 0 where
  pub up_most : up ≤ u
  pub down_most : down ≤ v
  pub up_same : up < down + 4096 → up ≡ u
  pub down_same : down < up + 4096 → down ≡ v

-- `goes_up count more d`: rounding away the `d` lowest bits of `count` goes up. The dropped part, to which `more` adds
-- something below 1, is more than half of the lowest kept bit, or exactly half of it, and that bit is set.
abbrev pub goes_up : ℕ → Bool → ℕ → Bool
goes_up count more d = count / 2 ^ (d - 1) % 2 == 1 && (more || not (count % 2 ^ (d - 1) == 0) || count / 2 ^ d % 2 == 1)

-- The bits of the number that results from rounding away the `d` lowest bits. The lowest kept bit is worth 2 to the
-- power of `k` times the least positive number.
abbrev pub rounded_bits : Format → ℕ → Bool → ℕ → ℕ → ℕ
rounded_bits f count more d k = scaled_bits f (if goes_up count more d then count / 2 ^ d + 1 else count / 2 ^ d) k
