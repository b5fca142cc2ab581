-- Literals whose bits are known from other sources, as test cases of the definition.
use Rattle.std.specs.Prelude.{◌≡◌, ℕ, true, false, Option, Some, None, List, codes}
use Rattle.std.specs.Float.{binary32, binary64}
use Rattle.wat_floats.specs.Literals.{literal, of_integer}

abbrev single : List ℕ → Option ℕ
single w = literal binary32 w

abbrev double : List ℕ → Option ℕ
double w = literal binary64 w

pub record Samples : Type 0 where
  -- Decimal literals.
  pub tenth : double (codes "0.1") ≡ Some 0x3FB999999999999A
  pub tenth_of_32 : single (codes "0.1") ≡ Some 0x3DCCCCCD
  pub no_digit_after_the_dot : double (codes "1.") ≡ Some 0x3FF0000000000000
  pub minus_zero : double (codes "-0") ≡ Some 0x8000000000000000
  pub integer : single (codes "+16_777_217") ≡ Some 0x4B800000
  pub least : double (codes "5e-324") ≡ Some 1
  pub greatest : double (codes "1.7976931348623157E+308") ≡ Some 0x7FEFFFFFFFFFFFFF
  pub beyond : double (codes "1e400") ≡ None
  pub beyond_below : double (codes "-1e400") ≡ None
  -- The midpoint between the greatest finite number of 32 bits and 2^128, and 1 less than the midpoint.
  pub below_halfway : single (codes "340282356779733661637539395458142568447") ≡ Some 0x7F7FFFFF
  pub halfway : single (codes "340282356779733661637539395458142568448") ≡ None
  -- 2^53 + 1 is a tie between an even number below and an odd one above.
  pub tie : double (codes "9007199254740993") ≡ Some 0x4340000000000000
  pub above_a_tie : double (codes "9007199254740993.00000000000000000001") ≡ Some 0x4340000000000001
  -- Hexadecimal literals.
  pub hexadecimal_integer : single (codes "0x10") ≡ Some 0x41800000
  pub with_fraction : double (codes "0x1.8p+1") ≡ Some 0x4008000000000000
  pub tie_up : double (codes "0x1.fffffffffffff8p+0") ≡ Some 0x4000000000000000
  pub tie_down : double (codes "0x1.000000000000080p0") ≡ Some 0x3FF0000000000000
  pub sticky : double (codes "0x1.000000000000080000000001p0") ≡ Some 0x3FF0000000000001
  pub tie_of_32 : single (codes "0x1.000001p+0") ≡ Some 0x3F800000
  pub sticky_of_32 : single (codes "0x1.00000100000000000000001p+0") ≡ Some 0x3F800001
  pub least_subnormal : double (codes "0x1p-1074") ≡ Some 1
  pub half_of_it : double (codes "0x1p-1075") ≡ Some 0
  pub more_than_half : double (codes "-0x1.0_1p-1_075") ≡ Some 0x8000000000000001
  pub least_normal : double (codes "0x1p-1022") ≡ Some 0x0010000000000000
  pub carried_to_normal : single (codes "0x0.ffffffp-126") ≡ Some 0x00800000
  pub just_finite : single (codes "0x1.fffffefp+127") ≡ Some 0x7F7FFFFF
  pub just_beyond : single (codes "0x1.ffffffp+127") ≡ None
  -- Integers.
  pub tie_to_even : of_integer binary32 true 16777217 ≡ Some 0xCB800000
  pub greatest_integer : of_integer binary64 false 0xFFFFFFFFFFFFFFFF ≡ Some 0x43F0000000000000
  -- Infinities and NaNs.
  pub minus_infinity : single (codes "-inf") ≡ Some 0xFF800000
  pub quiet : double (codes "nan") ≡ Some 0x7FF8000000000000
  pub payload : single (codes "-nan:0x7f_ffff") ≡ Some 0xFFFFFFFF
  pub payload_of_64 : double (codes "nan:0x1") ≡ Some 0x7FF0000000000001
  pub payload_too_large : single (codes "nan:0x800000") ≡ None
  pub no_payload : double (codes "nan:0x0") ≡ None
