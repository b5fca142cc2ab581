use Rattle.std.proofs.Common.{refl}
use lib.Ieee.{to_bits, round}
use Rattle.wat_floats.specs.Literals.{numerator, denominator, nearest, after}
use Rattle.wat_floats.proofs.laws.samples.Goals as goal

pub returns : goal.returns
unfolding numerator denominator nearest after round to_bits
returns c = record {
  tenth = refl;
  tenth_of_32 = refl;
  no_digit_after_the_dot = refl;
  minus_zero = refl;
  integer = refl;
  least = refl;
  greatest = refl;
  beyond = refl;
  beyond_below = refl;
  below_halfway = refl;
  halfway = refl;
  tie = refl;
  above_a_tie = refl;
  hexadecimal_integer = refl;
  with_fraction = refl;
  tie_up = refl;
  tie_down = refl;
  sticky = refl;
  tie_of_32 = refl;
  sticky_of_32 = refl;
  least_subnormal = refl;
  half_of_it = refl;
  more_than_half = refl;
  least_normal = refl;
  carried_to_normal = refl;
  just_finite = refl;
  just_beyond = refl;
  tie_to_even = refl;
  greatest_integer = refl;
  minus_infinity = refl;
  quiet = refl;
  payload = refl;
  payload_of_64 = refl;
  payload_too_large = refl;
  no_payload = refl;
}
