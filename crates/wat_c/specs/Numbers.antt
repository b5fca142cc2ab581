-- WebAssembly 2.0, 6.3.1 (integers): an integer in a number of bits. A signed one may also have the values of an
-- unsigned one; an unsigned one may not have a `-`.
use Rattle.std.specs.Prelude.{ℕ, suc, ◌+◌, ◌-◌, ◌*◌, ◌^◌, ◌==◌, Bool, true, false, if◌then◌else◌, ℤ, pos, negsuc, List, ◌∷◌, Option, Some, None, Result, Ok, Err}
use Rattle.std.specs.Option.{option_map}
use Rattle.wat_lex.specs.errors.Errors.{Report}
use Rattle.wat_lex.specs.grammar.Classes.{minus}
use Rattle.wat_lex.specs.values.NumberValues.{joined}
use Rattle.wat_lexer_parser.specs.readings.Types.{signed_within, unsigned_below}
use Rattle.wat_c_records.specs.declared.rows.KindRow.{KindRow}
use Rattle.wat_c.specs.declared.numbers.Number.{Number}

-- `half_range bits` is 2^(bits-1), for the sizes of integers: 8, 16, 32 and 64.
abbrev pub half_range : ℕ → Option ℕ
half_range bits =
    if bits == 8 then Some (2 ^ 7)
    else if bits == 16 then Some (2 ^ 15)
    else if bits == 32 then Some (2 ^ 31)
    else if bits == 64 then Some (2 ^ 63)
    else None

-- `complement half n` is the two's complement of `n`.
abbrev pub complement : ℕ → ℤ → ℕ
complement half (pos n) = n
complement half (negsuc n) = 2 * half - suc n

-- `wrap_to_bits half signed (minus, magnitude)` is the two's complement of the integer, or `None` if it is out of range.
abbrev pub wrap_to_bits : ℕ → Bool → Bool × ℕ → Option ℕ
wrap_to_bits half true number = option_map (complement half) (signed_within half number)
wrap_to_bits half false number = unsigned_below (2 * half) number

abbrev pub in_bits_of : Option ℕ → Bool → Bool × ℕ → Option ℕ
in_bits_of None signed number = None
in_bits_of (Some half) signed number = wrap_to_bits half signed number

abbrev pub no_number : ℕ → Number
no_number status = record { value = 0; status = status }

abbrev pub bits_known : Option ℕ → Number
bits_known None = no_number 5
bits_known (Some value) = record { value = value; status = 0 }

-- `number_known bits signed reading` is the result for a token, given its reading as an integer.
abbrev pub number_known : ℕ → Bool → Option (Result (Bool × ℕ) Report) → Number
number_known bits signed None = no_number 1
number_known bits signed (Some (Err report)) = no_number 1
number_known bits signed (Some (Ok number)) = bits_known (in_bits_of (half_range bits) signed number)

-- `lead k` is the number of bytes before the digits of an integer: its sign and `0x`.
abbrev pub lead : KindRow → ℕ
lead k = (if k.sign == 0 then 0 else 1) + (if k.hex then 2 else 0)

-- `signed_digits minus ds` is the digits without underscores, after a `-` if `minus` is `true`.
abbrev pub signed_digits : Bool → List ℕ → List ℕ
signed_digits true ds = minus ∷ joined ds
signed_digits false ds = joined ds
