-- WebAssembly 2.0, 6.3.2 (floating-point): the bits that a numeric literal denotes, in the format of 32 or 64 bits.
-- They are those of the standard's float of N bits, the nearest number of the format; of two equally near ones it is
-- the even one. A literal that rounds to infinity, and a NaN whose payload is 0 or too large, denote nothing. The
-- results for words that are not numeric literals have no meaning.
use Rattle.std.specs.Prelude.{ℕ, ◌+◌, ◌*◌, ◌/◌, ◌^◌, Bool, true, false, ◌&&◌, ◌==◌, if◌then◌else◌, nat_lt, Option, Some, None, List, [], ◌∷◌, ◌++◌, length, take, drop, codes, bytes_eq, to_bits}
use Rattle.std.specs.List.{prefix_len}
use Rattle.std.specs.Option.{option_map}
use Rattle.std.specs.Str.Parse.{digits_value}
use Rattle.std.specs.Float.Ieee.{Format, round, ones, hid, top}
use Rattle.wat_lex.specs.grammar.Classes.{dot}
use Rattle.wat_lex.specs.grammar.Numbers.{unsigned, is_negative, is_digit, is_exponent_letter}
use Rattle.wat_lex.specs.values.NumberValues.{joined, base}

-- The digits at the start of a text, and the text after them.
abbrev pub digits : Bool → List ℕ → List ℕ
digits hex t = take (prefix_len (is_digit hex) t) t

abbrev pub after_digits : Bool → List ℕ → List ℕ
after_digits hex t = drop (prefix_len (is_digit hex) t) t

-- The digits after a dot at the start of a text, and the text after them.
abbrev pub fraction : Bool → List ℕ → List ℕ
fraction hex [] = []
fraction hex (c ∷ t) = if c == dot then digits hex t else []

abbrev pub after_fraction : Bool → List ℕ → List ℕ
after_fraction hex [] = []
after_fraction hex (c ∷ t) = if c == dot then after_digits hex t else c ∷ t

-- The exponent at the start of a text, without its letter.
abbrev pub exponent : Bool → List ℕ → List ℕ
exponent hex [] = []
exponent hex (c ∷ t) = if is_exponent_letter hex c then t else []

abbrev pub size : List ℕ → ℕ
size e = digits_value 10 (digits false (unsigned e))

-- The base of the exponent's power.
abbrev pub radix : Bool → ℕ
radix true = 2
radix false = 10

-- The exponent of the power that multiplies, and of the one that divides. At least one of them is 0.
abbrev pub up_power : List ℕ → ℕ
up_power e = if is_negative e then 0 else size e

abbrev pub down_power : List ℕ → ℕ
down_power e = if is_negative e then size e else 0

-- The numerator and the denominator of the value of a literal without sign, `0x` and underscores.
unfoldable pub numerator : Bool → List ℕ → ℕ
numerator hex t =
    let rest = after_digits hex t in
    digits_value (base hex) (digits hex t ++ fraction hex rest) * radix hex ^ up_power (exponent hex (after_fraction hex rest))

unfoldable pub denominator : Bool → List ℕ → ℕ
denominator hex t =
    let rest = after_digits hex t in
    base hex ^ length (fraction hex rest) * radix hex ^ down_power (exponent hex (after_fraction hex rest))

-- The bits of infinity, and the sign bit.
abbrev pub infinity : Format → ℕ
infinity f = ones f * hid f

abbrev pub sign_bit : Format → ℕ
sign_bit f = top f

-- The bits of the number of the format that is nearest to a literal without sign, `0x` and underscores.
unfoldable pub nearest : Format → Bool → List ℕ → ℕ
nearest f hex t = to_bits f (round f false (numerator hex t) (denominator hex t))

-- The bits if they are less than those of infinity.
abbrev pub finite : Format → ℕ → Option ℕ
finite f bits = if nat_lt bits (infinity f) then Some bits else None

-- The bits of a NaN with this payload, which must be at least 1, and below the lowest bit of the exponent.
abbrev pub payload : Format → ℕ → Option ℕ
payload f n = if nat_lt 0 n && nat_lt n (hid f) then Some (infinity f + n) else None

-- The part of the word after the prefix, or `None` if the word does not begin with it.
unfoldable pub after : List ℕ → List ℕ → Option (List ℕ)
after prefix word = if bytes_eq (take (length prefix) word) prefix then Some (drop (length prefix) word) else None

-- The bits of a literal by its first case: digits after `nan:0x`, digits after `0x`, or the whole word.
abbrev pub by_prefix : Format → Option (List ℕ) → Option (List ℕ) → List ℕ → Option ℕ
by_prefix f (Some t) h w = payload f (digits_value 16 (digits true t))
by_prefix f None (Some t) w = finite f (nearest f true t)
by_prefix f None None w = finite f (nearest f false w)

-- The bits of a literal without sign and underscores.
abbrev pub magnitude : Format → List ℕ → Option ℕ
magnitude f w =
    if bytes_eq w (codes "inf") then Some (infinity f)
    else if bytes_eq w (codes "nan") then Some (infinity f + hid f / 2)
    else by_prefix f (after (codes "nan:0x") w) (after (codes "0x") w) w

abbrev pub signed : Format → Bool → Option ℕ → Option ℕ
signed f negative m = option_map (λ bits. if negative then sign_bit f + bits else bits) m

-- The bits of a literal.
abbrev pub literal : Format → List ℕ → Option ℕ
literal f w = signed f (is_negative w) (magnitude f (joined (unsigned w)))

-- The bits of the number nearest to an integer with this sign and absolute value.
abbrev pub of_integer : Format → Bool → ℕ → Option ℕ
of_integer f negative n = signed f negative (finite f (to_bits f (round f false n 1)))
