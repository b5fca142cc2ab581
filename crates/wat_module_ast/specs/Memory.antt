-- WebAssembly 2.0, 6.5.7 (memory instructions: memory arguments) and 6.3.1 (integers). `offset=`
-- or `align=` with its integer is one keyword.
use Rattle.std.specs.Prelude.{ℕ, zero, suc, Bool, true, false, ◌&&◌, ◌==◌, ◌^◌, List, [], ◌∷◌, codes, length, take, drop, bytes_eq, nat_lt, Option, Some, None, if◌then◌else◌}
use Rattle.std.specs.Str.Parse.{digits_value}
use Rattle.wat_lex.specs.grammar.Classes.{underscore}
use Rattle.wat_lex.specs.grammar.Numbers.{is_digit}
use Rattle.wat_lex.specs.values.NumberValues.{base, joined}

-- The rest of `word` after `prefix`, or `None` if `word` does not begin with it.
unfoldable pub after : List ℕ → List ℕ → Option (List ℕ)
after prefix word = if bytes_eq (take (length prefix) word) prefix then Some (drop (length prefix) word) else None

-- 6.3.1, `num` and `hexnum`: one or more digits, each except the first after at most one
-- underscore. They are hexadecimal if `hex` is true.
abbrev pub are_digits : Bool → List ℕ → Bool
are_digits hex [] = false
are_digits hex (c ∷ []) = is_digit hex c
are_digits hex (c ∷ d ∷ cs) = is_digit hex c && (if d == underscore then are_digits hex cs else are_digits hex (d ∷ cs))

-- The integer, if it is below 2^32.
abbrev pub in_32_bits : ℕ → Option ℕ
in_32_bits n = if nat_lt n (2 ^ 32) then Some n else None

-- 6.3.1, `u32`: the value of digits, or `None` if these are not digits or the value is not below 2^32.
abbrev pub number : Bool → List ℕ → Option ℕ
number hex cs = if are_digits hex cs then in_32_bits (digits_value (base hex) (joined cs)) else None

abbrev pub number_by : Option (List ℕ) → List ℕ → Option ℕ
number_by (Some digits) cs = number true digits
number_by None cs = number false cs

-- 6.3.1, `u32`: decimal, or hexadecimal after `0x`.
abbrev pub u32 : List ℕ → Option ℕ
u32 cs = number_by (after (codes "0x") cs) cs

abbrev pub of_digits : Option (List ℕ) → Option ℕ
of_digits (Some cs) = u32 cs
of_digits None = None

-- The exponent of 2, below the first argument, whose power is `a`, or `None` if there is none.
abbrev pub exponent_below : ℕ → ℕ → Option ℕ
exponent_below zero a = None
exponent_below (suc n) a = if 2 ^ n == a then Some n else exponent_below n a

-- The exponent of an alignment, or `None` if it is not a power of 2 below 2^32.
abbrev pub exponent : Option ℕ → Option ℕ
exponent (Some a) = exponent_below 32 a
exponent None = None

-- 6.5.7, `offset=u32`: the offset, or `None` if `w` is another keyword.
abbrev pub offset : List ℕ → Option ℕ
offset w = of_digits (after (codes "offset=") w)

-- 6.5.7, `align=u32`: the exponent of the alignment, or `None` if `w` is another
-- keyword or the alignment is not a power of 2.
abbrev pub align : List ℕ → Option ℕ
align w = exponent (of_digits (after (codes "align=") w))
