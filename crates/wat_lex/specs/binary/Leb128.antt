-- WebAssembly 2.0, 5.2.2 (integers): LEB128. Each byte holds 7 bits of the integer, the least significant first; its
-- bit 7 is set if more bytes follow. A signed integer is in two's complement, so bit 6 of the last byte is its sign.
-- The standard also allows longer encodings; the encoders here write the shortest one.
use Rattle.std.specs.Prelude.{◌≡◌, ℕ, zero, suc, ◌+◌, ◌-◌, ◌*◌, ◌/◌, ◌%◌, ◌^◌, ◌<◌, ◌≤◌, max, Bool, false, nat_le, if◌then◌else◌, ℤ, pos, negsuc, ◌-ℤ◌, List, [], ◌∷◌, length, map}
use Rattle.std.specs.Int.Digits.{digits_of}

-- The bytes of one integer: bit 7 is set in all of them except the last.
pub data IsLeb128 : List ℕ → Type 0 where
  last : {b : ℕ} → b < 128 → IsLeb128 (b ∷ [])
  more : {b : ℕ} {bs : List ℕ} → 128 ≤ b → b < 256 → IsLeb128 bs → IsLeb128 (b ∷ bs)

-- The unsigned value of bytes: the lowest 7 bits of the first byte, plus 128 times the value of the other bytes.
abbrev pub unsigned_value : List ℕ → ℕ
unsigned_value [] = 0
unsigned_value (b ∷ bs) = b % 128 + 128 * unsigned_value bs

-- `true` if bit 6 of the last byte is set.
abbrev pub has_sign : List ℕ → Bool
has_sign [] = false
has_sign (b ∷ []) = nat_le 64 (b % 128)
has_sign (b ∷ c ∷ bs) = has_sign (c ∷ bs)

-- The signed value of bytes: their unsigned value, minus 128 to the power of their number if bit 6 of the last byte is
-- set.
abbrev pub signed_value : List ℕ → ℤ
signed_value bs =
    if has_sign bs then pos (unsigned_value bs) -ℤ pos (128 ^ length bs) else pos (unsigned_value bs)

-- `IsEncoding value v bytes`: the bytes are LEB128 with the value `v`, and no shorter bytes are.
pub record IsEncoding {V : Type 0} (value : List ℕ → V) (v : V) (bytes : List ℕ) : Type 0 where
  pub is_leb128 : IsLeb128 bytes
  pub decodes : value bytes ≡ v
  pub is_shortest : (others : List ℕ) → IsLeb128 others → value others ≡ v → length bytes ≤ length others

-- `IsTheEncoding value v bytes`: the bytes are the only encoding of `v`.
pub record IsTheEncoding {V : Type 0} (value : List ℕ → V) (v : V) (bytes : List ℕ) : Type 0 where
  pub is : IsEncoding value v bytes
  pub only : (others : List ℕ) → IsEncoding value v others → others ≡ bytes

-- The number of groups of 7 bits in an unsigned integer. It is 1 for 0.
abbrev pub group_count : ℕ → ℕ
group_count n = max 1 (length (digits_of 128 n))

-- `groups k n`: the `k` least significant groups of 7 bits of `n`, the least significant first.
abbrev pub groups : ℕ → ℕ → List ℕ
groups zero n = []
groups (suc k) n = n % 128 ∷ groups k (n / 128)

-- The groups as bytes: bit 7 is set in all of them except the last.
abbrev pub continued : List ℕ → List ℕ
continued [] = []
continued (g ∷ []) = g ∷ []
continued (g ∷ h ∷ gs) = (g + 128) ∷ continued (h ∷ gs)

-- The encoding of an unsigned integer.
unfoldable pub unsigned_leb128 : ℕ → List ℕ
unsigned_leb128 n = continued (groups (group_count n) n)

-- The encoding of a signed integer, which needs one bit more for the sign. The bits of `-(n + 1)` are those of `n`,
-- inverted.
unfoldable pub signed_leb128 : ℤ → List ℕ
signed_leb128 (pos n) = continued (groups (group_count (2 * n)) n)
signed_leb128 (negsuc n) = continued (map (λ g. 127 - g) (groups (group_count (2 * n)) n))

-- The theorem that `unsigned_leb128 n` is the only encoding of the unsigned integer `n`.
abbrev pub IsUnsignedEncoded : ℕ → Type 0
IsUnsignedEncoded n = IsTheEncoding unsigned_value n (unsigned_leb128 n)

-- The theorem that `signed_leb128 n` is the only encoding of the signed integer `n`.
abbrev pub IsSignedEncoded : ℤ → Type 0
IsSignedEncoded n = IsTheEncoding signed_value n (signed_leb128 n)

-- The 7 least significant bits of an integer in two's complement, and the integer without these bits.
abbrev pub low_bits_of : ℤ → ℕ
low_bits_of (pos n) = n % 128
low_bits_of (negsuc n) = 127 - n % 128

abbrev pub high_bits_of : ℤ → ℤ
high_bits_of (pos n) = pos (n / 128)
high_bits_of (negsuc n) = negsuc (n / 128)
