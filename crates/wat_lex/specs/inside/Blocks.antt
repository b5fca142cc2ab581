-- Tests of blocks of bytes, in the lexer.
use Rattle.std.specs.Prelude.{◌≡◌, ◌<◌, ◌≤◌, ◌+◌, ℕ, Bool, false, not, ◌&&◌, ◌||◌, ◌==◌, List, map, drop, length, get_or}
use Rattle.std.specs.Int.{is_in_range}
use Rattle.std.specs.List.{prefix_len}
use Rattle.std.specs.Simd.Lanes.{chunk, mask_l}
use Rattle.wat_lex.specs.grammar.Classes.{open_paren, semicolon, line_feed, carriage_return}

-- The mask of the bytes of a block that fail the test, with the lowest bit for the first byte.
abbrev pub failures : (ℕ → Bool) → List ℕ → ℕ
failures p block = mask_l (map (λ b. not (p b)) block)

-- A byte other than LF, CR, and 0xE2, with which each confusing character begins.
abbrev pub is_plain_in_line : ℕ → Bool
is_plain_in_line b = not (b == line_feed || b == carriage_return || b == 0xE2)

-- A byte other than `(`, `;`, and 0xE2, with which each confusing character begins.
abbrev pub is_plain_in_block : ℕ → Bool
is_plain_in_block b = not (b == open_paren || b == semicolon || b == 0xE2)

-- An ASCII byte above both line ends. All of these satisfy `is_plain_in_line`; TAB, for example, does so but is not one
-- of them.
abbrev pub is_surely_plain : ℕ → Bool
is_surely_plain b = is_in_range 14 127 b

-- `GoesOn p text i n`: the `n` bytes from offset `i` pass the test `p`, so the bytes that pass from `i` on continue
-- after them.
abbrev pub GoesOn : (ℕ → Bool) → List ℕ → ℕ → ℕ → Type 0
GoesOn p text i n = prefix_len p (drop i text) ≡ n + prefix_len p (drop (i + n) text)

-- `FirstFailures p text bits`: the text has at least 16 bytes, and `bits` is the mask of those of the first 16 that
-- fail the test `p`.
pub record FirstFailures (p : ℕ → Bool) (text : List ℕ) (bits : ℕ) : Type 0 where
  pub long : 16 ≤ length text
  pub each : bits ≡ failures p (chunk 0 16 text)

-- A byte from 0xA6 to 0xAE, as the last one of each confusing character is.
abbrev pub is_confusing_end : ℕ → Bool
is_confusing_end b = is_in_range 0xA6 0xAE b

-- The bytes 0xE2, then 0x80 or 0x81, and then one from 0xA6 to 0xAE, as of each confusing character.
abbrev pub may_confuse : ℕ → ℕ → ℕ → Bool
may_confuse a b c = (((a == 0xE2) && (b == 0x80)) || ((a == 0xE2) && (b == 0x81))) && is_confusing_end c

-- Such bytes are at offset `k`.
abbrev pub leads_at : List ℕ → ℕ → Bool
leads_at s k = may_confuse (get_or s k 0) (get_or s (k + 1) 0) (get_or s (k + 2) 0)

-- `IsLeadless s n`: such bytes are at none of the first `n` offsets.
abbrev pub IsLeadless : List ℕ → ℕ → Type 0
IsLeadless s n = (k : ℕ) → k < n → leads_at s k ≡ false

-- `IsFirstLead s n`: the byte at offset `n` is 0xE2, and no bytes of this kind are before it.
pub record IsFirstLead (s : List ℕ) (n : ℕ) : Type 0 where
  pub range : n < length s
  pub lead : get_or s n 0 ≡ 0xE2
  pub before : IsLeadless s n
