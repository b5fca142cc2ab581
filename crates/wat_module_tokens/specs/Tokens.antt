-- The packed tokens of the code, of 6 bytes each, and the terminals of each. Not part of the standard.
use Rattle.std.specs.Prelude.{◌≡◌, ℕ, ◌+◌, ◌*◌, ◌/◌, ◌%◌, ◌^◌, ◌≤◌, ◌<◌, suc, List, [], ◌∷◌, ◌++◌, Option, Some, None, take, drop, length, slice_get}
use Rattle.std.specs.Cow.{cow_slice_items, cow_str_bytes}
use Rattle.std.specs.List.{All, flat_map}
use Rattle.std.specs.Str.{IsCharBoundary}
use Rattle.wat_module_tokens.specs.declared.stream.PackedU32.{PackedU32}
use Rattle.wat_module_tokens.specs.declared.stream.SideValue.{SideValue}
use Rattle.wat_module_tokens.specs.declared.stream.SideValue.TheVariants as kept
use Rattle.wat_module_tokens.specs.declared.stream.PackedToken.{PackedToken}
use Rattle.wat_module_tokens.specs.declared.stream.PackedToken.TheVariants as short
use Rattle.wat_module_tokens.specs.Terminals.{past, Terminal, Open, Close, Word, Id, Integer, Text, Other, float_of}

-- The integer of 32 bits that two halves hold.
abbrev pub number_of : PackedU32 → ℕ
number_of h = h.high * 2 ^ 16 + h.low

-- The `n` bytes of a text from the offset `o` on.
abbrev pub bytes_at : List ℕ → ℕ → ℕ → List ℕ
bytes_at text o n = take n (drop o text)

-- The terminal of a value in the side table.
abbrev pub kept_terminal : SideValue → Terminal
kept_terminal (kept.Word w) = Word w.now
kept_terminal (kept.Id x) = Id (cow_str_bytes x)
kept_terminal (kept.Integer s n) = Integer s n
kept_terminal (kept.Float w) = float_of w.now
kept_terminal (kept.Text v) = Text (cow_slice_items v)

-- The terminal of an entry of the side table. A readable token always has an entry; without one the
-- terminal is `Other`, which no rule accepts.
abbrev pub kept_or : Option SideValue → Terminal
kept_or None = Other
kept_or (Some k) = kept_terminal k

-- The lengths of both keywords of a keyword group, which one byte holds.
abbrev pub first_len : ℕ → ℕ
first_len n = n / 16

abbrev pub second_len : ℕ → ℕ
second_len n = n % 16

-- The offset of the second keyword of a keyword group: one byte separates it from the first, which begins at `o`.
abbrev pub second_at : ℕ → ℕ → ℕ
second_at o n = o + first_len n + 1

-- The first terminal of a packed token, by its text and the side table `ks`.
abbrev pub terminal_in : List ℕ → List SideValue → PackedToken → Terminal
terminal_in text ks (short.Open e) = Open
terminal_in text ks short.Close = Close
terminal_in text ks (short.Word o n) = Word (bytes_at text (number_of o) n)
terminal_in text ks (short.Id o n) = Id (bytes_at text (number_of o) n)
terminal_in text ks (short.Integer s n) = Integer s (number_of n)
terminal_in text ks (short.Float o n) = float_of (bytes_at text (number_of o) n)
terminal_in text ks (short.Text o n) = Text (bytes_at text (number_of o) n)
terminal_in text ks (short.SideValue i) = kept_or (slice_get ks (number_of i))
terminal_in text ks (short.KeywordGroup o n) = Open
terminal_in text ks short.Other = Other

-- The terminals of a packed token after its first. Only a keyword group has any: two keywords and `)`.
abbrev pub terminals_after : List ℕ → PackedToken → List Terminal
terminals_after text (short.KeywordGroup o n) = Word (bytes_at text (number_of o) (first_len n)) ∷ Word (bytes_at text (second_at (number_of o) n) (second_len n)) ∷ Close ∷ []
terminals_after text t = []

-- The terminals of a packed token, by its text and the side table `ks`.
abbrev pub terminals_in : List ℕ → List SideValue → PackedToken → List Terminal
terminals_in text ks t = terminal_in text ks t ∷ terminals_after text t

-- All terminals, from those of each packed token.
abbrev pub joined : List (List Terminal) → List Terminal
joined xss = flat_map (λ xs. xs) xss

-- The terminals `xs` of a packed token and those of the packed tokens after it, or none if `xs` is empty.
abbrev pub and_after : List Terminal → List (List Terminal) → List Terminal
and_after [] xss = []
and_after (x ∷ xs) xss = x ∷ (xs ++ joined xss)

-- `from_part d xss`: the terminals without the first `d` of the first packed token, from those of each. There are none if
-- it does not have more than `d`.
abbrev pub from_part : ℕ → List (List Terminal) → List Terminal
from_part d [] = []
from_part d (xs ∷ xss) = and_after (drop d xs) xss

-- `from_position at xss`: the terminals from a cursor's position on, from those of each packed token. The position is the
-- index of a packed token, plus 2^62 for each of its terminals that are consumed.
abbrev pub from_position : ℕ → List (List Terminal) → List Terminal
from_position at xss = from_part (at / 2 ^ 62) (drop (at % 2 ^ 62) xss)

-- The distance from a packed token's index to the position after its first terminal.
abbrev pub step_of : PackedToken → ℕ
step_of (short.KeywordGroup o n) = 2 ^ 62
step_of t = 1

-- `AreCharacters text o n`: the `n` bytes from the offset `o` on are whole characters of the text.
abbrev pub AreCharacters : List ℕ → ℕ → ℕ → Type 0
AreCharacters text o n = IsCharBoundary text o × IsCharBoundary text (o + n)

-- `IsReadable text k t`: the token `t` can be decoded with a side table of `k` entries. Its own entry is one of them,
-- so that further entries do not change its terminal.
abbrev pub IsReadable : List ℕ → ℕ → PackedToken → Type 0
IsReadable text k (short.Word o n) = AreCharacters text (number_of o) n
IsReadable text k (short.Id o n) = AreCharacters text (number_of o) n
IsReadable text k (short.Float o n) = AreCharacters text (number_of o) n
IsReadable text k (short.Text o n) = number_of o + n ≤ length text
IsReadable text k (short.SideValue i) = number_of i < k
IsReadable text k (short.KeywordGroup o n) = AreCharacters text (number_of o) (first_len n) × AreCharacters text (second_at (number_of o) n) (second_len n) × (second_at (number_of o) n < 2 ^ 32)
IsReadable text k (short.Integer s n) = Unit {0}
IsReadable text k (short.Open e) = Unit {0}
IsReadable text k short.Close = Unit {0}
IsReadable text k short.Other = Unit {0}

-- `AreReadable text k ts`: each of the tokens `ts` can be decoded with a side table of `k` entries.
abbrev pub AreReadable : List ℕ → ℕ → List PackedToken → Type 0
AreReadable text k ts = All (IsReadable text k) ts

-- `AreLinked xss ts`: the tokens `ts`, with the terminals `xss`, are fewer than 2^32, and the link of each `(` leads to the
-- end of its group: the terminals from that index on are those after its `)`. The link of a group without `)` is at least
-- the number of tokens.
pub record AreLinked (xss : List (List Terminal)) (ts : List PackedToken) : Type 0 where
  pub few : length ts < 2 ^ 32
  pub leads : (i : ℕ) (e : PackedU32) → slice_get ts i ≡ Some (short.Open e) → past 0 (joined (drop (suc i) xss)) ≡ joined (drop (number_of e) xss)

-- The packed tokens of a text: the text, and the terminals of each.
pub record Stream : Type 0 where
  pub text : List ℕ
  pub terminals : List (List Terminal)
