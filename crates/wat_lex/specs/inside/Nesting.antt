-- The number of block comments that are open at an offset, and the offsets of the delimiters of comments.
use Rattle.std.specs.Prelude.{◌≡◌, ◌+◌, ◌==◌, ◌&&◌, ◌||◌, ℕ, zero, suc, Bool, List, map, get_or}
use Rattle.std.specs.List.{range_with_len}
use Rattle.std.specs.Simd.Lanes.{mask_l}
use Rattle.wat_lex.specs.grammar.Classes.{open_paren, close_paren, semicolon}
use Rattle.wat_lex.specs.grammar.Comments.{Closes}

-- `Closings n t r`: `n` comments are open in `t`, which closes them one after another, and then `r` follows.
abbrev pub Closings : ℕ → List ℕ → List ℕ → Type 0
Closings zero t r = t ≡ r
Closings (suc n) t r = (m : List ℕ) × Closes t m × Closings n m r

-- `Reaches s n t`: `s` closes a comment before a rest if and only if `t` closes `n` comments before this rest.
pub record Reaches (s : List ℕ) (n : ℕ) (t : List ℕ) : Type 0 where
  pub into : (r : List ℕ) → Closings n t r → Closes s r
  pub from : (r : List ℕ) → Closes s r → Closings n t r

-- `(;` is at offset `k`.
abbrev pub opens_at : List ℕ → ℕ → Bool
opens_at s k = (get_or s k 0 == open_paren) && (get_or s (k + 1) 0 == semicolon)

-- `;)` is at offset `k`.
abbrev pub closes_at : List ℕ → ℕ → Bool
closes_at s k = (get_or s k 0 == semicolon) && (get_or s (k + 1) 0 == close_paren)

-- A delimiter of a comment, `(;` or `;)`, is at offset `k`.
abbrev pub delimits : List ℕ → ℕ → Bool
delimits s k = opens_at s k || closes_at s k

-- The mask of the `n` offsets from `i` that pass the test `p`, with the lowest bit for `i`.
abbrev pub passing : (ℕ → Bool) → ℕ → ℕ → ℕ
passing p i n = mask_l (map p (range_with_len i n))
