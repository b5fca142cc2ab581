-- The offsets of the line feeds of a text.
use Rattle.std.specs.Prelude.{◌≡◌, ◌<◌, ◌≤◌, ℕ, true, List, length, take, slice_index}
use Rattle.std.specs.List.{count_by}
use Rattle.wat_lex.specs.errors.Positions.{is_line_feed}

-- `FeedsUpTo text offset feeds`: `feeds` are the offsets of the line feeds before `offset`, in order.
pub record FeedsUpTo (text : List ℕ) (offset : ℕ) (feeds : List ℕ) : Type 0 where
  pub within : offset ≤ length text
  pub inside : (k : ℕ) → k < length feeds → slice_index feeds k < length text
  pub feed : (k : ℕ) → k < length feeds → is_line_feed (slice_index text (slice_index feeds k)) ≡ true
  pub before : (k : ℕ) → k < length feeds → count_by is_line_feed (take (slice_index feeds k) text) ≡ k
  pub all : count_by is_line_feed (take offset text) ≡ length feeds

-- The offsets of all line feeds of the text, in order.
abbrev pub LineFeeds : List ℕ → List ℕ → Type 0
LineFeeds text feeds = FeedsUpTo text (length text) feeds
