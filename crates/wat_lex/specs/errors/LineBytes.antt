-- Classes of the bytes of a source line, for printing it. No public contract cites them.
use Rattle.std.specs.Prelude.{ℕ, Bool, not, ◌==◌, ◌||◌}
use Rattle.std.specs.Int.{is_in_range}

-- A byte other than a TAB and 0xE2, with which each confusing character begins.
abbrev pub is_kept : ℕ → Bool
is_kept b = not (b == 9 || b == 0xE2)

-- A byte of printable ASCII, which has one column, or a TAB, which prints as spaces of one column each.
abbrev pub is_by_columns : ℕ → Bool
is_by_columns b = is_in_range 0x20 0x7E b || (b == 9)
