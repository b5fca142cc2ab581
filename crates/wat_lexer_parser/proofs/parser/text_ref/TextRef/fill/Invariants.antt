use Rattle.std.proofs.Common.{◌≡◌, ◌≤◌, ◌<◌, ◌-◌, ◌^◌, ℕ, length, slice_index_or}
use Rattle.wat_lexer_parser.specs.declared.parser.text_ref.Row.{Row}
use Rattle.wat_lexer_parser.specs.inside.Next.{IsPlace}
use Rattle.wat_lexer_parser.specs.inside.Rows.{IsRow}
use Rattle.wat_lexer_parser.proofs.parser.text_ref.TextRef.fill.Given as goal

abbrev pub invariant-loop-filled : goal.invariant-loop-filled
invariant-loop-filled l = record {
  place : IsPlace l.self l.i l.pos;
  short : l.pos < 2 ^ 32;
  within : l.filled ≤ length l.rows;
  long : length l.rows ≡ length l.initial.rows;
  rows : (k : ℕ) (none : Row) → k < l.filled → IsRow l.self (slice_index_or l.rows k none);
  first : (none : Row) → 0 < l.filled → (slice_index_or l.rows 0 none).from ≡ l.byte;
  begun : l.filled ≡ 0 → l.pos ≡ l.byte;
}

abbrev pub decreases-loop-filled : goal.decreases-loop-filled
decreases-loop-filled l = length l.rows - l.filled
