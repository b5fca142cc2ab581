use Rattle.std.proofs.Common.{◌≡◌, ◌≤◌, ◌-◌, length}
use Rattle.wat_lexer_parser.specs.places.Source.{Source}
use Rattle.wat_c_records.specs.Looks.{names_of, shown_after}
use Rattle.wat_c_records.specs.Places.{AreRowsOf}
use Rattle.wat_c_records.proofs.looks.look_at.Given as goal

abbrev pub invariant-rows : goal.invariant-rows
invariant-rows l = record {
  on : l.place ≤ l.number;
  same : (s : Source) → s.setting.text ≡ l.text → AreRowsOf s l.rows l.why
      → shown_after s l.place (names_of l.names l.ends) ≡ shown_after s l.number (names_of l.names l.ends);
}

abbrev pub decreases-rows : goal.decreases-rows
decreases-rows l = length l.rows - l.number
