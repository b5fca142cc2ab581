use Rattle.std.proofs.Common.{◌≡◌, ◌≤◌, length}
use Rattle.std.specs.Prelude.{map}
use Rattle.wat_c_records.specs.Links.{LinkedFrom, without_link}
use Rattle.wat_c_records.proofs.links.link.Given as goal

abbrev pub invariant-links : goal.invariant-links
invariant-links l = record {
  bound : l.number ≤ length l.rows;
  linked : LinkedFrom l.number l.rows;
  kept : map without_link l.rows ≡ map without_link l.initial.rows;
}

abbrev pub decreases-links : goal.decreases-links
decreases-links l = l.number
