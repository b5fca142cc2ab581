use Rattle.std.proofs.Common.{◌≡◌, ◌+◌, ◌≤◌, drop}
use Rattle.wat_format.specs.Gaps.{line_ends}
use Rattle.wat_format.proofs.gap.gap_of.Given as goal

abbrev pub invariant-loop-byte : goal.invariant-loop-byte
invariant-loop-byte l = record {
  counted : l.ends + line_ends l.last (drop l.byte-index l.white) ≡ line_ends 0 l.white;
  few : l.ends ≤ l.byte-index;
}
