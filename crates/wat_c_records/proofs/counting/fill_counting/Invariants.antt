use Rattle.std.proofs.Common.{length, ◌-◌}
use Rattle.wat_c_records.proofs.Counted.{Counted}
use Rattle.wat_c_records.proofs.counting.fill_counting.Given as goal

abbrev pub invariant-rows : goal.invariant-rows
invariant-rows l = Counted l.lexer l.pos l.at l.initial.out l.out l.count

abbrev pub decreases-rows : goal.decreases-rows
decreases-rows l = length l.text - l.at
