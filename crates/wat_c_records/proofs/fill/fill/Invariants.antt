use Rattle.std.proofs.Common.{length, ◌-◌}
use Rattle.wat_c_records.proofs.Filling.{Listed}
use Rattle.wat_c_records.proofs.fill.fill.Given as goal

abbrev pub invariant-rows : goal.invariant-rows
invariant-rows l = Listed l.lexer l.pos l.at l.initial.out l.out l.count

-- proposed from the loop's first test
abbrev pub decreases-rows : goal.decreases-rows
decreases-rows l = length l.initial.out - l.count
