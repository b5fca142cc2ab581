use Rattle.std.proofs.Common.{◌-◌, length}
use Rattle.wat_wasm.proofs.Filling.{Filling}
use Rattle.wat_wasm.proofs.rows.fill.Given as goal

abbrev pub invariant-tokens : goal.invariant-tokens
invariant-tokens l = Filling l.lexer l.fn.rows l.rows l.count l.pos

abbrev pub decreases-tokens : goal.decreases-tokens
decreases-tokens l = length l.lexer.text - l.pos
