use Rattle.std.proofs.Common.{◌≡◌, ◌+◌, length}
use Rattle.wat_module_tokens.specs.TokenCursor.{terminals_of}
use Rattle.wat_module_tokens.proofs.stream.TokenCursor.len.Given as goal

abbrev pub invariant-loop-count : goal.invariant-loop-count
invariant-loop-count l = length (terminals_of l.left) + l.count ≡ length (terminals_of l.self)
