use Rattle.std.proofs.Common.{rules}
use Rattle.wat_module_ast.specs.Memory.{after}
use Rattle.wat_module_instructions.proofs.memory.after.Goals as goal

pub returns : goal.returns
unfolding after
returns c = search rules
