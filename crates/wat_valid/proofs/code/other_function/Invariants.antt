use Rattle.std.proofs.Common.{map, take}
use Rattle.wat_module_ast.specs.Fields.{ref_func}
use Rattle.wat_valid.specs.ContextViews.{context_of}
use Rattle.wat_valid.specs.Modules.{ElementsAreValid}
use Rattle.wat_valid.proofs.code.other_function.Given as goal

abbrev pub invariant-loop-i : goal.invariant-loop-i
invariant-loop-i l = ElementsAreValid (context_of l.context) l.of (map ref_func (take l.i l.functions))
