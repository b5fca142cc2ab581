use Rattle.std.proofs.Common.{map, take}
use Rattle.std.specs.List.{AllByRecursion}
use Rattle.wat_module_ast.specs.Views.{field_of}
use Rattle.wat_valid.specs.ContextViews.{context_of}
use Rattle.wat_valid.specs.Headers.{CodeIsValid}
use Rattle.wat_valid.proofs.code.check_codes.Given as goal

abbrev pub invariant-loop-i : goal.invariant-loop-i
invariant-loop-i l = AllByRecursion (CodeIsValid (context_of l.context) (context_of l.constants)) (map field_of (take l.i l.fields))
