use Rattle.std.proofs.Common.{◌≡◌, ◌≤◌, ◌++◌, ◌∷◌, drop, replicate, suc}
use Rattle.std.specs.List.{flat_map}
use Rattle.wat_module_ast.specs.Views.{local_types}
use Rattle.wat_module_parser.proofs.variables.locals_after.Given as goal

abbrev pub invariant-loop-other : goal.invariant-loop-other
invariant-loop-other l = record {
  are : l.fn.first ∷ l.others ≡ flat_map local_types l.locals.items ++ (replicate l.count l.of ++ drop l.other-index l.others);
  few : l.count ≤ suc l.other-index;
}
