use Rattle.std.proofs.Common.{◌≡◌, ◌+◌, ◌++◌, map, drop}
use Rattle.wat_module_ast.specs.Views.{association_of}
use Rattle.wat_module_annotations.specs.Renaming.{with_names}
use Rattle.wat_module_annotations.specs.Values.{variable_of}
use Rattle.wat_module_annotations.proofs.renaming.with_names.Given as goal

abbrev pub invariant-loop-i : goal.invariant-loop-i
invariant-loop-i l = with_names l.fn.first (map variable_of l.fn.names) (map association_of l.fn.entries)
    ≡ map association_of l.merged.items ++ with_names (l.fn.first + l.i) (map variable_of (drop l.i l.fn.names)) (map association_of l.rest)
