use Rattle.std.proofs.Common.{◌≡◌, ◌+◌, map, drop}
use Rattle.wat_module_ast.specs.ImplicitTypes.{has_type, type_index}
use Rattle.wat_module_ast.specs.TypeViews.{type_of}
use Rattle.wat_module_ast.proofs.indexed_types.first.Given as goal

abbrev pub invariant-loop-i : goal.invariant-loop-i
invariant-loop-i l =
    (has_type (type_of l.of) (map type_of l.types) ≡ has_type (type_of l.of) (map type_of (drop l.i l.types)))
    × (type_index (type_of l.of) (map type_of l.types) ≡ l.i + type_index (type_of l.of) (map type_of (drop l.i l.types)))
