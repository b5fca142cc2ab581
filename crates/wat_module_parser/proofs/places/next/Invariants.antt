use Rattle.std.proofs.Common.{◌≡◌, ◌≤◌, map, drop}
use Rattle.wat_module_ast.specs.Views.{field_of}
use Rattle.wat_module_parser.specs.Places.{index_by}
use Rattle.wat_module_parser.specs.Views.{property}
use Rattle.wat_module_parser.proofs.places.next.Given as goal

abbrev pub invariant-loop-i : goal.invariant-loop-i
invariant-loop-i l = index_by (property l.sought) l.from (drop l.from (map field_of l.fields)) ≡ index_by (property l.sought) l.i (drop l.i (map field_of l.fields))
