use Rattle.std.proofs.Common.{◌≡◌, ◌≤◌, length, map, take, true}
use Rattle.std.specs.List.{AllByRecursion, flat_map}
use Rattle.wat_module_ast.specs.Names.{are_distinct}
use Rattle.wat_module_ast.specs.Views.{field_of}
use Rattle.wat_valid.specs.ContextViews.{context_of}
use Rattle.wat_valid.specs.ExportNames.{HasNames}
use Rattle.wat_valid.specs.Headers.{HeaderIsValid}
use Rattle.wat_valid.specs.Modules.{export_names, mems_in}
use Rattle.wat_valid.proofs.module.check_headers.Given as goal

abbrev pub invariant-loop-i : goal.invariant-loop-i
invariant-loop-i l = record {
  fields : AllByRecursion (HeaderIsValid (context_of l.context)) (map field_of (take l.i l.fields));
  memories : l.memories ≡ length (flat_map mems_in (map field_of (take l.i l.fields)));
  few : l.memories ≤ 1;
  distinct : are_distinct (flat_map export_names (map field_of (take l.i l.fields))) ≡ true;
  names : HasNames l.names (flat_map export_names (map field_of (take l.i l.fields)));
}
