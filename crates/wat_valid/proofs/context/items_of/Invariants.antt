use Rattle.std.proofs.Common.{◌≡◌, ◌≤◌, ◌++◌, ◌+◌, length, map, drop}
use Rattle.std.specs.List.{flat_map}
use Rattle.wat_module_ast.specs.Fields.{data_of, datas_of}
use Rattle.wat_module_ast.specs.Views.{field_of}
use Rattle.wat_module_ast.specs.TypeViews.{type_of}
use Rattle.wat_valid.specs.Modules as modules
use Rattle.wat_valid.specs.ContextViews.{referred_type}
use Rattle.wat_valid.proofs.context.items_of.Given as goal

abbrev pub invariant-loop-field : goal.invariant-loop-field
invariant-loop-field l = record {
  functions : flat_map (modules.funcs_in (map type_of l.types)) (map field_of l.fields) ≡ map referred_type l.items.functions.items ++ flat_map (modules.funcs_in (map type_of l.types)) (map field_of (drop l.field-index l.fields));
  tables : flat_map modules.tables_in (map field_of l.fields) ≡ l.items.tables.items ++ flat_map modules.tables_in (map field_of (drop l.field-index l.fields));
  memories : flat_map modules.mems_in (map field_of l.fields) ≡ l.items.memories.items ++ flat_map modules.mems_in (map field_of (drop l.field-index l.fields));
  imported : flat_map modules.imported_globals_in (map field_of l.fields) ≡ l.items.imported_globals.items ++ flat_map modules.imported_globals_in (map field_of (drop l.field-index l.fields));
  defined : flat_map modules.defined_globals_in (map field_of l.fields) ≡ l.items.defined_globals.items ++ flat_map modules.defined_globals_in (map field_of (drop l.field-index l.fields));
  elements : flat_map modules.elems_in (map field_of l.fields) ≡ l.items.elements.items ++ flat_map modules.elems_in (map field_of (drop l.field-index l.fields));
  datas : length (datas_of (map field_of l.fields)) ≡ l.items.data_count + length (flat_map data_of (map field_of (drop l.field-index l.fields)));
  few : l.items.data_count ≤ l.field-index;
}
