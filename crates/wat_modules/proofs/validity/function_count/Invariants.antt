use Rattle.std.proofs.Common.{◌≡◌, ◌≤◌, take, map}
use Rattle.wat_module_ast.specs.Views.{field_of}
use Rattle.wat_valid.specs.Modules.{function_count}
use Rattle.wat_modules.proofs.validity.function_count.Given as goal

abbrev pub invariant-loop-field : goal.invariant-loop-field
invariant-loop-field l = record {
  count : l.count ≡ function_count (map field_of (take l.field-index l.fields));
  few : l.count ≤ l.field-index;
}
