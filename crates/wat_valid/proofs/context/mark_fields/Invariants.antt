use Rattle.std.proofs.Common.{◌≡◌, ◌≤◌, drop, take, map, []}
use Rattle.wat_module_ast.specs.Views.{field_of}
use Rattle.wat_valid.specs.ContextViews.{marked}
use Rattle.wat_valid.specs.Modules.{function_count, refs_after}
use Rattle.wat_valid.proofs.context.mark_fields.Given as goal

abbrev pub invariant-loop-field : goal.invariant-loop-field
invariant-loop-field l = record {
  refs : marked (refs_after [] (map field_of l.fields)) l.fn.declared ≡ marked (refs_after (map field_of (take l.field-index l.fields)) (map field_of (drop l.field-index l.fields))) l.declared;
  count : l.count ≡ function_count (map field_of (take l.field-index l.fields));
  few : l.count ≤ l.field-index;
}
