use Rattle.std.proofs.Common.{◌≡◌, ◌≤◌, ◌+◌, ◌++◌, map, drop, length}
use Rattle.std.specs.Vec.Iter.{into_iter_items, into_iter_len}
use Rattle.wat_module_ast.specs.TypeViews.{type_of}
use Rattle.wat_module_ast.specs.Views.{field_of}
use Rattle.wat_module_annotations.specs.Renaming.{renamed_by}
use Rattle.wat_module_annotations.specs.Values.{field_names_of}
use Rattle.wat_module_annotations.proofs.renaming.renamed_by.Given as goal

abbrev pub invariant-loop-field : goal.invariant-loop-field
invariant-loop-field l = (renamed_by (map type_of l.fn.types) (map field_names_of l.fn.names) (map field_of l.fn.fields.items)
    ≡ map field_of l.renamed.items ++ renamed_by (map type_of l.fn.types) (drop l.index (map field_names_of l.fn.names)) (map field_of (into_iter_items l.field-iterator)))
    × (l.index + length (into_iter_items l.field-iterator) ≤ length l.fn.fields.items)
    × (into_iter_len l.field-iterator ≡ length (into_iter_items l.field-iterator))
