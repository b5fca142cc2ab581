use Rattle.std.proofs.Common.{◌≡◌, ◌≤◌, ◌+◌, ◌*◌, map, length}
use Rattle.std.specs.Vec.Iter.{into_iter_items, into_iter_len}
use Rattle.wat_module_annotations.specs.Names.{fields_from, outside, preceded_by}
use Rattle.wat_module_annotations.specs.Values.{context_of, field_names_of, item_of}
use Rattle.wat_module_annotations.proofs.placing.fields_in.Given as goal

abbrev pub invariant-loop-item : goal.invariant-loop-item
invariant-loop-item l = (fields_from outside (map item_of l.fn.items.items) ≡ preceded_by (map field_names_of l.fields.items) (fields_from (context_of l.context) (map item_of (into_iter_items l.item-iterator))))
    × (l.context.depth + 2 * length (into_iter_items l.item-iterator) ≤ 2 * length l.fn.items.items)
    × (into_iter_len l.item-iterator ≡ length (into_iter_items l.item-iterator))
