use Rattle.std.proofs.Common.{◌≡◌, ◌≤◌, ◌+◌, suc, map, length}
use Rattle.std.specs.Vec.Iter.{into_iter_items, into_iter_len}
use Rattle.wat_module_custom.specs.Customs.{sections_from, sections_in}
use Rattle.wat_module_custom.specs.Values.{item_of, section_of}
use Rattle.wat_module_custom.proofs.Steps.{with_all}
use Rattle.wat_module_custom.proofs.placing.placed.Given as goal

abbrev pub invariant-loop-item : goal.invariant-loop-item
invariant-loop-item l = (sections_in (map item_of l.fn.items.items) ≡ with_all (map section_of l.sections.items) (sections_from l.left l.depth (map item_of (into_iter_items l.item-iterator))))
    × (l.depth + length (into_iter_items l.item-iterator) ≤ suc (length l.fn.items.items))
    × (into_iter_len l.item-iterator ≡ length (into_iter_items l.item-iterator))
