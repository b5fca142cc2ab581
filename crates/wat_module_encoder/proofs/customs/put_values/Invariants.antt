use Rattle.std.proofs.Common.{◌≡◌, ◌++◌, map, take}
use Rattle.std.specs.Cow.{cow_slice_items}
use Rattle.std.specs.List.{flat_map}
use Rattle.wat_module_encoder.proofs.customs.put_values.Given as goal

abbrev pub invariant-loop-value : goal.invariant-loop-value
invariant-loop-value l = l.out.items ≡ l.initial.out.items ++ flat_map (λ v. v) (map cow_slice_items (take l.value-index l.values))
