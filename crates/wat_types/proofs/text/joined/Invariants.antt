use Rattle.std.proofs.Common.{◌≡◌, take}
use Rattle.std.specs.List.{flat_map}
use Rattle.wat_types.proofs.text.joined.Given as goal

abbrev pub invariant-loop-list : goal.invariant-loop-list
invariant-loop-list g l = l.types.items ≡ flat_map (λ x. x.inner.types.items) (take l.list-index l.lists)
