use Rattle.std.proofs.Common.{◌≡◌, ◌++◌, map, take}
use Rattle.std.specs.List.{flat_map}
use Rattle.wat_module_ast.specs.Views.{association_of}
use Rattle.wat_module_encoder.specs.NameSection.{association_bytes}
use Rattle.wat_module_encoder.proofs.names.put_associations.Given as goal

abbrev pub invariant-loop-association : goal.invariant-loop-association
invariant-loop-association l = l.out.items ≡ l.initial.out.items ++ flat_map association_bytes (map association_of (take l.association-index l.names))
