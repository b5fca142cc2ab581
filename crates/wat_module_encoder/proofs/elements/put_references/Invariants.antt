use Rattle.std.proofs.Common.{◌≡◌, ◌++◌, map, take}
use Rattle.std.specs.List.{flat_map}
use Rattle.wat_module_encoder.specs.Binary.{expression_bytes}
use Rattle.wat_module_ast.specs.Fields.{ref_func}
use Rattle.wat_module_encoder.proofs.elements.put_references.Given as goal

abbrev pub invariant-loop-index : goal.invariant-loop-index
invariant-loop-index l = l.out.items ≡ l.initial.out.items ++ flat_map (expression_bytes l.types) (map ref_func (take l.index-index l.functions))
