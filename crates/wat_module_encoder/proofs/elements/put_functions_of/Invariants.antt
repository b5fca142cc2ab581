use Rattle.std.proofs.Common.{◌≡◌, ◌++◌, take}
use Rattle.std.specs.List.{flat_map}
use Rattle.wat_lex.specs.binary.Leb128.{unsigned_leb128}
use Rattle.wat_module_encoder.proofs.elements.put_functions_of.Given as goal

abbrev pub invariant-loop-index : goal.invariant-loop-index
invariant-loop-index l = l.out.items ≡ l.initial.out.items ++ flat_map unsigned_leb128 (take l.index-index l.functions)
