use Rattle.std.proofs.Common.{◌≡◌, ◌++◌, take}
use Rattle.std.specs.List.{flat_map}
use Rattle.wat_lex.specs.binary.Leb128.{unsigned_leb128}
use Rattle.wat_module_encoder.proofs.instructions.put_labels.Given as goal

abbrev pub invariant-loop-label : goal.invariant-loop-label
invariant-loop-label l = l.out.items ≡ l.initial.out.items ++ flat_map unsigned_leb128 (take l.label-index l.labels)
