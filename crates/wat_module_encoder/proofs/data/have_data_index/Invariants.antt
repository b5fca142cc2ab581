use Rattle.std.proofs.Common.{◌≡◌, drop}
use Rattle.std.specs.List.{list_any}
use Rattle.wat_module_encoder.specs.Binary.{has_data_index}
use Rattle.wat_module_encoder.proofs.data.have_data_index.Given as goal

abbrev pub invariant-loop-instruction : goal.invariant-loop-instruction
invariant-loop-instruction l = list_any has_data_index l.instructions ≡ list_any has_data_index (drop l.instruction-index l.instructions)
