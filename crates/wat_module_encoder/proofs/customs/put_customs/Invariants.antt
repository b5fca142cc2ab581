use Rattle.std.proofs.Common.{◌≡◌, ◌++◌, map, take}
use Rattle.wat_module_custom.specs.Values.{section_of}
use Rattle.wat_module_encoder.specs.CustomSections.{customs_at}
use Rattle.wat_module_encoder.proofs.customs.put_customs.Given as goal

abbrev pub invariant-loop-section : goal.invariant-loop-section
invariant-loop-section l = l.out.items ≡ l.initial.out.items ++ customs_at l.place (map section_of (take l.section-index l.sections))
