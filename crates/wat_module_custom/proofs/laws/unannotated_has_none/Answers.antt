use Rattle.wat_module_custom.proofs.UnannotatedLaws.{unannotated_has_none}
use Rattle.wat_module_custom.proofs.laws.unannotated_has_none.Goals as goal

pub returns : goal.returns
returns c = unannotated_has_none c.one_tiling.ensures.one c.shown.ensures.one c.shown.ensures.some
