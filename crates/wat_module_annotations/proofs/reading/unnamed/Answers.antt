use Rattle.std.proofs.Common.{refl}
use Rattle.wat_module_annotations.specs.Items.{unnamed, word}
use Rattle.wat_module_annotations.proofs.reading.unnamed.Goals as goal

pub all_of-requires : goal.all_of-requires
unfolding unnamed word
all_of-requires c = λ k. ((refl, tt), unnamed.advances refl)
