use Rattle.std.proofs.Common.{refl}
use Rattle.wat_module_annotations.specs.Items.{any_token, item, stray, word}
use Rattle.wat_module_annotations.proofs.reading.ItemsParse.parse.Goals as goal

pub all_while-requires : goal.all_while-requires
unfolding item stray any_token word
all_while-requires c = λ k. ((refl, tt), item.advances refl)
