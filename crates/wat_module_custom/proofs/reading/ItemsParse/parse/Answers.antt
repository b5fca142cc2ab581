use Rattle.std.proofs.Common.{refl}
use Rattle.wat_module_custom.specs.Customs.{item}
use Rattle.wat_module_custom.proofs.reading.ItemsParse.parse.Goals as goal

pub all_while-requires : goal.all_while-requires
unfolding item
all_while-requires c = λ k. ((refl, tt), item.advances refl)
