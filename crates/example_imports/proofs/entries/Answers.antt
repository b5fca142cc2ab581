use Rattle.std.proofs.Common.{refl}
use Rattle.example_imports.specs.Imports.{entry}
use Rattle.example_imports.proofs.entries.Goals as goal

pub all_of-requires : goal.all_of-requires
all_of-requires c = λ k. ((refl, tt), entry.advances refl)
