use Rattle.std.proofs.Common.{ap, sym, ◌∙◌}
use Rattle.std.specs.List.{slice_get}
use Rattle.wat_module_ast.specs.Slots.{matching_row}
use Rattle.wat_module_ast.specs.Table.{mnemonics}
use Rattle.wat_module_ast.proofs.Places.{found_at_place_of, place_at}
use Rattle.wat_module_ast.proofs.slots.place.Goals as goal

pub returns : goal.returns
returns c = found_at_place_of c.args.word.now ∙ ap (λ h. matching_row c.args.word.now (slice_get mnemonics (place_at h))) (sym c.hash-hash.ensures)
