use Rattle.std.proofs.Common.{◌≡◌, map, drop}
use Rattle.wat_module_custom.specs.Customs.{pieces}
use Rattle.wat_module_custom.specs.Values.{item_of}
use Rattle.wat_module_custom.proofs.placing.next_piece.Given as goal

abbrev pub invariant-loop-index : goal.invariant-loop-index
invariant-loop-index l = pieces (map item_of l.items) ≡ pieces (map item_of (drop l.index l.items))
