use Rattle.std.proofs.Common.{◌≡◌, ◌++◌, length, take}
use Rattle.wat_lex.specs.binary.Leb128.{unsigned_leb128}
use Rattle.std.specs.List.{flat_map}
use Rattle.wat_lex.proofs.encode.push_items.Given as goal

abbrev pub invariant-loop-item : goal.invariant-loop-item
invariant-loop-item g l =
    l.e.items ≡ l.fn.e.items ++ (unsigned_leb128 (length l.items) ++ flat_map g.T.Encode.encoding (take l.item-index l.items))
