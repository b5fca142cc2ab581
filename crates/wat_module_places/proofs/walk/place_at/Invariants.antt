use Rattle.std.proofs.Common.{◌≡◌, [], length, slice_get}
use Rattle.wat_module_places.specs.Walk.{walk}
use Rattle.wat_module_tokens.specs.TokenCursor.{terminals_of}
use Rattle.wat_module_places.proofs.walk.place_at.Given as goal

abbrev pub invariant-walk : goal.invariant-walk
invariant-walk l = slice_get (walk l.groups (terminals_of l.left)) l.before ≡ slice_get (walk [] (terminals_of l.fn.tokens)) l.fn.index

abbrev pub decreases-walk : goal.decreases-walk
decreases-walk l = length (terminals_of l.left)
