use Rattle.std.proofs.Common.{◌≡◌, map, take}
use Rattle.wat_module_parser.specs.Places.{name_at}
use Rattle.wat_module_tokens.specs.TokenCursor.{terminals_of}
use Rattle.wat_module_tokens.specs.Terminals.{label}
use Rattle.wat_module_parser.proofs.places.names_at.Given as goal

abbrev pub invariant-loop-cursor : goal.invariant-loop-cursor
invariant-loop-cursor l = map label l.names.items ≡ map name_at (map terminals_of (take l.cursor-index l.at))
