use Rattle.std.proofs.Common.{◌≡◌, ◌++◌, map, drop}
use Rattle.std.specs.List.{flat_map}
use Rattle.wat_module_parser.specs.Places.{field_name}
use Rattle.wat_module_tokens.specs.TokenCursor.{terminals_of}
use Rattle.wat_module_parser.proofs.places.field_names.Given as goal

abbrev pub invariant-loop-start : goal.invariant-loop-start
invariant-loop-start l = flat_map (field_name l.space) (map terminals_of l.starts) ≡ map terminals_of l.at.items ++ flat_map (field_name l.space) (map terminals_of (drop l.start-index l.starts))
