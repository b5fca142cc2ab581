use Rattle.std.proofs.Common.{◌≡◌, ◌++◌, map, drop}
use Rattle.std.specs.List.{flat_map}
use Rattle.wat_module_parser.specs.Reading.{binding_at}
use Rattle.wat_module_parser.specs.Views.{binding_of}
use Rattle.wat_module_tokens.specs.TokenCursor.{terminals_of}
use Rattle.wat_module_parser.proofs.names.bindings.Given as goal

abbrev pub invariant-loop-start : goal.invariant-loop-start
invariant-loop-start l = flat_map binding_at (map terminals_of l.starts) ≡ map binding_of l.bindings.items ++ flat_map binding_at (map terminals_of (drop l.start-index l.starts))
