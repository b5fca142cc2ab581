use Rattle.std.proofs.Common.{◌≡◌, ◌++◌, map, drop}
use Rattle.std.specs.List.{flat_map}
use Rattle.wat_module_tokens.specs.Terminals.{label}
use Rattle.wat_module_parser.specs.Reading.{elem_name_at}
use Rattle.wat_module_tokens.specs.TokenCursor.{terminals_of}
use Rattle.wat_module_parser.proofs.names.elem_names.Given as goal

abbrev pub invariant-loop-start : goal.invariant-loop-start
invariant-loop-start l = flat_map elem_name_at (map terminals_of l.starts) ≡ map label l.names.items ++ flat_map elem_name_at (map terminals_of (drop l.start-index l.starts))
