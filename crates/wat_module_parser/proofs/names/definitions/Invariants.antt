use Rattle.std.proofs.Common.{◌≡◌, ◌++◌, map, drop}
use Rattle.std.specs.List.{flat_map}
use Rattle.wat_module_tokens.specs.Terminals.{label}
use Rattle.wat_module_ast.specs.Fields.{definition_name, definition_type}
use Rattle.wat_module_parser.specs.Reading.{definition_at}
use Rattle.wat_module_tokens.specs.TokenCursor.{terminals_of}
use Rattle.wat_module_ast.specs.TypeViews.{type_of}
use Rattle.wat_module_parser.proofs.names.definitions.Given as goal

abbrev pub invariant-loop-start : goal.invariant-loop-start
invariant-loop-start l =
    (map definition_name (flat_map definition_at (map terminals_of l.starts)) ≡ map label l.names.items ++ map definition_name (flat_map definition_at (map terminals_of (drop l.start-index l.starts))))
    × (map definition_type (flat_map definition_at (map terminals_of l.starts)) ≡ map type_of l.types.items ++ map definition_type (flat_map definition_at (map terminals_of (drop l.start-index l.starts))))
