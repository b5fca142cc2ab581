use Rattle.std.proofs.Common.{List, map, length}
use Rattle.wat_module_tokens.specs.TokenCursor.{terminals_of}
use Rattle.std.specs.Prelude.{ℕ}
use Rattle.wat_module_parser.specs.Reading.{Read, export_item}
use Rattle.wat_module_parser.proofs.Manies.{Leads}
use Rattle.wat_module_ast.specs.Views.{text_of}
use Rattle.wat_module_parser.proofs.header.exports.Given as goal

abbrev pub invariant-exports : goal.invariant-exports
invariant-exports l = (q : Read (List (List ℕ))) → Leads (export_item) (map text_of l.found.items) (terminals_of l.left) q → Leads (export_item) (map text_of l.initial.found.items) (terminals_of l.initial.left) q

abbrev pub decreases-exports : goal.decreases-exports
decreases-exports l = length (terminals_of l.left)
