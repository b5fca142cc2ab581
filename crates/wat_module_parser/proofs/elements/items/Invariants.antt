use Rattle.std.proofs.Common.{List, map, length}
use Rattle.wat_module_tokens.specs.TokenCursor.{terminals_of}
use Rattle.wat_module_ast.specs.declared.instruction.Instruction.{Instruction}
use Rattle.wat_module_parser.specs.Reading.{Read, element_item}
use Rattle.wat_module_parser.proofs.Manies.{Leads}
use Rattle.wat_module_ast.specs.Views.{expression_of}
use Rattle.wat_module_parser.specs.Views.{context_of}
use Rattle.wat_module_parser.proofs.elements.items.Given as goal

abbrev pub invariant-items : goal.invariant-items
invariant-items l = (q : Read (List (List Instruction))) → Leads (element_item (context_of l.names)) (map expression_of l.found.items) (terminals_of l.left) q → Leads (element_item (context_of l.names)) (map expression_of l.initial.found.items) (terminals_of l.initial.left) q

abbrev pub decreases-items : goal.decreases-items
decreases-items l = length (terminals_of l.left)
