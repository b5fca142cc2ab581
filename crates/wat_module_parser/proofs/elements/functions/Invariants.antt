use Rattle.std.proofs.Common.{List, map, length}
use Rattle.wat_module_tokens.specs.TokenCursor.{terminals_of}
use Rattle.wat_module_ast.specs.declared.instruction.Instruction.{Instruction}
use Rattle.wat_module_parser.specs.Reading.{Read, function_item}
use Rattle.wat_module_parser.proofs.Manies.{Leads}
use Rattle.wat_module_ast.specs.Fields.{ref_func}
use Rattle.wat_module_parser.specs.Views.{context_of}
use Rattle.wat_module_parser.proofs.elements.functions.Given as goal

abbrev pub invariant-functions : goal.invariant-functions
invariant-functions l = (q : Read (List (List Instruction))) → Leads (function_item (context_of l.names)) (map ref_func l.found.items) (terminals_of l.left) q → Leads (function_item (context_of l.names)) (map ref_func l.initial.found.items) (terminals_of l.initial.left) q

abbrev pub decreases-functions : goal.decreases-functions
decreases-functions l = length (terminals_of l.left)
