use Rattle.std.proofs.Common.{List, map, length}
use Rattle.wat_module_tokens.specs.TokenCursor.{terminals_of}
use Rattle.wat_module_ast.specs.Fields.{Field}
use Rattle.wat_module_parser.specs.Reading.{Read, field_item}
use Rattle.wat_module_parser.proofs.Manies.{Leads}
use Rattle.wat_module_ast.specs.Views.{field_of}
use Rattle.wat_module_parser.specs.Views.{context_of, types_of}
use Rattle.wat_module_parser.proofs.module.fields.Given as goal

abbrev pub invariant-fields : goal.invariant-fields
invariant-fields l = (q : Read (List Field)) → Leads (field_item (types_of l.names) (context_of l.names)) (map field_of l.found.items) (terminals_of l.left) q → Leads (field_item (types_of l.names) (context_of l.names)) (map field_of l.initial.found.items) (terminals_of l.initial.left) q

abbrev pub decreases-fields : goal.decreases-fields
decreases-fields l = length (terminals_of l.left)
