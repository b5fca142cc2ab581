use Rattle.std.proofs.Common.{List, length}
use Rattle.wat_module_tokens.specs.TokenCursor.{terminals_of}
use Rattle.wat_module_ast.specs.Fields.{Variable}
use Rattle.wat_module_parser.specs.Reading.{Read, group_item}
use Rattle.wat_module_parser.proofs.Manies.{Leads}
use Rattle.wat_module_parser.proofs.header.variables.Given as goal

abbrev pub invariant-groups : goal.invariant-groups
invariant-groups l = (q : Read (List Variable)) → Leads (group_item l.word l.may_have_name) l.found (terminals_of l.left) q → Leads (group_item l.word l.may_have_name) l.initial.found (terminals_of l.initial.left) q

abbrev pub decreases-groups : goal.decreases-groups
decreases-groups l = length (terminals_of l.left)
