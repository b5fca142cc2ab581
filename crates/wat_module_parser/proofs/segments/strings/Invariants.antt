use Rattle.std.proofs.Common.{List, length}
use Rattle.wat_module_tokens.specs.TokenCursor.{terminals_of}
use Rattle.std.specs.Prelude.{ℕ}
use Rattle.wat_module_parser.specs.Reading.{Read, string_item}
use Rattle.wat_module_ast.specs.Views.{together}
use Rattle.wat_module_parser.proofs.Manies.{Leads}
use Rattle.wat_module_parser.proofs.segments.strings.Given as goal

abbrev pub invariant-strings : goal.invariant-strings
invariant-strings l = (q : Read (List ℕ)) → Leads (string_item) (together l.found.items) (terminals_of l.left) q → Leads (string_item) (together l.initial.found.items) (terminals_of l.initial.left) q

abbrev pub decreases-strings : goal.decreases-strings
decreases-strings l = length (terminals_of l.left)
