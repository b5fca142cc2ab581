use Rattle.std.proofs.Common.{◌≡◌, length}
use Rattle.wat_module_tokens.specs.TokenCursor.{terminals_of}
use Rattle.wat_module_ast.specs.Grammar.{listed}
use Rattle.wat_module_instructions.specs.Parts.{before_all}
use Rattle.wat_module_instructions.proofs.uses.listed.Given as goal

abbrev pub invariant-tokens : goal.invariant-tokens
invariant-tokens l = listed l.word l.initial.place.is_inside (terminals_of l.initial.place.cursor) ≡ before_all l.types.items (listed l.word l.place.is_inside (terminals_of l.place.cursor))

abbrev pub decreases-tokens : goal.decreases-tokens
decreases-tokens l = length (terminals_of l.place.cursor)
