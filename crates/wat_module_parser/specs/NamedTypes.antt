-- Parameters, results and locals by their identifiers and their types, which the code keeps apart. Not part of the standard.
use Rattle.std.specs.Prelude.{List, [], ◌∷◌}
use Rattle.wat_module_ast.specs.declared.instruction.ValueType.{ValueType}
use Rattle.wat_module_ast.specs.Fields.{Variable, unnamed, variable}
use Rattle.wat_module_tokens.specs.Terminals.{Label}

-- Variables of these types, the first of which have these optional identifiers. The other ones have none.
abbrev pub variables_of : List Label → List ValueType → List Variable
variables_of ls [] = []
variables_of [] (t ∷ ts) = unnamed t ∷ variables_of [] ts
variables_of (l ∷ ls) (t ∷ ts) = variable l t ∷ variables_of ls ts
