-- Identifiers of variables, after parameters without identifiers.
use Rattle.std.proofs.Common.{◌≡◌, List, [], ◌∷◌, ◌++◌, None, true, length, map, refl, ap}
use Rattle.std.specs.Prelude.{replicate}
use Rattle.wat_module_ast.specs.declared.instruction.ValueType.{ValueType}
use Rattle.wat_module_ast.specs.Fields.{Variable, name_of, unnamed}
use Rattle.wat_module_ast.specs.Names.{are_distinct}
use Rattle.wat_module_tokens.specs.Terminals.{Label}

pub names_after : (ps : List ValueType) (vs : List Variable) (ls : List Label) → ls ≡ map name_of vs → replicate (length ps) None ++ ls ≡ map name_of (map unnamed ps ++ vs)
names_after [] vs ls e = e
names_after (p ∷ ps) vs ls e = ap (λ x. None ∷ x) (names_after ps vs ls e)

-- Parameters without identifiers are distinct.
pub distinct : (ps : List ValueType) → true ≡ are_distinct (map name_of (map unnamed ps))
distinct [] = refl
distinct (p ∷ ps) = distinct ps
