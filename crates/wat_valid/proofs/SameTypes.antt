-- Value types that are the same.
use Rattle.std.proofs.Common.{◌≡◌, suc, Bool, true, false, List, [], ◌∷◌, length, refl, ap}
use Rattle.std.specs.Prelude.{◌==◌}
use Rattle.wat_module_ast.specs.declared.instruction.ValueType.{ValueType}
use Rattle.wat_module_ast.specs.Types.{same_values, type_byte}
use Rattle.wat_valid.proofs.Effects.{both}

same_length : (ts us : List ValueType) → same_values ts us ≡ true → length ts ≡ length us
same_length [] [] e = refl
same_length (t ∷ ts) (u ∷ us) e = ap suc (same_length ts us (both (type_byte t == type_byte u) (same_values ts us) e).1)
same_length [] (u ∷ us) e = cc
same_length (t ∷ ts) [] e = cc

pub other_length : (ts us : List ValueType) → (length ts ≡ length us → ⊥) → false ≡ same_values ts us
other_length ts us h = by (same_values ts us) refl
  where
    by : (b : Bool) → same_values ts us ≡ b → false ≡ b
    by true e = absurd (h (same_length ts us e))
    by false e = refl
