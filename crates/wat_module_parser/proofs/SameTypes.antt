-- Function types that are the same are equal.
use Rattle.std.proofs.Common.{◌≡◌, ◌∙◌, ℕ, Bool, true, false, List, [], ◌∷◌, refl, sym, ap}
use Rattle.std.specs.Prelude.{◌==◌, ◌&&◌, if◌then◌else◌}
use Rattle.std.proofs.lemmas.Bool.Decides.{Decides-eqb}
use Rattle.wat_module_ast.specs.declared.instruction.ReferenceType.TheVariants as reference
use Rattle.wat_module_ast.specs.declared.instruction.ValueType.{ValueType}
use Rattle.wat_module_ast.specs.declared.instruction.ValueType.TheVariants as value
use Rattle.wat_module_ast.specs.Types.{FunctionType, from_to, same_type, same_values, type_byte}

both : (a b : Bool) → a && b ≡ true → (a ≡ true) × (b ≡ true)
both true true e = (refl, refl)
both true false e = cc
both false b e = cc

-- the value type of a byte
abbrev of_byte : ℕ → ValueType
of_byte n =
    if n == 0x7F then value.I32 else if n == 0x7E then value.I64 else if n == 0x7D then value.F32 else if n == 0x7C then value.F64 else if n == 0x7B then value.V128 else if n == 0x70 then value.Reference reference.Func else value.Reference reference.Extern

from_byte : (t : ValueType) → of_byte (type_byte t) ≡ t
from_byte value.I32 = refl
from_byte value.I64 = refl
from_byte value.F32 = refl
from_byte value.F64 = refl
from_byte value.V128 = refl
from_byte (value.Reference reference.Func) = refl
from_byte (value.Reference reference.Extern) = refl

value_is : (t u : ValueType) → type_byte t ≡ type_byte u → t ≡ u
value_is t u e = sym (from_byte t) ∙ ap of_byte e ∙ from_byte u

values_are : (ts us : List ValueType) → same_values ts us ≡ true → ts ≡ us
values_are [] [] e = refl
values_are (t ∷ ts) (u ∷ us) e =
    let (a, b) = both (type_byte t == type_byte u) (same_values ts us) e in ap (λ x. x ∷ ts) (value_is t u ((Decides-eqb (type_byte t) (type_byte u)).0 a)) ∙ ap (λ xs. u ∷ xs) (values_are ts us b)
values_are [] (u ∷ us) e = cc
values_are (t ∷ ts) [] e = cc

values_same : (ts : List ValueType) → same_values ts ts ≡ true
values_same [] = refl
values_same (t ∷ ts) = ap (λ b. b && same_values ts ts) ((Decides-eqb (type_byte t) (type_byte t)).1 refl) ∙ values_same ts

pub type_is : (t u : FunctionType) → same_type t u ≡ true → t ≡ u
type_is t u e =
    let (a, b) = both (same_values t.params u.params) (same_values t.results u.results) e in ap (λ x. from_to x t.results) (values_are t.params u.params a) ∙ ap (λ x. from_to u.params x) (values_are t.results u.results b)

pub type_same : (t : FunctionType) → same_type t t ≡ true
type_same t = ap (λ b. b && same_values t.results t.results) (values_same t.params) ∙ values_same t.results
