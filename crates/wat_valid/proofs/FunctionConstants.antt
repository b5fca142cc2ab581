-- Expressions that are one `ref.func`.
use Rattle.std.proofs.Common.{◌≡◌, ◌∙◌, ℕ, Bool, true, false, Some, None, length, refl, sym, ap}
use Rattle.std.specs.Prelude.{◌&&◌, IsTrue, if◌then◌else◌, nat_lt}
use Rattle.wat_module_ast.specs.declared.instruction.Argument.TheVariants as argument
use Rattle.wat_module_ast.specs.declared.instruction.Opcode.TheVariants.{Byte}
use Rattle.wat_module_ast.specs.declared.instruction.ReferenceType.TheVariants as reference
use Rattle.wat_module_ast.specs.declared.instruction.ValueType.{ValueType}
use Rattle.wat_module_ast.specs.declared.instruction.ValueType.TheVariants as value
use Rattle.wat_module_ast.specs.Fields.{ref_func}
use Rattle.wat_valid.specs.Algorithm.{has_index}
use Rattle.wat_valid.specs.Constants.{function_value}
use Rattle.wat_valid.specs.Contexts.{Context}
use Rattle.wat_valid.specs.Instructions.{Constant}
use Rattle.wat_valid.proofs.SingleConstants.{one_item}

-- its type is `funcref`, if its function is declared
is_one : (C : Context) (x : ℕ) (t : ValueType) → (function_value C (argument.Index x) ≡ Some t → Constant C (ref_func x) t) × (Constant C (ref_func x) t → function_value C (argument.Index x) ≡ Some t)
is_one C x t = one_item C (ref_func x) t (record { opcode = Byte 0xD2; argument = argument.Index x }) refl refl

there : (C : Context) (x : ℕ) (r : Bool) → r ≡ (nat_lt x (length C.funcs) && has_index x C.refs) → r ≡ true → Constant C (ref_func x) (value.Reference reference.Func)
there C x r e t = (is_one C x (value.Reference reference.Func)).0 (ap (λ (b : Bool). if b then Some (value.Reference reference.Func) else None) (sym e ∙ t))

if_some : (b : Bool) (t u : ValueType) → (if b then Some t else None) ≡ Some u → b ≡ true
if_some true t u e = refl
if_some false t u e = cc

if_same : (b : Bool) (t u : ValueType) → (if b then Some t else None) ≡ Some u → t ≡ u
if_same true t u e = cc
if_same false t u e = cc

-- a declared function, and no other, is a constant expression of the type `funcref`
pub function_constant : (C : Context) (x : ℕ) (r : Bool) → r ≡ (nat_lt x (length C.funcs) && has_index x C.refs) → (IsTrue r → Constant C (ref_func x) (value.Reference reference.Func)) × (Constant C (ref_func x) (value.Reference reference.Func) → IsTrue r)
function_constant C x r e = (λ t. there C x r e t, λ k. e ∙ if_some (nat_lt x (length C.funcs) && has_index x C.refs) (value.Reference reference.Func) (value.Reference reference.Func) ((is_one C x (value.Reference reference.Func)).1 k))

pub not_extern : (C : Context) (x : ℕ) → Constant C (ref_func x) (value.Reference reference.Extern) → ⊥
not_extern C x k = let e = if_same (nat_lt x (length C.funcs) && has_index x C.refs) (value.Reference reference.Func) (value.Reference reference.Extern) ((is_one C x (value.Reference reference.Extern)).1 k) in cc
