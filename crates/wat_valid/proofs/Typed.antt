-- The effect of an instruction whose type the opcode gives, and of one with a rule of its own.
use Rattle.std.proofs.Common.{◌≡◌, ◌<◌, arith, ℕ, zero, suc, nat_lt, Bool, true, false, Option, Some, None, refl, sym, ◌∙◌, ap}
use Rattle.std.proofs.lemmas.Bool.Decides.{Decides-eqb}
use Rattle.std.proofs.lemmas.Option.{none-some}
use Rattle.std.specs.Prelude.{◌==◌, not}
use Rattle.wat_module_ast.specs.declared.instruction.Argument.{Argument}
use Rattle.wat_module_ast.specs.declared.instruction.Argument.TheVariants as argument
use Rattle.wat_module_ast.specs.declared.instruction.Opcode.{Opcode}
use Rattle.wat_module_ast.specs.Types.{FunctionType}
use Rattle.wat_valid.specs.declared.typing.Condition as declared_condition
use Rattle.wat_valid.specs.declared.typing.Condition.TheVariants as condition
use Rattle.wat_valid.specs.declared.typing.Signature as declared_signature
use Rattle.wat_valid.specs.Algorithm.{Effect, effect_by, effect_of, effect_of_typing, has_memory, holds, own_rules, plain_part, row_effect}
use Rattle.wat_valid.specs.Contexts.{Context, Labels}
use Rattle.wat_valid.specs.InstructionTypes.{Typing, Plain, Lane, Shuffle, Access, AccessLane, OnMemory, Own, nop}
use Rattle.wat_valid.specs.Instructions.{typing_of}
use Rattle.wat_valid.specs.Views.{signature_type, typing_by}
use Rattle.wat_valid.proofs.Effects.{is_less}

own_part : (C : Context) (a : Argument) (own : Option Effect) (k : Option Typing) → None ≡ plain_part k → effect_of_typing C a k own ≡ own
own_part C a own None e = refl
own_part C a own (Some Own) e = refl
own_part C a own (Some (Plain t)) e = absurd (none-some _ e)
own_part C a own (Some (Lane n t)) e = absurd (none-some _ e)
own_part C a own (Some (Shuffle t)) e = absurd (none-some _ e)
own_part C a own (Some (Access n t)) e = absurd (none-some _ e)
own_part C a own (Some (AccessLane n t)) e = absurd (none-some _ e)
own_part C a own (Some (OnMemory t)) e = absurd (none-some _ e)

pub own_effect : (C : Context) (labels : Labels) (o : Opcode) (a : Argument) → None ≡ plain_part (typing_of o) → effect_of C labels o a ≡ effect_by o a (own_rules C labels)
unfolding effect_of
own_effect C labels o a e = own_part C a (effect_by o a (own_rules C labels)) (typing_of o) e

any_type : (m : Bool) (c : declared_condition.Condition) (t u : FunctionType) (a : Argument) → holds m (typing_by t c) a ≡ holds m (typing_by u c) a
any_type m condition.Nothing t u a = refl
any_type m (condition.Lane n) t u (argument.Lane k) = refl
any_type m (condition.Lane n) t u a = refl
any_type m condition.Shuffle t u (argument.Bytes ns) = refl
any_type m condition.Shuffle t u a = refl
any_type m (condition.Access n) t u (argument.Memory align offset) = refl
any_type m (condition.Access n) t u a = refl
any_type m (condition.AccessLane n) t u (argument.MemoryLane align offset k) = refl
any_type m (condition.AccessLane n) t u a = refl
any_type m condition.HasMemory t u a = refl

by_condition : (C : Context) (a : Argument) (own : Option Effect) (t : FunctionType) (c : declared_condition.Condition) → effect_of_typing C a (Some (typing_by t c)) own ≡ row_effect (holds (has_memory C) (typing_by t c) a) t
by_condition C a own t condition.Nothing = refl
by_condition C a own t (condition.Lane n) = refl
by_condition C a own t condition.Shuffle = refl
by_condition C a own t (condition.Access n) = refl
by_condition C a own t (condition.AccessLane n) = refl
by_condition C a own t condition.HasMemory = refl

plain_is : (k : Option Typing) (j : Typing) → Some j ≡ plain_part k → k ≡ Some j
plain_is None j e = absurd (none-some _ (sym e))
plain_is (Some Own) j e = absurd (none-some _ (sym e))
plain_is (Some (Plain t)) j e = sym e
plain_is (Some (Lane n t)) j e = sym e
plain_is (Some (Shuffle t)) j e = sym e
plain_is (Some (Access n t)) j e = sym e
plain_is (Some (AccessLane n t)) j e = sym e
plain_is (Some (OnMemory t)) j e = sym e

pub typed_effect : (C : Context) (labels : Labels) (o : Opcode) (a : Argument) (s : declared_signature.Signature) (c : declared_condition.Condition) (b : Bool) → Some (typing_by (signature_type s) c) ≡ plain_part (typing_of o) → b ≡ holds (has_memory C) (typing_by nop c) a → effect_of C labels o a ≡ row_effect b (signature_type s)
unfolding effect_of
typed_effect C labels o a s c b e h =
    ap (λ (k : Option Typing). effect_of_typing C a k (effect_by o a (own_rules C labels))) (plain_is (typing_of o) (typing_by (signature_type s) c) e) ∙
    (by_condition C a (effect_by o a (own_rules C labels)) (signature_type s) c ∙
    ap (λ (d : Bool). row_effect d (signature_type s)) (any_type (has_memory C) c (signature_type s) nop a ∙ sym h))

not_zero : (n : ℕ) → 0 < n → (n == 0) ≡ false
not_zero n l = by (n == 0) refl
  where
    by : (b : Bool) → (n == 0) ≡ b → b ≡ false
    by true e = absurd (omega (arith, (Decides-eqb n 0).0 e, l))
    by false e = refl

pub memory_there : (n : ℕ) (b : Bool) → b ≡ (n == 0) → not b ≡ nat_lt 0 n
memory_there zero b e = ap not e
memory_there (suc n) b e = ap not (e ∙ not_zero (suc n) (omega arith)) ∙ sym (is_less 0 (suc n) (omega arith))
