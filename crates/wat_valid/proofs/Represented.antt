-- Instructions are valid in a context of the code if and only if they are valid in the context of the module that it represents.
use Rattle.std.proofs.Common.{◌≡◌, ◌∙◌, ◌<◌, ◌++◌, ℕ, suc, Bool, true, false, List, [], ◌∷◌, Option, Some, None, length, take, drop, refl, sym, ap, subst}
use Rattle.std.specs.Prelude.{◌==◌, ◌&&◌, if◌then◌else◌, nat_lt}
use Rattle.wat_module_ast.specs.declared.instruction.Argument.{Argument}
use Rattle.wat_module_ast.specs.declared.instruction.Argument.TheVariants as argument
use Rattle.wat_module_ast.specs.declared.instruction.Instruction.{Instruction}
use Rattle.wat_module_ast.specs.declared.instruction.Opcode.{Opcode}
use Rattle.wat_module_ast.specs.declared.instruction.Opcode.TheVariants.{Byte, Prefixed}
use Rattle.wat_module_ast.specs.declared.instruction.ReferenceType.TheVariants as reference
use Rattle.wat_module_ast.specs.declared.instruction.ValueType.{ValueType}
use Rattle.wat_module_ast.specs.declared.instruction.ValueType.TheVariants as value
use Rattle.wat_valid.specs.Algorithm.{Effect, Else, End, Enter, Frame, None_of_them, Replace, Rule, Structure, accepts, and_step, body_frame, by_index, effect_by, effect_of, effect_of_typing, effect_on, guard, has_index, is_complete, labels_of, onto, own_rules, plain_step, ref_value, run, step, step_by, structure_of, with_operands}
use Rattle.wat_valid.specs.Constants.{byte_value, constant_value, function_value, global_value, null_value}
use Rattle.wat_valid.specs.Contexts.{Context, Labels}
use Rattle.wat_valid.specs.FirstErrors.{ErrorAt}
use Rattle.wat_valid.specs.Instructions.{Constant, Expression, same_opcode, typing_of}
use Rattle.wat_valid.specs.Law.{Viable}
use Rattle.wat_valid.proofs.Effects.{less}
use Rattle.wat_valid.proofs.Frames as frames
use Rattle.wat_valid.proofs.SingleConstants.{Single, from_single, to_single}

-- the context with other functions to which `ref.func` can refer
abbrev pub refer : List ℕ → Context → Context
refer rs C = record C { refs = rs }

-- they have the same functions of the module
abbrev pub SameRefs : Context → List ℕ → Type 0
SameRefs C rs = (x : ℕ) → x < length C.funcs → has_index x rs ≡ has_index x C.refs

and_as : (a b c : Bool) → (a ≡ true → b ≡ c) → a && b ≡ a && c
and_as true b c h = h refl
and_as false b c h = refl

-- one function
test_as : (C : Context) (rs : List ℕ) → SameRefs C rs → (x : ℕ) → nat_lt x (length C.funcs) && has_index x rs ≡ nat_lt x (length C.funcs) && has_index x C.refs
test_as C rs h x = and_as (nat_lt x (length C.funcs)) (has_index x rs) (has_index x C.refs) (λ e. h x (less x (length C.funcs) e))

abbrev func_effect : ℕ → List ℕ → ℕ → Option Effect
func_effect n rs x = guard (nat_lt x n && has_index x rs) (Replace [] (ref_value reference.Func ∷ []))

func_as : (C : Context) (rs : List ℕ) → SameRefs C rs → (a : Argument) → by_index (func_effect (length C.funcs) rs) a ≡ by_index (func_effect (length C.funcs) C.refs) a
func_as C rs h (argument.Index x) = ap (λ (b : Bool). guard b (Replace [] (ref_value reference.Func ∷ []))) (test_as C rs h x)
func_as C rs h a = refl

if_as : {A : Type 0} (b : Bool) (x y z : A) → y ≡ z → (if b then x else y) ≡ (if b then x else z)
if_as b x y z e = ap (λ w. if b then x else w) e

first_as : {A : Type 0} (b : Bool) (x y z : A) → x ≡ y → (if b then x else z) ≡ (if b then y else z)
first_as b x y z e = ap (λ w. if b then w else z) e

-- rules that differ in one effect
past : (o : Opcode) (a : Argument) (before : List Rule) (rs ss : List Rule) → effect_by o a rs ≡ effect_by o a ss → effect_by o a (before ++ rs) ≡ effect_by o a (before ++ ss)
past o a [] rs ss e = e
past o a (r ∷ before) rs ss e = if_as (same_opcode o r.opcode) (r.effect a) (effect_by o a (before ++ rs)) (effect_by o a (before ++ ss)) (past o a before rs ss e)

rules_as : (C : Context) (rs : List ℕ) → SameRefs C rs → (labels : Labels) (o : Opcode) (a : Argument) → effect_by o a (own_rules (refer rs C) labels) ≡ effect_by o a (own_rules C labels)
rules_as C rs h labels o a =
    past o a (take 19 (own_rules C labels)) (drop 19 (own_rules (refer rs C) labels)) (drop 19 (own_rules C labels))
    (first_as (same_opcode o (Byte 0xD2)) (by_index (func_effect (length C.funcs) rs) a) (by_index (func_effect (length C.funcs) C.refs) a) (effect_by o a (drop 20 (own_rules C labels))) (func_as C rs h a))

pub effect_as : (C : Context) (rs : List ℕ) → SameRefs C rs → (labels : Labels) (o : Opcode) (a : Argument) → effect_of (refer rs C) labels o a ≡ effect_of C labels o a
unfolding effect_of
effect_as C rs h labels o a = ap (effect_of_typing C a (typing_of o)) (rules_as C rs h labels o a)

plain_as : (C : Context) (rs : List ℕ) → SameRefs C rs → (f : Frame) (fs : List Frame) (i : Instruction) → plain_step (refer rs C) f fs i ≡ plain_step C f fs i
plain_as C rs h f fs i = ap (λ (e : Option Effect). onto fs (with_operands f (effect_on e f.operands))) (effect_as C rs h (labels_of (f ∷ fs)) i.opcode i.argument)

by_as : (C : Context) (rs : List ℕ) → SameRefs C rs → (f : Frame) (fs : List Frame) (i : Instruction) (s : Structure) → step_by (refer rs C) f fs i s ≡ step_by C f fs i s
by_as C rs h f fs i (Enter k) = refl
by_as C rs h f fs i Else = refl
by_as C rs h f fs i End = refl
by_as C rs h f fs i None_of_them = plain_as C rs h f fs i

step_as : (C : Context) (rs : List ℕ) → SameRefs C rs → (fs : List Frame) (i : Instruction) → step (refer rs C) fs i ≡ step C fs i
unfolding step
step_as C rs h [] i = refl
step_as C rs h (f ∷ fs) i = by_as C rs h f fs i (structure_of i.opcode)

and_step_as : (C : Context) (rs : List ℕ) → SameRefs C rs → (fs : Option (List Frame)) (i : Instruction) → and_step (refer rs C) fs i ≡ and_step C fs i
and_step_as C rs h None i = refl
and_step_as C rs h (Some fs) i = step_as C rs h fs i

pub run_as : (C : Context) (rs : List ℕ) → SameRefs C rs → (fs : Option (List Frame)) (is : List Instruction) → run (refer rs C) fs is ≡ run C fs is
run_as C rs h fs [] = refl
run_as C rs h fs (i ∷ is) = run_as C rs h (and_step (refer rs C) fs i) is ∙ ap (λ (m : Option (List Frame)). run C m is) (and_step_as C rs h fs i)

accepts_as : (C : Context) (rs : List ℕ) → SameRefs C rs → (is : List Instruction) (results : List ValueType) → accepts (refer rs C) is results ≡ accepts C is results
unfolding accepts
accepts_as C rs h is results = ap is_complete (run_as C rs h (Some (body_frame results ∷ [])) is)

-- bodies

pub body_there : (C : Context) (rs : List ℕ) → SameRefs C rs → (is : List Instruction) (results : List ValueType) → Expression (refer rs C) (results ∷ []) is results → Expression C (results ∷ []) is results
body_there C rs h is results e = frames.sound C is results (sym (accepts_as C rs h is results) ∙ frames.complete (refer rs C) is results e)

pub body_back : (C : Context) (rs : List ℕ) → SameRefs C rs → (is : List Instruction) (results : List ValueType) → Expression C (results ∷ []) is results → Expression (refer rs C) (results ∷ []) is results
body_back C rs h is results e = frames.sound (refer rs C) is results (accepts_as C rs h is results ∙ frames.complete C is results e)

viable_there : (C : Context) (rs : List ℕ) → SameRefs C rs → (is : List Instruction) (results : List ValueType) → Viable (refer rs C) is results → Viable C is results
viable_there C rs h is results v = record { more = v.more; valid = body_there C rs h (is ++ v.more) results v.valid }

viable_back : (C : Context) (rs : List ℕ) → SameRefs C rs → (is : List Instruction) (results : List ValueType) → Viable C is results → Viable (refer rs C) is results
viable_back C rs h is results v = record { more = v.more; valid = body_back C rs h (is ++ v.more) results v.valid }

pub error_there : (C : Context) (rs : List ℕ) → SameRefs C rs → (is : List Instruction) (results : List ValueType) (i : ℕ) → ErrorAt (refer rs C) is results i → ErrorAt C is results i
error_there C rs h is results i e = record {
  within = e.within;
  before = viable_there C rs h (take i is) results e.before;
  instruction = λ l v. e.instruction l (viable_back C rs h (take (suc i) is) results v);
  invalid = λ v. e.invalid (body_back C rs h is results v);
}

-- constant expressions

function_as : (C : Context) (rs : List ℕ) → SameRefs C rs → (a : Argument) → function_value (refer rs C) a ≡ function_value C a
function_as C rs h (argument.Index x) = ap (λ (b : Bool). if b then Some (value.Reference reference.Func) else None) (test_as C rs h x)
function_as C rs h a = refl

byte_as : (C : Context) (rs : List ℕ) → SameRefs C rs → (b : ℕ) (a : Argument) → byte_value (refer rs C) b a ≡ byte_value C b a
byte_as C rs h b a =
    ap (λ (v : Option ValueType). if b == 0x41 then Some value.I32 else if b == 0x42 then Some value.I64 else if b == 0x43 then Some value.F32 else if b == 0x44 then Some value.F64 else if b == 0xD0 then null_value a else if b == 0xD2 then v else if b == 0x23 then global_value C a else None) (function_as C rs h a)

value_as : (C : Context) (rs : List ℕ) → SameRefs C rs → (o : Opcode) (a : Argument) → constant_value (refer rs C) o a ≡ constant_value C o a
value_as C rs h (Byte b) a = byte_as C rs h b a
value_as C rs h (Prefixed p n) a = refl

from_one : (C : Context) (is : List Instruction) (t : ValueType) → Single C is t → Constant C is t
from_one C is t s = subst (λ (js : List Instruction). Constant C js t) (sym s.is_it) (from_single C s.i t s.value)

pub constant_there : (C : Context) (rs : List ℕ) → SameRefs C rs → (is : List Instruction) (t : ValueType) → Constant (refer rs C) is t → Constant C is t
constant_there C rs h is t c =
    let s = to_single (refer rs C) is t c in
    from_one C is t (record { i = s.i; is_it = s.is_it; value = sym (value_as C rs h s.i.opcode s.i.argument) ∙ s.value })

pub constant_back : (C : Context) (rs : List ℕ) → SameRefs C rs → (is : List Instruction) (t : ValueType) → Constant C is t → Constant (refer rs C) is t
constant_back C rs h is t c =
    let s = to_single C is t c in
    from_one (refer rs C) is t (record { i = s.i; is_it = s.is_it; value = value_as C rs h s.i.opcode s.i.argument ∙ s.value })
