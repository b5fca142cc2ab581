-- A constant expression is one constant instruction.
use Rattle.std.proofs.Common.{◌≡◌, ℕ, Bool, true, false, List, [], ◌∷◌, ◌++◌, length, get_or, Option, Some, None, refl, sym, ◌∙◌, ap, subst, append_assoc, append-nil, arith}
use Rattle.std.proofs.lemmas.List.{map-append}
use Rattle.std.proofs.lemmas.Option.{same_Some, cond_some}
use Rattle.std.specs.Prelude.{◌==◌, ◌&&◌, if◌then◌else◌, nat_lt, slice_get}
use Rattle.std.specs.List.{AllByRecursion}
use Rattle.std.specs.Option.{option_map}
use Rattle.wat_module_ast.specs.declared.fields.GlobalType.{GlobalType}
use Rattle.wat_module_ast.specs.declared.instruction.Argument.{Argument}
use Rattle.wat_module_ast.specs.declared.instruction.Argument.TheVariants as argument
use Rattle.wat_module_ast.specs.declared.instruction.Instruction.{Instruction}
use Rattle.wat_module_ast.specs.declared.instruction.Opcode.{Opcode}
use Rattle.wat_module_ast.specs.declared.instruction.Opcode.TheVariants.{Byte, Prefixed}
use Rattle.wat_module_ast.specs.declared.instruction.ReferenceType.TheVariants as reference
use Rattle.wat_module_ast.specs.declared.instruction.ValueType.{ValueType}
use Rattle.wat_module_ast.specs.declared.instruction.ValueType.TheVariants as value
use Rattle.wat_valid.specs.declared.operands.OperandType.{OperandType}
use Rattle.wat_valid.specs.declared.operands.OperandType.TheVariants as operand
use Rattle.wat_valid.specs.Contexts.{AllMatch, Context, Labels, Replaces, values}
use Rattle.wat_valid.specs.InstructionTypes as types
use Rattle.wat_valid.specs.InstructionTypes.{Plain, Typing}
use Rattle.wat_valid.specs.Instructions as rules
use Rattle.wat_valid.specs.Instructions.{Constant, IsConstant, PlainIs, Sequence, one, typing_of}
use Rattle.wat_valid.specs.Algorithm as algorithm
use Rattle.wat_valid.specs.Algorithm.{Effect, Enter, None_of_them, OfBlock, OfIf, OfLoop, Replace, effect_by, effect_of, effect_of_typing, guard, has_index, has_memory, own_rules, structure_of}
use Rattle.wat_valid.specs.Constants.{byte_value, constant_value, function_value, global_type, global_value, null_value}
use Rattle.wat_valid.proofs.Effects.{Covers, Effected, both, contained, less, own_from, rule_is}
use Rattle.wat_valid.proofs.Owns as owns
use Rattle.wat_valid.proofs.Stacks.{match_none, same_value}

-- the effects of constant instructions

row_const : (C : Context) (labels : Labels) (o : Opcode) (a : Argument) (t : ValueType) → typing_of o ≡ Some (Plain (types.const t)) → effect_of C labels o a ≡ Some (Replace [] (t ∷ []))
unfolding effect_of
row_const C labels o a t e = ap (λ (k : Option Typing). effect_of_typing C a k (effect_by o a (own_rules C labels))) e

const_41 : typing_of (Byte 0x41) ≡ Some (Plain (types.const value.I32))
unfolding typing_of types.typed_instructions types.low types.high types.prefixed types.low_vectors types.high_vectors
const_41 = refl

const_42 : typing_of (Byte 0x42) ≡ Some (Plain (types.const value.I64))
unfolding typing_of types.typed_instructions types.low types.high types.prefixed types.low_vectors types.high_vectors
const_42 = refl

const_43 : typing_of (Byte 0x43) ≡ Some (Plain (types.const value.F32))
unfolding typing_of types.typed_instructions types.low types.high types.prefixed types.low_vectors types.high_vectors
const_43 = refl

const_44 : typing_of (Byte 0x44) ≡ Some (Plain (types.const value.F64))
unfolding typing_of types.typed_instructions types.low types.high types.prefixed types.low_vectors types.high_vectors
const_44 = refl

const_12 : typing_of (Prefixed 0xFD 12) ≡ Some (Plain (types.const value.V128))
unfolding typing_of types.typed_instructions types.low types.high types.prefixed types.low_vectors types.high_vectors
const_12 = refl

effect_D0 : (C : Context) (labels : Labels) (a : Argument) → effect_of C labels (Byte 0xD0) a ≡ algorithm.null_effect a
unfolding effect_of
effect_D0 C labels a = own_from C a (typing_of (Byte 0xD0)) (effect_by (Byte 0xD0) a (own_rules C labels)) owns.own_D0

effect_D2 : (C : Context) (labels : Labels) (a : Argument) → effect_of C labels (Byte 0xD2) a ≡ algorithm.by_index (λ x. guard (nat_lt x (length C.funcs) && has_index x C.refs) (Replace [] (value.Reference reference.Func ∷ []))) a
unfolding effect_of
effect_D2 C labels a = own_from C a (typing_of (Byte 0xD2)) (effect_by (Byte 0xD2) a (own_rules C labels)) owns.own_D2

effect_23 : (C : Context) (labels : Labels) (a : Argument) → effect_of C labels (Byte 0x23) a ≡ algorithm.by_index (λ x. option_map algorithm.global_get (slice_get C.globals x)) a
unfolding effect_of
effect_23 C labels a = own_from C a (typing_of (Byte 0x23)) (effect_by (Byte 0x23) a (own_rules C labels)) owns.own_23

-- a constant instruction with a type has a value

record Value (C : Context) (o : Opcode) (a : Argument) (ps rs : List OperandType) : Type 0 where
  type : ValueType
  is : constant_value C o a ≡ Some type
  params : ps ≡ []
  results : rs ≡ one type

valued : (C : Context) (labels : Labels) (o : Opcode) (a : Argument) (v : ValueType) (ps rs : List OperandType) → constant_value C o a ≡ Some v → effect_of C labels o a ≡ Some (Replace [] (v ∷ [])) → PlainIs C labels o a ps rs → Value C o a ps rs
valued C labels o a v ps rs is effect p = by (rule_is C labels o a ps rs p)
  where
    by : Effected C labels o a ps rs → Value C o a ps rs
    by x =
        let c : Covers (Replace [] (v ∷ [])) ps rs = subst (λ (e : Effect). Covers e ps rs) (same_Some x.effect (Replace [] (v ∷ [])) (sym x.is ∙ effect)) x.covers in
        record { type = v; is = is; params = c.0; results = c.1 }

null_of : (C : Context) (labels : Labels) (a : Argument) (ps rs : List OperandType) (e : Effect) → algorithm.null_effect a ≡ Some e → PlainIs C labels (Byte 0xD0) a ps rs → Value C (Byte 0xD0) a ps rs
null_of C labels (argument.HeapType t) ps rs e is p = valued C labels (Byte 0xD0) (argument.HeapType t) (value.Reference t) ps rs refl (effect_D0 C labels (argument.HeapType t)) p
null_of C labels a ps rs e is p = cc

function_of : (C : Context) (labels : Labels) (a : Argument) (ps rs : List OperandType) (e : Effect) → algorithm.by_index (λ x. guard (nat_lt x (length C.funcs) && has_index x C.refs) (Replace [] (value.Reference reference.Func ∷ []))) a ≡ Some e → PlainIs C labels (Byte 0xD2) a ps rs → Value C (Byte 0xD2) a ps rs
function_of C labels (argument.Index x) ps rs e is p = by (nat_lt x (length C.funcs) && has_index x C.refs) refl is
  where
    by : (b : Bool) → nat_lt x (length C.funcs) && has_index x C.refs ≡ b → guard b (Replace [] (value.Reference reference.Func ∷ [])) ≡ Some e → Value C (Byte 0xD2) (argument.Index x) ps rs
    by false test is = cc
    by true test is =
        valued C labels (Byte 0xD2) (argument.Index x) (value.Reference reference.Func) ps rs (ap (λ (b : Bool). if b then Some (value.Reference reference.Func) else None) test)
        (effect_D2 C labels (argument.Index x) ∙ ap (λ (b : Bool). guard b (Replace [] (value.Reference reference.Func ∷ []))) test) p
function_of C labels a ps rs e is p = cc

global_of : (C : Context) (labels : Labels) (x : ℕ) (t : GlobalType) (ps rs : List OperandType) → slice_get C.globals x ≡ Some t → t.is_mutable ≡ false → PlainIs C labels (Byte 0x23) (argument.Index x) ps rs → Value C (Byte 0x23) (argument.Index x) ps rs
global_of C labels x t ps rs at m p =
    valued C labels (Byte 0x23) (argument.Index x) t.value ps rs (ap global_type at ∙ ap (λ (b : Bool). if b then None else Some t.value) m)
    (effect_23 C labels (argument.Index x) ∙ ap (option_map algorithm.global_get) at) p

value_of : (C : Context) (labels : Labels) (o : Opcode) (a : Argument) (ps rs : List OperandType) → IsConstant C o a → PlainIs C labels o a ps rs → Value C o a ps rs
value_of C labels o a ps rs rules.by_i32 p = valued C labels o a value.I32 ps rs refl (row_const C labels o a value.I32 const_41) p
value_of C labels o a ps rs rules.by_i64 p = valued C labels o a value.I64 ps rs refl (row_const C labels o a value.I64 const_42) p
value_of C labels o a ps rs rules.by_f32 p = valued C labels o a value.F32 ps rs refl (row_const C labels o a value.F32 const_43) p
value_of C labels o a ps rs rules.by_f64 p = valued C labels o a value.F64 ps rs refl (row_const C labels o a value.F64 const_44) p
value_of C labels o a ps rs rules.by_v128 p = valued C labels o a value.V128 ps rs refl (row_const C labels o a value.V128 const_12) p
value_of C labels o a ps rs rules.by_null p = let x = rule_is C labels o a ps rs p in null_of C labels a ps rs x.effect (sym (effect_D0 C labels a) ∙ x.is) p
value_of C labels o a ps rs rules.by_func p = let x = rule_is C labels o a ps rs p in function_of C labels a ps rs x.effect (sym (effect_D2 C labels a) ∙ x.is) p
value_of C labels o a ps rs (rules.by_global {x = x} {t = t} at m) p = global_of C labels x t ps rs at m p

-- and an instruction with a value is constant, and has this type

record Valued (C : Context) (labels : Labels) (o : Opcode) (a : Argument) (v : ValueType) : Type 0 where
  constant : IsConstant C o a
  plain : PlainIs C labels o a [] (one v)

plain_of : (C : Context) (labels : Labels) (o : Opcode) (a : Argument) (v : ValueType) → typing_of o ≡ Some (Plain (types.const v)) → PlainIs C labels o a [] (one v)
plain_of C labels o a v e = rules.by_row {t = types.const v} e refl tt

typed_as : (C : Context) (labels : Labels) (o : Opcode) (a : Argument) (v w : ValueType) → Some v ≡ Some w → IsConstant C o a → PlainIs C labels o a [] (one v) → Valued C labels o a w
typed_as C labels o a v w e c p = record { constant = c; plain = subst (λ (x : ValueType). PlainIs C labels o a [] (one x)) (same_Some v w e) p }

null_valued : (C : Context) (labels : Labels) (a : Argument) (v : ValueType) → null_value a ≡ Some v → Valued C labels (Byte 0xD0) a v
null_valued C labels (argument.HeapType t) v e = typed_as C labels (Byte 0xD0) (argument.HeapType t) (value.Reference t) v e rules.by_null rules.by_ref_null
null_valued C labels a v e = cc

function_valued : (C : Context) (labels : Labels) (a : Argument) (v : ValueType) → function_value C a ≡ Some v → Valued C labels (Byte 0xD2) a v
function_valued C labels (argument.Index x) v e =
    let q = cond_some (nat_lt x (length C.funcs) && has_index x C.refs) (value.Reference reference.Func) v e in
    let b = both (nat_lt x (length C.funcs)) (has_index x C.refs) q.0 in
    typed_as C labels (Byte 0xD2) (argument.Index x) (value.Reference reference.Func) v (ap Some q.1) rules.by_func (rules.by_ref_func (less x (length C.funcs) b.0) (contained x C.refs b.1))
function_valued C labels a v e = cc

global_valued : (C : Context) (labels : Labels) (a : Argument) (v : ValueType) → global_value C a ≡ Some v → Valued C labels (Byte 0x23) a v
global_valued C labels (argument.Index x) v e = by (slice_get C.globals x) refl e
  where
    found : (t : GlobalType) (b : Bool) → slice_get C.globals x ≡ Some t → t.is_mutable ≡ b → (if b then None else Some t.value) ≡ Some v → Valued C labels (Byte 0x23) (argument.Index x) v
    found t true at m e = cc
    found t false at m e = typed_as C labels (Byte 0x23) (argument.Index x) t.value v e (rules.by_global at m) (rules.by_global_get at)

    by : (t : Option GlobalType) → slice_get C.globals x ≡ t → global_type t ≡ Some v → Valued C labels (Byte 0x23) (argument.Index x) v
    by None at e = cc
    by (Some t) at e = found t t.is_mutable at refl e
global_valued C labels a v e = cc

byte_valued : (C : Context) (labels : Labels) (b : ℕ) (a : Argument) (v : ValueType) → byte_value C b a ≡ Some v → Valued C labels (Byte b) a v
byte_valued C labels b a v e = one (b == 0x41) (b == 0x42) (b == 0x43) (b == 0x44) (b == 0xD0) (b == 0xD2) (b == 0x23) refl refl refl refl refl refl refl e
  where
    at : (m : ℕ) → b == m ≡ true → Valued C labels (Byte m) a v → Valued C labels (Byte b) a v
    at m e x = let same : b ≡ m = grind arith in subst (λ (n : ℕ). Valued C labels (Byte n) a v) (sym same) x

    one : (t1 t2 t3 t4 t5 t6 t7 : Bool) → b == 0x41 ≡ t1 → b == 0x42 ≡ t2 → b == 0x43 ≡ t3 → b == 0x44 ≡ t4 → b == 0xD0 ≡ t5 → b == 0xD2 ≡ t6 → b == 0x23 ≡ t7 → (if t1 then Some value.I32 else if t2 then Some value.I64 else if t3 then Some value.F32 else if t4 then Some value.F64 else if t5 then null_value a else if t6 then function_value C a else if t7 then global_value C a else None) ≡ Some v → Valued C labels (Byte b) a v
    one true t2 t3 t4 t5 t6 t7 e1 e2 e3 e4 e5 e6 e7 e = at 0x41 e1 (typed_as C labels (Byte 0x41) a value.I32 v e rules.by_i32 (plain_of C labels (Byte 0x41) a value.I32 const_41))
    one false true t3 t4 t5 t6 t7 e1 e2 e3 e4 e5 e6 e7 e = at 0x42 e2 (typed_as C labels (Byte 0x42) a value.I64 v e rules.by_i64 (plain_of C labels (Byte 0x42) a value.I64 const_42))
    one false false true t4 t5 t6 t7 e1 e2 e3 e4 e5 e6 e7 e = at 0x43 e3 (typed_as C labels (Byte 0x43) a value.F32 v e rules.by_f32 (plain_of C labels (Byte 0x43) a value.F32 const_43))
    one false false false true t5 t6 t7 e1 e2 e3 e4 e5 e6 e7 e = at 0x44 e4 (typed_as C labels (Byte 0x44) a value.F64 v e rules.by_f64 (plain_of C labels (Byte 0x44) a value.F64 const_44))
    one false false false false true t6 t7 e1 e2 e3 e4 e5 e6 e7 e = at 0xD0 e5 (null_valued C labels a v e)
    one false false false false false true t7 e1 e2 e3 e4 e5 e6 e7 e = at 0xD2 e6 (function_valued C labels a v e)
    one false false false false false false true e1 e2 e3 e4 e5 e6 e7 e = at 0x23 e7 (global_valued C labels a v e)
    one false false false false false false false e1 e2 e3 e4 e5 e6 e7 e = cc

is_valued : (C : Context) (labels : Labels) (o : Opcode) (a : Argument) (v : ValueType) → constant_value C o a ≡ Some v → Valued C labels o a v
is_valued C labels (Byte b) a v e = byte_valued C labels b a v e
is_valued C labels (Prefixed p n) a v e =
    let q = cond_some ((p == 0xFD) && (n == 12)) value.V128 v e in
    let b = both (p == 0xFD) (n == 12) q.0 in
    let prefix : p ≡ 0xFD = grind (arith, b) in
    let number : n ≡ 12 = grind (arith, b) in
    subst (λ (x : ℕ). Valued C labels (Prefixed x n) a v) (sym prefix) (subst (λ (x : ℕ). Valued C labels (Prefixed 0xFD x) a v) (sym number)
    (typed_as C labels (Prefixed 0xFD 12) a value.V128 v (ap Some q.1) rules.by_v128 (plain_of C labels (Prefixed 0xFD 12) a value.V128 const_12)))

-- sequences of constant instructions

abbrev HasValues : Context → List Instruction → List ValueType → Type 0
HasValues C [] [] = Unit {0}
HasValues C (i ∷ is) (v ∷ vs) = (constant_value C i.opcode i.argument ≡ Some v) × HasValues C is vs
HasValues C is vs = ⊥

has_values_push : (C : Context) (is : List Instruction) (vs : List ValueType) (i : Instruction) (v : ValueType) → HasValues C is vs → constant_value C i.opcode i.argument ≡ Some v → HasValues C (is ++ i ∷ []) (vs ++ v ∷ [])
has_values_push C [] [] i v h e = (e, tt)
has_values_push C (j ∷ is) (w ∷ vs) i v h e = (h.0, has_values_push C is vs i v h.1 e)
has_values_push C [] (w ∷ vs) i v h e = absurd h
has_values_push C (j ∷ is) [] i v h e = absurd h

record Constants (C : Context) (is : List Instruction) (ts us : List OperandType) (r : List Instruction) : Type 0 where
  before : List Instruction
  types : List ValueType
  split : is ≡ before ++ r
  after : us ≡ ts ++ values types
  values_are : HasValues C before types

abbrev AreConstant : Context → List Instruction → Type 0
AreConstant C is = AllByRecursion (λ i. IsConstant C i.opcode i.argument) is

constant_at : (C : Context) (is : List Instruction) (i : Instruction) (r : List Instruction) → AreConstant C (is ++ (i ∷ r)) → IsConstant C i.opcode i.argument
constant_at C [] i r a = a.0
constant_at C (j ∷ is) i r a = constant_at C is i r a.1

plain_only : (C : Context) (o : Opcode) (a : Argument) → IsConstant C o a → structure_of o ≡ None_of_them
plain_only C o a rules.by_i32 = refl
plain_only C o a rules.by_i64 = refl
plain_only C o a rules.by_f32 = refl
plain_only C o a rules.by_f64 = refl
plain_only C o a rules.by_v128 = refl
plain_only C o a rules.by_null = refl
plain_only C o a rules.by_func = refl
plain_only C o a (rules.by_global at m) = refl

at_split : (C : Context) (is : List Instruction) (ts us : List OperandType) (i : Instruction) (r : List Instruction) → AreConstant C is → Constants C is ts us (i ∷ r) → IsConstant C i.opcode i.argument
at_split C is ts us i r all k = constant_at C k.before i r (subst (λ (x : List Instruction). AreConstant C x) k.split all)

no_block : (C : Context) (is : List Instruction) (ts us : List OperandType) (i : Instruction) (r : List Instruction) (k : algorithm.FrameKind) → AreConstant C is → Constants C is ts us (i ∷ r) → structure_of i.opcode ≡ Enter k → ⊥
no_block C is ts us i r k all before e = let plain = plain_only C i.opcode i.argument (at_split C is ts us i r all before) in cc

one_more : (C : Context) (labels : Labels) (is : List Instruction) (ts us vs ps rs : List OperandType) (i : Instruction) (r : List Instruction) → AreConstant C is → Constants C is ts us (i ∷ r) → PlainIs C labels i.opcode i.argument ps rs → Replaces ps rs us vs → Constants C is ts vs r
one_more C labels is ts us vs ps rs i r all k p replaces =
    let v = value_of C labels i.opcode i.argument ps rs (at_split C is ts us i r all k) p in
    let none : replaces.taken ≡ [] = match_none replaces.taken (subst (λ (x : List OperandType). AllMatch replaces.taken x) v.params replaces.match) in
    let below : us ≡ replaces.below = replaces.before ∙ (ap (λ (x : List OperandType). replaces.below ++ x) none ∙ append-nil replaces.below) in
    record {
      before = k.before ++ i ∷ [];
      types = k.types ++ v.type ∷ [];
      split = k.split ∙ sym (append_assoc k.before (i ∷ []) r);
      after = replaces.after ∙ (ap (λ (x : List OperandType). replaces.below ++ x) v.results ∙ (ap (λ (x : List OperandType). x ++ one v.type) (sym below ∙ k.after) ∙ (append_assoc ts (values k.types) (one v.type) ∙ ap (λ (x : List OperandType). ts ++ x) (sym (map-append operand.Value k.types (v.type ∷ []))))));
      values_are = has_values_push C k.before k.types i v.type k.values_are v.is;
    }

sequence : (C : Context) (labels : Labels) (is r : List Instruction) (ts us : List OperandType) → Sequence C labels is ts us r → AreConstant C is → Constants C is ts us r
sequence C labels is r ts us rules.by_none all = record { before = []; types = []; split = refl; after = sym (append-nil ts); values_are = tt }
sequence C labels is r ts us (rules.by_plain {i = i} {us = mid} {ps = ps} {rs = rs} s p replaces) all = one_more C labels is ts mid us ps rs i r all (sequence C labels is (i ∷ r) ts mid s all) p replaces
sequence C labels is r ts us (rules.by_block {body = body} {i = i} {us = mid} s opcode type inner end m replaces) all = absurd (no_block C is ts mid i body OfBlock all (sequence C labels is (i ∷ body) ts mid s all) (ap structure_of opcode))
sequence C labels is r ts us (rules.by_loop {body = body} {i = i} {us = mid} s opcode type inner end m replaces) all = absurd (no_block C is ts mid i body OfLoop all (sequence C labels is (i ∷ body) ts mid s all) (ap structure_of opcode))
sequence C labels is r ts us (rules.by_if {body = body} {i = i} {us = mid} s opcode type inner end m same replaces) all = absurd (no_block C is ts mid i body OfIf all (sequence C labels is (i ∷ body) ts mid s all) (ap structure_of opcode))
sequence C labels is r ts us (rules.by_if_else {body = body} {i = i} {us = mid} s opcode type inner middle m second end n replaces) all = absurd (no_block C is ts mid i body OfIf all (sequence C labels is (i ∷ body) ts mid s all) (ap structure_of opcode))

-- a constant expression is one instruction

pub record Single (C : Context) (is : List Instruction) (t : ValueType) : Type 0 where
  pub i : Instruction
  pub is_it : is ≡ i ∷ []
  pub value : constant_value C i.opcode i.argument ≡ Some t

single_of : (C : Context) (before : List Instruction) (ts : List ValueType) (t : ValueType) → HasValues C before ts → AllMatch (values ts) (values (t ∷ [])) → Single C before t
single_of C (i ∷ []) (v ∷ []) t h m = record { i = i; is_it = refl; value = h.0 ∙ ap Some (same_value v t m.0) }
single_of C before [] t h m = absurd m
single_of C before (v ∷ w ∷ ts) t h m = absurd m.1
single_of C [] (v ∷ []) t h m = absurd h
single_of C (i ∷ j ∷ is) (v ∷ []) t h m = absurd h.1

pub to_single : (C : Context) (is : List Instruction) (t : ValueType) → Constant C is t → Single C is t
to_single C is t c = by (sequence C [] is [] [] c.typed.left c.typed.typed c.constant)
  where
    by : Constants C is [] c.typed.left [] → Single C is t
    by k =
        let whole : is ≡ k.before = k.split ∙ append-nil k.before in
        subst (λ (x : List Instruction). Single C x t) (sym whole) (single_of C k.before k.types t k.values_are (subst (λ (x : List OperandType). AllMatch x (values (t ∷ []))) k.after c.typed.match))

pub from_single : (C : Context) (i : Instruction) (t : ValueType) → constant_value C i.opcode i.argument ≡ Some t → Constant C (i ∷ []) t
from_single C i t e =
    let v = is_valued C [] i.opcode i.argument t e in
    record {
      typed = record { left = one t; typed = rules.by_plain rules.by_none v.plain (record { below = []; taken = []; before = refl; match = tt; after = refl }); match = (refl, tt) };
      constant = (v.constant, tt);
    }

pub not_single : (C : Context) (is : List Instruction) (t : ValueType) → (length is ≡ 1 → ⊥) → Constant C is t → ⊥
not_single C is t n c = by (to_single C is t c)
  where
    by : Single C is t → ⊥
    by s = n (ap length s.is_it)

pub one_item : (C : Context) (is : List Instruction) (t : ValueType) (i : Instruction) → length is ≡ 1 → i ≡ get_or is 0 i → (constant_value C i.opcode i.argument ≡ Some t → Constant C is t) × (Constant C is t → constant_value C i.opcode i.argument ≡ Some t)
one_item C [] t i l e = absurd (omega arith)
one_item C (j ∷ k ∷ is) t i l e = absurd (omega arith)
one_item C (j ∷ []) t i l e = (there, back)
  where
    there : constant_value C i.opcode i.argument ≡ Some t → Constant C (j ∷ []) t
    there v = subst (λ (x : Instruction). Constant C (x ∷ []) t) e (from_single C i t v)

    by : Single C (j ∷ []) t → constant_value C j.opcode j.argument ≡ Some t
    by s = let same : j ≡ s.i = let whole = s.is_it in cc in subst (λ (x : Instruction). constant_value C x.opcode x.argument ≡ Some t) (sym same) s.value

    back : Constant C (j ∷ []) t → constant_value C i.opcode i.argument ≡ Some t
    back c = subst (λ (x : Instruction). constant_value C x.opcode x.argument ≡ Some t) (sym e) (by (to_single C (j ∷ []) t c))
