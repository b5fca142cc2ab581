-- WebAssembly 2.0, 7.3 (appendix, validation algorithm): the algorithm that decides whether the body of a function is
-- valid, as functions over lists. `AlgorithmIsExact` (`Law`) says that it accepts the valid bodies and no others, and
-- `FirstErrorIsExact` that its error is at the first instruction that no valid body has after those before it.
use Rattle.std.specs.Prelude.{◌^◌, ◌/◌, ℕ, Bool, true, false, List, [], ◌∷◌, ◌++◌, length, map, Option, Some, None, slice_get, nat_lt, nat_le, is_some, ◌==◌, ◌&&◌, if◌then◌else◌}
use Rattle.std.specs.List.{list_all}
use Rattle.std.specs.Option.{option_map}
use Rattle.wat_module_ast.specs.declared.fields.GlobalType.{GlobalType}
use Rattle.wat_module_ast.specs.declared.fields.TableType.{TableType}
use Rattle.wat_module_ast.specs.declared.instruction.Argument.{Argument}
use Rattle.wat_module_ast.specs.declared.instruction.Argument.TheVariants as argument
use Rattle.wat_module_ast.specs.declared.instruction.Instruction.{Instruction}
use Rattle.wat_module_ast.specs.declared.instruction.Opcode.{Opcode}
use Rattle.wat_module_ast.specs.declared.instruction.Opcode.TheVariants.{Byte, Prefixed}
use Rattle.wat_module_ast.specs.declared.instruction.ReferenceType.{ReferenceType}
use Rattle.wat_module_ast.specs.declared.instruction.ReferenceType.TheVariants as reference
use Rattle.wat_module_ast.specs.declared.instruction.ValueType.{ValueType}
use Rattle.wat_module_ast.specs.declared.instruction.ValueType.TheVariants as value
use Rattle.wat_module_ast.specs.Types.{FunctionType, from_to, reference_byte, same_values, type_byte}
use Rattle.wat_valid.specs.declared.operands.OperandType.{OperandType}
use Rattle.wat_valid.specs.declared.operands.OperandType.TheVariants as operand
use Rattle.wat_valid.specs.Contexts.{Context, Labels, use_type, values}
use Rattle.wat_valid.specs.InstructionTypes.{Typing, Plain, Lane, Shuffle, Access, AccessLane, OnMemory, Own}
use Rattle.wat_valid.specs.Instructions.{block_type, row_type, same_opcode, typing_of}

-- A list without its last element, and this element. The last element of a stack is its top.
abbrev pub split_after : {A : Type 0} → A → List A → List A × A
split_after x [] = ([], x)
split_after x (y ∷ ys) = (x ∷ (split_after y ys).0, (split_after y ys).1)

abbrev pub split_last : {A : Type 0} → List A → Option (List A × A)
split_last [] = None
split_last (x ∷ xs) = Some (split_after x xs)

-- 7.3, `pop_val()`: the operands of a frame without the last one, and its type. If the frame has none, the type is ⊥
-- (`Unknown`) if the code cannot be reached; otherwise it is an error.
abbrev pub pop_by : Bool → Option (List OperandType × OperandType) → Option (List OperandType × OperandType)
pop_by unreachable (Some p) = Some p
pop_by true None = Some ([], operand.Bottom)
pop_by false None = None

abbrev pub pop : Bool → List OperandType → Option (List OperandType × OperandType)
pop unreachable ts = pop_by unreachable (split_last ts)

-- Returns `true` if the operand type matches the value type.
abbrev pub is_value : OperandType → ValueType → Bool
is_value operand.Bottom p = true
is_value (operand.Value t) p = type_byte t == type_byte p

abbrev pub expect : ValueType → Option (List OperandType × OperandType) → Option (List OperandType)
expect p None = None
expect p (Some q) = if is_value q.1 p then Some q.0 else None

-- 7.3, `pop_val(expect)`.
abbrev pub pop_value : Bool → List OperandType → ValueType → Option (List OperandType)
pop_value unreachable ts p = expect p (pop unreachable ts)

abbrev pub and_pop : Bool → ValueType → Option (List OperandType) → Option (List OperandType)
and_pop unreachable p None = None
and_pop unreachable p (Some ts) = pop_value unreachable ts p

-- 7.3, `pop_vals`: from the last type to the first.
abbrev pub pop_values : Bool → List OperandType → List ValueType → Option (List OperandType)
pop_values unreachable ts [] = Some ts
pop_values unreachable ts (p ∷ ps) = and_pop unreachable p (pop_values unreachable ts ps)

-- What a plain instruction does to the operands.
pub data Effect : Type 0 where
  -- It pops operands of the first types and pushes those of the second.
  Replace : List ValueType → List ValueType → Effect
  -- It pops operands of these types, and the code after it cannot be reached.
  Leave : List ValueType → Effect
  -- `br_table`: for each of the labels, the last of which is the default, the operands match its types, and the code
  -- after it cannot be reached. All labels have the same number of types.
  LeaveTable : List (List ValueType) → List ValueType → Effect
  -- `drop`.
  Drop : Effect
  -- `select` without types.
  Select : Effect
  -- `ref.is_null`.
  TestNull : Effect

-- The operands of a frame, and whether the code cannot be reached.
pub record Operands : Type 0 where
  pub unreachable : Bool
  pub types : List OperandType

abbrev pub operands : Bool → List OperandType → Operands
operands u ts = record { unreachable = u; types = ts }

abbrev pub push : Bool → List OperandType → Option (List OperandType) → Option Operands
push u rs None = None
push u rs (Some ts) = Some (operands u (ts ++ rs))

abbrev pub leave : Option (List OperandType) → Option Operands
leave None = None
leave (Some ts) = Some (operands true [])

abbrev pub drop_one : Bool → Option (List OperandType × OperandType) → Option Operands
drop_one u None = None
drop_one u (Some q) = Some (operands u q.0)

-- Returns `true` for ⊥ and for reference types.
abbrev pub is_reference : OperandType → Bool
is_reference operand.Bottom = true
is_reference (operand.Value (value.Reference t)) = true
is_reference (operand.Value t) = false

-- Returns `true` for ⊥, number types and the vector type.
abbrev pub is_numeric : OperandType → Bool
is_numeric operand.Bottom = true
is_numeric (operand.Value (value.Reference t)) = false
is_numeric (operand.Value t) = true

abbrev pub test_null : Bool → Option (List OperandType × OperandType) → Option Operands
test_null u None = None
test_null u (Some q) = if is_reference q.1 then Some (operands u (q.0 ++ operand.Value value.I32 ∷ [])) else None

-- The more specific of two operand types, if one matches the other.
abbrev pub joined : OperandType → OperandType → Option OperandType
joined operand.Bottom u = Some u
joined (operand.Value t) operand.Bottom = Some (operand.Value t)
joined (operand.Value t) (operand.Value u) = if type_byte t == type_byte u then Some (operand.Value t) else None

abbrev pub select_joined : Bool → List OperandType → Option OperandType → Option Operands
select_joined u ts None = None
select_joined u ts (Some t) = if is_numeric t then Some (operands u (ts ++ t ∷ [])) else None

abbrev pub select_second : Bool → OperandType → Option (List OperandType × OperandType) → Option Operands
select_second u t None = None
select_second u t (Some q) = select_joined u q.0 (joined q.1 t)

abbrev pub select_first : Bool → Option (List OperandType × OperandType) → Option Operands
select_first u None = None
select_first u (Some q) = select_second u q.1 (pop u q.0)

abbrev pub select_one : Bool → Option (List OperandType) → Option Operands
select_one u None = None
select_one u (Some ts) = select_first u (pop u ts)

-- Returns `true` if the operands match the types, and there are as many types as in `default`.
abbrev pub fits_label : Bool → List OperandType → List ValueType → List ValueType → Bool
fits_label u ts default results = (length results == length default) && is_some (pop_values u ts results)

abbrev pub leave_table : Bool → List (List ValueType) → List ValueType → Option (List OperandType) → Option Operands
leave_table u labels default None = None
leave_table u labels default (Some ts) = if list_all (fits_label u ts default) labels && fits_label u ts default default then Some (operands true []) else None

-- The operands after an effect, or `None` if those there do not match.
abbrev pub apply : Effect → Operands → Option Operands
apply (Replace ps rs) s = push s.unreachable (values rs) (pop_values s.unreachable s.types ps)
apply (Leave ps) s = leave (pop_values s.unreachable s.types ps)
apply (LeaveTable labels default) s = leave_table s.unreachable labels default (pop_value s.unreachable s.types value.I32)
apply Drop s = drop_one s.unreachable (pop s.unreachable s.types)
apply Select s = select_one s.unreachable (pop_value s.unreachable s.types value.I32)
apply TestNull s = test_null s.unreachable (pop s.unreachable s.types)

-- 3.3.7: returns `true` if there is a memory.
abbrev pub has_memory : Context → Bool
has_memory C = nat_lt 0 (length C.mems)

-- The condition of a row (`Condition`), as a test. `memory` is `true` if there is a memory.
abbrev pub holds : Bool → Typing → Argument → Bool
holds memory (Plain t) a = true
holds memory (Lane dim t) (argument.Lane n) = nat_lt n dim
holds memory (Shuffle t) (argument.Bytes ns) = list_all (λ n. nat_lt n 32) ns
holds memory (Access width t) (argument.Memory align offset) = memory && nat_le (2 ^ align) width
holds memory (AccessLane width t) (argument.MemoryLane align offset n) = memory && nat_le (2 ^ align) width && nat_lt n (16 / width)
holds memory (OnMemory t) a = memory
holds memory k a = false

-- The effect of an instruction without an immediate, and of those with an index, two, or one and a byte 0.
abbrev pub by_nothing : Option Effect → Argument → Option Effect
by_nothing e argument.Nothing = e
by_nothing e a = None

abbrev pub by_index : (ℕ → Option Effect) → Argument → Option Effect
by_index f (argument.Index x) = f x
by_index f a = None

abbrev pub by_pair : (ℕ → ℕ → Option Effect) → Argument → Option Effect
by_pair f (argument.Pair p) = f p.0 p.1
by_pair f a = None

abbrev pub by_index_zero : (ℕ → Option Effect) → Argument → Option Effect
by_index_zero f (argument.IndexZero x) = f x
by_index_zero f a = None

-- The effect, if the condition holds.
abbrev pub guard : Bool → Effect → Option Effect
guard b e = if b then Some e else None

-- Returns `true` if the index is in the list.
abbrev pub has_index : ℕ → List ℕ → Bool
has_index x [] = false
has_index x (y ∷ ys) = if y == x then true else has_index x ys

-- The value type of a reference type, and three operands of the type `i32`.
abbrev pub ref_value : ReferenceType → ValueType
ref_value t = value.Reference t

abbrev pub three : List ValueType
three = value.I32 ∷ value.I32 ∷ value.I32 ∷ []

abbrev pub null_effect : Argument → Option Effect
null_effect (argument.HeapType t) = Some (Replace [] (ref_value t ∷ []))
null_effect a = None

abbrev pub select_effect : Argument → Option Effect
select_effect (argument.Select (t ∷ [])) = Some (Replace (t ∷ t ∷ value.I32 ∷ []) (t ∷ []))
select_effect a = None

abbrev pub local_get : ValueType → Effect
local_get t = Replace [] (t ∷ [])

abbrev pub local_set : ValueType → Effect
local_set t = Replace (t ∷ []) []

abbrev pub local_tee : ValueType → Effect
local_tee t = Replace (t ∷ []) (t ∷ [])

abbrev pub global_get : GlobalType → Effect
global_get t = Replace [] (t.value ∷ [])

abbrev pub global_set : Option GlobalType → Option Effect
global_set None = None
global_set (Some t) = guard t.is_mutable (Replace (t.value ∷ []) [])

abbrev pub table_get : TableType → Effect
table_get t = Replace (value.I32 ∷ []) (ref_value t.element ∷ [])

abbrev pub table_set : TableType → Effect
table_set t = Replace (value.I32 ∷ ref_value t.element ∷ []) []

abbrev pub table_size : TableType → Effect
table_size t = Replace [] (value.I32 ∷ [])

abbrev pub table_grow : TableType → Effect
table_grow t = Replace (ref_value t.element ∷ value.I32 ∷ []) (value.I32 ∷ [])

abbrev pub table_fill : TableType → Effect
table_fill t = Replace (value.I32 ∷ ref_value t.element ∷ value.I32 ∷ []) []

-- Returns `true` if both reference types are equal.
abbrev pub same_reference : ReferenceType → ReferenceType → Bool
same_reference t u = reference_byte t == reference_byte u

abbrev pub table_copy : Option TableType → Option TableType → Option Effect
table_copy (Some t) (Some u) = guard (same_reference t.element u.element) (Replace three [])
table_copy t u = None

abbrev pub table_init : Option TableType → Option ReferenceType → Option Effect
table_init (Some t) (Some u) = guard (same_reference t.element u) (Replace three [])
table_init t u = None

abbrev pub br_if : List ValueType → Effect
br_if results = Replace (results ++ value.I32 ∷ []) results

abbrev pub call : FunctionType → Effect
call t = Replace t.params t.results

-- The results of labels, if all exist.
abbrev pub cons_label : Option (List ValueType) → Option (List (List ValueType)) → Option (List (List ValueType))
cons_label (Some r) (Some rs) = Some (r ∷ rs)
cons_label r rs = None

abbrev pub labels_at : Labels → List ℕ → Option (List (List ValueType))
labels_at labels [] = Some []
labels_at labels (l ∷ ls) = cons_label (slice_get labels l) (labels_at labels ls)

abbrev pub table_effect : Option (List (List ValueType)) → Option (List ValueType) → Option Effect
table_effect (Some rs) (Some r) = Some (LeaveTable rs r)
table_effect rs r = None

abbrev pub br_table : Labels → Argument → Option Effect
br_table labels (argument.Labels b) = table_effect (labels_at labels b.labels) (slice_get labels b.default)
br_table labels a = None

abbrev pub indirect_type : Option FunctionType → Option Effect
indirect_type None = None
indirect_type (Some t) = Some (Replace (t.params ++ value.I32 ∷ []) t.results)

abbrev pub indirect_table : Option TableType → Option FunctionType → Option Effect
indirect_table None t = None
indirect_table (Some table) t = if same_reference table.element reference.Func then indirect_type t else None

abbrev pub call_indirect : Context → Argument → Option Effect
call_indirect C (argument.Indirect c) = indirect_table (slice_get C.tables c.table) (use_type C.types c.uses)
call_indirect C a = None

-- The effect of an instruction with a rule of its own, by the opcode.
pub record Rule : Type 0 where
  pub opcode : Opcode
  pub effect : Argument → Option Effect

abbrev pub rule : Opcode → (Argument → Option Effect) → Rule
rule o e = record { opcode = o; effect = e }

abbrev pub own_rules : Context → Labels → List Rule
own_rules C labels =
    rule (Byte 0x00) (by_nothing (Some (Leave []))) ∷
    rule (Byte 0x0C) (by_index (λ l. option_map Leave (slice_get labels l))) ∷
    rule (Byte 0x0D) (by_index (λ l. option_map br_if (slice_get labels l))) ∷
    rule (Byte 0x0E) (br_table labels) ∷
    rule (Byte 0x0F) (by_nothing (option_map Leave C.returns)) ∷
    rule (Byte 0x10) (by_index (λ x. option_map call (slice_get C.funcs x))) ∷
    rule (Byte 0x11) (call_indirect C) ∷
    rule (Byte 0x1A) (by_nothing (Some Drop)) ∷
    rule (Byte 0x1B) (by_nothing (Some Select)) ∷
    rule (Byte 0x1C) select_effect ∷
    rule (Byte 0x20) (by_index (λ x. option_map local_get (slice_get C.locals x))) ∷
    rule (Byte 0x21) (by_index (λ x. option_map local_set (slice_get C.locals x))) ∷
    rule (Byte 0x22) (by_index (λ x. option_map local_tee (slice_get C.locals x))) ∷
    rule (Byte 0x23) (by_index (λ x. option_map global_get (slice_get C.globals x))) ∷
    rule (Byte 0x24) (by_index (λ x. global_set (slice_get C.globals x))) ∷
    rule (Byte 0x25) (by_index (λ x. option_map table_get (slice_get C.tables x))) ∷
    rule (Byte 0x26) (by_index (λ x. option_map table_set (slice_get C.tables x))) ∷
    rule (Byte 0xD0) null_effect ∷
    rule (Byte 0xD1) (by_nothing (Some TestNull)) ∷
    rule (Byte 0xD2) (by_index (λ x. guard (nat_lt x (length C.funcs) && has_index x C.refs) (Replace [] (ref_value reference.Func ∷ [])))) ∷
    rule (Prefixed 0xFC 8) (by_index_zero (λ x. guard (has_memory C && nat_lt x C.datas) (Replace three []))) ∷
    rule (Prefixed 0xFC 9) (by_index (λ x. guard (nat_lt x C.datas) (Replace [] []))) ∷
    rule (Prefixed 0xFC 12) (by_pair (λ y x. table_init (slice_get C.tables x) (slice_get C.elems y))) ∷
    rule (Prefixed 0xFC 13) (by_index (λ x. guard (nat_lt x (length C.elems)) (Replace [] []))) ∷
    rule (Prefixed 0xFC 14) (by_pair (λ x y. table_copy (slice_get C.tables x) (slice_get C.tables y))) ∷
    rule (Prefixed 0xFC 15) (by_index (λ x. option_map table_grow (slice_get C.tables x))) ∷
    rule (Prefixed 0xFC 16) (by_index (λ x. option_map table_size (slice_get C.tables x))) ∷
    rule (Prefixed 0xFC 17) (by_index (λ x. option_map table_fill (slice_get C.tables x))) ∷
    []

abbrev pub effect_by : Opcode → Argument → List Rule → Option Effect
effect_by o a [] = None
effect_by o a (r ∷ rs) = if same_opcode o r.opcode then r.effect a else effect_by o a rs

-- The type of an instruction without a rule of its own.
abbrev pub plain_part : Option Typing → Option Typing
plain_part None = None
plain_part (Some Own) = None
plain_part (Some k) = Some k

abbrev pub row_effect : Bool → FunctionType → Option Effect
row_effect b t = guard b (Replace t.params t.results)

abbrev pub effect_from : Context → Argument → Typing → Option FunctionType → Option Effect → Option Effect
effect_from C a k (Some t) own = row_effect (holds (has_memory C) k a) t
effect_from C a k None own = own

abbrev pub effect_of_typing : Context → Argument → Option Typing → Option Effect → Option Effect
effect_of_typing C a None own = own
effect_of_typing C a (Some k) own = effect_from C a k (row_type k) own

-- The effect of an instruction other than `block`, `loop` and `if`, or `None` if it has no type in this context.
unfoldable pub effect_of : Context → Labels → Opcode → Argument → Option Effect
effect_of C labels o a = effect_of_typing C a (typing_of o) (effect_by o a (own_rules C labels))

-- 7.3, control frame: the kind of its block, the type of the block, its operands, and whether its code cannot be reached.
pub data FrameKind : Type 0 where
  OfBody : FrameKind
  OfBlock : FrameKind
  OfLoop : FrameKind
  OfIf : FrameKind
  OfElse : FrameKind

pub record Frame : Type 0 where
  pub kind : FrameKind
  pub type : FunctionType
  pub operands : Operands

abbrev pub frame : FrameKind → FunctionType → Operands → Frame
frame k t s = record { kind = k; type = t; operands = s }

-- 7.3, `label_types`: the parameters of a loop, otherwise the results.
abbrev pub label_of : FrameKind → FunctionType → List ValueType
label_of OfLoop t = t.params
label_of k t = t.results

abbrev pub frame_label : Frame → List ValueType
frame_label f = label_of f.kind f.type

-- The labels of open blocks, the innermost first.
abbrev pub labels_of : List Frame → Labels
labels_of fs = map frame_label fs

-- The frame with other operands.
abbrev pub with_operands : Frame → Option Operands → Option Frame
with_operands f None = None
with_operands f (Some s) = Some (frame f.kind f.type s)

abbrev pub onto : List Frame → Option Frame → Option (List Frame)
onto fs None = None
onto fs (Some f) = Some (f ∷ fs)

-- 7.3, `push_ctrl`: the frame `f` after it has lost the operands `ts`, with a new frame on it.
abbrev pub enter_with : FrameKind → FunctionType → Frame → List Frame → Option (List OperandType) → Option (List Frame)
enter_with k t f fs None = None
enter_with k t f fs (Some ts) = Some (frame k t (operands false (values t.params)) ∷ frame f.kind f.type (operands f.operands.unreachable ts) ∷ fs)

-- The parameters that a block takes: an `if` takes an `i32` as well.
abbrev pub block_params : FrameKind → FunctionType → List ValueType
block_params OfIf t = t.params ++ value.I32 ∷ []
block_params k t = t.params

abbrev pub enter : FrameKind → Option FunctionType → Frame → List Frame → Option (List Frame)
enter k None f fs = None
enter k (Some t) f fs = enter_with k t f fs (pop_values f.operands.unreachable f.operands.types (block_params k t))

-- 7.3, `pop_ctrl`: returns `true` if the operands of the frame are its results.
abbrev pub is_empty : Option (List OperandType) → Bool
is_empty (Some []) = true
is_empty ts = false

abbrev pub is_finished : Frame → Bool
is_finished f = is_empty (pop_values f.operands.unreachable f.operands.types f.type.results)

-- Returns `true` if a frame may end: an `if` without `else` must have the same parameters and results.
abbrev pub may_end_by : FunctionType → FrameKind → Bool
may_end_by t OfBody = false
may_end_by t OfIf = same_values t.params t.results
may_end_by t k = true

abbrev pub may_end : Frame → Bool
may_end f = may_end_by f.type f.kind

-- 7.3, `end`: the outer frame with the results.
abbrev pub end_block : Frame → List Frame → Option (List Frame)
end_block f [] = None
end_block f (g ∷ fs) = if is_finished f && may_end f then Some (frame g.kind g.type (operands g.operands.unreachable (g.operands.types ++ values f.type.results)) ∷ fs) else None

-- 7.3, `else`: the frame of the second branch.
abbrev pub is_if : FrameKind → Bool
is_if OfIf = true
is_if k = false

abbrev pub else_block : Frame → List Frame → Option (List Frame)
else_block f fs = if is_if f.kind && is_finished f then Some (frame OfElse f.type (operands false (values f.type.params)) ∷ fs) else None

abbrev pub effect_on : Option Effect → Operands → Option Operands
effect_on None s = None
effect_on (Some e) s = apply e s

-- 7.3: one instruction other than `block`, `loop`, `if`, `else` and `end`.
abbrev pub plain_step : Context → Frame → List Frame → Instruction → Option (List Frame)
plain_step C f fs i = onto fs (with_operands f (effect_on (effect_of C (labels_of (f ∷ fs)) i.opcode i.argument) f.operands))

-- The kind of a structured instruction.
pub data Structure : Type 0 where
  Enter : FrameKind → Structure
  Else : Structure
  End : Structure
  None_of_them : Structure

abbrev pub structure_of : Opcode → Structure
structure_of (Byte b) = if b == 0x02 then Enter OfBlock else if b == 0x03 then Enter OfLoop else if b == 0x04 then Enter OfIf else if b == 0x05 then Else else if b == 0x0B then End else None_of_them
structure_of o = None_of_them

abbrev pub step_by : Context → Frame → List Frame → Instruction → Structure → Option (List Frame)
step_by C f fs i (Enter k) = enter k (block_type C.types i.argument) f fs
step_by C f fs i Else = else_block f fs
step_by C f fs i End = end_block f fs
step_by C f fs i None_of_them = plain_step C f fs i

-- 7.3: one instruction, on the open frames, the innermost first.
unfoldable pub step : Context → List Frame → Instruction → Option (List Frame)
step C [] i = None
step C (f ∷ fs) i = step_by C f fs i (structure_of i.opcode)

abbrev pub and_step : Context → Option (List Frame) → Instruction → Option (List Frame)
and_step C None i = None
and_step C (Some fs) i = step C fs i

-- The frames after instructions, or `None` if one of them has an error.
abbrev pub run : Context → Option (List Frame) → List Instruction → Option (List Frame)
run C fs [] = fs
run C fs (i ∷ is) = run C (and_step C fs i) is

abbrev pub is_complete : Option (List Frame) → Bool
is_complete (Some (f ∷ [])) = is_finished f
is_complete fs = false

-- The frame of a body without operands.
abbrev pub body_frame : List ValueType → Frame
body_frame results = frame OfBody (from_to [] results) (operands false [])

-- Returns `true` if the algorithm accepts the body of a function with these results.
unfoldable pub accepts : Context → List Instruction → List ValueType → Bool
accepts C is results = is_complete (run C (Some (body_frame results ∷ [])) is)

-- Returns `true` if the algorithm finds no error in the instructions that begin the body of a function with these results.
unfoldable pub goes_on : Context → List Instruction → List ValueType → Bool
goes_on C is results = is_some (run C (Some (body_frame results ∷ [])) is)
