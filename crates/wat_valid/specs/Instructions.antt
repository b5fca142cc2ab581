-- WebAssembly 2.0, 3.3 (validation, instructions): 3.3.1 to 3.3.8, the types of instructions; 3.3.9, instruction
-- sequences; 3.3.10, expressions and constant expressions; 3.2.2, block types. The instructions of a body are one list, in
-- which `block`, `loop`, `if`, `else` and `end` are instructions (5.4.1). So a rule consumes instructions from the front of
-- a list and leaves the rest. The immediates are of the kinds that the opcodes have (2.4); for an opcode whose type does not
-- depend on its immediate, the immediate is not looked at.
use Rattle.std.specs.Prelude.{◌≡◌, ◌<◌, ◌≤◌, ◌^◌, ◌/◌, ℕ, Bool, true, false, List, [], ◌∷◌, ◌++◌, length, Option, Some, None, slice_get, ◌==◌, ◌&&◌, if◌then◌else◌}
use Rattle.std.specs.List.{AllByRecursion, Contains}
use Rattle.wat_module_ast.specs.declared.fields.GlobalType.{GlobalType}
use Rattle.wat_module_ast.specs.declared.fields.TableType.{TableType}
use Rattle.wat_module_ast.specs.declared.instruction.Argument.{Argument}
use Rattle.wat_module_ast.specs.declared.instruction.Argument.TheVariants as argument
use Rattle.wat_module_ast.specs.declared.instruction.Instruction.{Instruction}
use Rattle.wat_module_ast.specs.declared.instruction.Opcode.{Opcode}
use Rattle.wat_module_ast.specs.declared.instruction.Opcode.TheVariants.{Byte, Prefixed}
use Rattle.wat_module_ast.specs.declared.instruction.ReferenceType.{ReferenceType}
use Rattle.wat_module_ast.specs.declared.instruction.ReferenceType.TheVariants as reference
use Rattle.wat_module_ast.specs.declared.instruction.ValueType.{ValueType}
use Rattle.wat_module_ast.specs.declared.instruction.ValueType.TheVariants as value
use Rattle.wat_module_ast.specs.Branches.{Branches}
use Rattle.wat_module_ast.specs.Types.{FunctionType, IndirectCall, from_to}
use Rattle.wat_valid.specs.declared.operands.OperandType.{OperandType}
use Rattle.wat_valid.specs.declared.operands.OperandType.TheVariants as operand
use Rattle.wat_valid.specs.Contexts.{Context, Labels, AllMatch, Replaces, use_type, values}
use Rattle.wat_valid.specs.InstructionTypes.{Typing, Plain, Lane, Shuffle, Access, AccessLane, OnMemory, Own, TypedInstruction, typed_instructions}

-- Returns `true` if both opcodes are equal.
abbrev pub same_opcode : Opcode → Opcode → Bool
same_opcode (Byte b) (Byte c) = b == c
same_opcode (Prefixed p n) (Prefixed q m) = (p == q) && (n == m)
same_opcode o p = false

-- The type of the first row with this opcode, or `None` if there is none.
abbrev pub typing_in : Opcode → List TypedInstruction → Option Typing
typing_in o [] = None
typing_in o (r ∷ rs) = if same_opcode o r.opcode then Some r.typing else typing_in o rs

-- The type of the plain instructions with this opcode.
unfoldable pub typing_of : Opcode → Option Typing
typing_of o = typing_in o typed_instructions

-- The function type of a row, if it has one.
abbrev pub row_type : Typing → Option FunctionType
row_type (Plain t) = Some t
row_type (Lane dim t) = Some t
row_type (Shuffle t) = Some t
row_type (Access width t) = Some t
row_type (AccessLane width t) = Some t
row_type (OnMemory t) = Some t
row_type Own = None

-- 3.3.7: there is a memory, that of the index 0.
abbrev pub HasMemory : Context → Type 0
HasMemory C = 0 < length C.mems

-- 3.3.7: the alignment, by its exponent, is not larger than a width in bytes.
abbrev pub IsAligned : ℕ → ℕ → Type 0
IsAligned align width = 2 ^ align ≤ width

-- The condition of a row on the immediates and the context.
abbrev pub Condition : Context → Typing → Argument → Type 0
Condition C (Plain t) a = Unit {0}
-- 3.3.3, `extract_lane`, `replace_lane`.
Condition C (Lane dim t) (argument.Lane n) = n < dim
-- 3.3.3, `i8x16.shuffle`.
Condition C (Shuffle t) (argument.Bytes ns) = AllByRecursion (λ n. n < 32) ns
-- 3.3.7, loads and stores.
Condition C (Access width t) (argument.Memory align offset) = HasMemory C × IsAligned align width
-- 3.3.7, `v128.loadN_lane`, `v128.storeN_lane`.
Condition C (AccessLane width t) (argument.MemoryLane align offset n) = HasMemory C × IsAligned align width × (n < 16 / width)
-- 3.3.7, `memory.size`, `memory.grow`, `memory.fill`, `memory.copy`.
Condition C (OnMemory t) a = HasMemory C
Condition C k a = ⊥

-- 3.3.4, `select` without types: the operand type matches a number type or the vector type.
abbrev pub IsNumeric : OperandType → Type 0
IsNumeric operand.Bottom = Unit {0}
IsNumeric (operand.Value (value.Reference t)) = ⊥
IsNumeric (operand.Value t) = Unit {0}

-- 3.3.8, `br_table`: there is a label with the index `l`, and the operand types `ts` match its result types.
pub record BranchesTo (labels : Labels) (ts : List OperandType) (l : ℕ) : Type 0 where
  pub results : List ValueType
  pub label : slice_get labels l ≡ Some results
  pub match : AllMatch ts (values results)

-- 3.2.2, block type: without a type, one value type, or a type use.
abbrev pub block_type : List FunctionType → Argument → Option FunctionType
block_type types (argument.Block None) = Some (from_to [] [])
block_type types (argument.Block (Some t)) = Some (from_to [] (t ∷ []))
block_type types (argument.BlockUse u) = use_type types u
block_type types a = None

-- The operand types of one value type, of one reference type, and of an `i32`.
abbrev pub one : ValueType → List OperandType
one t = operand.Value t ∷ []

abbrev pub ref : ReferenceType → List OperandType
ref t = one (value.Reference t)

abbrev pub int : List OperandType
int = one value.I32

-- 3.3.1 to 3.3.8: the type of an instruction other than `block`, `loop` and `if`. `PlainIs C labels o a ps rs`: the
-- instruction with the opcode `o` and the immediates `a` consumes operands of the types `ps`, and leaves those of the
-- types `rs`.
pub data PlainIs (C : Context) (labels : Labels) : Opcode → Argument → List OperandType → List OperandType → Type 0 where
  -- 3.3.1, 3.3.3, 3.3.7, and `nop` (3.3.8): by the list of types.
  by_row : {o : Opcode} {a : Argument} {k : Typing} {t : FunctionType} → typing_of o ≡ Some k → row_type k ≡ Some t → Condition C k a → PlainIs C labels o a (values t.params) (values t.results)
  -- 3.3.2, `ref.null t`.
  by_ref_null : {t : ReferenceType} → PlainIs C labels (Byte 0xD0) (argument.HeapType t) [] (ref t)
  -- 3.3.2, `ref.is_null`.
  by_ref_is_null : {t : ReferenceType} → PlainIs C labels (Byte 0xD1) argument.Nothing (ref t) int
  -- 3.3.2, `ref.func x`: the function exists, and is declared.
  by_ref_func : {x : ℕ} → x < length C.funcs → Contains C.refs x → PlainIs C labels (Byte 0xD2) (argument.Index x) [] (ref reference.Func)
  -- 3.3.4, `drop`.
  by_drop : {t : OperandType} → PlainIs C labels (Byte 0x1A) argument.Nothing (t ∷ []) []
  -- 3.3.4, `select` without types.
  by_select : {t : OperandType} → IsNumeric t → PlainIs C labels (Byte 0x1B) argument.Nothing (t ∷ t ∷ int) (t ∷ [])
  -- 3.3.4, `select` with types, which must be one.
  by_select_type : {t : ValueType} → PlainIs C labels (Byte 0x1C) (argument.Select (t ∷ [])) (operand.Value t ∷ operand.Value t ∷ int) (one t)
  -- 3.3.5, `local.get x`.
  by_local_get : {x : ℕ} {t : ValueType} → slice_get C.locals x ≡ Some t → PlainIs C labels (Byte 0x20) (argument.Index x) [] (one t)
  -- 3.3.5, `local.set x`.
  by_local_set : {x : ℕ} {t : ValueType} → slice_get C.locals x ≡ Some t → PlainIs C labels (Byte 0x21) (argument.Index x) (one t) []
  -- 3.3.5, `local.tee x`.
  by_local_tee : {x : ℕ} {t : ValueType} → slice_get C.locals x ≡ Some t → PlainIs C labels (Byte 0x22) (argument.Index x) (one t) (one t)
  -- 3.3.5, `global.get x`.
  by_global_get : {x : ℕ} {t : GlobalType} → slice_get C.globals x ≡ Some t → PlainIs C labels (Byte 0x23) (argument.Index x) [] (one t.value)
  -- 3.3.5, `global.set x`: the global is mutable.
  by_global_set : {x : ℕ} {t : GlobalType} → slice_get C.globals x ≡ Some t → t.is_mutable ≡ true → PlainIs C labels (Byte 0x24) (argument.Index x) (one t.value) []
  -- 3.3.6, `table.get x`.
  by_table_get : {x : ℕ} {t : TableType} → slice_get C.tables x ≡ Some t → PlainIs C labels (Byte 0x25) (argument.Index x) int (ref t.element)
  -- 3.3.6, `table.set x`.
  by_table_set : {x : ℕ} {t : TableType} → slice_get C.tables x ≡ Some t → PlainIs C labels (Byte 0x26) (argument.Index x) (operand.Value value.I32 ∷ ref t.element) []
  -- 3.3.6, `table.size x`.
  by_table_size : {x : ℕ} {t : TableType} → slice_get C.tables x ≡ Some t → PlainIs C labels (Prefixed 0xFC 16) (argument.Index x) [] int
  -- 3.3.6, `table.grow x`.
  by_table_grow : {x : ℕ} {t : TableType} → slice_get C.tables x ≡ Some t → PlainIs C labels (Prefixed 0xFC 15) (argument.Index x) (operand.Value (value.Reference t.element) ∷ int) int
  -- 3.3.6, `table.fill x`.
  by_table_fill : {x : ℕ} {t : TableType} → slice_get C.tables x ≡ Some t → PlainIs C labels (Prefixed 0xFC 17) (argument.Index x) (operand.Value value.I32 ∷ operand.Value (value.Reference t.element) ∷ int) []
  -- 3.3.6, `table.copy x y`: both tables have the same type of elements.
  by_table_copy : {x y : ℕ} {t u : TableType} → slice_get C.tables x ≡ Some t → slice_get C.tables y ≡ Some u → t.element ≡ u.element → PlainIs C labels (Prefixed 0xFC 14) (argument.Pair (x, y)) (operand.Value value.I32 ∷ operand.Value value.I32 ∷ int) []
  -- 3.3.6, `table.init x y`, by the index of the element segment, `y`, and that of the table, `x`: both have the same type
  -- of elements.
  by_table_init : {x y : ℕ} {t : TableType} {u : ReferenceType} → slice_get C.tables x ≡ Some t → slice_get C.elems y ≡ Some u → t.element ≡ u → PlainIs C labels (Prefixed 0xFC 12) (argument.Pair (y, x)) (operand.Value value.I32 ∷ operand.Value value.I32 ∷ int) []
  -- 3.3.6, `elem.drop x`.
  by_elem_drop : {x : ℕ} → x < length C.elems → PlainIs C labels (Prefixed 0xFC 13) (argument.Index x) [] []
  -- 3.3.7, `memory.init x`.
  by_memory_init : {x : ℕ} → HasMemory C → x < C.datas → PlainIs C labels (Prefixed 0xFC 8) (argument.IndexZero x) (operand.Value value.I32 ∷ operand.Value value.I32 ∷ int) []
  -- 3.3.7, `data.drop x`.
  by_data_drop : {x : ℕ} → x < C.datas → PlainIs C labels (Prefixed 0xFC 9) (argument.Index x) [] []
  -- 3.3.8, `unreachable`: any types.
  by_unreachable : {ps rs : List OperandType} → PlainIs C labels (Byte 0x00) argument.Nothing ps rs
  -- 3.3.8, `br l`: the results of the label, above any other operands, which are dropped; any types after it.
  by_br : {l : ℕ} {results : List ValueType} {ps rs : List OperandType} (below : List OperandType) → slice_get labels l ≡ Some results → ps ≡ below ++ values results → PlainIs C labels (Byte 0x0C) (argument.Index l) ps rs
  -- 3.3.8, `br_if l`.
  by_br_if : {l : ℕ} {results : List ValueType} {ps : List OperandType} → slice_get labels l ≡ Some results → ps ≡ values results ++ int → PlainIs C labels (Byte 0x0D) (argument.Index l) ps (values results)
  -- 3.3.8, `br_table l* l`: operands that match the results of each of the labels, above any other operands,
  -- which are dropped; any types after it.
  by_br_table : {b : Branches} {ts ps rs : List OperandType} (below : List OperandType) → AllByRecursion (BranchesTo labels ts) b.labels → BranchesTo labels ts b.default → ps ≡ below ++ (ts ++ int) → PlainIs C labels (Byte 0x0E) (argument.Labels b) ps rs
  -- 3.3.8, `return`: the results of the function, above any other operands, which are dropped; any types after it.
  by_return : {results : List ValueType} {ps rs : List OperandType} (below : List OperandType) → C.returns ≡ Some results → ps ≡ below ++ values results → PlainIs C labels (Byte 0x0F) argument.Nothing ps rs
  -- 3.3.8, `call x`.
  by_call : {x : ℕ} {t : FunctionType} → slice_get C.funcs x ≡ Some t → PlainIs C labels (Byte 0x10) (argument.Index x) (values t.params) (values t.results)
  -- 3.3.8, `call_indirect x y`: the elements of the table are functions.
  by_call_indirect : {c : IndirectCall} {table : TableType} {t : FunctionType} {ps : List OperandType} → slice_get C.tables c.table ≡ Some table → table.element ≡ reference.Func → use_type C.types c.uses ≡ Some t → ps ≡ values t.params ++ int → PlainIs C labels (Byte 0x11) (argument.Indirect c) ps (values t.results)

-- 3.3.9, instruction sequences, and the structured instructions of 3.3.8. `Sequence C labels is ts us r`: with these
-- labels, the innermost first, the instructions `is`, up to the rest `r`, change operands of the types `ts` to those of
-- the types `us`. 3.3.9 lets operand types match at each instruction, and 3.3.10 at the end of an expression; here they
-- may match at the end of a block as well, as in WebAssembly 3.0, `wat2wasm` and the algorithm of 7.3. The two differ only
-- for a block that has, as a result of a reference type, the result of a `select` without types on operands of the type ⊥,
-- which chapter 3 leaves ⊥.
pub data Sequence (C : Context) : Labels → List Instruction → List OperandType → List OperandType → List Instruction → Type 0 where
  -- 3.3.9, the empty sequence.
  by_none : {labels : Labels} {is : List Instruction} {ts : List OperandType} → Sequence C labels is ts ts is
  -- 3.3.9, a further instruction.
  by_plain : {labels : Labels} {is r : List Instruction} {i : Instruction} {ts us vs ps rs : List OperandType}
      → Sequence C labels is ts us (i ∷ r) → PlainIs C labels i.opcode i.argument ps rs → Replaces ps rs us vs → Sequence C labels is ts vs r
  -- 3.3.8, `block blocktype instr* end`: its label has its results.
  by_block : {labels : Labels} {is body r : List Instruction} {i e : Instruction} {t : FunctionType} {ts us vs ws : List OperandType}
      → Sequence C labels is ts us (i ∷ body) → i.opcode ≡ Byte 0x02 → block_type C.types i.argument ≡ Some t
      → Sequence C (t.results ∷ labels) body (values t.params) ws (e ∷ r) → e.opcode ≡ Byte 0x0B → AllMatch ws (values t.results)
      → Replaces (values t.params) (values t.results) us vs → Sequence C labels is ts vs r
  -- 3.3.8, `loop blocktype instr* end`: its label has its parameters.
  by_loop : {labels : Labels} {is body r : List Instruction} {i e : Instruction} {t : FunctionType} {ts us vs ws : List OperandType}
      → Sequence C labels is ts us (i ∷ body) → i.opcode ≡ Byte 0x03 → block_type C.types i.argument ≡ Some t
      → Sequence C (t.params ∷ labels) body (values t.params) ws (e ∷ r) → e.opcode ≡ Byte 0x0B → AllMatch ws (values t.results)
      → Replaces (values t.params) (values t.results) us vs → Sequence C labels is ts vs r
  -- 3.3.8, 2.4.8, `if blocktype instr* end`: the second branch is empty, so the parameters are the results.
  by_if : {labels : Labels} {is body r : List Instruction} {i e : Instruction} {t : FunctionType} {ts us vs ws : List OperandType}
      → Sequence C labels is ts us (i ∷ body) → i.opcode ≡ Byte 0x04 → block_type C.types i.argument ≡ Some t
      → Sequence C (t.results ∷ labels) body (values t.params) ws (e ∷ r) → e.opcode ≡ Byte 0x0B → AllMatch ws (values t.results) → t.params ≡ t.results
      → Replaces (values t.params ++ int) (values t.results) us vs → Sequence C labels is ts vs r
  -- 3.3.8, `if blocktype instr* else instr* end`.
  by_if_else : {labels : Labels} {is body other r : List Instruction} {i e f : Instruction} {t : FunctionType} {ts us vs ws xs : List OperandType}
      → Sequence C labels is ts us (i ∷ body) → i.opcode ≡ Byte 0x04 → block_type C.types i.argument ≡ Some t
      → Sequence C (t.results ∷ labels) body (values t.params) ws (e ∷ other) → e.opcode ≡ Byte 0x05 → AllMatch ws (values t.results)
      → Sequence C (t.results ∷ labels) other (values t.params) xs (f ∷ r) → f.opcode ≡ Byte 0x0B → AllMatch xs (values t.results)
      → Replaces (values t.params ++ int) (values t.results) us vs → Sequence C labels is ts vs r

-- 3.3.10, expressions: the instructions, without the final `end`, leave values of these types.
pub record Expression (C : Context) (labels : Labels) (is : List Instruction) (results : List ValueType) : Type 0 where
  pub left : List OperandType
  pub typed : Sequence C labels is [] left []
  pub match : AllMatch left (values results)

-- 3.3.10, constant expressions: an instruction that is constant: `t.const`, `v128.const`, `ref.null`, `ref.func`, and
-- `global.get` of a global that is not mutable.
pub data IsConstant (C : Context) : Opcode → Argument → Type 0 where
  by_i32 : {a : Argument} → IsConstant C (Byte 0x41) a
  by_i64 : {a : Argument} → IsConstant C (Byte 0x42) a
  by_f32 : {a : Argument} → IsConstant C (Byte 0x43) a
  by_f64 : {a : Argument} → IsConstant C (Byte 0x44) a
  by_v128 : {a : Argument} → IsConstant C (Prefixed 0xFD 12) a
  by_null : {a : Argument} → IsConstant C (Byte 0xD0) a
  by_func : {a : Argument} → IsConstant C (Byte 0xD2) a
  by_global : {x : ℕ} {t : GlobalType} → slice_get C.globals x ≡ Some t → t.is_mutable ≡ false → IsConstant C (Byte 0x23) (argument.Index x)

-- 3.3.10: a constant expression whose value has the type `t`. It is in no block.
pub record Constant (C : Context) (is : List Instruction) (t : ValueType) : Type 0 where
  pub typed : Expression C [] is (t ∷ [])
  pub constant : AllByRecursion (λ i. IsConstant C i.opcode i.argument) is
