-- Worked examples of validation (WebAssembly 2.0, chapter 3): bodies of functions and modules, each with its text, and
-- whether it is valid; and modules with the first field that is not valid, and the reason.
use Rattle.std.specs.Prelude.{◌≡◌, ℕ, false, List, [], ◌∷◌, Option, Some, None, pos}
use Rattle.wat_module_ast.specs.declared.fields.IndexSpace.TheVariants as space
use Rattle.wat_module_ast.specs.declared.instruction.Argument.{Argument}
use Rattle.wat_module_ast.specs.declared.instruction.Argument.TheVariants as argument
use Rattle.wat_module_ast.specs.declared.instruction.Instruction.{Instruction}
use Rattle.wat_module_ast.specs.declared.instruction.Opcode.TheVariants.{Prefixed}
use Rattle.wat_module_ast.specs.declared.instruction.ReferenceType.TheVariants as reference
use Rattle.wat_module_ast.specs.declared.instruction.ValueType.{ValueType}
use Rattle.wat_module_ast.specs.declared.instruction.ValueType.TheVariants as value
use Rattle.wat_module_ast.specs.Branches.{branches}
use Rattle.wat_module_ast.specs.Fields.{Active, Declarative, Field, FuncType, Function, Func, Global, Memory, ref_func, table_of, target}
use Rattle.wat_module_ast.specs.Fields as field
use Rattle.wat_module_ast.specs.Grammar.{end, instruction, otherwise}
use Rattle.wat_module_ast.specs.Types.{Indexed, Inline, from_to}
use Rattle.wat_valid.specs.declared.code.Cause.TheVariants as cause
use Rattle.wat_valid.specs.declared.module.Reason.TheVariants as reason
use Rattle.wat_valid.specs.Contexts.{Context}
use Rattle.wat_valid.specs.FirstErrors.{FirstInvalid}
use Rattle.wat_valid.specs.Instructions.{Expression}
use Rattle.wat_valid.specs.InstructionTypes.{i32, i64, f32, f64}
use Rattle.wat_valid.specs.Modules.{ModuleIsValid, refs_after}

-- A context with a memory, a table of functions, a global that is not mutable, and a function of the type `[i32] → [i32]`
-- that is not declared; the locals have the types `ts`.
abbrev pub with_locals : List ValueType → Context
with_locals ts = record {
  types = from_to (i32 ∷ []) (i32 ∷ []) ∷ [];
  funcs = from_to (i32 ∷ []) (i32 ∷ []) ∷ [];
  tables = record { limits = record { min = 1; max = None }; element = reference.Func } ∷ [];
  mems = record { min = 1; max = None } ∷ [];
  globals = record { is_mutable = false; value = i32 } ∷ [];
  elems = [];
  datas = 0;
  locals = ts;
  returns = None;
  refs = [];
}

-- The same context without a memory.
abbrev pub without_memory : Context
without_memory = record (with_locals []) { mems = [] }

-- The same context with a table of the type `externref` and an element segment of this type as well.
abbrev pub with_elements : Context
with_elements = record (with_locals []) {
  tables = record { limits = record { min = 1; max = None }; element = reference.Func } ∷ record { limits = record { min = 1; max = None }; element = reference.Extern } ∷ [];
  elems = reference.Extern ∷ [];
}

-- A body of a function with these results is valid, or it is not.
abbrev pub Valid : Context → List Instruction → List ValueType → Type 0
Valid C is results = Expression C (results ∷ []) is results

abbrev pub Invalid : Context → List Instruction → List ValueType → Type 0
Invalid C is results = Valid C is results → ⊥

abbrev pub unreachable : Instruction
unreachable = instruction 0x00 argument.Nothing

abbrev pub i32_const : Instruction
i32_const = instruction 0x41 (argument.I32 (pos 0))

abbrev pub i64_const : Instruction
i64_const = instruction 0x42 (argument.I64 (pos 0))

abbrev pub f32_const : Instruction
f32_const = instruction 0x43 (argument.F32 0)

abbrev pub f64_const : Instruction
f64_const = instruction 0x44 (argument.F64 0)

abbrev pub i32_add : Instruction
i32_add = instruction 0x6A argument.Nothing

abbrev pub drop : Instruction
drop = instruction 0x1A argument.Nothing

abbrev pub select : Instruction
select = instruction 0x1B argument.Nothing

abbrev pub null : Instruction
null = instruction 0xD0 (argument.HeapType reference.Func)

abbrev pub local_get : ℕ → Instruction
local_get x = instruction 0x20 (argument.Index x)

abbrev pub br : ℕ → Instruction
br l = instruction 0x0C (argument.Index l)

abbrev pub load : ℕ → Instruction
load align = instruction 0x28 (argument.Memory align 0)

abbrev pub block : Option ValueType → Instruction
block t = instruction 0x02 (argument.Block t)

-- `table.init` of an element segment and a table.
abbrev pub table_init : ℕ → ℕ → Instruction
table_init y x = record { opcode = Prefixed 0xFC 12; argument = argument.Pair (y, x) }

-- A vector instruction.
abbrev pub instruction_after : ℕ → Argument → Instruction
instruction_after n a = record { opcode = Prefixed 0xFD n; argument = a }

-- The labels of the two blocks of `br_table 0 1 1`.
abbrev pub br_table : Instruction
br_table = instruction 0x0E (argument.Labels (branches (0 ∷ 1 ∷ []) 1))

pub record BodyExamples : Type 0 where
  -- `local.get 0 local.get 1 i32.add`, with two parameters of the type `i32` and such a result.
  pub sum : Valid (with_locals (i32 ∷ i32 ∷ [])) (local_get 0 ∷ local_get 1 ∷ i32_add ∷ []) (i32 ∷ [])
  -- The same, if the second parameter is an `i64`.
  pub wrong_operand : Invalid (with_locals (i32 ∷ i64 ∷ [])) (local_get 0 ∷ local_get 1 ∷ i32_add ∷ []) (i32 ∷ [])
  -- There is no local with the index 2.
  pub no_local : Invalid (with_locals (i32 ∷ i32 ∷ [])) (local_get 2 ∷ []) (i32 ∷ [])
  -- An empty body without results, and one with a result.
  pub nothing : Valid (with_locals []) [] []
  pub no_result : Invalid (with_locals []) [] (i32 ∷ [])
  -- An operand is left.
  pub left_over : Invalid (with_locals []) (i32_const ∷ []) []
  -- `unreachable i32.add`: after `unreachable` there are operands of any types.
  pub after_unreachable : Valid (with_locals []) (unreachable ∷ i32_add ∷ []) (i32 ∷ [])
  -- `unreachable i64.const 0 i32.add`: an operand that is there must match.
  pub still_typed : Invalid (with_locals []) (unreachable ∷ i64_const ∷ i32_add ∷ []) (i32 ∷ [])
  -- `block (result i32) i64.const 0 i32.const 0 br 0 end`: a branch may leave other operands on the stack.
  pub branch : Valid (with_locals []) (block (Some i32) ∷ i64_const ∷ i32_const ∷ br 0 ∷ end ∷ []) (i32 ∷ [])
  -- `br 0` to a loop needs its parameters, of which there are none; the loop has no result then.
  pub loop : Valid (with_locals []) (instruction 0x03 (argument.Block None) ∷ br 0 ∷ end ∷ []) []
  -- There is no label with the index 1 in the body itself.
  pub no_label : Invalid (with_locals []) (br 1 ∷ []) []
  -- `block (result f64) block (result f32) unreachable i32.const 0 br_table 0 1 1 end drop f64.const 0 end`: labels may
  -- have different types if the operands are unknown.
  pub meet_bottom : Valid (with_locals []) (block (Some f64) ∷ block (Some f32) ∷ unreachable ∷ i32_const ∷ br_table ∷ end ∷ drop ∷ f64_const ∷ end ∷ []) (f64 ∷ [])
  -- With `f32.const 0` instead of `unreachable` in the previous example.
  pub other_labels : Invalid (with_locals []) (block (Some f64) ∷ block (Some f32) ∷ f32_const ∷ i32_const ∷ br_table ∷ end ∷ drop ∷ f64_const ∷ end ∷ []) (f64 ∷ [])
  -- `i32.const 0 if (result i32) i32.const 0 else i32.const 0 end`, and without `else`.
  pub if_else : Valid (with_locals []) (i32_const ∷ instruction 0x04 (argument.Block (Some i32)) ∷ i32_const ∷ otherwise ∷ i32_const ∷ end ∷ []) (i32 ∷ [])
  pub if_alone : Invalid (with_locals []) (i32_const ∷ instruction 0x04 (argument.Block (Some i32)) ∷ i32_const ∷ end ∷ []) (i32 ∷ [])
  -- `i32.const 0 i32.const 0 if (type 0) end`, whose type is `[i32] → [i32]`: the parameter is the result.
  pub if_passes : Valid (with_locals []) (i32_const ∷ i32_const ∷ instruction 0x04 (argument.BlockUse (Indexed 0)) ∷ end ∷ []) (i32 ∷ [])
  -- `loop (result i32) br 0 end`: the label of a loop has its parameters, of which there are none. The label of a block has
  -- its results.
  pub loop_label : Valid (with_locals []) (instruction 0x03 (argument.Block (Some i32)) ∷ br 0 ∷ end ∷ []) (i32 ∷ [])
  pub block_label : Invalid (with_locals []) (block (Some i32) ∷ br 0 ∷ end ∷ []) (i32 ∷ [])
  -- `i32.const 0 i32.const 0 i32.const 0 table.init 1 0`, of the table 1 and the element segment 0, which have the type
  -- `externref`; and `table.init 0 0`, of the table 0, which has the type `funcref`.
  pub init : Valid with_elements (i32_const ∷ i32_const ∷ i32_const ∷ table_init 0 1 ∷ []) []
  pub other_init : Invalid with_elements (i32_const ∷ i32_const ∷ i32_const ∷ table_init 0 0 ∷ []) []
  -- A block without `end`, and an `end` without a block.
  pub no_end : Invalid (with_locals []) (block None ∷ []) []
  pub no_block : Invalid (with_locals []) (end ∷ []) []
  -- `i32.const 0 i32.load`, with the natural alignment, with a larger one, and without a memory.
  pub natural : Valid (with_locals []) (i32_const ∷ load 2 ∷ []) (i32 ∷ [])
  pub aligned : Invalid (with_locals []) (i32_const ∷ load 3 ∷ []) (i32 ∷ [])
  pub no_memory : Invalid without_memory (i32_const ∷ load 2 ∷ []) (i32 ∷ [])
  -- `ref.null func ref.null func i32.const 0 select`: without types only numbers and vectors; with the type it is valid.
  pub select_references : Invalid (with_locals []) (null ∷ null ∷ i32_const ∷ select ∷ []) (value.Reference reference.Func ∷ [])
  pub select_typed : Valid (with_locals []) (null ∷ null ∷ i32_const ∷ instruction 0x1C (argument.Select (value.Reference reference.Func ∷ [])) ∷ []) (value.Reference reference.Func ∷ [])
  -- `unreachable select` may have any result, as the algorithm of 7.3 has it.
  pub select_bottom : Valid (with_locals []) (unreachable ∷ select ∷ []) (value.Reference reference.Func ∷ [])
  -- `ref.func 0`, which is not declared.
  pub not_declared : Invalid (with_locals []) (instruction 0xD2 (argument.Index 0) ∷ []) (value.Reference reference.Func ∷ [])
  -- `i32.const 0 global.set 0`: the global is not mutable.
  pub constant_global : Invalid (with_locals []) (i32_const ∷ instruction 0x24 (argument.Index 0) ∷ []) []
  -- A lane of `i8x16`: the index 15, and 16.
  pub lane : Valid (with_locals (value.V128 ∷ [])) (local_get 0 ∷ instruction_after 21 (argument.Lane 15) ∷ []) (i32 ∷ [])
  pub no_lane : Invalid (with_locals (value.V128 ∷ [])) (local_get 0 ∷ instruction_after 21 (argument.Lane 16) ∷ []) (i32 ∷ [])

-- A function of the type `[] → []` with these instructions.
abbrev pub function : List (List ℕ) → List Instruction → Field
function names is = Func (record { name = None; exports = names; uses = Inline (from_to [] []); locals = []; body = is; local_names = []; label_names = [] })

abbrev pub memory : ℕ → Field
memory n = Memory None [] (record { min = n; max = None }) None

abbrev pub global : List Instruction → Field
global is = Global None [] (record { is_mutable = false; value = i32 }) is

abbrev pub InvalidModule : List Field → Type 0
InvalidModule fs = ModuleIsValid fs → ⊥

-- `(import "a" "a" (func (export "a")))`, `(func (export "a"))`, `(func call 7 ref.func 8 drop)`, `(start 8)`,
-- `(export "a" (func 9))`, `(export "a" (global 8))`, `(global funcref (ref.func 2))`, `(elem declare funcref (ref.func 3))`,
-- `(elem (table 0) (ref.func 4) funcref)`, `(data (ref.func 5))` and `(table funcref (elem (ref.func 6)))`. Not all are valid.
abbrev pub declaring : List Field
declaring =
    field.Import (97 ∷ []) (97 ∷ []) None ((97 ∷ []) ∷ []) (FuncType (Inline (from_to [] []))) ∷
    function ((97 ∷ []) ∷ []) [] ∷
    function [] (instruction 0x10 (argument.Index 7) ∷ instruction 0xD2 (argument.Index 8) ∷ drop ∷ []) ∷
    field.Start 8 ∷
    field.Export (97 ∷ []) space.Func 9 ∷
    field.Export (97 ∷ []) space.Global 8 ∷
    Global None [] (record { is_mutable = false; value = value.Reference reference.Func }) (ref_func 2) ∷
    field.Elem None Declarative reference.Func (ref_func 3 ∷ []) ∷
    field.Elem None (Active (target 0 (ref_func 4))) reference.Func [] ∷
    field.Data None (Some (target 0 (ref_func 5))) [] ∷
    field.Table None [] (table_of reference.Func (ref_func 6 ∷ [])) (Some (ref_func 6 ∷ [])) ∷
    []

pub record ModuleExamples : Type 0 where
  -- `(module (memory 65536) (global i32 (i32.const 0)) (func) (export "a" (func 0)) (start 0))`.
  pub valid : ModuleIsValid (memory 65536 ∷ global (i32_const ∷ []) ∷ function [] [] ∷ field.Export (97 ∷ []) space.Func 0 ∷ field.Start 0 ∷ [])
  -- The functions to which `ref.func` may refer: those of exports, initial values, offsets and elements, and not those of
  -- functions and of the start function.
  pub declared : refs_after [] declaring ≡ 0 ∷ 1 ∷ 9 ∷ 2 ∷ 3 ∷ 4 ∷ 5 ∷ 6 ∷ []
  -- `(module (memory 65537))`.
  pub too_large : InvalidModule (memory 65537 ∷ [])
  -- `(module (memory 0) (memory 0))`.
  pub two_memories : InvalidModule (memory 0 ∷ memory 0 ∷ [])
  -- `(module (func (export "a")) (export "a" (func 0)))`.
  pub same_names : InvalidModule (function ((97 ∷ []) ∷ []) [] ∷ field.Export (97 ∷ []) space.Func 0 ∷ [])
  -- `(module (export "a" (func 0)))`.
  pub no_function : InvalidModule (field.Export (97 ∷ []) space.Func 0 ∷ [])
  -- `(module (global i32 (i32.const 0)) (global i32 (global.get 0)))`: only imported globals are in an initial value.
  pub not_imported : InvalidModule (global (i32_const ∷ []) ∷ global (instruction 0x23 (argument.Index 0) ∷ []) ∷ [])

-- A memory with exports of these names.
abbrev pub exported_memory : List (List ℕ) → Field
exported_memory names = Memory None names (record { min = 1; max = None }) None

-- A table of functions.
abbrev pub table : Field
table = field.Table None [] (record { limits = record { min = 1; max = None }; element = reference.Func }) None

-- The first field that is not valid, and the reason. By `FirstInvalidIsOne` there is no other.
pub record ReasonExamples : Type 0 where
  -- `(module (memory 1) (memory 70000))`: the limits of the second memory, rather than that there are two.
  pub limits : FirstInvalid (memory 1 ∷ memory 70000 ∷ []) 1 (cause.Header reason.Limits)
  -- `(module (memory 1) (memory 1))`.
  pub second_memory : FirstInvalid (memory 1 ∷ memory 1 ∷ []) 1 (cause.Header reason.SecondMemory)
  -- `(module (memory (export "a") 1) (memory (export "a") 1))`: the second memory, rather than its name.
  pub memory_before_name : FirstInvalid (exported_memory ((97 ∷ []) ∷ []) ∷ exported_memory ((97 ∷ []) ∷ []) ∷ []) 1 (cause.Header reason.SecondMemory)
  -- `(module (func (export "a")) (export "a" (func 9)))`: the index, rather than the name.
  pub index_before_name : FirstInvalid (function ((97 ∷ []) ∷ []) [] ∷ field.Export (97 ∷ []) space.Func 9 ∷ []) 1 (cause.Header (reason.UnknownItem space.Func))
  -- `(module (func (export "a")) (export "a" (func 0)))`.
  pub repeated_name : FirstInvalid (function ((97 ∷ []) ∷ []) [] ∷ field.Export (97 ∷ []) space.Func 0 ∷ []) 1 (cause.Header reason.DuplicateExport)
  -- `(module (func (export "a")) (func (export "a") drop))`: the name, rather than the body.
  pub name_before_body : FirstInvalid (function ((97 ∷ []) ∷ []) [] ∷ function ((97 ∷ []) ∷ []) (drop ∷ []) ∷ []) 1 (cause.Header reason.DuplicateExport)
  -- `(module (table 1 funcref) (elem (i64.const 0) funcref (i32.const 0)))`: the offset, rather than the element.
  pub offset_before_element : FirstInvalid (table ∷ field.Elem None (Active (target 0 (i64_const ∷ []))) reference.Func ((i32_const ∷ []) ∷ []) ∷ []) 1 cause.Offset
  -- `(module (global i32 (i64.const 0)) (memory 70000))`: the first field, rather than the second.
  pub first_field : FirstInvalid (global (i64_const ∷ []) ∷ memory 70000 ∷ []) 0 cause.InitialValue
