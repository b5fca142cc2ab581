-- WebAssembly 2.0, 5 (binary format): 5.1.3 vectors, 5.2 values, 5.3 types, 5.4 instructions, 5.5 modules
-- (5.5.2 sections, 5.5.4 type section, 5.5.5 import section, 5.5.6 function section, 5.5.7 table section,
-- 5.5.8 memory section, 5.5.9 global section, 5.5.10 export section, 5.5.11 start section, 5.5.12 element
-- section, 5.5.13 code section, 5.5.14 data section, 5.5.15 data count section, 5.5.16 modules). Section
-- numbers in this crate are those of WebAssembly 2.0.
-- The standard allows several encodings of a module; these choices fix one. Integers have their shortest form.
-- Consecutive locals of one type share a count. Sections without content are omitted, and so are custom
-- sections; a name section may follow (`NameSection`).
-- There is a data count only if it is required, and an `else` only if the text has one. The types that
-- instructions add are in the order of `Uses`. A data segment of the memory 0 has the flags 0. A valid element
-- segment has the bytes that `wat2wasm` writes (`elem_bytes`). Exports and segments are in the order of the
-- text; an inline one is at the position of its field.
use Rattle.std.specs.Prelude.{ℕ, suc, Bool, true, false, List, [], ◌∷◌, ◌++◌, length, map, Option, Some, None, ◌==◌, if◌then◌else◌, pos, ◌&&◌, ◌||◌}
use Rattle.std.specs.Int.{w32, w64, to_le_bytes}
use Rattle.std.specs.List.{flat_map, list_any}
use Rattle.wat_lex.specs.binary.Encoding.{list_encoding, text_encoding}
use Rattle.wat_lex.specs.binary.Leb128.{signed_leb128, unsigned_leb128}
use Rattle.wat_module_ast.specs.declared.instruction.Argument.{Argument}
use Rattle.wat_module_ast.specs.declared.instruction.Argument.TheVariants as argument
use Rattle.wat_module_ast.specs.declared.instruction.Instruction.{Instruction}
use Rattle.wat_module_ast.specs.declared.instruction.ReferenceType.{ReferenceType}
use Rattle.wat_module_ast.specs.declared.instruction.ReferenceType.TheVariants as reference
use Rattle.wat_module_ast.specs.declared.instruction.Opcode.{Opcode}
use Rattle.wat_module_ast.specs.declared.instruction.Opcode.TheVariants.{Byte, Prefixed}
use Rattle.wat_module_ast.specs.declared.instruction.ValueType.{ValueType}
use Rattle.wat_module_ast.specs.Types.{FunctionType, TypeUse, Indexed, Inline, reference_byte, type_byte}
use Rattle.wat_module_ast.specs.declared.fields.GlobalType.{GlobalType}
use Rattle.wat_module_ast.specs.declared.fields.IndexSpace.{IndexSpace}
use Rattle.wat_module_ast.specs.declared.fields.IndexSpace.TheVariants as space
use Rattle.wat_module_ast.specs.declared.fields.Limits.{Limits}
use Rattle.wat_module_ast.specs.declared.fields.TableType.{TableType}
use Rattle.wat_module_ast.specs.Fields.{ExternType, FuncType, OfTable, OfMemory, OfGlobal, Field, Func, Table, Memory, Global, Start, Function, bindings_of, extern_space, names_in, starts_of, ElemMode, Passive, Active, Declarative, Elements, Target, target}
use Rattle.wat_module_ast.specs.Fields as field
use Rattle.wat_module_ast.specs.ImplicitTypes.{type_index, types_of}

-- 5.4.1, block type: the byte of a value type, or 0x40 for none.
abbrev pub block_byte : Option ValueType → ℕ
block_byte None = 0x40
block_byte (Some t) = type_byte t

-- 5.3.6, function type: 0x60, followed by the result types (5.3.5) of its parameters and of its results. Each is
-- a vector of value types, of one byte each.
unfoldable pub type_bytes : FunctionType → List ℕ
type_bytes t = 0x60 ∷ (text_encoding (map type_byte t.params) ++ text_encoding (map type_byte t.results))

-- 6.6.3: the index of a type use: its own, which is that of a type (`TypeUseIs`; in instructions, `indexed_by`), or, if
-- it has none, the least index of its type (`TypesAreThere`).
abbrev pub use_index : List FunctionType → TypeUse → ℕ
use_index types (Indexed i) = i
use_index types (Inline t) = type_index t types

-- 5.4, instructions: the bytes after the opcode, in a module with these types. 5.1.3: vectors. 5.2.3: the bits of
-- floats, lowest byte first. 5.4.1: for `br_table` the labels and the default label; for `call_indirect` the type and
-- the table; for blocks the index of a type as a signed integer of 33 bits. 5.4.6: for memory arguments the exponent of
-- the alignment and the offset; for `memory.size`, `memory.grow` and `memory.fill` one byte 0; for `memory.copy` two
-- bytes 0; for `memory.init` the data segment and a byte 0. 5.4.2: for `ref.null` the reference type. 5.4.3: for
-- `select` its types, if it has any. 5.4.5: for `table.copy` and `table.init` two indices. 5.4.8: for lanes one byte
-- each, after a memory argument if there is one; for `v128.const` 16 bytes.
abbrev pub argument_bytes : List FunctionType → Argument → List ℕ
argument_bytes types argument.Nothing = []
argument_bytes types (argument.Index n) = unsigned_leb128 n
argument_bytes types (argument.Labels b) = list_encoding unsigned_leb128 b.labels ++ unsigned_leb128 b.default
argument_bytes types (argument.Indirect c) = unsigned_leb128 (use_index types c.uses) ++ unsigned_leb128 c.table
argument_bytes types (argument.I32 n) = signed_leb128 n
argument_bytes types (argument.I64 n) = signed_leb128 n
argument_bytes types (argument.F32 bits) = to_le_bytes w32 bits
argument_bytes types (argument.F64 bits) = to_le_bytes w64 bits
argument_bytes types (argument.Block t) = block_byte t ∷ []
argument_bytes types (argument.BlockUse u) = signed_leb128 (pos (use_index types u))
argument_bytes types (argument.Memory align offset) = unsigned_leb128 align ++ unsigned_leb128 offset
argument_bytes types argument.Zero = 0 ∷ []
argument_bytes types (argument.HeapType t) = reference_byte t ∷ []
argument_bytes types (argument.Select ts) = text_encoding (map type_byte ts)
argument_bytes types argument.Zeros = 0 ∷ 0 ∷ []
argument_bytes types (argument.IndexZero n) = unsigned_leb128 n ++ 0 ∷ []
argument_bytes types (argument.Pair p) = unsigned_leb128 p.0 ++ unsigned_leb128 p.1
argument_bytes types (argument.Lane n) = n ∷ []
argument_bytes types (argument.MemoryLane align offset n) = unsigned_leb128 align ++ (unsigned_leb128 offset ++ n ∷ [])
argument_bytes types (argument.Bytes bs) = bs

-- 5.4, opcode: a byte, or a prefix byte followed by an integer.
abbrev pub opcode_bytes : Opcode → List ℕ
opcode_bytes (Byte b) = b ∷ []
opcode_bytes (Prefixed p n) = p ∷ unsigned_leb128 n

-- 5.4, instruction, in a module with these types.
abbrev pub instruction_bytes : List FunctionType → Instruction → List ℕ
instruction_bytes types i = opcode_bytes i.opcode ++ argument_bytes types i.argument

-- 5.5.6, function section: the index of a function's type.
abbrev pub function_bytes : List FunctionType → Function → List ℕ
function_bytes types f = unsigned_leb128 (use_index types f.uses)

-- 5.3.7, limits, by their minimum and their maximum.
abbrev pub min_max_bytes : ℕ → Option ℕ → List ℕ
min_max_bytes n None = 0x00 ∷ unsigned_leb128 n
min_max_bytes n (Some m) = 0x01 ∷ (unsigned_leb128 n ++ unsigned_leb128 m)

-- 5.3.7, limits; 5.3.8, memory types.
abbrev pub limits_bytes : Limits → List ℕ
limits_bytes l = min_max_bytes l.min l.max

-- 5.3.9, table types.
abbrev pub table_bytes : TableType → List ℕ
table_bytes t = reference_byte t.element ∷ limits_bytes t.limits

abbrev pub mutability_byte : Bool → ℕ
mutability_byte false = 0x00
mutability_byte true = 0x01

-- 5.3.10, global types.
abbrev pub global_type_bytes : GlobalType → List ℕ
global_type_bytes t = type_byte t.value ∷ mutability_byte t.is_mutable ∷ []

-- 5.5.5, import section: an import description.
abbrev pub extern_bytes : List FunctionType → ExternType → List ℕ
extern_bytes types (FuncType u) = 0x00 ∷ unsigned_leb128 (use_index types u)
extern_bytes types (OfTable t) = 0x01 ∷ table_bytes t
extern_bytes types (OfMemory l) = 0x02 ∷ limits_bytes l
extern_bytes types (OfGlobal t) = 0x03 ∷ global_type_bytes t

-- 5.5.5, import: its module name, its name and its description.
pub record ImportEntry : Type 0 where
  pub from : List ℕ
  pub name : List ℕ
  pub what : ExternType

-- 5.5.5, import.
abbrev pub import_bytes : List FunctionType → ImportEntry → List ℕ
import_bytes types i = (text_encoding i.from ++ text_encoding i.name) ++ extern_bytes types i.what

-- 5.4.9, expressions: the instructions, followed by 0x0B.
abbrev pub expression_bytes : List FunctionType → List Instruction → List ℕ
expression_bytes types is = flat_map (instruction_bytes types) is ++ 0x0B ∷ []

-- 5.5.9, global: its type and the expression of its initial value.
abbrev pub global_bytes : List FunctionType → GlobalType × List Instruction → List ℕ
global_bytes types g = global_type_bytes g.0 ++ expression_bytes types g.1

-- 5.5.10, export: its name, and the index space and the index of its item.
pub record Export : Type 0 where
  pub name : List ℕ
  pub space : IndexSpace
  pub index : ℕ

abbrev pub export : IndexSpace → ℕ → List ℕ → Export
export s n name = record { name = name; space = s; index = n }

-- 5.5.10: the byte of an index space in an export.
abbrev pub space_byte : IndexSpace → ℕ
space_byte space.Func = 0x00
space_byte space.Table = 0x01
space_byte space.Mem = 0x02
space_byte space.Global = 0x03

-- 5.5.10, export.
abbrev pub export_bytes : Export → List ℕ
export_bytes e = text_encoding e.name ++ (space_byte e.space ∷ unsigned_leb128 e.index)

-- 6.6.1: the index of the next item of an index space, after these fields.
abbrev pub next_index : IndexSpace → List Field → ℕ
next_index s fs = length (names_in s (bindings_of fs))

-- The exports that a field defines, after the fields `before`.
abbrev pub field_exports : List Field → Field → List Export
field_exports before (field.TypeField l t) = []
field_exports before (field.Import m n l ns t) = map (export (extern_space t) (next_index (extern_space t) before)) ns
field_exports before (Func f) = map (export space.Func (next_index space.Func before)) f.exports
field_exports before (Table l ns t es) = map (export space.Table (next_index space.Table before)) ns
field_exports before (Memory l ns t bytes) = map (export space.Mem (next_index space.Mem before)) ns
field_exports before (Global l ns t is) = map (export space.Global (next_index space.Global before)) ns
field_exports before (field.Export n s i) = export s i n ∷ []
field_exports before (Start i) = []
field_exports before (field.Data l t bytes) = []
field_exports before (field.Elem l m t es) = []

-- The exports that fields define, after the fields `before`, in the order of the text.
abbrev pub exports_after : List Field → List Field → List Export
exports_after before [] = []
exports_after before (f ∷ fs) = field_exports before f ++ exports_after (before ++ f ∷ []) fs

-- 5.5.10: the exports of a module.
unfoldable pub exports_of : List Field → List Export
exports_of fs = exports_after [] fs

-- 5.5.13, `locals`: the number of consecutive locals of one type, and the byte of the type.
pub record Run : Type 0 where
  pub count : ℕ
  pub byte : ℕ

abbrev pub run : ℕ → ℕ → Run
run n b = record { count = n; byte = b }

-- The runs of these locals with one local of the type `b` in front.
abbrev pub before_run : ℕ → List Run → List Run
before_run b [] = run 1 b ∷ []
before_run b (r ∷ rs) = if b == r.byte then run (suc r.count) b ∷ rs else run 1 b ∷ r ∷ rs

-- 5.5.13: the runs of locals, by the bytes of their types. Adjacent runs have different types.
abbrev pub runs_of : List ℕ → List Run
runs_of [] = []
runs_of (b ∷ bs) = before_run b (runs_of bs)

-- 5.5.13, `locals`.
abbrev pub run_bytes : Run → List ℕ
run_bytes r = unsigned_leb128 r.count ++ r.byte ∷ []

-- 5.5.13, `func`: the locals in runs, and the instructions.
unfoldable pub code : List FunctionType → Function → List ℕ
code types f = list_encoding run_bytes (runs_of (map type_byte f.locals)) ++ expression_bytes types f.body

-- 5.5.13, `code`: an entry of the code section, with its size in front.
abbrev pub code_bytes : List FunctionType → Function → List ℕ
code_bytes types f = text_encoding (code types f)

-- 5.5.14, data segment: its target, if it is active, and its bytes.
pub record DataSegment : Type 0 where
  pub target : Option Target
  pub bytes : List ℕ

abbrev pub data_segment : Option Target → List ℕ → DataSegment
data_segment t bytes = record { target = t; bytes = bytes }

-- The offset `i32.const 0` of an inline segment.
abbrev pub at_zero : List Instruction
at_zero = record { opcode = Byte 0x41; argument = argument.I32 (pos 0) } ∷ []

-- The data segments that a field defines, after the fields `before`. The inline data of
-- a memory (6.6.7) are active in that memory.
abbrev pub field_data : List Field → Field → List DataSegment
field_data before (field.Data l t bytes) = data_segment t bytes ∷ []
field_data before (Memory l ns t (Some bytes)) = data_segment (Some (target (next_index space.Mem before) at_zero)) bytes ∷ []
field_data before f = []

-- The data segments that fields define, after the fields `before`, in the order of the text.
abbrev pub data_after : List Field → List Field → List DataSegment
data_after before [] = []
data_after before (f ∷ fs) = field_data before f ++ data_after (before ++ f ∷ []) fs

-- 5.5.14: the data segments of a module.
unfoldable pub data_of : List Field → List DataSegment
data_of fs = data_after [] fs

-- 5.5.12, element segment: its mode, its type and its elements.
pub record ElementSegment : Type 0 where
  pub mode : ElemMode
  pub type : ReferenceType
  pub elements : Elements

abbrev pub element_segment : ElemMode → ReferenceType → Elements → ElementSegment
element_segment m t es = record { mode = m; type = t; elements = es }

-- The element segments that a field defines, after the fields `before`. The inline elements
-- of a table (6.6.6) are active in that table.
abbrev pub field_elements : List Field → Field → List ElementSegment
field_elements before (field.Elem l m t es) = element_segment m t es ∷ []
field_elements before (Table l ns t (Some es)) = element_segment (Active (target (next_index space.Table before) at_zero)) t.element es ∷ []
field_elements before f = []

-- The element segments that fields define, after the fields `before`, in the order of the text.
abbrev pub elements_after : List Field → List Field → List ElementSegment
elements_after before [] = []
elements_after before (f ∷ fs) = field_elements before f ++ elements_after (before ++ f ∷ []) fs

-- 5.5.12: the element segments of a module.
unfoldable pub elements_of : List Field → List ElementSegment
elements_of fs = elements_after [] fs

-- The index that an immediate consists of, or `None` for any other immediate.
abbrev pub index_of : Argument → Option ℕ
index_of (argument.Index x) = Some x
index_of a = None

-- Returns `true` if the opcode is the byte `b`.
abbrev pub is_byte : ℕ → Opcode → Bool
is_byte b (Byte c) = c == b
is_byte b (Prefixed p n) = false

-- The index `x` of an element that is `ref.func x`, or `None` for any other element.
abbrev pub function_in : List Instruction → Option ℕ
function_in (i ∷ []) = if is_byte 0xD2 i.opcode then index_of i.argument else None
function_in is = None

abbrev pub before_some : Option ℕ → Option (List ℕ) → Option (List ℕ)
before_some (Some x) (Some xs) = Some (x ∷ xs)
before_some x xs = None

-- The indices of the functions of elements, or `None` if one of them is not `ref.func x`.
abbrev pub functions_in : Elements → Option (List ℕ)
functions_in [] = Some []
functions_in (e ∷ es) = before_some (function_in e) (functions_in es)

-- The indices of the functions of elements of type `funcref`, or `None` if one of
-- them is not `ref.func x` or for another type.
abbrev pub functions_by : ReferenceType → Elements → Option (List ℕ)
functions_by reference.Func es = functions_in es
functions_by reference.Extern es = None

-- 5.5.12: elements that are functions, by their indices.
abbrev pub index_list : List ℕ → List ℕ
index_list xs = list_encoding unsigned_leb128 xs

-- 5.5.12: elements by their expressions.
abbrev pub element_list : List FunctionType → Elements → List ℕ
element_list types es = list_encoding (expression_bytes types) es

-- 5.5.12, element segment with the flags 0 to 3: elements of type `funcref` that are all `ref.func x`. The flags 1 to 3
-- have the element kind 0x00, which denotes functions.
abbrev pub function_segment : List FunctionType → ElemMode → List ℕ → List ℕ
function_segment types Passive xs = 0x01 ∷ 0x00 ∷ index_list xs
function_segment types Declarative xs = 0x03 ∷ 0x00 ∷ index_list xs
function_segment types (Active t) xs = if t.index == 0 then 0x00 ∷ (expression_bytes types t.offset ++ index_list xs) else 0x02 ∷ (unsigned_leb128 t.index ++ (expression_bytes types t.offset ++ (0x00 ∷ index_list xs)))

abbrev pub is_funcref : ReferenceType → Bool
is_funcref reference.Func = true
is_funcref reference.Extern = false

-- 5.5.12, element segment with the flags 4 to 7: any other elements. An active segment of
-- the table 0 and of type `funcref` omits both.
abbrev pub other_segment : List FunctionType → ElemMode → ReferenceType → Elements → List ℕ
other_segment types Passive t es = 0x05 ∷ reference_byte t ∷ element_list types es
other_segment types Declarative t es = 0x07 ∷ reference_byte t ∷ element_list types es
other_segment types (Active g) t es = if (g.index == 0) && is_funcref t then 0x04 ∷ (expression_bytes types g.offset ++ element_list types es) else 0x06 ∷ (unsigned_leb128 g.index ++ (expression_bytes types g.offset ++ (reference_byte t ∷ element_list types es)))

-- 5.5.12, element segment, by the indices of its functions if all elements are `ref.func x`.
abbrev pub segment_by : List FunctionType → Option (List ℕ) → ElementSegment → List ℕ
segment_by types (Some xs) e = function_segment types e.mode xs
segment_by types None e = other_segment types e.mode e.type e.elements

-- 5.5.12, element segment. If several flags are possible, the choice is this library's, the same as that of `wat2wasm`:
-- functions by their indices if all elements are `ref.func x`, and the flags 0 or 4 for the table 0 if they suffice.
abbrev pub elem_bytes : List FunctionType → ElementSegment → List ℕ
elem_bytes types e = segment_by types (functions_by e.type e.elements) e

-- 5.5.14: the target of an active data segment. The memory 0 has the flags 0; any
-- other memory has the flags 2 and its index.
abbrev pub target_bytes : List FunctionType → Target → List ℕ
target_bytes types t = if t.index == 0 then 0x00 ∷ expression_bytes types t.offset else 0x02 ∷ (unsigned_leb128 t.index ++ expression_bytes types t.offset)

-- 5.5.14: the target of a data segment, or the flags 1 if it is passive.
abbrev pub mode_bytes : List FunctionType → Option Target → List ℕ
mode_bytes types None = 0x01 ∷ []
mode_bytes types (Some t) = target_bytes types t

-- 5.5.14, data segment.
abbrev pub data_bytes : List FunctionType → DataSegment → List ℕ
data_bytes types d = mode_bytes types d.target ++ text_encoding d.bytes

-- 5.5.15: returns `true` if instructions with this opcode have the index of a data
-- segment: `memory.init` and `data.drop`.
abbrev pub is_of_data : Opcode → Bool
is_of_data (Byte b) = false
is_of_data (Prefixed p n) = (p == 0xFC) && ((n == 8) || (n == 9))

-- 5.5.15: returns `true` if the instruction has the index of a data segment.
abbrev pub has_data_index : Instruction → Bool
has_data_index i = is_of_data i.opcode

-- 5.5.16: returns `true` if the field is a function whose code has the index of a
-- data segment. Other expressions are not code.
abbrev pub needs_data_count : Field → Bool
needs_data_count (field.TypeField l t) = false
needs_data_count (field.Import m n l ns t) = false
needs_data_count (Func f) = list_any has_data_index f.body
needs_data_count (Table l ns t es) = false
needs_data_count (Memory l ns t bytes) = false
needs_data_count (Global l ns t is) = false
needs_data_count (field.Export n s i) = false
needs_data_count (Start i) = false
needs_data_count (field.Elem l m t es) = false
needs_data_count (field.Data l t bytes) = false

-- 5.5.2, section: its id, and its content as a vector of bytes, which begins with the size.
abbrev pub section : ℕ → List ℕ → List ℕ
section number content = number ∷ text_encoding content

-- 5.5.2, section whose content is a vector (5.1.3) of items, each encoded by
-- `bytes`. It is omitted if the list is empty.
abbrev pub list_section : {A : Type 0} → ℕ → (A → List ℕ) → List A → List ℕ
list_section number bytes [] = []
list_section number bytes (i ∷ is) = section number (list_encoding bytes (i ∷ is))

-- 5.5.16: the magic bytes and the version.
abbrev pub header : List ℕ
header = 0x00 ∷ 0x61 ∷ 0x73 ∷ 0x6D ∷ 0x01 ∷ 0x00 ∷ 0x00 ∷ 0x00 ∷ []

-- The items of a module, by its fields.

abbrev pub function_of : Field → List Function
function_of (Func f) = f ∷ []
function_of f = []

abbrev pub functions_of : List Field → List Function
functions_of fs = flat_map function_of fs

abbrev pub table_of : Field → List TableType
table_of (Table l ns t es) = t ∷ []
table_of f = []

abbrev pub memory_of : Field → List Limits
memory_of (Memory l ns t bytes) = t ∷ []
memory_of f = []

abbrev pub global_of : Field → List (GlobalType × List Instruction)
global_of (Global l ns t is) = (t, is) ∷ []
global_of f = []

abbrev pub import_of : Field → List ImportEntry
import_of (field.Import m n l ns t) = record { from = m; name = n; what = t } ∷ []
import_of f = []

-- The sections of a module.

-- 5.5.4, type section.
abbrev pub type_section : List Field → List ℕ
type_section fs = list_section 1 type_bytes (types_of fs)

-- 5.5.5, import section.
abbrev pub import_section : List Field → List ℕ
import_section fs = list_section 2 (import_bytes (types_of fs)) (flat_map import_of fs)

-- 5.5.6, function section.
abbrev pub function_section : List Field → List ℕ
function_section fs = list_section 3 (function_bytes (types_of fs)) (functions_of fs)

-- 5.5.7, table section.
abbrev pub table_section : List Field → List ℕ
table_section fs = list_section 4 table_bytes (flat_map table_of fs)

-- 5.5.8, memory section.
abbrev pub memory_section : List Field → List ℕ
memory_section fs = list_section 5 limits_bytes (flat_map memory_of fs)

-- 5.5.9, global section.
abbrev pub global_section : List Field → List ℕ
global_section fs = list_section 6 (global_bytes (types_of fs)) (flat_map global_of fs)

-- 5.5.10, export section.
abbrev pub export_section : List Field → List ℕ
export_section fs = list_section 7 export_bytes (exports_of fs)

-- 5.5.11, start section: the index of the start function, if there is one.
abbrev pub start_by : List ℕ → List ℕ
start_by [] = []
start_by (i ∷ is) = section 8 (unsigned_leb128 i)

-- 5.5.11, start section.
abbrev pub start_section : List Field → List ℕ
start_section fs = start_by (starts_of fs)

-- 5.5.13, code section.
abbrev pub code_section : List Field → List ℕ
code_section fs = list_section 10 (code_bytes (types_of fs)) (functions_of fs)

-- 5.5.12, element section.
abbrev pub element_section : List Field → List ℕ
element_section fs = list_section 9 (elem_bytes (types_of fs)) (elements_of fs)

-- 5.5.15, 5.5.16, data count section: the number of data segments. It is omitted if the code of
-- no function has the index of a data segment.
abbrev pub data_count_section : List Field → List ℕ
data_count_section fs = if list_any needs_data_count fs then section 12 (unsigned_leb128 (length (data_of fs))) else []

-- 5.5.14, data section.
abbrev pub data_section : List Field → List ℕ
data_section fs = list_section 11 (data_bytes (types_of fs)) (data_of fs)

-- 5.5.16, module: the binary encoding of a module with these fields.
unfoldable pub module_bytes : List Field → List ℕ
module_bytes fs = (((((((((((header ++ type_section fs) ++ import_section fs) ++ function_section fs) ++ table_section fs) ++ memory_section fs) ++ global_section fs) ++ export_section fs) ++ start_section fs) ++ element_section fs) ++ data_count_section fs) ++ code_section fs) ++ data_section fs
