-- WebAssembly 2.0, 6.6 (text format, modules): 6.6.1 indices, 6.6.2 types, 6.6.3 type uses, 6.6.4 imports, 6.6.5
-- functions, 6.6.6 tables, 6.6.7 memories, 6.6.8 globals, 6.6.9 exports, 6.6.10 start function, 6.6.11 element
-- segments, 6.6.12 data segments; two conditions of 6.6.13 (modules): imports precede definitions, identifiers of an
-- index space are distinct; 6.4 (types); 7.4.1 (name section): the local names of a function; extended-name-section
-- proposal: its label names. Each rule consumes terminals from the front of a list and leaves the rest. In `Rule ts x r`,
-- the terminals `ts`, up to the rest `r`, match the grammar of the rule and denote the value `x`. Section numbers in this
-- crate are those of WebAssembly 2.0.
use Rattle.std.specs.Prelude.{◌≡◌, ◌&&◌, ◌^◌, ◌+◌, ◌/◌, ℕ, Bool, true, false, List, [], ◌∷◌, ◌++◌, length, map, codes, bytes_eq, nat_lt, slice_get, Option, Some, None, if◌then◌else◌}
use Rattle.std.specs.List.{flat_map}
use Rattle.std.specs.Str.{is_utf8}
use Rattle.wat_module_ast.specs.declared.instruction.Argument.TheVariants as argument
use Rattle.wat_module_ast.specs.declared.instruction.Instruction.{Instruction}
use Rattle.wat_module_ast.specs.declared.instruction.Opcode.TheVariants.{Byte}
use Rattle.wat_module_tokens.specs.declared.token.Sign.TheVariants.{Absent}
use Rattle.wat_module_ast.specs.declared.instruction.ReferenceType.{ReferenceType}
use Rattle.wat_module_ast.specs.declared.instruction.ReferenceType.TheVariants as reference
use Rattle.wat_module_ast.specs.declared.instruction.ValueType.{ValueType}
use Rattle.wat_module_ast.specs.Grammar.{Body, Context, Folded, label_of, position, reference_type, value_type}
use Rattle.wat_module_ast.specs.Names.{NameAssociation, are_distinct, associations, block_labels, inside}
use Rattle.wat_module_tokens.specs.Terminals.{Terminal, Open, Close, Word, Id, Integer, Text, Label}
use Rattle.wat_module_ast.specs.Types.{FunctionType, Types, TypeUse, from_to, type_use}
use Rattle.wat_module_ast.specs.declared.fields.GlobalType.{GlobalType}
use Rattle.wat_module_ast.specs.declared.fields.IndexSpace.{IndexSpace}
use Rattle.wat_module_ast.specs.declared.fields.IndexSpace.TheVariants as space
use Rattle.wat_module_ast.specs.declared.fields.Limits.{Limits}
use Rattle.wat_module_ast.specs.declared.fields.TableType.{TableType}

-- 6.4.5, 6.6.5: a parameter, a result or a local, with its identifier, if it has
-- one, and its type. A result has no identifier.
pub record Variable : Type 0 where
  pub name : Label
  pub type : ValueType

abbrev pub variable : Label → ValueType → Variable
variable l t = record { name = l; type = t }

abbrev pub unnamed : ValueType → Variable
unnamed t = variable None t

abbrev pub name_of : Variable → Label
name_of v = v.name

abbrev pub type_of : Variable → ValueType
type_of v = v.type

-- 6.4.5, function type, without the identifiers of its parameters.
abbrev pub function_type : List Variable → List Variable → FunctionType
function_type params results = from_to (map type_of params) (map type_of results)

-- 6.6.3, type use, with the identifiers of its parameters: the index of its type, if
-- it has one, and its parameters and results.
pub record NamedUse : Type 0 where
  pub index : Option ℕ
  pub params : List Variable
  pub results : List Variable

abbrev pub named_use : Option ℕ → List Variable → List Variable → NamedUse
named_use i ps rs = record { index = i; params = ps; results = rs }

-- A type use without the identifiers of its parameters: in the abstract syntax (2.5.3, 2.5.11) the parameters of
-- functions and imports have no identifiers. The identifiers of a function's parameters are in the context of its body only (6.6.5, `with_locals`).
-- If the type use has an index, only the index remains.
abbrev pub without_names : NamedUse → TypeUse
without_names u = type_use u.index (function_type u.params u.results)

-- 6.6.5, function: its identifier, the names of its inline exports, its type use, the
-- types of its locals, and its instructions. 7.4.1: the name map of its locals; extended-name-section proposal: that of
-- its labels.
pub record Function : Type 0 where
  pub name : Label
  pub exports : List (List ℕ)
  pub uses : TypeUse
  pub locals : List ValueType
  pub body : List Instruction
  pub local_names : List NameAssociation
  pub label_names : List NameAssociation

-- 7.4.1, local names: the name map of a function's parameters and locals. Parameters come first (6.6.5). Those of a type
-- use that has only an index are counted and have no identifier, even if the type definition gives them identifiers
-- (6.6.3). The crate `wast` 222 does not count them.
abbrev pub local_associations : List Variable → List Variable → List NameAssociation
local_associations params locals = associations 0 (map name_of (params ++ locals))

-- Extended-name-section proposal, label names: the name map of the labels of a function, by the tokens that begin with its
-- instructions, which end with the `)` of the function.
abbrev pub label_associations : List Terminal → List NameAssociation
label_associations ts = associations 0 (block_labels [] (inside 0 ts))

-- 6.6.4, import description.
pub data ExternType : Type 0 where
  FuncType : TypeUse → ExternType
  OfTable : TableType → ExternType
  OfMemory : Limits → ExternType
  OfGlobal : GlobalType → ExternType

-- 4.5.4, instantiation: the target of an active segment: the index of a memory or a table, and the
-- instructions that compute the offset in it.
pub record Target : Type 0 where
  pub index : ℕ
  pub offset : List Instruction

abbrev pub target : ℕ → List Instruction → Target
target i is = record { index = i; offset = is }

-- 6.6.11: the instructions of each element.
abbrev pub Elements : Type 0
Elements = List (List Instruction)

-- 6.6.11: the mode of an element segment.
pub data ElemMode : Type 0 where
  Passive : ElemMode
  Active : Target → ElemMode
  Declarative : ElemMode

-- 6.6.2 to 6.6.12, module field. All identifiers are optional. A type has an identifier and a function type. Functions, tables, memories, globals and
-- imports have an identifier and the names of their inline exports. An import has a module name and a name, and an
-- import description; an export has a name, and the index space and index of its item; a start field has the index of
-- a function. A table has a table type, and may have inline elements. A memory has limits, and may have inline data.
-- A global has a type, and the instructions of its initial value. A data segment has an identifier, a target if it is active, and its bytes; an element segment has an identifier, a mode, a
-- type and its elements.
pub data Field : Type 0 where
  TypeField : Label → FunctionType → Field
  Import : List ℕ → List ℕ → Label → List (List ℕ) → ExternType → Field
  Func : Function → Field
  Table : Label → List (List ℕ) → TableType → Option Elements → Field
  Memory : Label → List (List ℕ) → Limits → Option (List ℕ) → Field
  Global : Label → List (List ℕ) → GlobalType → List Instruction → Field
  Export : List ℕ → IndexSpace → ℕ → Field
  Start : ℕ → Field
  Data : Label → Option Target → List ℕ → Field
  Elem : Label → ElemMode → ReferenceType → Elements → Field

-- 6.1.3: an item of an index space, with its identifier, if it has one.
pub record Binding : Type 0 where
  pub space : IndexSpace
  pub name : Label

abbrev pub binding : IndexSpace → Label → Binding
binding s l = record { space = s; name = l }

-- The index space of an imported item.
abbrev pub extern_space : ExternType → IndexSpace
extern_space (FuncType u) = space.Func
extern_space (OfTable t) = space.Table
extern_space (OfMemory l) = space.Mem
extern_space (OfGlobal t) = space.Global

-- The function, table, memory or global that a field defines or imports, if there is one. `IndexSpace` has only the four
-- index spaces of items that can be exported, so types and segments have no binding.
abbrev pub binding_of : Field → List Binding
binding_of (TypeField l t) = []
binding_of (Import m n l ns t) = binding (extern_space t) l ∷ []
binding_of (Func f) = binding space.Func f.name ∷ []
binding_of (Table l ns t es) = binding space.Table l ∷ []
binding_of (Memory l ns t bytes) = binding space.Mem l ∷ []
binding_of (Global l ns t is) = binding space.Global l ∷ []
binding_of (Export n s i) = []
binding_of (Start i) = []
binding_of (Data l t bytes) = []
binding_of (Elem l m t es) = []

-- The functions, tables, memories and globals that fields define or import, in order.
abbrev pub bindings_of : List Field → List Binding
bindings_of fs = flat_map binding_of fs

-- Returns `true` if both index spaces are the same.
abbrev pub is_space : IndexSpace → IndexSpace → Bool
is_space space.Func space.Func = true
is_space space.Table space.Table = true
is_space space.Mem space.Mem = true
is_space space.Global space.Global = true
is_space s t = false

-- The identifiers of an index space, in the order of their indices.
abbrev pub names_in : IndexSpace → List Binding → List Label
names_in s [] = []
names_in s (h ∷ hs) = if is_space s h.space then h.name ∷ names_in s hs else names_in s hs

-- The identifier of the data segment that a field defines, if it defines one. The
-- inline data of a memory have no identifier.
abbrev pub data_of : Field → List Label
data_of (Data l t bytes) = l ∷ []
data_of (Memory l ns t (Some bytes)) = None ∷ []
data_of f = []

-- The identifiers of data segments, in the order of their indices.
abbrev pub datas_of : List Field → List Label
datas_of fs = flat_map data_of fs

-- The identifier of the element segment that a field defines, if it defines one. The
-- inline elements of a table have no identifier.
abbrev pub elem_of : Field → List Label
elem_of (Elem l m t es) = l ∷ []
elem_of (Table l ns t (Some es)) = None ∷ []
elem_of f = []

-- The identifiers of element segments, in the order of their indices.
abbrev pub elems_of : List Field → List Label
elems_of fs = flat_map elem_of fs

-- 6.1.3, context: the context with these types, items, element segments and data segments, and without locals.
abbrev pub context_of : Types → List Binding → List Label → List Label → Context
context_of types hs elems datas = record {
  types = types;
  locals = [];
  funcs = names_in space.Func hs;
  tables = names_in space.Table hs;
  memories = names_in space.Mem hs;
  globals = names_in space.Global hs;
  elems = elems;
  datas = datas;
}

-- The identifiers of an index space of the context.
abbrev pub names_of : Context → IndexSpace → List Label
names_of context space.Func = context.funcs
names_of context space.Table = context.tables
names_of context space.Mem = context.memories
names_of context space.Global = context.globals

-- 6.1.3, 6.6.5: the context with these locals. The parameters of a function precede its other locals.
abbrev pub with_locals : Context → List Variable → Context
with_locals context variables = record {
  types = context.types;
  locals = map name_of variables;
  funcs = context.funcs;
  tables = context.tables;
  memories = context.memories;
  globals = context.globals;
  elems = context.elems;
  datas = context.datas;
}

-- 6.6.2: a type that a field defines, with its identifier, if it has one.
pub record Definition : Type 0 where
  pub name : Label
  pub type : FunctionType

abbrev pub definition : Label → FunctionType → Definition
definition l t = record { name = l; type = t }

-- The type that a field defines, if it defines one.
abbrev pub definition_of : Field → List Definition
definition_of (TypeField l t) = definition l t ∷ []
definition_of f = []

-- The types that fields define, in order.
abbrev pub definitions_of : List Field → List Definition
definitions_of fs = flat_map definition_of fs

abbrev pub definition_name : Definition → Label
definition_name d = d.name

abbrev pub definition_type : Definition → FunctionType
definition_type d = d.type

-- 6.1.3: the types of the context, with the identifiers of those that fields define.
abbrev pub types_in : List Definition → List FunctionType → Types
types_in ds types = record { names = map definition_name ds; types = types; are_known = true }

-- Returns `true` if the field is an import.
abbrev pub is_import : Field → Bool
is_import (Import m n l ns t) = true
is_import f = false

-- Returns `true` if one of the fields is an import.
abbrev pub has_import : List Field → Bool
has_import [] = false
has_import (f ∷ fs) = if is_import f then true else has_import fs

-- Returns `true` if the field defines a function, a table, a memory or a global.
abbrev pub is_definition : Field → Bool
is_definition (Func f) = true
is_definition (Table l ns t es) = true
is_definition (Memory l ns t bytes) = true
is_definition (Global l ns t is) = true
is_definition f = false

-- 6.6.13: returns `true` if every import precedes all definitions of functions, tables, memories and globals.
abbrev pub imports_first : List Field → Bool
imports_first [] = true
imports_first (f ∷ fs) = if is_definition f then (if has_import fs then false else true) else imports_first fs

-- The index of the start function, if the field is a start field.
abbrev pub start_of : Field → List ℕ
start_of (Start i) = i ∷ []
start_of f = []

-- The indices of all start fields, in order.
abbrev pub starts_of : List Field → List ℕ
starts_of fs = flat_map start_of fs

-- 6.1.1, `item*`: any number of items, one after another (`Many One ts vs r`). `One` is the rule of an item, and
-- `vs` are the values of all items together.
pub data Many {V : Type 0} (One : List Terminal → List V → List Terminal → Type 0) : List Terminal → List V → List Terminal → Type 0 where
  by_none : {ts : List Terminal} → Many One ts [] ts
  by_more : {ts us r : List Terminal} {vs ws : List V} → One ts vs us → Many One us ws r → Many One ts (vs ++ ws) r

-- 6.4.4, `valtype` (`ValueTypeIs ts types r`, with one type).
pub data ValueTypeIs : List Terminal → List ValueType → List Terminal → Type 0 where
  by_word : {ts : List Terminal} {w : List ℕ} {t : ValueType} → value_type w ≡ Some t → ValueTypeIs (Word w ∷ ts) (t ∷ []) ts

-- 6.4.5, 6.6.5: `(word valtype*)`, where `word` is `param`, `result` or `local`; or `(word id valtype)`, if
-- `may_have_name` is true, as for parameters and locals (`Group word may_have_name ts variables r`).
pub data Group (word : List ℕ) (may_have_name : Bool) : List Terminal → List Variable → List Terminal → Type 0 where
  by_named : {ts : List Terminal} {v x w : List ℕ} {t : ValueType} → may_have_name ≡ true → v ≡ word → value_type w ≡ Some t → Group word may_have_name (Open ∷ Word v ∷ Id x ∷ Word w ∷ Close ∷ ts) (variable (Some x) t ∷ []) ts
  by_listed : {ts us : List Terminal} {v : List ℕ} {types : List ValueType} → v ≡ word → Many ValueTypeIs ts types (Close ∷ us) → Group word may_have_name (Open ∷ Word v ∷ ts) (map unnamed types) us

-- 6.6.5 to 6.6.8, abbreviations: `(export name)` in a field exports the item of the field (`InlineExport ts names
-- r`, with one name). 6.3.4: a name is UTF-8.
pub data InlineExport : List Terminal → List (List ℕ) → List Terminal → Type 0 where
  by_inline_export : {ts : List Terminal} {v n : List ℕ} → v ≡ codes "export" → is_utf8 n ≡ true → InlineExport (Open ∷ Word v ∷ Text n ∷ Close ∷ ts) (n ∷ []) ts

-- 6.3.1, `u32`: returns `true` if the integer is below 2^32.
abbrev pub is_u32 : ℕ → Bool
is_u32 n = nat_lt n (2 ^ 32)

-- 6.6.1, index: a `u32`, or an identifier, which denotes the first item of `names`
-- that has it (`IndexIs names ts i r`).
pub data IndexIs (names : List Label) : List Terminal → ℕ → List Terminal → Type 0 where
  by_number : {ts : List Terminal} {n : ℕ} → is_u32 n ≡ true → IndexIs names (Integer Absent n ∷ ts) n ts
  by_identifier : {ts : List Terminal} {x : List ℕ} {n : ℕ} → position 0 x names ≡ Some n → IndexIs names (Id x ∷ ts) n ts

-- 6.4.6, `limits`: the minimum, or the minimum and the maximum, each a `u32` (`LimitsAre ts limits r`).
pub data LimitsAre : List Terminal → Limits → List Terminal → Type 0 where
  by_min : {ts : List Terminal} {n : ℕ} → is_u32 n ≡ true → LimitsAre (Integer Absent n ∷ ts) (record { min = n; max = None }) ts
  by_min_max : {ts : List Terminal} {n m : ℕ} → is_u32 n ≡ true → is_u32 m ≡ true → LimitsAre (Integer Absent n ∷ Integer Absent m ∷ ts) (record { min = n; max = Some m }) ts

-- 6.4.9, `globaltype`: `valtype` or `(mut valtype)` (`GlobalTypeIs ts t r`).
pub data GlobalTypeIs : List Terminal → GlobalType → List Terminal → Type 0 where
  by_constant : {ts : List Terminal} {w : List ℕ} {t : ValueType} → value_type w ≡ Some t → GlobalTypeIs (Word w ∷ ts) (record { is_mutable = false; value = t }) ts
  by_mutable : {ts : List Terminal} {v w : List ℕ} {t : ValueType} → v ≡ codes "mut" → value_type w ≡ Some t → GlobalTypeIs (Open ∷ Word v ∷ Word w ∷ Close ∷ ts) (record { is_mutable = true; value = t }) ts

-- 6.6.3, `typeuse` (`TypeUseIs types ts use r`): `param* result*`, or `(type index) param* result*`. After an index, the
-- lists must be those of the type, or both empty. If both are empty, the parameters and results are those of the type,
-- and the parameters have no identifiers.
-- Lists without an index denote the least index of their type (`ImplicitTypes`). In the context of a module the types
-- are known. While the parser still collects the types that type uses add, they are not known: no type is looked up, and
-- any lists are accepted.
pub data TypeUseIs (types : Types) : List Terminal → NamedUse → List Terminal → Type 0 where
  by_lists : {ts us vs : List Terminal} {params results : List Variable}
      → Many (Group (codes "param") true) ts params us → Many (Group (codes "result") false) us results vs → TypeUseIs types ts (named_use None params results) vs
  by_index : {w : List ℕ} {ts us vs ws : List Terminal} {i : ℕ} {t : FunctionType}
      → types.are_known ≡ true → w ≡ codes "type" → IndexIs types.names ts i (Close ∷ us) → slice_get types.types i ≡ Some t → Many (Group (codes "param") true) us [] vs → Many (Group (codes "result") false) vs [] ws
      → TypeUseIs types (Open ∷ Word w ∷ ts) (named_use (Some i) (map unnamed t.params) (map unnamed t.results)) ws
  by_both : {w : List ℕ} {ts us vs ws : List Terminal} {i : ℕ} {params results : List Variable}
      → types.are_known ≡ true → w ≡ codes "type" → IndexIs types.names ts i (Close ∷ us) → slice_get types.types i ≡ Some (function_type params results) → Many (Group (codes "param") true) us params vs → Many (Group (codes "result") false) vs results ws
      → TypeUseIs types (Open ∷ Word w ∷ ts) (named_use (Some i) params results) ws
  by_unknown : {w : List ℕ} {ts us vs ws : List Terminal} {i : ℕ} {params results : List Variable}
      → types.are_known ≡ false → w ≡ codes "type" → IndexIs types.names ts i (Close ∷ us) → Many (Group (codes "param") true) us params vs → Many (Group (codes "result") false) vs results ws
      → TypeUseIs types (Open ∷ Word w ∷ ts) (named_use (Some i) params results) ws

-- 6.6.9: the index space that a keyword of an export names. The keywords of fields are the same.
abbrev pub space_of : List ℕ → Option IndexSpace
space_of w =
    if bytes_eq w (codes "func") then Some space.Func else if bytes_eq w (codes "table") then Some space.Table else if bytes_eq w (codes "memory") then Some space.Mem else if bytes_eq w (codes "global") then Some space.Global else None

-- 6.6.13: returns `true` if the identifiers of types, of each index space and of both kinds of segments are distinct.
abbrev pub all_distinct : Types → Context → Bool
all_distinct types context = are_distinct types.names && are_distinct context.funcs && are_distinct context.tables && are_distinct context.memories && are_distinct context.globals && are_distinct context.elems && are_distinct context.datas

-- 6.4.7 to 6.4.9, 6.6.3: an import description after its keyword and its identifier (`ExternIs types space ts t r`).
pub data ExternIs (types : Types) : IndexSpace → List Terminal → ExternType → List Terminal → Type 0 where
  by_type_use : {ts us : List Terminal} {u : NamedUse} → TypeUseIs types ts u us → are_distinct (map name_of u.params) ≡ true → ExternIs types space.Func ts (FuncType (without_names u)) us
  by_table_type : {ts us : List Terminal} {v : List ℕ} {limits : Limits} {t : ReferenceType} → LimitsAre ts limits (Word v ∷ us) → reference_type v ≡ Some t → ExternIs types space.Table ts (OfTable (record { limits = limits; element = t })) us
  by_memory_type : {ts us : List Terminal} {limits : Limits} → LimitsAre ts limits us → ExternIs types space.Mem ts (OfMemory limits) us
  by_global_type : {ts us : List Terminal} {t : GlobalType} → GlobalTypeIs ts t us → ExternIs types space.Global ts (OfGlobal t) us

-- 6.6.12: one string of `string*` (`StringIs ts bytes r`).
pub data StringIs : List Terminal → List ℕ → List Terminal → Type 0 where
  by_string : {ts : List Terminal} {v : List ℕ} → StringIs (Text v ∷ ts) v ts

-- 6.6.11, 6.6.12: `tableuse`, which is `(table index)`, or `memuse`, which is `(memory index)`; or nothing, which is
-- the index 0 (`UseIs word names ts i r`, where `word` is the keyword).
pub data UseIs (word : List ℕ) (names : List Label) : List Terminal → ℕ → List Terminal → Type 0 where
  by_use : {w : List ℕ} {ts r : List Terminal} {i : ℕ} → w ≡ word → IndexIs names ts i (Close ∷ r) → UseIs word names (Open ∷ Word w ∷ ts) i r
  by_no_use : {ts : List Terminal} → UseIs word names ts 0 ts

-- 6.6.11, 6.6.12: an expression `(word instr*)`, where `word` is `offset` or `item`; or its abbreviation `(instr)`
-- (`ExpressionIs word context ts is r`). That the latter is one folded instruction is this library's interpretation.
pub data ExpressionIs (word : List ℕ) (context : Context) : List Terminal → List Instruction → List Terminal → Type 0 where
  by_word_expression : {w : List ℕ} {ts r : List Terminal} {is : List Instruction} → w ≡ word → Body context ts is r → ExpressionIs word context (Open ∷ Word w ∷ ts) is r
  by_instruction : {ts r : List Terminal} {is : List Instruction} → Folded context ts is r → ExpressionIs word context ts is r

-- 4.2.8: the number of pages that hold these bytes. A page of a memory has 65,536 bytes.
abbrev pub pages_of : List ℕ → ℕ
pages_of bytes = (length bytes + 65535) / 65536

-- 6.6.11, `elemexpr`: `(item instr*)`, or one folded instruction (`ItemIs context ts elements r`, with one element).
pub data ItemIs (context : Context) : List Terminal → Elements → List Terminal → Type 0 where
  by_item : {ts r : List Terminal} {is : List Instruction} → ExpressionIs (codes "item") context ts is r → ItemIs context ts (is ∷ []) r

-- 6.5.3: the instruction `ref.func x`.
abbrev pub ref_func : ℕ → List Instruction
ref_func x = record { opcode = Byte 0xD2; argument = argument.Index x } ∷ []

-- 6.6.11: an index `x` as an element, which abbreviates `(ref.func x)` (`FunctionIs
-- context ts elements r`, with one element).
pub data FunctionIs (context : Context) : List Terminal → Elements → List Terminal → Type 0 where
  by_function : {ts r : List Terminal} {x : ℕ} → IndexIs context.funcs ts x r → FunctionIs context ts (ref_func x ∷ []) r

-- 6.6.11, `elemlist`: `reftype elemexpr*`; or `func index*`, whose type is `funcref`
-- (`ElementsAre context ts t elements r`).
pub data ElementsAre (context : Context) : List Terminal → ReferenceType → Elements → List Terminal → Type 0 where
  by_items : {w : List ℕ} {ts r : List Terminal} {t : ReferenceType} {es : Elements} → reference_type w ≡ Some t → Many (ItemIs context) ts es r → ElementsAre context (Word w ∷ ts) t es r
  by_functions : {w : List ℕ} {ts r : List Terminal} {es : Elements} → w ≡ codes "func" → Many (FunctionIs context) ts es r → ElementsAre context (Word w ∷ ts) reference.Func es r

-- 6.6.6: the table type whose minimum and maximum are the number of these elements.
abbrev pub table_of : ReferenceType → Elements → TableType
table_of t es = record { limits = record { min = length es; max = Some (length es) }; element = t }

-- 6.6.2 to 6.6.12, module field, from its `(` to its `)`. `FieldIs types context ts fs r`: with these types and in this
-- context, the tokens `ts`, up to the rest `r`, match the grammar of the one field in `fs`.
pub data FieldIs (types : Types) (context : Context) : List Terminal → List Field → List Terminal → Type 0 where
  -- 6.6.2: `(type id? (func param* result*))`.
  by_type : {w v : List ℕ} {ts hs bs r : List Terminal} {params results : List Variable}
      → w ≡ codes "type" → (label_of ts).1 ≡ Open ∷ Word v ∷ hs → v ≡ codes "func" → Many (Group (codes "param") true) hs params bs → Many (Group (codes "result") false) bs results (Close ∷ Close ∷ r)
      → FieldIs types context (Open ∷ Word w ∷ ts) (TypeField (label_of ts).0 (function_type params results) ∷ []) r
  -- 6.6.4: `(import name name (func id? typeuse))`; tables, memories and globals likewise.
  by_import : {w m n v : List ℕ} {ts r : List Terminal} {s : IndexSpace} {t : ExternType}
      → w ≡ codes "import" → is_utf8 m ≡ true → is_utf8 n ≡ true → space_of v ≡ Some s → ExternIs types s (label_of ts).1 t (Close ∷ Close ∷ r)
      → FieldIs types context (Open ∷ Word w ∷ Text m ∷ Text n ∷ Open ∷ Word v ∷ ts) (Import m n (label_of ts).0 [] t ∷ []) r
  -- 6.6.5 to 6.6.8: `(func id? export* (import name name) typeuse)` is an import;
  -- tables, memories and globals likewise.
  by_inline_import : {w v m n : List ℕ} {ts us r : List Terminal} {names : List (List ℕ)} {s : IndexSpace} {t : ExternType}
      → space_of w ≡ Some s → Many InlineExport (label_of ts).1 names (Open ∷ Word v ∷ Text m ∷ Text n ∷ Close ∷ us) → v ≡ codes "import" → is_utf8 m ≡ true → is_utf8 n ≡ true → ExternIs types s us t (Close ∷ r)
      → FieldIs types context (Open ∷ Word w ∷ ts) (Import m n (label_of ts).0 names t ∷ []) r
  -- 6.6.5: `(func id? export* typeuse local* instr*)`.
  by_func : {w : List ℕ} {ts hs bs ds r : List Terminal} {names : List (List ℕ)} {u : NamedUse} {locals : List Variable} {is : List Instruction}
      → w ≡ codes "func" → Many InlineExport (label_of ts).1 names hs → TypeUseIs types hs u bs → Many (Group (codes "local") true) bs locals ds
      → are_distinct (map name_of (u.params ++ locals)) ≡ true → Body (with_locals context (u.params ++ locals)) ds is r
      → FieldIs types context (Open ∷ Word w ∷ ts) (Func (record { name = (label_of ts).0; exports = names; uses = without_names u; locals = map type_of locals; body = is; local_names = local_associations u.params locals; label_names = label_associations ds }) ∷ []) r
  -- 6.6.6, 6.4.8: `(table id? export* limits reftype)`.
  by_table : {w v : List ℕ} {ts hs r : List Terminal} {names : List (List ℕ)} {limits : Limits} {t : ReferenceType}
      → w ≡ codes "table" → Many InlineExport (label_of ts).1 names hs → LimitsAre hs limits (Word v ∷ Close ∷ r) → reference_type v ≡ Some t
      → FieldIs types context (Open ∷ Word w ∷ ts) (Table (label_of ts).0 names (record { limits = limits; element = t }) None ∷ []) r
  -- 6.6.6: `(table id? export* reftype (elem elemexpr*))` is a table whose minimum and maximum are the
  -- number of elements, and an element segment of this type without an identifier, which is active in
  -- this table at the offset `(i32.const 0)`.
  by_table_items : {w u v : List ℕ} {ts hs r : List Terminal} {names : List (List ℕ)} {t : ReferenceType} {es : Elements}
      → w ≡ codes "table" → Many InlineExport (label_of ts).1 names (Word u ∷ Open ∷ Word v ∷ hs) → reference_type u ≡ Some t → v ≡ codes "elem" → Many (ItemIs context) hs es (Close ∷ Close ∷ r) → is_u32 (length es) ≡ true
      → FieldIs types context (Open ∷ Word w ∷ ts) (Table (label_of ts).0 names (table_of t es) (Some es) ∷ []) r
  -- 6.6.6: `(table id? export* reftype (elem index*))` is a table whose minimum and maximum are the
  -- number of elements, and an element segment of this type without an identifier, which is active in
  -- this table at the offset `(i32.const 0)`.
  by_table_functions : {w u v : List ℕ} {ts hs r : List Terminal} {names : List (List ℕ)} {t : ReferenceType} {es : Elements}
      → w ≡ codes "table" → Many InlineExport (label_of ts).1 names (Word u ∷ Open ∷ Word v ∷ hs) → reference_type u ≡ Some t → v ≡ codes "elem" → Many (FunctionIs context) hs es (Close ∷ Close ∷ r) → is_u32 (length es) ≡ true
      → FieldIs types context (Open ∷ Word w ∷ ts) (Table (label_of ts).0 names (table_of t es) (Some es) ∷ []) r
  -- 6.6.7, 6.4.7: `(memory id? export* limits)`.
  by_memory : {w : List ℕ} {ts hs r : List Terminal} {names : List (List ℕ)} {limits : Limits}
      → w ≡ codes "memory" → Many InlineExport (label_of ts).1 names hs → LimitsAre hs limits (Close ∷ r) → FieldIs types context (Open ∷ Word w ∷ ts) (Memory (label_of ts).0 names limits None ∷ []) r
  -- 6.6.7: `(memory id? export* (data string*))` is a memory whose minimum and maximum are the
  -- number of pages that hold the bytes, and a data segment without an identifier, which is active
  -- in this memory at the offset `(i32.const 0)`.
  by_memory_data : {w v : List ℕ} {ts hs r : List Terminal} {names : List (List ℕ)} {bytes : List ℕ}
      → w ≡ codes "memory" → Many InlineExport (label_of ts).1 names (Open ∷ Word v ∷ hs) → v ≡ codes "data" → Many StringIs hs bytes (Close ∷ Close ∷ r) → is_u32 (pages_of bytes) ≡ true
      → FieldIs types context (Open ∷ Word w ∷ ts) (Memory (label_of ts).0 names (record { min = pages_of bytes; max = Some (pages_of bytes) }) (Some bytes) ∷ []) r
  -- 6.6.8: `(global id? export* globaltype instr*)`.
  by_global : {w : List ℕ} {ts hs bs r : List Terminal} {names : List (List ℕ)} {t : GlobalType} {is : List Instruction}
      → w ≡ codes "global" → Many InlineExport (label_of ts).1 names hs → GlobalTypeIs hs t bs → Body context bs is r → FieldIs types context (Open ∷ Word w ∷ ts) (Global (label_of ts).0 names t is ∷ []) r
  -- 6.6.9: `(export name (func index))`; tables, memories and globals likewise.
  by_export : {w n v : List ℕ} {ts r : List Terminal} {s : IndexSpace} {i : ℕ}
      → w ≡ codes "export" → is_utf8 n ≡ true → space_of v ≡ Some s → IndexIs (names_of context s) ts i (Close ∷ Close ∷ r) → FieldIs types context (Open ∷ Word w ∷ Text n ∷ Open ∷ Word v ∷ ts) (Export n s i ∷ []) r
  -- 6.6.10: `(start index)`.
  by_start : {w : List ℕ} {ts r : List Terminal} {i : ℕ} → w ≡ codes "start" → IndexIs context.funcs ts i (Close ∷ r) → FieldIs types context (Open ∷ Word w ∷ ts) (Start i ∷ []) r
  -- 6.6.11: `(elem id? elemlist)`, which is passive.
  by_passive_elem : {w : List ℕ} {ts r : List Terminal} {t : ReferenceType} {es : Elements}
      → w ≡ codes "elem" → ElementsAre context (label_of ts).1 t es (Close ∷ r) → FieldIs types context (Open ∷ Word w ∷ ts) (Elem (label_of ts).0 Passive t es ∷ []) r
  -- 6.6.11: `(elem id? declare elemlist)`, which is declarative.
  by_declarative_elem : {w v : List ℕ} {ts ds r : List Terminal} {t : ReferenceType} {es : Elements}
      → w ≡ codes "elem" → (label_of ts).1 ≡ Word v ∷ ds → v ≡ codes "declare" → ElementsAre context ds t es (Close ∷ r) → FieldIs types context (Open ∷ Word w ∷ ts) (Elem (label_of ts).0 Declarative t es ∷ []) r
  -- 6.6.11: `(elem id? tableuse offset elemlist)`, which is active.
  by_active_elem : {w : List ℕ} {ts os bs r : List Terminal} {i : ℕ} {is : List Instruction} {t : ReferenceType} {es : Elements}
      → w ≡ codes "elem" → UseIs (codes "table") context.tables (label_of ts).1 i os → ExpressionIs (codes "offset") context os is bs → ElementsAre context bs t es (Close ∷ r) → FieldIs types context (Open ∷ Word w ∷ ts) (Elem (label_of ts).0 (Active (target i is)) t es ∷ []) r
  -- 6.6.11: `(elem id? offset index*)`, which is active in the table 0: without a
  -- `tableuse` the keyword `func` may be omitted.
  by_function_elem : {w : List ℕ} {ts bs r : List Terminal} {is : List Instruction} {es : Elements}
      → w ≡ codes "elem" → ExpressionIs (codes "offset") context (label_of ts).1 is bs → Many (FunctionIs context) bs es (Close ∷ r) → FieldIs types context (Open ∷ Word w ∷ ts) (Elem (label_of ts).0 (Active (target 0 is)) reference.Func es ∷ []) r
  -- 6.6.12: `(data id? string*)`, which is passive.
  by_passive_data : {w : List ℕ} {ts r : List Terminal} {bytes : List ℕ} → w ≡ codes "data" → Many StringIs (label_of ts).1 bytes (Close ∷ r) → FieldIs types context (Open ∷ Word w ∷ ts) (Data (label_of ts).0 None bytes ∷ []) r
  -- 6.6.12: `(data id? memuse offset string*)`, which is active.
  by_active_data : {w : List ℕ} {ts os bs r : List Terminal} {i : ℕ} {is : List Instruction} {bytes : List ℕ}
      → w ≡ codes "data" → UseIs (codes "memory") context.memories (label_of ts).1 i os → ExpressionIs (codes "offset") context os is bs → Many StringIs bs bytes (Close ∷ r) → FieldIs types context (Open ∷ Word w ∷ ts) (Data (label_of ts).0 (Some (target i is)) bytes ∷ []) r
