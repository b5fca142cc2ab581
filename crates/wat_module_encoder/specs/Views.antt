-- The imports, exports, counts, segments and runs of the code, as definitions, and the steps by which the
-- code encodes them. Not part of the standard.
use Rattle.std.specs.Prelude.{suc, ◌∷◌, ◌<◌, ◌==◌, ◌+◌, ◌++◌, ℕ, List, [], length, map, Option, Some, None, if◌then◌else◌}
use Rattle.std.specs.List.{flat_map}
use Rattle.wat_module_ast.specs.declared.fields.Locals.{Locals}
use Rattle.wat_module_ast.specs.Types.{type_byte}
use Rattle.wat_module_ast.specs.Views.{local_types}
use Rattle.wat_module_ast.specs.declared.fields.Import as declared_import
use Rattle.wat_module_ast.specs.declared.fields.Export as declared_export
use Rattle.wat_module_ast.specs.declared.fields.IndexSpace.{IndexSpace}
use Rattle.wat_module_ast.specs.declared.fields.IndexSpace.TheVariants as space
use Rattle.wat_module_encoder.specs.declared.indices.Counts as declared_counts
use Rattle.wat_module_encoder.specs.declared.data.Segment as declared_segment
use Rattle.wat_module_encoder.specs.declared.data.DataTarget.{DataTarget}
use Rattle.wat_module_encoder.specs.declared.data.DataTarget.TheVariants as places
use Rattle.wat_module_encoder.specs.declared.elements.ElementSegment as declared_elements
use Rattle.wat_module_encoder.specs.declared.elements.ElementTarget.{ElementTarget}
use Rattle.wat_module_encoder.specs.declared.elements.ElementTarget.TheVariants as elem_places
use Rattle.wat_module_encoder.specs.declared.names.FunctionNames.{FunctionNames}
use Rattle.wat_module_encoder.specs.declared.names.FunctionNames.TheVariants as within
use Rattle.wat_module_encoder.specs.declared.names.NameSpace.{NameSpace}
use Rattle.wat_module_encoder.specs.declared.names.NameSpace.TheVariants as names
use Rattle.wat_lex.specs.binary.Leb128.{unsigned_leb128}
use Rattle.wat_module_ast.specs.Types.{FunctionType}
use Rattle.wat_module_tokens.specs.Terminals.{Label}
use Rattle.wat_module_encoder.specs.Binary.{mode_bytes, Export, ImportEntry, export, next_index, section, ElementSegment, element_segment, DataSegment, at_zero, data_segment}
use Rattle.wat_module_ast.specs.Fields.{Field, TypeField, Import, Func, Table, Memory, Global, Start, extern_space, Data, Elem, ElemMode, Passive, Active, Declarative, Target, target, binding_of, bindings_of, definition_name, definition_of, definitions_of, elem_of, elems_of, data_of, datas_of, names_in}
use Rattle.wat_module_ast.specs.Fields as field
use Rattle.wat_module_ast.specs.Names.{NameAssociation}
use Rattle.wat_module_encoder.specs.NameSection.{label_map, local_map, maps_of}
use Rattle.wat_module_ast.specs.Views.{extern_of, expressions_of, together}

-- An import of the code.
abbrev pub import_of : declared_import.Import → ImportEntry
import_of i = record { from = i.from.now; name = i.item.now; what = extern_of i.what }

-- An export of the code.
abbrev pub export_of : declared_export.Export → Export
export_of e = export e.space e.index e.name.now

-- The number of items in each index space, which is the index of its next item.
pub record Counts : Type 0 where
  pub funcs : ℕ
  pub tables : ℕ
  pub memories : ℕ
  pub globals : ℕ

-- The counts of the code.
abbrev pub counts_of : declared_counts.Counts → Counts
counts_of c = record { funcs = c.funcs; tables = c.tables; memories = c.memories; globals = c.globals }

-- `AreBelow c n`: each of the counts is below `n`.
abbrev pub AreBelow : Counts → ℕ → Type 0
AreBelow c n = (c.funcs < n) × (c.tables < n) × (c.memories < n) × (c.globals < n)

-- The counts after these fields.
abbrev pub counts_after : List Field → Counts
counts_after fs = record {
  funcs = next_index space.Func fs;
  tables = next_index space.Table fs;
  memories = next_index space.Mem fs;
  globals = next_index space.Global fs;
}

-- The number of items in an index space.
abbrev pub count : IndexSpace → Counts → ℕ
count space.Func c = c.funcs
count space.Table c = c.tables
count space.Mem c = c.memories
count space.Global c = c.globals

-- The counts after one more item in an index space.
abbrev pub more : IndexSpace → Counts → Counts
more space.Func c = record { funcs = suc c.funcs; tables = c.tables; memories = c.memories; globals = c.globals }
more space.Table c = record { funcs = c.funcs; tables = suc c.tables; memories = c.memories; globals = c.globals }
more space.Mem c = record { funcs = c.funcs; tables = c.tables; memories = suc c.memories; globals = c.globals }
more space.Global c = record { funcs = c.funcs; tables = c.tables; memories = c.memories; globals = suc c.globals }

-- The counts after one more field.
abbrev pub counted : Field → Counts → Counts
counted (TypeField l t) c = c
counted (Import m n l ns t) c = more (extern_space t) c
counted (Func f) c = more space.Func c
counted (Table l ns t es) c = more space.Table c
counted (Memory l ns t bytes) c = more space.Mem c
counted (Global l ns t is) c = more space.Global c
counted (field.Export n s i) c = c
counted (Start i) c = c
counted (Data l t bytes) c = c
counted (Elem l m t es) c = c

-- The exports that a field defines, by the counts before it.
abbrev pub exports_by : Counts → Field → List Export
exports_by c (TypeField l t) = []
exports_by c (Import m n l ns t) = map (export (extern_space t) (count (extern_space t) c)) ns
exports_by c (Func f) = map (export space.Func c.funcs) f.exports
exports_by c (Table l ns t es) = map (export space.Table c.tables) ns
exports_by c (Memory l ns t bytes) = map (export space.Mem c.memories) ns
exports_by c (Global l ns t is) = map (export space.Global c.globals) ns
exports_by c (field.Export n s i) = export s i n ∷ []
exports_by c (Start i) = []
exports_by c (Data l t bytes) = []
exports_by c (Elem l m t es) = []

-- The exports that fields define, by the counts before them.
abbrev pub exports_from : Counts → List Field → List Export
exports_from c [] = []
exports_from c (f ∷ fs) = exports_by c f ++ exports_from (counted f c) fs

-- The data segments that a field defines, by the counts before it.
abbrev pub data_by : Counts → Field → List DataSegment
data_by c (Data l t bytes) = data_segment t bytes ∷ []
data_by c (Memory l ns t (Some bytes)) = data_segment (Some (target c.memories at_zero)) bytes ∷ []
data_by c f = []

-- The data segments that fields define, by the counts before them.
abbrev pub data_from : Counts → List Field → List DataSegment
data_from c [] = []
data_from c (f ∷ fs) = data_by c f ++ data_from (counted f c) fs

-- The target of a data segment of the code, if it is active.
abbrev pub data_target_of : DataTarget → Option Target
data_target_of places.Nowhere = None
data_target_of (places.At t) = Some (target t.now.index t.now.offset.items)
data_target_of (places.Begin i) = Some (target i at_zero)

-- A data segment of the code.
abbrev pub segment_of : declared_segment.Segment → DataSegment
segment_of s = data_segment (data_target_of s.place) (together s.strings.now)

-- 5.5.14: the bytes of a data segment before its content.
abbrev pub segment_head : List FunctionType → DataSegment → List ℕ
segment_head types s = mode_bytes types s.target ++ unsigned_leb128 (length s.bytes)

-- 5.5.2: the bytes of a section before its items: its id, its size and the count.
-- `len` is the length of all items in bytes.
abbrev pub section_head : ℕ → ℕ → ℕ → List ℕ
section_head number count len = number ∷ (unsigned_leb128 (length (unsigned_leb128 count) + len) ++ unsigned_leb128 count)

-- The element segments that a field defines, by the counts before it.
abbrev pub elements_by : Counts → Field → List ElementSegment
elements_by c (Elem l m t es) = element_segment m t es ∷ []
elements_by c (Table l ns t (Some es)) = element_segment (Active (target c.tables at_zero)) t.element es ∷ []
elements_by c f = []

-- The element segments that fields define, by the counts before them.
abbrev pub elements_from : Counts → List Field → List ElementSegment
elements_from c [] = []
elements_from c (f ∷ fs) = elements_by c f ++ elements_from (counted f c) fs

-- The mode of an element segment of the code.
abbrev pub element_target_of : ElementTarget → ElemMode
element_target_of elem_places.Passive = Passive
element_target_of elem_places.Declarative = Declarative
element_target_of (elem_places.At t) = Active (target t.now.index t.now.offset.items)
element_target_of (elem_places.Begin i) = Active (target i at_zero)

-- An element segment of the code.
abbrev pub element_segment_of : declared_elements.ElementSegment → ElementSegment
element_segment_of s = element_segment (element_target_of s.place) s.of (expressions_of s.elements.now)

-- The indices `xs` before further ones, or `None` if there are none.
abbrev pub put_before : List ℕ → Option (List ℕ) → Option (List ℕ)
put_before xs (Some ys) = Some (xs ++ ys)
put_before xs None = None

-- 5.5.13: the byte of the type of each local, one byte per local.
abbrev pub bytes_of : List Locals → List ℕ
bytes_of ls = map type_byte (flat_map local_types ls)

-- 5.5.2: a section of `count` items, which are encoded in the bytes `items`. It is omitted if `count` is 0.
abbrev pub counted_section : ℕ → ℕ → List ℕ → List ℕ
counted_section number count items = if count == 0 then [] else section number (unsigned_leb128 count ++ items)

-- The identifier of the item that a field adds to an index space, if it adds one.
abbrev pub labels_in : NameSpace → Field → List Label
labels_in (names.Items s) f = names_in s (binding_of f)
labels_in names.Types f = map definition_name (definition_of f)
labels_in names.Elements f = elem_of f
labels_in names.Data f = data_of f

-- The identifiers of the items that fields add to an index space, in the order of their indices.
abbrev pub labels_of : NameSpace → List Field → List Label
labels_of (names.Items s) fs = names_in s (bindings_of fs)
labels_of names.Types fs = map definition_name (definitions_of fs)
labels_of names.Elements fs = elems_of fs
labels_of names.Data fs = datas_of fs

-- The name map of the locals or of the labels of the function that a field defines or imports, if it is one.
abbrev pub maps_in : FunctionNames → Field → List (List NameAssociation)
maps_in within.Locals f = maps_of local_map f
maps_in within.Labels f = maps_of label_map f
