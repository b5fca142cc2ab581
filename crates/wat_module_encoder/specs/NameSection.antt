-- WebAssembly 2.0, 7.4.1 (appendix, custom sections: name section), and the extended-name-section proposal, whose
-- subsection 3 has the form of the local names, and whose subsections 4 to 9 have that of the function names. The name of
-- an item is its identifier (6.3.5): the bytes after `$`, or, for `$".."`, which 2.0 does not have, the value of the
-- string; or the name that an annotation gives instead. The standard makes every name optional. There are the subsections 0
-- (module), 1 (functions), 2 (locals), 3 (labels) and 4 to 9 (types, tables, memories, globals, element segments, data
-- segments). The parameters of an imported function and those of a type have no entry, even if they have identifiers:
-- these are not in the abstract syntax (2.5.11). This is a choice, and that of the crate `wat`.
use Rattle.std.specs.Prelude.{ℕ, suc, List, [], ◌∷◌, ◌++◌, map, codes, Some, None}
use Rattle.std.specs.List.{flat_map}
use Rattle.wat_lex.specs.binary.Encoding.{list_encoding, text_encoding}
use Rattle.wat_lex.specs.binary.Leb128.{unsigned_leb128}
use Rattle.wat_module_tokens.specs.Terminals.{Label}
use Rattle.wat_module_ast.specs.declared.fields.IndexSpace.TheVariants as space
use Rattle.wat_module_ast.specs.Fields.{Field, Func, Function, Import, FuncType, bindings_of, datas_of, definition_name, definitions_of, elems_of, names_in}
use Rattle.wat_module_ast.specs.Names.{NameAssociation, associations}
use Rattle.wat_module_encoder.specs.Binary.{list_section, section}

-- 7.4.1, `nameassoc`, encoded: the index, and the name, which is a vector of bytes (5.2.4).
abbrev pub association_bytes : NameAssociation → List ℕ
association_bytes a = unsigned_leb128 a.index ++ text_encoding a.name

-- 7.4.1, `namesubsection` whose content is a name map of the items with these identifiers. Like a section (5.5.2), a
-- subsection begins with its id and the size of its content, and is omitted if the vector is empty.
abbrev pub map_subsection : ℕ → List Label → List ℕ
map_subsection id names = list_section id association_bytes (associations 0 names)

-- 7.4.1, `indirectnameassoc`: the index of a function, and the name map of its locals, or, as the proposal has it, of its
-- labels.
pub record IndirectNameAssociation : Type 0 where
  pub index : ℕ
  pub names : List NameAssociation

abbrev pub indirect_association : ℕ → List NameAssociation → IndirectNameAssociation
indirect_association n names = record { index = n; names = names }

-- 7.4.1, `indirectnamemap`: the name maps of functions whose indices begin at `n`. A function whose name map is empty has
-- an index and no entry; 7.4.1 allows either. Each index occurs at most once, and indices increase.
abbrev pub indirect_associations : ℕ → List (List NameAssociation) → List IndirectNameAssociation
indirect_associations n [] = []
indirect_associations n ([] ∷ ms) = indirect_associations (suc n) ms
indirect_associations n ((a ∷ names) ∷ ms) = indirect_association n (a ∷ names) ∷ indirect_associations (suc n) ms

-- 7.4.1, `indirectnameassoc`, encoded: the index, and the name map, which is a vector (5.1.3).
abbrev pub indirect_bytes : IndirectNameAssociation → List ℕ
indirect_bytes a = unsigned_leb128 a.index ++ list_encoding association_bytes a.names

-- 7.4.1, `namesubsection` whose content is an indirect name map of the functions with these name maps. It is omitted if
-- all of them are empty.
abbrev pub indirect_subsection : ℕ → List (List NameAssociation) → List ℕ
indirect_subsection id maps = list_section id indirect_bytes (indirect_associations 0 maps)

-- The subsections, in the order of their ids. Each is empty if it has no names. The items of an index space are in the
-- order of their indices: imports (which 6.6.13 puts first), and then definitions (2.5.1). Types that type uses add follow
-- those of fields (6.6.3) and have no identifiers. Inline segments (6.6.6, 6.6.7) have an index and no identifier.

-- 7.4.1, `modulenamesubsec`. It is omitted if the module has no identifier.
abbrev pub module_names : Label → List ℕ
module_names None = []
module_names (Some x) = section 0 (text_encoding x)

-- 7.4.1, `funcnamesubsec`.
abbrev pub function_names : List Field → List ℕ
function_names fs = map_subsection 1 (names_in space.Func (bindings_of fs))

-- A name map of the function that a field defines or imports, if it is one. An imported function has an index (2.5.1),
-- and an empty name map.
abbrev pub maps_of : (Function → List NameAssociation) → Field → List (List NameAssociation)
maps_of map_of (Func f) = map_of f ∷ []
maps_of map_of (Import m n l ns (FuncType u)) = [] ∷ []
maps_of map_of f = []

abbrev pub local_map : Function → List NameAssociation
local_map f = f.local_names

abbrev pub label_map : Function → List NameAssociation
label_map f = f.label_names

-- 7.4.1, `localnamesubsec`: the names of the parameters and locals of each function.
abbrev pub local_names : List Field → List ℕ
local_names fs = indirect_subsection 2 (flat_map (maps_of local_map) fs)

-- Extended-name-section proposal, label names: the names of the labels of each function.
abbrev pub label_names : List Field → List ℕ
label_names fs = indirect_subsection 3 (flat_map (maps_of label_map) fs)

-- Extended-name-section proposal, type names.
abbrev pub type_names : List Field → List ℕ
type_names fs = map_subsection 4 (map definition_name (definitions_of fs))

-- Extended-name-section proposal, table names.
abbrev pub table_names : List Field → List ℕ
table_names fs = map_subsection 5 (names_in space.Table (bindings_of fs))

-- Extended-name-section proposal, memory names.
abbrev pub memory_names : List Field → List ℕ
memory_names fs = map_subsection 6 (names_in space.Mem (bindings_of fs))

-- Extended-name-section proposal, global names.
abbrev pub global_names : List Field → List ℕ
global_names fs = map_subsection 7 (names_in space.Global (bindings_of fs))

-- Extended-name-section proposal, element segment names.
abbrev pub element_names : List Field → List ℕ
element_names fs = map_subsection 8 (elems_of fs)

-- Extended-name-section proposal, data segment names.
abbrev pub data_names : List Field → List ℕ
data_names fs = map_subsection 9 (datas_of fs)

-- The subsections 4 to 9.
abbrev pub extended_names : List Field → List ℕ
extended_names fs = ((((type_names fs ++ table_names fs) ++ memory_names fs) ++ global_names fs) ++ element_names fs) ++ data_names fs

-- 7.4.1, `namedata`, after the name of the section, with the subsections of the proposal.
abbrev pub name_data : Label → List Field → List ℕ
name_data l fs = (((module_names l ++ function_names fs) ++ local_names fs) ++ label_names fs) ++ extended_names fs

-- 7.4.1, `namesec`, with these subsections: a custom section (5.5.3) whose name is `name`. It is omitted if it has no
-- subsections.
abbrev pub section_of : List ℕ → List ℕ
section_of [] = []
section_of (b ∷ bs) = section 0 (text_encoding (codes "name") ++ b ∷ bs)

-- 7.4.1, `namesec`: the name section of a module with this identifier and these fields. It comes after the
-- data section, as 7.4.1 requires (`named_bytes` of `wat_modules`); only custom sections `(after last)` follow it.
unfoldable pub name_section : Label → List Field → List ℕ
name_section l fs = section_of (name_data l fs)
