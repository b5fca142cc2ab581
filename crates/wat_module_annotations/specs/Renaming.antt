-- WebAssembly 3.0, appendix, name annotations: an annotation takes precedence over the identifier as the name of an item. The
-- fields of a module with the names of annotations instead of identifiers. References are indices, so they stay.
use Rattle.std.specs.Prelude.{◌≡◌, ℕ, suc, ◌==◌, Bool, true, false, if◌then◌else◌, List, [], ◌∷◌, ◌++◌, length, slice_get, Option, Some, None, Result, Ok}
use Rattle.wat_lex.specs.errors.Errors.{Report}
use Rattle.wat_lex.specs.tokens.Setting.{Setting}
use Rattle.wat_lexer_parser.specs.places.Source.{IsRead, Source}
use Rattle.wat_lexer_parser.specs.readings.Readings.{whole}
use Rattle.wat_module_tokens.specs.Terminals.{Label}
use Rattle.wat_module_ast.specs.Types.{FunctionType, Indexed, Inline, TypeUse}
use Rattle.wat_module_ast.specs.Fields.{Data, Elem, ExternType, Field, Func, FuncType, Function, Global, Import, Memory, Table, TypeField}
use Rattle.wat_module_ast.specs.ImplicitTypes.{types_of}
use Rattle.wat_module_ast.specs.Names.{NameAssociation, association}
use Rattle.wat_module_custom.specs.Search.{may_have}
use Rattle.wat_module_custom.specs.declared.search.Sought.TheVariants as sought
use Rattle.wat_module_annotations.specs.Items.{all_items}
use Rattle.wat_module_annotations.specs.Names.{FieldNames, ModuleNames, names_of_items, no_names}

-- The first name, or, if there is none, the second.
abbrev pub named : Label → Label → Label
named (Some x) l = Some x
named None l = l

-- 7.4.1, name maps. The entries of a name map with the index `n` at its start: one or none, since indices increase.
abbrev pub here : ℕ → List NameAssociation → List NameAssociation
here n [] = []
here n (a ∷ rest) = if a.index == n then a ∷ [] else []

-- The entries after these.
abbrev pub later : ℕ → List NameAssociation → List NameAssociation
later n [] = []
later n (a ∷ rest) = if a.index == n then rest else a ∷ rest

-- The entry with this name, or, if there is none, these entries.
abbrev pub entry : ℕ → Label → List NameAssociation → List NameAssociation
entry n (Some x) old = association n x ∷ []
entry n None old = old

-- A name map of items whose indices begin at `n`, with these names, each instead of the entry with its index.
unfoldable pub with_names : ℕ → List Label → List NameAssociation → List NameAssociation
with_names n [] old = old
with_names n (l ∷ ls) old = entry n l (here n old) ++ with_names (suc n) ls (later n old)

abbrev pub params_by : Option FunctionType → ℕ
params_by (Some t) = length t.params
params_by None = 0

-- 6.6.3: the number of parameters of a type use, where the module has these types.
abbrev pub params_of : List FunctionType → TypeUse → ℕ
params_of types (Indexed i) = params_by (slice_get types i)
params_of types (Inline t) = length t.params

-- 6.6.5: the index of the first parameter or local that a function declares. If it declares no parameters, those of its type
-- come before its locals.
abbrev pub first_variable : List FunctionType → FieldNames → TypeUse → ℕ
first_variable types ns u = if ns.has_params then 0 else params_of types u

-- A function with these names.
abbrev pub renamed_function : List FunctionType → FieldNames → Function → Function
renamed_function types ns f = record f {
  name = named ns.item f.name;
  local_names = with_names (first_variable types ns f.uses) ns.variables f.local_names;
  label_names = with_names 0 ns.labels f.label_names;
}

-- An imported item keeps its identifier, if it is not a function: so does the crate `wat`.
abbrev pub renamed_import : Label → Label → ExternType → Label
renamed_import x l (FuncType u) = named x l
renamed_import x l t = l

-- A field with these names. The parameters of a type or of an imported function have no names in a binary.
abbrev pub renamed_field : List FunctionType → FieldNames → Field → Field
renamed_field types ns (TypeField l t) = TypeField (named ns.item l) t
renamed_field types ns (Import m n l es t) = Import m n (renamed_import ns.item l t) es t
renamed_field types ns (Func f) = Func (renamed_function types ns f)
renamed_field types ns (Table l es t elements) = Table (named ns.item l) es t elements
renamed_field types ns (Memory l es limits bytes) = Memory (named ns.item l) es limits bytes
renamed_field types ns (Global l es t is) = Global (named ns.item l) es t is
renamed_field types ns (Data l target bytes) = Data (named ns.item l) target bytes
renamed_field types ns (Elem l mode t elements) = Elem (named ns.item l) mode t elements
renamed_field types ns f = f

-- A field with the names at an index, if there are any.
abbrev pub renamed_with : List FunctionType → Option FieldNames → Field → Field
renamed_with types (Some ns) f = renamed_field types ns f
renamed_with types None f = f

-- The fields of a module with these names, each with its own. A module has as many fields as `fields_from` finds.
abbrev pub renamed_by : List FunctionType → List FieldNames → List Field → List Field
renamed_by types [] fs = fs
renamed_by types (ns ∷ names) [] = []
renamed_by types (ns ∷ names) (f ∷ fs) = renamed_field types ns f ∷ renamed_by types names fs

-- The fields of a module with these names.
unfoldable pub renamed : List FieldNames → List Field → List Field
renamed names fs = renamed_by (types_of fs) names fs

-- Returns `true` if an annotation of the name `name` may begin at a byte of the text. Otherwise the text has no names, as
-- `names_of` defines.
abbrev pub may_have_names : List ℕ → Bool
may_have_names text = may_have sought.Names text

-- The names that annotations give in a text that is a module, or the first error in the contents of an annotation, or, if
-- there is none, that of the first misplaced one.
unfoldable pub names_of : Source → Result ModuleNames Report
names_of s = if may_have_names s.setting.text then names_of_items s.setting.text (whole all_items s) else Ok no_names

-- A text with the lexer settings of the compiler of modules.
abbrev pub plain : List ℕ → Setting
plain text = record { text = text; flags = record { allow = true; strict = true } }

-- `HasNames text r`: `r` are the names that annotations give in the text, or the error.
pub record HasNames (text : List ℕ) (r : Result ModuleNames Report) : Type 0 where
  pub source : Source
  pub setting : source.setting ≡ plain text
  pub track : source.track ≡ false
  pub read : IsRead source
  pub are : r ≡ names_of source
