-- The fields of the code, as definitions.
use denote.Ref.{Bor}
use Rattle.std.specs.Prelude.{ℕ, List, map, replicate, Option, Some, None, Vec}
use Rattle.wat_module_tokens.specs.Terminals.{label}
use Rattle.wat_module_ast.specs.TypeViews.{type_of, use_of}
use Rattle.wat_module_ast.specs.declared.fields.Definition as declared_definition
use Rattle.wat_module_ast.specs.declared.fields.ExternType as declared_extern
use Rattle.wat_module_ast.specs.declared.fields.ExternType.TheVariants as externs
use Rattle.wat_module_ast.specs.declared.fields.Function as declared_function
use Rattle.wat_module_ast.specs.declared.fields.Locals as declared_locals
use Rattle.wat_module_ast.specs.declared.fields.NameAssociation as declared_association
use Rattle.wat_module_ast.specs.declared.fields.Field as declared_field
use Rattle.wat_module_ast.specs.declared.fields.Field.TheVariants as fields
use Rattle.wat_module_ast.specs.declared.fields.Target as declared_target
use Rattle.wat_module_ast.specs.declared.fields.Elements as declared_elements
use Rattle.wat_module_ast.specs.declared.fields.Elements.TheVariants as elements
use Rattle.wat_module_ast.specs.declared.fields.ElemMode as declared_mode
use Rattle.wat_module_ast.specs.declared.fields.ElemMode.TheVariants as modes
use Rattle.wat_module_ast.specs.declared.instruction.Instruction.{Instruction}
use Rattle.wat_module_ast.specs.declared.instruction.ValueType.{ValueType}
use Rattle.std.specs.List.{flat_map}
use Rattle.wat_module_ast.specs.Fields.{ExternType, FuncType, OfTable, OfMemory, OfGlobal, Field, TypeField, Import, Func, Table, Memory, Global, Start, Definition, Function, definition, Data, Elem, ElemMode, Passive, Active, Declarative, Elements, Target, ref_func, target}
use Rattle.wat_module_ast.specs.Fields as field
use Rattle.wat_module_ast.specs.Names.{NameAssociation, association}

-- The bytes of a string.
abbrev pub text_of : Bor (List ℕ) → List ℕ
text_of n = n.now

-- The bytes of strings, one after another.
abbrev pub together : List (Bor (List ℕ)) → List ℕ
together strings = flat_map text_of strings

-- 5.5.13, `locals`: a run of `count` consecutive locals of one type.
abbrev pub local_types : declared_locals.Locals → List ValueType
local_types l = replicate l.count l.of

-- 7.4.1, `nameassoc`: an entry of a name map of the code.
abbrev pub association_of : declared_association.NameAssociation → NameAssociation
association_of a = association a.index a.name.now

-- A function of the code.
abbrev pub function_of : declared_function.Function → Function
function_of f = record {
  name = label f.name;
  exports = map text_of f.exports.items;
  uses = use_of f.uses;
  locals = flat_map local_types f.locals.items;
  body = f.body.items;
  local_names = map association_of f.local_names.items;
  label_names = map association_of f.label_names.items;
}

-- A type definition of the code.
abbrev pub definition_of : declared_definition.Definition → Definition
definition_of d = definition (label d.name) (type_of d.of)

-- An import description of the code.
abbrev pub extern_of : declared_extern.ExternType → ExternType
extern_of (externs.Func u) = FuncType (use_of u)
extern_of (externs.Table t) = OfTable t
extern_of (externs.Memory l) = OfMemory l
extern_of (externs.Global t) = OfGlobal t

-- The bytes of the inline data of a memory, if it has any.
abbrev pub bytes_of : {G : Type 0} → Option (Vec (Bor (List ℕ)) G) → Option (List ℕ)
bytes_of (Some v) = Some (together v.items)
bytes_of None = None

-- The target of a data segment, if it is active.
abbrev pub target_of : Option declared_target.Target → Option Target
target_of (Some t) = Some (target t.index t.offset.items)
target_of None = None

-- The instructions of an element.
abbrev pub expression_of : {G : Type 0} → Vec Instruction G → List Instruction
expression_of v = v.items

-- 6.6.11: the instructions of each element; those of an index `x` are `ref.func x`.
abbrev pub expressions_of : declared_elements.Elements → Elements
expressions_of (elements.Functions v) = map ref_func v.items
expressions_of (elements.Expressions v) = map expression_of v.items

-- The inline elements of a table, if it has any.
abbrev pub inline_elements : Option declared_elements.Elements → Option Elements
inline_elements (Some es) = Some (expressions_of es)
inline_elements None = None

-- The mode of an element segment of the code.
abbrev pub mode_of : declared_mode.ElemMode → ElemMode
mode_of modes.Passive = Passive
mode_of (modes.Active t) = Active (target t.index t.offset.items)
mode_of modes.Declarative = Declarative

-- A field of the code.
abbrev pub field_of : declared_field.Field → Field
field_of (fields.Type d) = TypeField (label d.name) (type_of d.of)
field_of (fields.Import i) = Import i.from.now i.item.now (label i.name) (map text_of i.exports.items) (extern_of i.what)
field_of (fields.Func f) = Func (function_of f)
field_of (fields.Table t) = Table (label t.name) (map text_of t.exports.items) t.of (inline_elements t.elements)
field_of (fields.Memory m) = Memory (label m.name) (map text_of m.exports.items) m.limits (bytes_of m.data)
field_of (fields.Global g) = Global (label g.name) (map text_of g.exports.items) g.of g.first.items
field_of (fields.Export e) = field.Export e.name.now e.space e.index
field_of (fields.Start i) = Start i
field_of (fields.Data d) = Data (label d.name) (target_of d.target) (together d.strings.items)
field_of (fields.Elem e) = Elem (label e.name) (mode_of e.mode) e.of (expressions_of e.elements)

-- The fields of the code, in their order.
abbrev pub fields_of : List declared_field.Field → List Field
fields_of fs = map field_of fs
