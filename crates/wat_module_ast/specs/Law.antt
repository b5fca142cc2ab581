-- The theorem about the types of a module.
use Rattle.std.specs.Prelude.{◌≡◌, List, Some, slice_get}
use Rattle.std.specs.List.{Contains, flat_map}
use Rattle.wat_module_ast.specs.Types.{FunctionType}
use Rattle.wat_module_ast.specs.Fields.{Field}
use Rattle.wat_module_ast.specs.ImplicitTypes.{type_index, types_of, field_types}

-- Theorem (6.6.3, 5.5.6): a type that an inline type use adds is among the types of its module, at its least index.
abbrev pub TypesAreThere : Type 0
TypesAreThere = (fs : List Field) (t : FunctionType) → Contains (flat_map field_types fs) t → slice_get (types_of fs) (type_index t (types_of fs)) ≡ Some t
