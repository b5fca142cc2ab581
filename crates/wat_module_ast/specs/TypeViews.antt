-- The function types and type uses of the code, as definitions.
use Rattle.wat_module_ast.specs.declared.types.FunctionType as declared_type
use Rattle.wat_module_ast.specs.declared.types.TypeUse as declared_use
use Rattle.wat_module_ast.specs.declared.types.TypeUse.TheVariants as uses
use Rattle.wat_module_ast.specs.Types.{FunctionType, TypeUse, Indexed, Inline, from_to}

-- A function type of the code.
abbrev pub type_of : declared_type.FunctionType → FunctionType
type_of t = from_to t.params.items t.results.items

-- A type use of the code.
abbrev pub use_of : declared_use.TypeUse → TypeUse
use_of (uses.Index i) = Indexed i
use_of (uses.Inline t) = Inline (type_of t)
