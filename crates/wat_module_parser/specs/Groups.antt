-- What a call that parses value types ensures of the variables that it appends. Not part of the standard.
use Rattle.std.specs.Prelude.{◌≡◌, ◌++◌, List, [], ◌∷◌, map, Some, None, Ok}
use Rattle.wat_module_ast.specs.declared.instruction.ValueType.{ValueType}
use Rattle.wat_module_ast.specs.Fields.{Variable, unnamed}
use Rattle.wat_module_parser.specs.Reading.{all, value_item}
use Rattle.wat_module_tokens.specs.Terminals.{Terminal}

-- `NoneListed ts before after`: no value type is next, and `after` is `before`.
abbrev pub NoneListed : List Terminal → List Variable → List Variable → Type 0
NoneListed ts before after = (value_item ts ≡ None) × (after ≡ before)

-- `IsListed ts before after left`: a value type is parsed, up to `left`, and a variable of this type, without an
-- identifier, is appended to `before`, which gives `after`.
pub record IsListed (ts : List Terminal) (before after : List Variable) (left : List Terminal) : Type 0 where
  pub type : ValueType
  pub is : value_item ts ≡ Some (Ok (type ∷ [], left))
  pub follow : after ≡ before ++ unnamed type ∷ []

-- `AreListed ts before after left`: value types are parsed, up to `left`, and variables of these types, without
-- identifiers, are appended to `before`, which gives `after`.
pub record AreListed (ts : List Terminal) (before after : List Variable) (left : List Terminal) : Type 0 where
  pub types : List ValueType
  pub is : all value_item ts ≡ Ok (types, left)
  pub follow : after ≡ before ++ map unnamed types
