-- WebAssembly 2.0, 6.4.5 (function types): the types of the parameters and of the results, in source order.
use Rattle.std.specs.Prelude.{List, map}
use Rattle.wat_types.specs.declared.types.FuncType.{FuncType}
use Rattle.wat_types.specs.declared.types.ValType.{ValType}

pub record Signature : Type 0 where
  pub params : List ValType
  pub results : List ValType

-- The contents of a `FuncType`, as callers see it.
abbrev pub signature : FuncType → Signature
signature f = record { params = f.params.items; results = f.results.items }

abbrev pub signatures : List FuncType → List Signature
signatures fs = map signature fs
