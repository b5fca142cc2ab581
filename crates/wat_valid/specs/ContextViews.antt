-- The context of the code, as the context of the standard (3.1.1).
use Rattle.std.specs.Prelude.{◌≡◌, ◌<◌, ℕ, length, take, suc, Bool, true, false, List, [], ◌∷◌, map, None, Some, slice_set}
use Rattle.wat_module_ast.specs.declared.types.FunctionType as declared_type
use Rattle.wat_module_ast.specs.Fields.{Function}
use Rattle.wat_module_ast.specs.TypeViews.{type_of}
use Rattle.wat_module_ast.specs.Types.{FunctionType, from_to}
use Rattle.wat_valid.specs.Contexts.{Context, use_type}
use Rattle.wat_valid.specs.declared.body.BodyContext as declared_body
use Rattle.wat_valid.specs.declared.context.Context as declared_context
use Rattle.wat_valid.specs.declared.context.ModuleContext as declared_module
use Rattle.wat_valid.specs.Algorithm.{has_index}
use Rattle.wat_valid.specs.Modules.{function_context}
use denote.Ref.{Bor}

-- A function type of the code, by a reference.
abbrev pub referred_type : Bor declared_type.FunctionType → FunctionType
referred_type t = type_of t.now

-- The indices at which a list is true, in ascending order; the list begins at the index `n`.
abbrev pub true_indices : ℕ → List Bool → List ℕ
true_indices n [] = []
true_indices n (true ∷ bs) = n ∷ true_indices (suc n) bs
true_indices n (false ∷ bs) = true_indices (suc n) bs

-- The list in which the elements at these indices are true as well. An index past the end changes nothing.
abbrev pub marked : List ℕ → List Bool → List Bool
marked [] bs = bs
marked (x ∷ xs) bs = marked xs (slice_set bs x true)

-- The context of the code. It has no locals and no result type.
abbrev pub context_of : declared_context.Context → Context
context_of c = record {
  types = map type_of c.types.now;
  funcs = map referred_type c.functions.now;
  tables = c.tables.now;
  mems = c.memories.now;
  globals = c.globals.now;
  elems = c.elements.now;
  datas = c.data_count;
  locals = [];
  returns = None;
  refs = true_indices 0 c.declared.now;
}

-- `Represents C D`: the contexts differ in the order of `refs` at most, or in indices past the last function.
pub record Represents (C D : Context) : Type 0 where
  pub items : C ≡ record D { refs = C.refs }
  pub refs : (x : ℕ) → x < length D.funcs → has_index x C.refs ≡ has_index x D.refs

-- 3.4.10: the context of a module, with all globals (`C`), and with the imported ones alone (`C'`).
abbrev pub full_context : declared_module.ModuleContext → Context
full_context m = record {
  types = map type_of m.types.now;
  funcs = map referred_type m.functions.items;
  tables = m.tables.items;
  mems = m.memories.items;
  globals = m.globals.items;
  elems = m.elements.items;
  datas = m.data_count;
  locals = [];
  returns = None;
  refs = true_indices 0 m.declared.items;
}

abbrev pub initial_context : declared_module.ModuleContext → Context
initial_context m = record (full_context m) { globals = take m.imported_count m.globals.items }

-- 3.4.1: the context of the body of a function of the code.
abbrev pub body_context : declared_body.BodyContext → Context
body_context c = function_context (context_of c.module) (from_to c.params.now c.results.now) c.locals

-- 3.4.1: the code's context of the body of a function is that of its type, and has its results.
pub record BodyOf (C : Context) (f : Function) (c : declared_body.BodyContext) : Type 0 where
  pub type : FunctionType
  pub uses : use_type C.types f.uses ≡ Some type
  pub context : body_context c ≡ function_context C type f.locals
  pub results : c.results.now ≡ type.results
