-- The remaining tokens, names, variables and type uses of the code, as definitions, and what a call that parses
-- an item ensures. Not part of the standard.
use Rattle.std.specs.Prelude.{◌≡◌, ◌++◌, Bool, List, [], map, Some, None, Ok, Err}
use Rattle.wat_module_ast.specs.declared.error.ParseFailure.{ParseFailure}
use Rattle.wat_module_ast.specs.declared.error.ParseFailure.TheVariants as refusal
use Rattle.wat_module_instructions.specs.Parts.{fault_of}
use Rattle.wat_module_ast.specs.Grammar.{Context}
use Rattle.wat_module_tokens.specs.Terminals.{Terminal, Label, label}
use Rattle.wat_module_ast.specs.Types.{Types}
use Rattle.wat_module_ast.specs.TypeViews.{type_of}
use Rattle.wat_module_parser.specs.declared.names.Binding as declared_binding
use Rattle.wat_module_parser.specs.declared.names.Names as declared_names
use Rattle.wat_module_parser.specs.declared.variables.ListedUse as declared_list
use Rattle.wat_module_parser.specs.declared.variables.NamedUse as declared_use
use Rattle.wat_module_parser.specs.declared.variables.NamedUse.TheVariants as uses
use Rattle.wat_module_parser.specs.declared.places.Sought.{Sought}
use Rattle.wat_module_parser.specs.declared.places.Sought.TheVariants as sought
use Rattle.wat_module_ast.specs.Fields.{Field, is_definition, is_import}
use Rattle.wat_module_parser.specs.Places.{is_start}
use Rattle.wat_module_ast.specs.Fields.{Binding, NamedUse, binding, named_use, unnamed}
use Rattle.wat_module_parser.specs.Reading.{Item}

-- An item of an index space of the code.
abbrev pub binding_of : declared_binding.Binding → Binding
binding_of h = binding h.space (label h.name)

-- A type use of the code that lists its parameters and results.
abbrev pub listed_use_of : declared_list.ListedUse → NamedUse
listed_use_of u = named_use u.index u.params u.results

-- A type use of the code, with the identifiers of its parameters.
abbrev pub use_of : declared_use.NamedUse → NamedUse
use_of (uses.Listed u) = listed_use_of u
use_of (uses.Indexed i t) = named_use (Some i) (map unnamed t.now.params.items) (map unnamed t.now.results.items)

-- The types that the code parses with.
abbrev pub types_of : declared_names.Names → Types
types_of n = record { names = n.type_names; types = map type_of n.types.items; are_known = n.are_types_known }

-- The context that the code parses with, without locals.
abbrev pub context_of : declared_names.Names → Context
context_of n = record {
  types = types_of n;
  locals = [];
  funcs = n.funcs;
  tables = n.tables;
  memories = n.memories;
  globals = n.globals;
  elems = n.elems;
  datas = n.datas;
}

-- The context `c` with these identifiers of locals.
abbrev pub with_names : List Label → Context → Context
with_names ls c = record { types = c.types; locals = ls; funcs = c.funcs; tables = c.tables; memories = c.memories; globals = c.globals; elems = c.elems; datas = c.datas }

-- `NoItem item before after`: no such item is next, and `after` is `before`.
abbrev pub NoItem : {V : Type 0} → Item V → List V → List V → Type 0
NoItem item before after = (item ≡ None) × (after ≡ before)

-- `IsItem item before after left`: an item is parsed, up to `left`, and its values are
-- appended to `before`, which gives `after`.
pub record IsItem {V : Type 0} (item : Item V) (before after : List V) (left : List Terminal) : Type 0 where
  pub values : List V
  pub is : item ≡ Some (Ok (values, left))
  pub follow : after ≡ before ++ values

-- `ItemFaults item e`: if `e` is a syntax error, the item fails with it; if `e` is
-- an allocation failure, nothing is ensured.
abbrev pub ItemFaults : {V : Type 0} → Item V → ParseFailure → Type 0
ItemFaults item (refusal.Text f) = item ≡ Some (Err (fault_of f))
ItemFaults item (refusal.Memory e) = Unit {0}

-- A property of fields.
abbrev pub property : Sought → Field → Bool
property sought.Definition = is_definition
property sought.Import = is_import
property sought.Start = is_start
