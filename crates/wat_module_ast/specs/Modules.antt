-- WebAssembly 2.0, 6.6.13 (text format, modules), over terminals.
use Rattle.std.specs.Prelude.{◌≡◌, ◌≤◌, ℕ, true, List, [], ◌∷◌, length, codes}
use Rattle.wat_module_ast.specs.Grammar.{Context, label_of}
use Rattle.wat_module_tokens.specs.Terminals.{Terminal, Open, Close, Word}
use Rattle.wat_module_ast.specs.Types.{Types}
use Rattle.wat_module_ast.specs.Fields.{Field, FieldIs, Many, all_distinct, bindings_of, context_of, datas_of, definitions_of, elems_of, imports_first, starts_of, types_in}
use Rattle.wat_module_ast.specs.ImplicitTypes.{types_of}

-- 6.1.3, 6.6.3: the types of a module with these fields, including those that type uses add.
abbrev pub own_types : List Field → Types
own_types fs = types_in (definitions_of fs) (types_of fs)

-- 6.1.3, context: the context that the fields of a module define for themselves.
abbrev pub own_context : List Field → Context
own_context fs = context_of (own_types fs) (bindings_of fs) (elems_of fs) (datas_of fs)

-- 6.6.13, modules: `FieldsAre ts fs r`: the tokens `ts`, up to the rest `r`, match the grammar of
-- the fields `fs` in their own context. Identifiers are distinct, imports precede all
-- definitions, and there is at most one start function.
pub record FieldsAre (ts : List Terminal) (fs : List Field) (r : List Terminal) : Type 0 where
  pub spelled : Many (FieldIs (own_types fs) (own_context fs)) ts fs r
  pub distinct : all_distinct (own_types fs) (own_context fs) ≡ true
  pub imports : imports_first fs ≡ true
  pub starts : length (starts_of fs) ≤ 1

-- 6.6.13, `module`: `(module id? field*)`, or `field*` alone, which may be empty; nothing follows it. `Module ts fs`:
-- the tokens `ts` match the grammar of a module with the fields `fs`.
pub data Module : List Terminal → List Field → Type 0 where
  by_module : {w : List ℕ} {ts : List Terminal} {fs : List Field} → w ≡ codes "module" → FieldsAre (label_of ts).1 fs (Close ∷ []) → Module (Open ∷ Word w ∷ ts) fs
  by_fields : {ts : List Terminal} {fs : List Field} → FieldsAre ts fs [] → Module ts fs
