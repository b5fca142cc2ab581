-- WebAssembly 3.0, appendix, name annotations: the names that the annotations of some texts give. No program wrote these.
use Rattle.std.specs.Prelude.{ℕ, List, [], ◌∷◌, true, false, codes, Some, None}
use Rattle.wat_module_annotations.specs.Items.{Block, Close, Field, FoldedBlock, FoldedIf, Header, Import, Item, Module, Occurrence, Open, Other, Then, Variable, Variables}
use Rattle.wat_module_annotations.specs.Names.{ModuleNames, module_names}
use Rattle.wat_module_annotations.specs.Placed.{ModuleIs, field_names}

-- An occurrence without an annotation, and one with the annotation at an offset.
abbrev pub bare : Occurrence
bare = record { name = None; offset = 0 }

abbrev pub annotated : List ℕ → ℕ → Occurrence
annotated x at = record { name = Some x; offset = at }

-- `(module $m (@name "M") (func (@name "F") (param (@name "x") i32) (local i32 i64) block (@name "l") end))`
abbrev pub named_function : List Item
named_function =
    Module (annotated (codes "M") 11) ∷ Field (annotated (codes "F") 29) ∷ Variable true (annotated (codes "x") 48) ∷ Variables false (None ∷ None ∷ []) ∷ Block (annotated (codes "l") 87) ∷ Other ∷ Close ∷ Close ∷ []

abbrev pub names_of_function : ModuleNames
names_of_function = module_names (Some (codes "M")) (field_names (Some (codes "F")) true (Some (codes "x") ∷ None ∷ None ∷ []) (Some (codes "l") ∷ []) ∷ [])

-- `(func (if (@name "a") (block (@name "b") (result i32) (i32.const 0)) (then)))`: the condition is before the `if`.
abbrev pub block_in_condition : List Item
block_in_condition =
    Field bare ∷ FoldedIf (annotated (codes "a") 10) ∷ FoldedBlock (annotated (codes "b") 29) ∷ Header ∷ Other ∷ Close ∷ Open ∷ Other ∷ Close ∷ Close ∷ Then ∷ Close ∷ Close ∷ Close ∷ []

abbrev pub names_of_condition : ModuleNames
names_of_condition = module_names None (field_names None false [] (Some (codes "b") ∷ Some (codes "a") ∷ []) ∷ [])

-- `(import "" "" (func (@name "f") (param i32))) (start 0)`
abbrev pub named_import : List Item
named_import = Import (annotated (codes "f") 20) ∷ Variables true (None ∷ []) ∷ Close ∷ Close ∷ Open ∷ Other ∷ Close ∷ []

abbrev pub names_of_import : ModuleNames
names_of_import = module_names None (field_names (Some (codes "f")) true (None ∷ []) [] ∷ field_names None false [] [] ∷ [])

-- `(export "e" (func (@name "a") 0))`: an annotation of a reference.
abbrev pub named_reference : List Item
named_reference = Header ∷ Other ∷ Field (annotated (codes "a") 18) ∷ Other ∷ Close ∷ Close ∷ []

-- Theorem: the names of these texts; the last has none, as its annotation is misplaced.
pub record Examples : Type 0 where
  pub function : ModuleIs false named_function names_of_function
  pub condition : ModuleIs false block_in_condition names_of_condition
  pub imported : ModuleIs false named_import names_of_import
  pub reference : (ns : ModuleNames) → ModuleIs false named_reference ns → ⊥
