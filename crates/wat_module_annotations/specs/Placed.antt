-- WebAssembly 3.0, appendix, name annotations; 2.0, 6.6.13 (modules), 6.6.2 to 6.6.12 (fields), 6.4.5 and 6.6.5 (parameters and
-- locals), 6.5.2 and 6.5.10 (labels): where in a module an annotation may be, and what it names, by a rule for each kind of
-- occurrence. In `Rule lax is .. r`, the items `is` of a text (`Items`), up to the rest `r`, match the rule. If `lax` is true, an
-- annotation may also be at a reference or in a type use of an instruction, and names nothing there: items that match these
-- rules have the form of a module, but annotations may be misplaced. `names_in` of `Names` computes the names.
use Rattle.std.specs.Prelude.{◌≡◌, ℕ, Bool, true, false, not, ◌&&◌, ◌||◌, is_some, List, [], ◌∷◌, ◌++◌, None, Ok}
use Rattle.wat_module_tokens.specs.Terminals.{Label}
use Rattle.wat_module_annotations.specs.Items.{Block, Close, Field, FoldedBlock, FoldedIf, Header, Import, Item, Module, Occurrence, Open, Other, Stray, Then, Variable, Variables}
use Rattle.wat_module_annotations.specs.Names.{FieldNames, ModuleNames, declares, module_names, names_in}

-- Returns `true` if an item opens a group in a field that is not a binding occurrence. It has no annotation.
abbrev pub opens : Bool → Item → Bool
opens lax Open = true
opens lax Header = true
opens lax (Field o) = lax || not (is_some o.name)
opens lax i = false

-- 6.5: `InstructionsAre lax is ls r`: instructions, whose labels have the names `ls`, with an entry for each label, also without
-- an annotation. The labels are in the order of the binary format (5.4.1), which is that of their indices.
pub data InstructionsAre (lax : Bool) : List Item → List Label → List Item → Type 0 where
  -- No instruction.
  by_no_instruction : {is : List Item} → InstructionsAre lax is [] is
  -- A keyword or another token, and then instructions.
  by_token : {is r : List Item} {ls : List Label} → InstructionsAre lax is ls r → InstructionsAre lax (Other ∷ is) ls r
  -- 6.6.3: the parameters of a type use of an instruction, which have no names.
  by_params : {b : Bool} {ns ls : List Label} {is r : List Item} → InstructionsAre lax is ls r → InstructionsAre lax (Variables b ns ∷ is) ls r
  -- If `lax` is true: such a parameter with an annotation.
  by_named_param : {b : Bool} {o : Occurrence} {ls : List Label} {is r : List Item} → lax ≡ true → InstructionsAre lax is ls r → InstructionsAre lax (Variable b o ∷ is) ls r
  -- 6.5.10, 6.6.3: a group without an annotation: a folded instruction, `(else ..)`, or another part of a type use.
  by_group : {i : Item} {is us r : List Item} {ls ms : List Label} → opens lax i ≡ true → InstructionsAre lax is ls (Close ∷ us) → InstructionsAre lax us ms r → InstructionsAre lax (i ∷ is) (ls ++ ms) r
  -- 6.5.2: `block label`, `loop label` and `if label`: the annotation names the label, which precedes those inside.
  by_block : {o : Occurrence} {is r : List Item} {ls : List Label} → InstructionsAre lax is ls r → InstructionsAre lax (Block o ∷ is) (o.name ∷ ls) r
  -- 6.5.10: `(block label ..)` and `(loop label ..)`, likewise.
  by_folded_block : {o : Occurrence} {is us r : List Item} {ls ms : List Label} → InstructionsAre lax is ls (Close ∷ us) → InstructionsAre lax us ms r → InstructionsAre lax (FoldedBlock o ∷ is) (o.name ∷ (ls ++ ms)) r
  -- 6.5.10: `(if label foldedinstr* (then ..) ..)`: the labels of its condition, its own, which the annotation names, those of
  -- `(then ..)`, and those of what follows in its group.
  by_folded_if : {o : Occurrence} {is ts es us r : List Item} {cs ls ks ms : List Label}
      → InstructionsAre lax is cs (Then ∷ ts) → InstructionsAre lax ts ls (Close ∷ es) → InstructionsAre lax es ks (Close ∷ us) → InstructionsAre lax us ms r
      → InstructionsAre lax (FoldedIf o ∷ is) (cs ++ (o.name ∷ (ls ++ (ks ++ ms)))) r

-- Returns `true` if an item opens a group of the header of a field, or, if `inner` is true, a group in one of these.
abbrev pub opens_header : Bool → Bool → Item → Bool
opens_header lax inner Open = inner
opens_header lax inner i = opens lax i

-- 6.6.5, `export* import? typeuse local*`: `HeaderIs lax inner is has_params vs r`: the header of a field, or, if `inner` is true,
-- the contents of a group in it, as 6.6.2, `(func param* result*)`. It declares parameters and locals with the names `vs`, in the
-- order of their indices, and with an entry for each; `has_params` is true if one of them is a parameter.
pub data HeaderIs (lax : Bool) : Bool → List Item → Bool → List Label → List Item → Type 0 where
  -- Nothing.
  by_no_header : {inner : Bool} {is : List Item} → HeaderIs lax inner is false [] is
  -- A token in a group.
  by_header_token : {is r : List Item} {p : Bool} {vs : List Label} → HeaderIs lax true is p vs r → HeaderIs lax true (Other ∷ is) p vs r
  -- `(export name)`, `(import name name)`, `(type index)` and `(result type*)`, without an annotation.
  by_header_group : {inner : Bool} {i : Item} {is us r : List Item} {p q : Bool} {vs ws : List Label} → opens_header lax inner i ≡ true → HeaderIs lax true is p vs (Close ∷ us) → HeaderIs lax inner us q ws r → HeaderIs lax inner (i ∷ is) (p || q) (vs ++ ws) r
  -- `(param type*)` and `(local type*)`: none of them has a name.
  by_variables : {inner b q : Bool} {is r : List Item} {vs ws : List Label} → HeaderIs lax inner is q ws r → HeaderIs lax inner (Variables b vs ∷ is) ((b && declares vs) || q) (vs ++ ws) r
  -- `(param id? type)` and `(local id? type)`: the annotation names the parameter or local.
  by_variable : {inner b q : Bool} {o : Occurrence} {is r : List Item} {ws : List Label} → HeaderIs lax inner is q ws r → HeaderIs lax inner (Variable b o ∷ is) (b || q) (o.name ∷ ws) r

-- Returns `true` if instructions begin with these items, or if the group around them ends. No header goes on with them.
abbrev pub ends_header : List Item → Bool
ends_header (Close ∷ is) = true
ends_header (Other ∷ is) = true
ends_header (Open ∷ is) = true
ends_header (Block o ∷ is) = true
ends_header (FoldedBlock o ∷ is) = true
ends_header (FoldedIf o ∷ is) = true
ends_header is = false

abbrev pub field_names : Label → Bool → List Label → List Label → FieldNames
field_names l p vs ls = record { item = l; has_params = p; variables = vs; labels = ls }

-- `FieldIs lax is ns r`: a field, and the names that its annotations give.
pub data FieldIs (lax : Bool) : List Item → FieldNames → List Item → Type 0 where
  -- 6.6.2, 6.6.5 to 6.6.8, 6.6.11, 6.6.12: `(func id? ..)`, and so for `type`, `table`, `memory`, `global`, `elem` and `data`: the
  -- annotation names the item. Names of variables and labels follow.
  by_item : {o : Occurrence} {is bs r : List Item} {p : Bool} {vs ls : List Label}
      → HeaderIs lax false is p vs bs → ends_header bs ≡ true → InstructionsAre lax bs ls (Close ∷ r) → FieldIs lax (Field o ∷ is) (field_names o.name p vs ls) r
  -- 6.6.4: `(import name name (func id? ..))`: the annotation names the function. Imports of tables, memories and globals have
  -- none.
  by_import : {o : Occurrence} {is r : List Item} {p : Bool} {vs : List Label} → HeaderIs lax true is p vs (Close ∷ Close ∷ r) → FieldIs lax (Import o ∷ is) (field_names o.name p vs []) r
  -- 6.6.9: `(export ..)`, without a name.
  by_export : {is r : List Item} {ls : List Label} → ends_header is ≡ true → InstructionsAre lax is ls (Close ∷ r) → FieldIs lax (Header ∷ is) (field_names None false [] ls) r
  -- 6.6.10: `(start ..)`, without a name.
  by_start : {is r : List Item} {ls : List Label} → ends_header is ≡ true → InstructionsAre lax is ls (Close ∷ r) → FieldIs lax (Open ∷ is) (field_names None false [] ls) r

-- `FieldsAre lax is ns r`: fields, one after another.
pub data FieldsAre (lax : Bool) : List Item → List FieldNames → List Item → Type 0 where
  by_no_field : {is : List Item} → FieldsAre lax is [] is
  by_field : {is us r : List Item} {f : FieldNames} {fs : List FieldNames} → FieldIs lax is f us → FieldsAre lax us fs r → FieldsAre lax is (f ∷ fs) r

-- 6.6.13: `ModuleIs lax is ns`: a module, and the names that its annotations give.
pub data ModuleIs (lax : Bool) : List Item → ModuleNames → Type 0 where
  -- `(module id? field*)`: the annotation names the module.
  by_module : {o : Occurrence} {is : List Item} {fs : List FieldNames} → FieldsAre lax is fs (Close ∷ []) → ModuleIs lax (Module o ∷ is) (module_names o.name fs)
  -- `field*`, which has no name.
  by_fields : {is : List Item} {fs : List FieldNames} → FieldsAre lax is fs [] → ModuleIs lax is (module_names None fs)

-- The items without misplaced annotations that are not at an occurrence.
abbrev pub without_strays : List Item → List Item
without_strays [] = []
without_strays (Stray at ∷ is) = without_strays is
without_strays (i ∷ is) = i ∷ without_strays is

-- Theorem: if the items of a text are a module whose annotations give these names, `names_in` computes them (`computed`). So
-- they are the only ones (`one`). If the items have the form of a module, and `names_in` computes names for them, their
-- annotations give these names, and none is misplaced (`placed`).
pub record NamesArePlaced : Type 0 where
  pub computed : (text : List ℕ) (is : List Item) (ns : ModuleNames) → ModuleIs false is ns → names_in text is ≡ Ok ns
  pub one : (is : List Item) (ns ms : ModuleNames) → ModuleIs false is ns → ModuleIs false is ms → ns ≡ ms
  pub placed : (text : List ℕ) (is : List Item) (ns ms : ModuleNames) → ModuleIs true (without_strays is) ms → names_in text is ≡ Ok ns → ModuleIs false is ns
