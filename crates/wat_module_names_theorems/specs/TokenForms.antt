-- WebAssembly 3.0, appendix, name annotations; 2.0, 6.5 (instructions) and 6.6.13 (modules): the items of the tokens that the
-- grammar derives have the form of a module (`Placed` of `wat_module_annotations`).
use Rattle.std.specs.Prelude.{◌≡◌, ℕ, true, false, List, [], ◌∷◌, Ok}
use Rattle.std.specs.List.{AllZip}
use Rattle.wat_module_ast.specs.declared.instruction.Instruction.{Instruction}
use Rattle.wat_module_ast.specs.Fields.{Field}
use Rattle.wat_module_ast.specs.Grammar.{Body, Context}
use Rattle.wat_module_ast.specs.Modules.{Module}
use Rattle.wat_module_annotations.specs.Items as item
use Rattle.wat_module_annotations.specs.Items.{Item}
use Rattle.wat_module_annotations.specs.Names.{ModuleNames, names_in}
use Rattle.wat_module_annotations.specs.Placed.{InstructionsAre, ModuleIs, without_strays}
use Rattle.wat_module_names_theorems.specs.TokenItems.{Next, items}
use Rattle.wat_module_tokens.specs.Terminals.{Terminal, Label}

-- Theorem: the items of a body are instructions, up to its `)`.
abbrev pub BodiesHaveForm : Type 0
BodiesHaveForm = (context : Context) (ts : List Terminal) (is : List Instruction) (r : List Terminal) → Body context ts is r → (ls : List Label) × InstructionsAre false (items (Next false) ts) ls (item.Close ∷ items (Next false) r)

-- Theorem: the items of a module, which have no annotations, are a module.
abbrev pub ModulesHaveForm : Type 0
ModulesHaveForm = (ts : List Terminal) (fs : List Field) → Module ts fs → (ns : ModuleNames) × ModuleIs false (items (Next false) ts) ns

-- `IsSame i j`: `j` is the item `i`, possibly with an annotation.
abbrev pub IsSame : Item → Item → Type 0
IsSame item.Open item.Open = Unit {0}
IsSame item.Close item.Close = Unit {0}
IsSame item.Header item.Header = Unit {0}
IsSame (item.Module o) (item.Module p) = Unit {0}
IsSame (item.Field o) (item.Field p) = Unit {0}
IsSame (item.Import o) (item.Import p) = Unit {0}
IsSame (item.Variables b (l ∷ [])) (item.Variable c p) = b ≡ c
IsSame (item.Variables b ls) (item.Variables c ms) = (b ≡ c) × (ls ≡ ms)
IsSame (item.Block o) (item.Block p) = Unit {0}
IsSame (item.FoldedBlock o) (item.FoldedBlock p) = Unit {0}
IsSame (item.FoldedIf o) (item.FoldedIf p) = Unit {0}
IsSame item.Then item.Then = Unit {0}
IsSame item.Other item.Other = Unit {0}
IsSame i j = ⊥

-- `HasItems ts is`: without the annotations that are not at an occurrence, the items `is` are those of the tokens `ts`, each
-- possibly with an annotation.
abbrev pub HasItems : List Terminal → List Item → Type 0
HasItems ts is = AllZip IsSame (items (Next false) ts) (without_strays is)

-- Theorem: items that are those of the tokens of a module, each possibly with an annotation, have the form of a module (`form`).
-- If `names_in` computes names for them, their annotations give these names, and none is misplaced (`placed`).
pub record AnnotatedModulesHaveForm : Type 0 where
  pub form : (ts : List Terminal) (fs : List Field) (is : List Item) → Module ts fs → HasItems ts is → (ns : ModuleNames) × ModuleIs true (without_strays is) ns
  pub placed : (text : List ℕ) (ts : List Terminal) (fs : List Field) (is : List Item) (ns : ModuleNames) → Module ts fs → HasItems ts is → names_in text is ≡ Ok ns → ModuleIs false is ns
