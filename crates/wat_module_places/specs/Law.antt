-- The theorems about positions.
use Rattle.std.specs.Prelude.{◌≡◌, ◌++◌, ◌∷◌, ℕ, Bool, List, [], Some, map}
use Rattle.std.specs.List.{All}
use Rattle.wat_module_ast.specs.declared.instruction.Instruction.{Instruction}
use Rattle.wat_module_ast.specs.Fields.{Field}
use Rattle.wat_module_ast.specs.Grammar.{Context, Instructions}
use Rattle.wat_module_ast.specs.Modules.{Module, own_context}
use Rattle.wat_module_places.specs.Places.{Placed, PlacedField, keyword_in, place_in, placed, placed_module}
use Rattle.wat_module_places.specs.Positions.{IsPlaced, IsPosition}
use Rattle.wat_module_places.specs.Walk.{Group, walk}
use Rattle.wat_module_tokens.specs.Terminals.{Terminal, Label}

abbrev pub instruction_of : Placed → Instruction
instruction_of p = p.instruction

abbrev pub place_of : Placed → List Terminal
place_of p = p.place

abbrev pub fields_of : PlacedField → List Field
fields_of f = f.field

-- Theorem: the instructions of an expression that have positions are those that the grammar derives, in the same order.
abbrev pub InstructionsArePlaced : Type 0
InstructionsArePlaced = (context : Context) (ls : List Label) (folded : Bool) (ts : List Terminal) (is : List Instruction) (r : List Terminal) (d : Instructions context ls folded ts is r) → map instruction_of (placed d) ≡ is

-- A list of one field.
abbrev pub alone : Field → List Field
alone f = f ∷ []

-- Theorem: the fields that have positions are those of the module, one after another: entry `k` is that of field `k` alone.
abbrev pub FieldsArePlaced : Type 0
FieldsArePlaced = (ts : List Terminal) (fs : List Field) (m : Module ts fs) → map fields_of (placed_module m) ≡ map alone fs

-- Theorem: the positions in a module are positions in its tokens. That of a field is its keyword, after its `(`. That of an
-- instruction is in its field, at tokens with which such an instruction begins, for some labels and some local variables. This
-- is a check of the positions that `Places` defines, not their definition: it does not say that they are distinct.
abbrev pub PositionsAreTokens : Type 0
PositionsAreTokens = (ts : List Terminal) (fs : List Field) (m : Module ts fs) → All (IsPlaced (own_context fs) ts) (placed_module m)

-- Theorem: what `place_in_module` returns for a module is a position in its tokens.
abbrev pub PositionsAreInText : Type 0
PositionsAreInText = (ts : List Terminal) (fs : List Field) (m : Module ts fs) (k i : ℕ) (p : List Terminal) → place_in m k i ≡ Some p → IsPosition ts p

-- Theorem: the tokens of a module have one position for each field and for each instruction, whatever the derivation. For an
-- instruction without a position, `place_in` has that of the keyword of the field.
pub record PositionsAreUnique : Type 0 where
  pub keywords : (ts : List Terminal) (fs gs : List Field) (m : Module ts fs) (n : Module ts gs) (k : ℕ) → keyword_in m k ≡ keyword_in n k
  pub places : (ts : List Terminal) (fs gs : List Field) (m : Module ts fs) (n : Module ts gs) (k i : ℕ) → place_in m k i ≡ place_in n k i

-- Theorem: the code finds the positions of the instructions that the grammar derives, before those of the tokens after them.
abbrev pub WalkIsGrammar : Type 0
WalkIsGrammar = (context : Context) (ls : List Label) (folded : Bool) (ts : List Terminal) (is : List Instruction) (r : List Terminal) (d : Instructions context ls folded ts is r) (gs : List Group) → walk gs ts ≡ map place_of (placed d) ++ walk gs r
