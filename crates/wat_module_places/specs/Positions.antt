-- WebAssembly 2.0, 6.5 (text format, instructions) and 6.6 (modules): the tokens at a position. `Places` says where the rules of
-- the grammar put the fields of a module and their instructions. Here is what the tokens from such a position on begin with.
use Rattle.std.specs.Prelude.{◌≡◌, ◌<◌, ◌⊎◌, ℕ, true, List, [], ◌∷◌, codes, drop, length, Some, None, Ok}
use Rattle.std.specs.List.{All}
use Rattle.wat_module_ast.specs.declared.instruction.Argument.{Argument}
use Rattle.wat_module_ast.specs.declared.instruction.Instruction.{Instruction}
use Rattle.wat_module_ast.specs.Fields.{Data, Elem, Export, Field, Func, Global, Import, Memory, Start, Table, TypeField, Variable, extern_space, space_of, with_locals}
use Rattle.wat_module_ast.specs.Grammar.{Context, block_type, end, instruction, is_else, is_end, label_of, otherwise, plain, structured}
use Rattle.wat_module_places.specs.Places.{Placed, PlacedField}
use Rattle.wat_module_tokens.specs.Terminals.{Terminal, Open, Close, Word, Label, past}

-- A position in the tokens `ts`: the tokens from one of them on.
abbrev pub IsPosition : List Terminal → List Terminal → Type 0
IsPosition ts p = (n : ℕ) × (n < length ts) × (p ≡ drop n ts)

-- 6.5: `BeginsWith context i ts`: in this context, the tokens `ts` begin with the instruction `i`.
pub data BeginsWith (context : Context) : Instruction → List Terminal → Type 0 where
  -- 6.5.2 to 6.5.9: a plain instruction, with its immediates, inside the labels `ls`. The tokens `us` follow it.
  by_plain : (ls : List Label) (us : List Terminal) {w : List ℕ} {ts : List Terminal} {i : Instruction} → structured w ≡ None → plain context ls (Word w ∷ ts) ≡ Ok (i, us) → BeginsWith context i (Word w ∷ ts)
  -- 6.5.2: `block`, `loop` or `if`, with its label and its block type. The tokens `us` follow them.
  by_block : (us : List Terminal) {w : List ℕ} {o : ℕ} {a : Argument} {ts : List Terminal} → structured w ≡ Some o → block_type context.types (label_of ts).1 ≡ Ok (a, us) → BeginsWith context (instruction o a) (Word w ∷ ts)
  -- 6.5.2: `else`.
  by_else : {w : List ℕ} {ts : List Terminal} → is_else w ≡ true → BeginsWith context otherwise (Word w ∷ ts)
  -- 6.5.2: `end`.
  by_end : {w : List ℕ} {ts : List Terminal} → is_end w ≡ true → BeginsWith context end (Word w ∷ ts)
  -- 6.5.10: the `)` of a folded instruction, which is its `end`.
  by_close : {ts : List Terminal} → BeginsWith context end (Close ∷ ts)

abbrev pub IsAtInstruction : Context → Placed → Type 0
IsAtInstruction context p = BeginsWith context p.instruction p.place

-- 6.6.2 to 6.6.12: a keyword of a field. 6.6.5 to 6.6.8: an inline import has the keyword of the imported item.
abbrev pub IsKeywordOf : Field → List ℕ → Type 0
IsKeywordOf (TypeField l t) w = w ≡ codes "type"
IsKeywordOf (Import m n l ns t) w = (w ≡ codes "import") ⊎ (space_of w ≡ Some (extern_space t))
IsKeywordOf (Func f) w = w ≡ codes "func"
IsKeywordOf (Table l ns t es) w = w ≡ codes "table"
IsKeywordOf (Memory l ns t bytes) w = w ≡ codes "memory"
IsKeywordOf (Global l ns t is) w = w ≡ codes "global"
IsKeywordOf (Export n s i) w = w ≡ codes "export"
IsKeywordOf (Start i) w = w ≡ codes "start"
IsKeywordOf (Data l t bytes) w = w ≡ codes "data"
IsKeywordOf (Elem l m t es) w = w ≡ codes "elem"

-- The tokens begin with a keyword of the one field.
abbrev pub BeginsField : List Field → List Terminal → Type 0
BeginsField (f ∷ []) (Word w ∷ ts) = IsKeywordOf f w
BeginsField fs ts = ⊥

-- A position in a field, whose tokens from its keyword on are `keyword`: at the latest at the `)` of the field.
abbrev pub IsInField : List Terminal → Placed → Type 0
IsInField keyword p = IsPosition keyword p.place × (length (past 0 keyword) < length p.place)

-- `IsPlaced context ts f`: the positions of a field of the module whose tokens are `ts` and whose context is `context`. `(` and
-- the keyword of the field are in the tokens, each instruction is in the field, and it is at tokens with which such an instruction
-- begins, in the context of the module with some local variables (6.6.5).
pub record IsPlaced (context : Context) (ts : List Terminal) (f : PlacedField) : Type 0 where
  pub opening : IsPosition ts (Open ∷ f.keyword)
  pub keyword : BeginsField f.field f.keyword
  pub inside : All (IsInField f.keyword) f.instructions
  pub instructions : (variables : List Variable) × All (IsAtInstruction (with_locals context variables)) f.instructions
