-- WebAssembly 2.0, 6.5.2 and 6.5.10: the positions of the instructions of some texts. A position is given by the number of
-- tokens before it.
use Rattle.std.specs.Prelude.{◌≡◌, ℕ, true, false, List, [], ◌∷◌, codes, drop, map}
use Rattle.wat_module_ast.specs.declared.instruction.Instruction.{Instruction}
use Rattle.wat_module_ast.specs.Grammar.{Context, Instructions}
use Rattle.wat_module_places.specs.Law.{place_of}
use Rattle.wat_module_places.specs.Places.{placed}
use Rattle.wat_module_tokens.specs.declared.token.Sign.TheVariants.{Absent}
use Rattle.wat_module_tokens.specs.Terminals.{Terminal, Open, Close, Word, Integer}

-- A context without types and items.
abbrev pub nothing : Context
nothing = record { types = record { names = []; types = []; are_known = true }; locals = []; funcs = []; tables = []; memories = []; globals = []; elems = []; datas = [] }

-- `block nop end`: each instruction is at its keyword.
abbrev pub block_end : List Terminal
block_end = Word (codes "block") ∷ Word (codes "nop") ∷ Word (codes "end") ∷ []

-- `(drop (i32.const 1))`: the operand comes first.
abbrev pub operand : List Terminal
operand = Open ∷ Word (codes "drop") ∷ Open ∷ Word (codes "i32.const") ∷ Integer Absent 1 ∷ Close ∷ Close ∷ []

-- `(block (nop))`: `end` is at the last `)`.
abbrev pub folded_block : List Terminal
folded_block = Open ∷ Word (codes "block") ∷ Open ∷ Word (codes "nop") ∷ Close ∷ Close ∷ []

-- `(if (i32.const 1) (then nop) (else drop))`: `i32.const`, `if`, `nop`, `else`, `drop`, and `end` at the last `)`.
abbrev pub folded_if : List Terminal
folded_if =
    Open ∷ Word (codes "if") ∷ Open ∷ Word (codes "i32.const") ∷ Integer Absent 1 ∷ Close
    ∷ Open ∷ Word (codes "then") ∷ Word (codes "nop") ∷ Close ∷ Open ∷ Word (codes "else") ∷ Word (codes "drop") ∷ Close ∷ Close ∷ []

-- The tokens after the first `n`.
abbrev pub from : List Terminal → ℕ → List Terminal
from ts n = drop n ts

-- `IsExample ts ns`: the tokens `ts` are instructions, whose positions are after these numbers of tokens.
pub record IsExample (ts : List Terminal) (ns : List ℕ) : Type 0 where
  pub instructions : List Instruction
  pub derived : Instructions nothing [] false ts instructions []
  pub places : map place_of (placed derived) ≡ map (from ts) ns

-- Theorem: the positions of the instructions of these texts.
pub record Examples : Type 0 where
  pub block_end : IsExample block_end (0 ∷ 1 ∷ 2 ∷ [])
  pub operand : IsExample operand (3 ∷ 1 ∷ [])
  pub folded_block : IsExample folded_block (1 ∷ 3 ∷ 5 ∷ [])
  pub folded_if : IsExample folded_if (3 ∷ 1 ∷ 8 ∷ 11 ∷ 12 ∷ 14 ∷ [])
