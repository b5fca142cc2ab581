-- The theorems about instructions: the parser and the grammar agree, and the tokens
-- of instructions have balanced parentheses.
use Rattle.std.specs.Prelude.{◌≡◌, ◌≤◌, ◌↔◌, length, ℕ, List, ◌∷◌, Bool, Ok}
use Rattle.wat_module_ast.specs.declared.instruction.Instruction.{Instruction}
use Rattle.wat_module_tokens.specs.Terminals.{Terminal, Open, Label}
use Rattle.wat_module_ast.specs.Grammar.{Context, Instructions}
pub use Rattle.wat_module_ast.specs.Grammar.{past}
use Rattle.wat_module_ast.specs.Grammar as grammar
use Rattle.wat_module_instructions.specs.Machine as machine

-- Theorem: for the tokens `ts`, the parser returns the instructions `is` of a body, and the rest `r` after its `)`,
-- if and only if `Body context ts is r` holds.
abbrev pub MachineIsGrammar : Type 0
MachineIsGrammar = (context : Context) (ts : List Terminal) (is : List Instruction) (r : List Terminal) → (machine.body context ts ≡ Ok (is, r)) ↔ grammar.Body context ts is r

-- Theorem: for the tokens `ts` after a `(`, the parser returns the instructions `is` of one folded instruction, and the
-- rest `r` after its `)`, if and only if `Folded context (Open ∷ ts) is r` holds.
abbrev pub FoldedIsGrammar : Type 0
FoldedIsGrammar = (context : Context) (ts : List Terminal) (is : List Instruction) (r : List Terminal) → (machine.folded context ts ≡ Ok (is, r)) ↔ grammar.Folded context (Open ∷ ts) is r

-- Lemma: the tokens of instructions have balanced parentheses. In a group with `d` more groups open, skipping to the
-- end of the group gives the same rest from the first token of the instructions and from the first token after them.
abbrev pub InstructionsAreBalanced : Type 0
InstructionsAreBalanced = (context : Context) (ls : List Label) (folded : Bool) (ts : List Terminal) (is : List Instruction) (r : List Terminal) → Instructions context ls folded ts is r → (d : ℕ) → past d ts ≡ past d r

-- Lemma: the rest `r` after instructions has at most as many tokens as the list `ts` that begins with them.
abbrev pub InstructionsTakeTokens : Type 0
InstructionsTakeTokens = (context : Context) (ls : List Label) (folded : Bool) (ts : List Terminal) (is : List Instruction) (r : List Terminal) → Instructions context ls folded ts is r → length r ≤ length ts
