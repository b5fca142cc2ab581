-- The theorems about the definitions of this crate.
use Rattle.std.specs.Prelude.{◌≡◌, ℕ, List, [], ◌∷◌, ◌++◌, map, true}
use Rattle.wat_module_ast.specs.declared.instruction.Instruction.{Instruction}
use Rattle.wat_module_ast.specs.declared.instruction.Opcode.{Opcode}
use Rattle.wat_module_ast.specs.declared.instruction.ValueType.{ValueType}
use Rattle.wat_module_ast.specs.Table.{Mnemonic, mnemonics}
use Rattle.wat_valid.specs.Algorithm.{accepts, goes_on}
use Rattle.wat_valid.specs.Contexts.{Context}
use Rattle.wat_valid.specs.Instructions.{Expression}
use Rattle.wat_valid.specs.InstructionTypes.{TypedInstruction, typed_instructions}

-- A keyword and its opcode.
pub record Named : Type 0 where
  pub word : List ℕ
  pub opcode : Opcode

abbrev pub typed_name : TypedInstruction → Named
typed_name r = record { word = r.word; opcode = r.opcode }

abbrev pub table_name : Mnemonic → Named
table_name m = record { word = m.word; opcode = m.opcode }

-- Theorem: the list of types has each plain instruction of the table of keywords and opcodes, in its order, and no other.
abbrev pub EachHasAType : Type 0
EachHasAType = map typed_name typed_instructions ≡ map table_name mnemonics

-- Theorem (7.3): the algorithm accepts a body if and only if it is an expression with these results.
pub record AlgorithmIsExact : Type 0 where
  pub sound : (C : Context) (is : List Instruction) (results : List ValueType) → accepts C is results ≡ true → Expression C (results ∷ []) is results
  pub complete : (C : Context) (is : List Instruction) (results : List ValueType) → Expression C (results ∷ []) is results → accepts C is results ≡ true

-- Instructions begin a valid body of a function with these results: with some further instructions they are one.
pub record Viable (C : Context) (is : List Instruction) (results : List ValueType) : Type 0 where
  pub more : List Instruction
  pub valid : Expression C (results ∷ []) (is ++ more) results

-- Theorem (7.3): the algorithm finds no error in instructions if and only if they begin a valid body. So the first instruction
-- at which it finds an error is the first that no valid body has after the instructions before it.
pub record FirstErrorIsExact : Type 0 where
  pub sound : (C : Context) (is : List Instruction) (results : List ValueType) → goes_on C is results ≡ true → Viable C is results
  pub complete : (C : Context) (is : List Instruction) (results : List ValueType) → Viable C is results → goes_on C is results ≡ true
