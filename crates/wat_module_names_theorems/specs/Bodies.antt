-- WebAssembly 2.0, 5.4.1 and 6.5, and the extended-name-section proposal, label names: the structured control instructions of
-- a body in the grammar (`wat_module_ast.specs.Grammar`), and the name map of its labels.
use Rattle.std.specs.List.{flat_map}
use Rattle.std.specs.Prelude.{◌≡◌, ℕ, ◌==◌, ◌||◌, List, [], ◌∷◌, if◌then◌else◌, map}
use Rattle.wat_module_ast.specs.declared.instruction.Instruction.{Instruction}
use Rattle.wat_module_ast.specs.declared.instruction.Opcode.{Opcode}
use Rattle.wat_module_ast.specs.declared.instruction.Opcode.TheVariants.{Byte, Prefixed}
use Rattle.wat_module_ast.specs.Fields.{label_associations}
use Rattle.wat_module_ast.specs.Grammar.{Body, Context}
use Rattle.wat_module_names_theorems.specs.BlockLabels.{Structure, Structured, label_in, opcode_in}
use Rattle.wat_module_names_theorems.specs.NameMaps.{IsNameMap}
use Rattle.wat_module_tokens.specs.Terminals.{Terminal, Close}

-- 5.4.1: the opcode, if it is that of `block`, `loop` or `if`.
abbrev pub structured_opcode : Opcode → List ℕ
structured_opcode (Byte b) = if (b == 0x02) || ((b == 0x03) || (b == 0x04)) then b ∷ [] else []
structured_opcode (Prefixed prefix b) = []

abbrev pub opcodes_in : Instruction → List ℕ
opcodes_in i = structured_opcode i.opcode

-- `IsBody ts is r xs`: the tokens `ts` of a body, up to its `)`, have the structured control instructions `xs`. These have
-- the opcodes of those among the instructions `is`, in the same order, which is that of the binary format. The name map of
-- the body's labels has for each index, from 0, the label of the instruction at this position.
pub record IsBody (ts : List Terminal) (is : List Instruction) (r : List Terminal) (xs : List Structured) : Type 0 where
  pub structure : Structure ts xs (Close ∷ r)
  pub opcodes : map opcode_in xs ≡ flat_map opcodes_in is
  pub names : IsNameMap 0 (map label_in xs) (label_associations ts)

-- Theorem: each body in the grammar has such instructions.
abbrev pub BodiesHaveStructure : Type 0
BodiesHaveStructure = (context : Context) (ts : List Terminal) (is : List Instruction) (r : List Terminal) → Body context ts is r → (xs : List Structured) × IsBody ts is r xs
