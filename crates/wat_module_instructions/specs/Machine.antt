-- How the code parses instructions: token by token, with a stack of open parts. A theorem (`MachineIsGrammar` in `Law`)
-- states that the parsed instructions are those of the grammar, so nothing here has to be trusted for them. The
-- standard does not define which error a text has; that is defined here.
use Rattle.std.specs.Prelude.{ℕ, zero, suc, Bool, true, false, ◌&&◌, List, [], ◌∷◌, ◌++◌, length, Option, Some, None, Result, Ok, Err, if◌then◌else◌}
use Rattle.wat_module_ast.specs.declared.instruction.Argument.{Argument}
use Rattle.wat_module_ast.specs.declared.instruction.Instruction.{Instruction}
use Rattle.wat_module_ast.specs.declared.error.Expected.{Expected}
use Rattle.wat_module_ast.specs.declared.error.Expected.TheVariants as expected
use Rattle.wat_module_ast.specs.declared.error.FaultKind.{FaultKind}
use Rattle.wat_module_ast.specs.declared.error.FaultKind.TheVariants.{Unexpected, UnknownWord}
use Rattle.wat_module_tokens.specs.Terminals.{Terminal, Open, Close, Word, Label}
use Rattle.wat_module_ast.specs.Grammar.{Context, Fault, plain, label_of, end_label, structured, is_end, is_else, is_then, is_if, block_type, instruction, end, otherwise}

-- An open part: the body; `block .. end`, also of `loop` and `if`, with a flag that is true if `else` may follow;
-- `(block ..)`, also of `loop`; a folded instruction that waits for its operands; a folded `if` that waits for its
-- condition; and its branches, `(then ..)` and `(else ..)`.
pub data Part : Type 0 where
  Body : Part
  Block : Bool → Label → Part
  Group : Label → Part
  Operands : Instruction → Part
  Condition : Instruction → Label → Part
  Then : Label → Part
  Else : Label → Part

-- Returns `true` if only folded instructions may be in the part.
abbrev pub only_folded : Part → Bool
only_folded (Operands i) = true
only_folded (Condition i l) = true
only_folded p = false

-- The label that a part binds, if it binds one. The body binds a label without an identifier.
abbrev pub bound : Part → List Label
bound Body = None ∷ []
bound (Block b l) = l ∷ []
bound (Group l) = l ∷ []
bound (Operands i) = []
bound (Condition i l) = []
bound (Then l) = l ∷ []
bound (Else l) = l ∷ []

-- The labels that a stack of parts binds, the innermost first.
abbrev pub labels_in : List Part → List Label
labels_in [] = []
labels_in (p ∷ ps) = bound p ++ labels_in ps

-- 6.5.2: what the grammar accepts next in `block .. end`, which may have an `else` if the flag is true.
abbrev pub expected_in_block : Bool → Expected
expected_in_block true = expected.InstructionElseOrEnd
expected_in_block false = expected.InstructionOrEnd

-- What the grammar accepts next in a part, unless it is in the middle of an instruction.
abbrev pub expected_in : Part → Expected
expected_in Body = expected.InstructionOrClose
expected_in (Block b l) = expected_in_block b
expected_in (Group l) = expected.InstructionOrClose
expected_in (Operands i) = expected.OpenOrClose
expected_in (Condition i l) = expected.Then
expected_in (Then l) = expected.InstructionOrClose
expected_in (Else l) = expected.InstructionOrClose

-- The kind of an error of a plain instruction in the innermost of these parts. At a keyword that is not an instruction,
-- the grammar accepts what it accepts next in the part.
abbrev pub kind_in : FaultKind → List Part → FaultKind
kind_in (UnknownWord expected.Instruction) (p ∷ ps) = UnknownWord (expected_in p)
kind_in k ps = k

-- The error of a plain instruction in the innermost of these parts.
abbrev pub fault_in : List Part → Fault → Fault
fault_in ps f = (kind_in f.0 ps, f.1)

-- The result of a step: the instructions that it yields, the stack after it, and the remaining tokens.
pub record Step : Type 0 where
  pub output : List Instruction
  pub stack : List Part
  pub left : List Terminal

-- A step without an error.
abbrev pub on_to : List Instruction → List Part → List Terminal → Result Step Fault
on_to is ps ts = Ok (record { output = is; stack = ps; left = ts })

-- The step at `end`, by the result of its label.
abbrev pub ended : Result (List Terminal) Fault → List Part → Result Step Fault
ended (Ok ts) ps = on_to (end ∷ []) ps ts
ended (Err f) ps = Err f

-- The step at a plain instruction.
abbrev pub at_plain : Result (Instruction × List Terminal) Fault → List Part → Result Step Fault
at_plain (Ok (i, ts)) ps = on_to (i ∷ []) ps ts
at_plain (Err f) ps = Err (fault_in ps f)

-- The step at a folded plain instruction, which waits for its operands.
abbrev pub at_operands : Result (Instruction × List Terminal) Fault → List Part → Result Step Fault
at_operands (Ok (i, ts)) ps = on_to [] (Operands i ∷ ps) ts
at_operands (Err f) ps = Err f

-- The step at a structured instruction, by its opcode, its label and the result of its block type.
abbrev pub at_block : ℕ → Label → Result (Argument × List Terminal) Fault → List Part → Result Step Fault
at_block o l (Ok (a, ts)) ps = on_to (instruction o a ∷ []) (Block (is_if o) l ∷ ps) ts
at_block o l (Err f) ps = Err f

-- The step at a folded `block` or `loop`, by its opcode, its label and the result of its block type.
abbrev pub at_group : ℕ → Label → Result (Argument × List Terminal) Fault → List Part → Result Step Fault
at_group o l (Ok (a, ts)) ps = on_to (instruction o a ∷ []) (Group l ∷ ps) ts
at_group o l (Err f) ps = Err f

-- The step at a folded `if`, which waits for its condition, by its opcode, its label and the result of its block type.
abbrev pub at_condition : ℕ → Label → Result (Argument × List Terminal) Fault → List Part → Result Step Fault
at_condition o l (Ok (a, ts)) ps = on_to [] (Condition (instruction o a) l ∷ ps) ts
at_condition o l (Err f) ps = Err f

-- The step at `else` between instructions, by the label of its block and the result of its own label.
abbrev pub step_at_else : Label → Result (List Terminal) Fault → List Part → Result Step Fault
step_at_else l (Ok ts) ps = on_to (otherwise ∷ []) (Block false l ∷ ps) ts
step_at_else l (Err f) ps = Err f

-- The step at the keyword of an instruction, by its opcode if it is structured; the
-- tokens `all` begin with the keyword.
abbrev pub word_by : Context → Option ℕ → List Terminal → List Terminal → List Part → Result Step Fault
word_by context (Some o) all ts ps = at_block o (label_of ts).0 (block_type context.types (label_of ts).1) ps
word_by context None all ts ps = at_plain (plain context (labels_in ps) all) ps

-- The step at a keyword in a part; the tokens `all` begin with the keyword.
abbrev pub word_step : Context → Part → List ℕ → List Terminal → List Terminal → List Part → Result Step Fault
word_step context Body w all ts ps = word_by context (structured w) all ts (Body ∷ ps)
word_step context (Group l) w all ts ps = word_by context (structured w) all ts (Group l ∷ ps)
word_step context (Then l) w all ts ps = word_by context (structured w) all ts (Then l ∷ ps)
word_step context (Else l) w all ts ps = word_by context (structured w) all ts (Else l ∷ ps)
word_step context (Block b l) w all ts ps =
    if is_end w then ended (end_label l ts) ps else if b && is_else w then step_at_else l (end_label l ts) ps else word_by context (structured w) all ts (Block b l ∷ ps)
word_step context (Operands i) w all ts ps = Err (Unexpected expected.OpenOrClose, all)
word_step context (Condition i l) w all ts ps = Err (Unexpected expected.Then, all)

-- The step at a folded structured instruction, after its `(` and its keyword.
abbrev pub open_block : Context → ℕ → List Terminal → List Part → Result Step Fault
open_block context o ts ps = if is_if o then at_condition o (label_of ts).0 (block_type context.types (label_of ts).1) ps else at_group o (label_of ts).0 (block_type context.types (label_of ts).1) ps

-- The step at a keyword after `(`, by its opcode if it is structured; the tokens `all` begin with the keyword.
abbrev pub open_by : Context → Option ℕ → List Terminal → List Terminal → List Part → Result Step Fault
open_by context (Some o) all ts ps = open_block context o ts ps
open_by context None all ts ps = at_operands (plain context (labels_in ps) all) ps

-- The step at a keyword after `(` in a part: `then` after a condition, or an instruction.
abbrev pub folded_by : Context → Part → List ℕ → List Terminal → List Terminal → List Part → Result Step Fault
folded_by context (Condition i l) w all ts ps = if is_then w then on_to (i ∷ []) (Then l ∷ ps) ts else open_by context (structured w) all ts (Condition i l ∷ ps)
folded_by context p w all ts ps = open_by context (structured w) all ts (p ∷ ps)

-- The step at `(` in a part, by the tokens after it.
abbrev pub open_step : Context → Part → List Terminal → List Part → Result Step Fault
open_step context p (Word w ∷ ts) ps = folded_by context p w (Word w ∷ ts) ts ps
open_step context p ts ps = Err (Unexpected expected.Instruction, ts)

-- The step after the `)` of `(else`: the `)` of `(if` must follow.
abbrev pub else_step : List Terminal → List Part → Result Step Fault
else_step (Close ∷ ts) ps = on_to (end ∷ []) ps ts
else_step ts ps = Err (Unexpected expected.Close, ts)

-- The step at `(else`, by the tokens after it.
abbrev pub other_part : Label → List Terminal → List Part → Result Step Fault
other_part l ts ps = on_to (otherwise ∷ []) (Else l ∷ ps) ts

-- The step at a `(` after the `)` of `(then`: `else` must follow.
abbrev pub other_step : Label → List Terminal → List Part → Result Step Fault
other_step l (Word w ∷ ts) ps = if is_else w then other_part l ts ps else Err (Unexpected expected.Else, Word w ∷ ts)
other_step l ts ps = Err (Unexpected expected.Else, ts)

-- The step after the `)` of `(then`: the `)` of `(if`, or `(else`, must follow.
abbrev pub then_step : Label → List Terminal → List Part → Result Step Fault
then_step l (Close ∷ ts) ps = on_to (end ∷ []) ps ts
then_step l (Open ∷ ts) ps = other_step l ts ps
then_step l ts ps = Err (Unexpected expected.ElseOrClose, ts)

-- The step at `)` in a part; the tokens `all` begin with it.
abbrev pub close_step : Part → List Terminal → List Terminal → List Part → Result Step Fault
close_step Body all ts ps = on_to [] ps ts
close_step (Group l) all ts ps = on_to (end ∷ []) ps ts
close_step (Operands i) all ts ps = on_to (i ∷ []) ps ts
close_step (Then l) all ts ps = then_step l ts ps
close_step (Else l) all ts ps = else_step ts ps
close_step (Block b l) all ts ps = Err (Unexpected (expected_in_block b), all)
close_step (Condition i l) all ts ps = Err (Unexpected expected.Then, all)

-- A step at the first token, in the part `p` on the stack `ps`.
unfoldable pub step : Context → Part → List Part → List Terminal → Result Step Fault
step context p ps (Open ∷ ts) = open_step context p ts ps
step context p ps (Close ∷ ts) = close_step p (Close ∷ ts) ts ps
step context p ps (Word w ∷ ts) = word_step context p w (Word w ∷ ts) ts ps
step context p ps ts = Err (Unexpected (expected_in p), ts)

abbrev pub output_before : List Instruction → Result (List Instruction × List Terminal) Fault → Result (List Instruction × List Terminal) Fault
output_before is (Ok (js, ts)) = Ok (is ++ js, ts)
output_before is (Err f) = Err f

abbrev pub run_by : (List Part → List Terminal → Result (List Instruction × List Terminal) Fault) → Result Step Fault → Result (List Instruction × List Terminal) Fault
run_by go (Ok s) = output_before s.output (go s.stack s.left)
run_by go (Err f) = Err f

-- At most `n` steps, until no part is open. Each step consumes at least one token.
unfoldable pub run : Context → ℕ → List Part → List Terminal → Result (List Instruction × List Terminal) Fault
run context n [] ts = Ok ([], ts)
run context zero (p ∷ ps) ts = Err (Unexpected (expected_in p), ts)
run context (suc n) (p ∷ ps) ts = run_by (run context n) (step context p ps ts)

-- The instructions of a body up to its `)`, which is consumed, and the tokens after it; or the error.
abbrev pub body : Context → List Terminal → Result (List Instruction × List Terminal) Fault
body context ts = run context (suc (length ts)) (Body ∷ []) ts

-- The first step of one folded instruction, after its `(`.
abbrev pub first_step : Context → List Terminal → Result Step Fault
first_step context (Word w ∷ ts) = open_by context (structured w) (Word w ∷ ts) ts []
first_step context ts = Err (Unexpected expected.Instruction, ts)

-- One folded instruction after its `(`, and the tokens after its `)`; or the error.
abbrev pub folded : Context → List Terminal → Result (List Instruction × List Terminal) Fault
folded context ts = run_by (run context (suc (length ts))) (first_step context ts)
