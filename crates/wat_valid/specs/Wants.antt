-- WebAssembly 2.0, 3.3 and 7.3: the operands that an instruction takes, if it has a type in its context.
use Rattle.std.specs.Prelude.{◌≡◌, ◌≤◌, ◌++◌, ℕ, Bool, List, [], ◌∷◌, Option, Some, None, drop, false, if◌then◌else◌, is_some, length, slice_get, take}
use Rattle.std.specs.Option.{option_map}
use Rattle.wat_module_ast.specs.declared.instruction.Instruction.{Instruction}
use Rattle.wat_module_ast.specs.declared.instruction.ValueType.{ValueType}
use Rattle.wat_module_ast.specs.declared.instruction.ValueType.TheVariants as value
use Rattle.wat_module_ast.specs.Types.{FunctionType}
use Rattle.wat_valid.specs.declared.wanted.Wanted as declared_wanted
use Rattle.wat_valid.specs.declared.wanted.Wanted.TheVariants as wanted
use Rattle.wat_valid.specs.Algorithm.{Drop, Effect, Else, End, Enter, Frame, FrameKind, Leave, LeaveTable, None_of_them, Replace, Select, Structure, TestNull, block_params, body_frame, effect_of, goes_on, is_if, labels_of, may_end, run, structure_of}
use Rattle.wat_valid.specs.Contexts.{Context, Labels}
use Rattle.wat_valid.specs.Instructions.{block_type}
use Rattle.wat_valid.specs.declared.operands.Operands as declared_operands
use Rattle.wat_valid.specs.Views.{operands_of, signature_type}

-- The operands that an instruction takes.
pub data Wants : Type 0 where
  -- Operands of these types, the last of which is at the top.
  Types : List ValueType → Wants
  -- `drop`: one operand of any type.
  AnyType : Wants
  -- `select` without types: two operands of one number or vector type, and a condition.
  TwoNumbers : Wants
  -- `ref.is_null`: a reference.
  AReference : Wants
  -- `br_table`: an index, and operands that match the types of each of its labels.
  LabelTypes : Wants

abbrev pub wants_of : Effect → Wants
wants_of (Replace ps rs) = Types ps
wants_of (Leave ps) = Types ps
wants_of (LeaveTable labels default) = LabelTypes
wants_of Drop = AnyType
wants_of Select = TwoNumbers
wants_of TestNull = AReference

-- Returns `true` if there is a label with this index.
abbrev pub has_label : Labels → ℕ → Bool
has_label labels l = is_some (slice_get labels l)

-- The operands that `block`, `loop` and `if` take are the parameters; `else` and `end` take the results of the block.
abbrev pub wants_params : FrameKind → FunctionType → Wants
wants_params k t = Types (block_params k t)

abbrev pub wants_by : Context → Frame → List Frame → Instruction → Structure → Option Wants
wants_by C f fs i (Enter k) = option_map (wants_params k) (block_type C.types i.argument)
wants_by C f fs i Else = if is_if f.kind then Some (Types f.type.results) else None
wants_by C f fs i End = if may_end f then Some (Types f.type.results) else None
wants_by C f fs i None_of_them = option_map wants_of (effect_of C (labels_of (f ∷ fs)) i.opcode i.argument)

-- The operands that an instruction takes, or `None` if it has no type there whatever the operands are.
abbrev pub wants : Context → List Frame → Instruction → Option Wants
wants C [] i = None
wants C (f ∷ fs) i = wants_by C f fs i (structure_of i.opcode)

-- The wanted operands of the code.
abbrev pub wants_view : declared_wanted.Wanted → Wants
wants_view (wanted.Signature s) = Types (signature_type s).params
wants_view (wanted.Types ts) = Types ts.now
wants_view (wanted.TypesAndNumber ts) = Types (ts.now ++ value.I32 ∷ [])
wants_view wanted.AnyType = AnyType
wants_view wanted.TwoNumbers = TwoNumbers
wants_view wanted.Reference = AReference
wants_view wanted.LabelTypes = LabelTypes

abbrev pub named : Option declared_wanted.Wanted → Option Wants
named w = option_map wants_view w

-- The end of a body takes its results, if no block is open.
abbrev pub wants_end : List Frame → Option Wants
wants_end (f ∷ []) = Some (Types f.type.results)
wants_end fs = None

-- What the next instruction takes, or the end of the body.
abbrev pub wants_next : Context → List Frame → List Instruction → Option Wants
wants_next C fs [] = wants_end fs
wants_next C fs (i ∷ is) = wants C fs i

-- The instructions before the one at the index `n` lead to frames, the innermost of which has the operands `there`; and `w` is
-- what the instruction at this index takes, or the end of the body.
pub record SituationIs (C : Context) (is : List Instruction) (results : List ValueType) (n : ℕ) (there : declared_operands.Operands) (w : Option declared_wanted.Wanted) : Type 0 where
  pub frame : Frame
  pub outer : List Frame
  pub reached : run C (Some (body_frame results ∷ [])) (take n is) ≡ Some (frame ∷ outer)
  pub operands : frame.operands ≡ operands_of there
  pub wanted : named w ≡ wants_next C (frame ∷ outer) (drop n is)

-- There is no such instruction, or one before it has an error.
abbrev pub NoSituation : Context → List Instruction → List ValueType → ℕ → Type 0
NoSituation C is results n = n ≤ length is → goes_on C (take n is) results ≡ false
