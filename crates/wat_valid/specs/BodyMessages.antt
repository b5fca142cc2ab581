-- The message of a body that is not valid, in bytes. The standard does not define it. It has what the instruction takes, or the
-- end of the body, and what is on the operand stack there; or the reason for which the instruction has no type, whatever the
-- operands are. A list of types has at most 32 of them, so a message has fewer than 750 bytes.
use Rattle.std.specs.Prelude.{ℕ, Bool, true, false, List, [], ◌∷◌, ◌++◌, ◌-◌, Option, Some, None, codes, drop, if◌then◌else◌, is_some, length, map, nat_lt, slice_get, take, ◌==◌, ◌||◌, ◌&&◌}
use Rattle.std.specs.Fmt.{decimal}
use Rattle.std.specs.List.{join_by, list_all}
use Rattle.wat_module_ast.specs.declared.error.Space.{Space}
use Rattle.wat_module_ast.specs.declared.error.Space.TheVariants as space
use Rattle.wat_module_ast.specs.declared.instruction.Argument.{Argument}
use Rattle.wat_module_ast.specs.declared.instruction.Argument.TheVariants as argument
use Rattle.wat_module_ast.specs.declared.instruction.Instruction.{Instruction}
use Rattle.wat_module_ast.specs.declared.instruction.Opcode.{Opcode}
use Rattle.wat_module_ast.specs.declared.instruction.Opcode.TheVariants.{Byte}
use Rattle.wat_module_ast.specs.declared.instruction.ReferenceType.{ReferenceType}
use Rattle.wat_module_ast.specs.declared.instruction.ReferenceType.TheVariants as reference
use Rattle.wat_module_ast.specs.declared.instruction.ValueType.{ValueType}
use Rattle.wat_module_ast.specs.declared.instruction.ValueType.TheVariants as value
use Rattle.wat_module_ast.specs.Branches.{Branches}
use Rattle.wat_module_ast.specs.Fields.{Field, Func, Function}
use Rattle.wat_module_ast.specs.Types.{FunctionType}
use Rattle.wat_valid.specs.declared.operands.OperandType.{OperandType}
use Rattle.wat_valid.specs.declared.operands.OperandType.TheVariants as operand
use Rattle.wat_valid.specs.declared.untyped.Untyped.{Untyped}
use Rattle.wat_valid.specs.declared.untyped.Untyped.TheVariants as untyped
use Rattle.wat_valid.specs.Algorithm.{Frame, Operands, body_frame, is_if, labels_of, operands, pop_values, run}
use Rattle.wat_valid.specs.Contexts.{Context, Labels, use_type, values}
use Rattle.wat_valid.specs.Modules.{context_of, function_context}
use Rattle.wat_valid.specs.Untyped.{reason}
use Rattle.wat_valid.specs.Wants.{AReference, AnyType, LabelTypes, TwoNumbers, Types, Wants, wants}

-- Types.

abbrev pub reference_name : ReferenceType → List ℕ
reference_name reference.Func = codes "funcref"
reference_name reference.Extern = codes "externref"

abbrev pub value_name : ValueType → List ℕ
value_name value.I32 = codes "i32"
value_name value.I64 = codes "i64"
value_name value.F32 = codes "f32"
value_name value.F64 = codes "f64"
value_name value.V128 = codes "v128"
value_name (value.Reference t) = reference_name t

-- The type ⊥ is that of an operand which can have any type.
abbrev pub operand_name : OperandType → List ℕ
operand_name operand.Bottom = codes "any"
operand_name (operand.Value t) = value_name t

-- The maximum number of types in a list.
abbrev pub most_types : ℕ
most_types = 32

-- The last `n` elements of a list, or all if it has fewer.
abbrev pub last_of : {A : Type 0} → ℕ → List A → List A
last_of n xs = drop (length xs - n) xs

-- `...` is for further types below those of a list.
abbrev pub further : Bool → List (List ℕ)
further true = codes "..." ∷ []
further false = []

abbrev pub listed : List (List ℕ) → List ℕ
listed words = codes "[" ++ (join_by (λ w. w) (codes " ") words ++ codes "]")

-- The last `n` operands of a block, the top last. The dots are for operands of the block below these. In code that cannot be
-- reached they are for any operands, of any number.
abbrev pub operands_text : ℕ → Operands → List ℕ
operands_text n o = listed (further (o.unreachable || nat_lt n (length o.types)) ++ map operand_name (last_of n o.types))

abbrev pub types_text : List ValueType → List ℕ
types_text ts = operands_text most_types (operands false (values ts))

-- What is wanted, and what is there.

abbrev pub wants_text : Wants → List ℕ
wants_text (Types ts) = types_text ts
wants_text AnyType = codes "an operand"
wants_text TwoNumbers = codes "[t t i32] with a number or vector type t"
wants_text AReference = codes "a reference"
-- No message has this text: `br_table` has the types of one of its labels.
wants_text LabelTypes = codes "the types of its labels"

-- The number of operands that are listed with it.
abbrev pub at_most : ℕ → ℕ → ℕ
at_most m n = if nat_lt n m then n else m

abbrev pub wants_count : Wants → ℕ
wants_count (Types ts) = at_most most_types (length ts)
wants_count AnyType = 1
wants_count TwoNumbers = 3
wants_count AReference = 1
wants_count LabelTypes = most_types

abbrev pub comparison : ℕ → Wants → Operands → List ℕ
comparison n w o = codes "expected " ++ (wants_text w ++ (codes ", found " ++ operands_text n o))

abbrev pub mismatch : ℕ → Wants → Operands → List ℕ
mismatch n w o = codes "type mismatch: " ++ comparison n w o

-- `br_table`: its labels must have the same number of types. The message has the first label that does not match, the
-- default last.
abbrev pub or_none : Option (List ValueType) → List ValueType
or_none None = []
or_none (Some ts) = ts

abbrev pub label_types : Labels → ℕ → List ValueType
label_types labels l = or_none (slice_get labels l)

abbrev pub with_index : List ValueType → List ValueType
with_index ts = ts ++ value.I32 ∷ []

abbrev pub label_matches : Labels → Operands → ℕ → Bool
label_matches labels o l = is_some (pop_values o.unreachable o.types (with_index (label_types labels l)))

abbrev pub first_other : Labels → Operands → ℕ → List ℕ → ℕ
first_other labels o default [] = default
first_other labels o default (l ∷ ls) = if label_matches labels o l then first_other labels o default ls else l

abbrev pub is_as_long : Labels → ℕ → ℕ → Bool
is_as_long labels default l = length (label_types labels l) == length (label_types labels default)

abbrev pub label_mismatch : Labels → Operands → ℕ → List ℕ
label_mismatch labels o l = mismatch (at_most most_types (length (with_index (label_types labels l)))) (Types (with_index (label_types labels l))) o ++ (codes " for label " ++ decimal l)

abbrev pub table_message : Labels → Operands → Branches → List ℕ
table_message labels o b = if list_all (is_as_long labels b.default) b.labels then label_mismatch labels o (first_other labels o b.default b.labels) else codes "labels of `br_table` have different numbers of types"

-- An instruction without a type.

abbrev pub noun : Space → List ℕ
noun space.Type = codes "type"
noun space.Func = codes "function"
noun space.Table = codes "table"
noun space.Memory = codes "memory"
noun space.Global = codes "global"
noun space.Elem = codes "element segment"
noun space.Data = codes "data segment"
noun space.Local = codes "local"
noun space.Label = codes "label"

-- The instruction with the index `i`, counted from 0 in the order of the binary format, of the function with the index `n`.
abbrev pub not_valid : ℕ → ℕ → List ℕ
not_valid n i = codes "instruction " ++ (decimal i ++ (codes " of function " ++ (decimal n ++ codes " is not valid")))

abbrev pub reason_text : ℕ → ℕ → Untyped → List ℕ
reason_text n i (untyped.Unknown s x) = codes "unknown " ++ (noun s ++ (codes " `" ++ (decimal x ++ codes "`")))
reason_text n i (untyped.ImmutableGlobal x) = codes "global `" ++ (decimal x ++ codes "` is immutable")
reason_text n i (untyped.UndeclaredFunction x) = codes "undeclared function reference `" ++ (decimal x ++ codes "`")
reason_text n i (untyped.NoFunctions x) = codes "elements of table `" ++ (decimal x ++ codes "` are not functions")
reason_text n i untyped.OtherElements = codes "types of elements differ"
reason_text n i untyped.SelectTypes = codes "`select` must list one type"
reason_text n i untyped.Alignment = codes "alignment must not be larger than natural"
reason_text n i untyped.Lane = codes "lane index out of range"
reason_text n i untyped.AlignmentOrLane = codes "alignment larger than natural, or lane index out of range"
reason_text n i untyped.Other = not_valid n i

-- `if` without `else`, whose parameters are not its results.
abbrev pub without_else : FunctionType → List ℕ
without_else t = codes "`if` without `else` must have equal parameters and results, found " ++ (types_text t.params ++ (codes " and " ++ types_text t.results))

-- Returns `true` for `end`, and for `else` and `end`, before which the operands of the block must be its results and no others.
abbrev pub is_end : Opcode → Bool
is_end (Byte b) = b == 0x0B
is_end o = false

abbrev pub ends_block : Opcode → Bool
ends_block (Byte b) = (b == 0x05) || (b == 0x0B)
ends_block o = false

-- The message of the instruction `x` in the innermost of the open frames, `f`, within blocks with these labels; `w` is what it
-- takes. The instruction has the index `i` in the function with the index `n`.
abbrev pub untyped_message : Context → ℕ → ℕ → Labels → Frame → Instruction → List ℕ
untyped_message C n i labels f x = if is_if f.kind && is_end x.opcode then without_else f.type else reason_text n i (reason C labels x.opcode x.argument)

abbrev pub label_message : ℕ → ℕ → Labels → Operands → Argument → List ℕ
label_message n i labels o (argument.Labels b) = table_message labels o b
label_message n i labels o a = not_valid n i

abbrev pub is_of_labels : Wants → Bool
is_of_labels LabelTypes = true
is_of_labels w = false

abbrev pub listed_count : Opcode → Wants → ℕ
listed_count o w = if ends_block o then most_types else wants_count w

abbrev pub typed_message : ℕ → ℕ → Labels → Operands → Instruction → Wants → List ℕ
typed_message n i labels o x w = if is_of_labels w then label_message n i labels o x.argument else mismatch (listed_count x.opcode w) w o

abbrev pub instruction_message : Context → ℕ → ℕ → Labels → Frame → Instruction → Option Wants → List ℕ
instruction_message C n i labels f x None = untyped_message C n i labels f x
instruction_message C n i labels f x (Some w) = typed_message n i labels f.operands x w

-- At the end of the body, the operands must be the results of the function and no others.
abbrev pub end_message : ℕ → Frame → List ℕ
end_message n f = codes "type mismatch at the end of function " ++ (decimal n ++ (codes ": " ++ comparison most_types (Types f.type.results) f.operands))

abbrev pub next_message : Context → ℕ → ℕ → Frame → List Frame → List Instruction → List ℕ
next_message C n i f fs [] = end_message n f
next_message C n i f fs (x ∷ xs) = instruction_message C n i (labels_of (f ∷ fs)) f x (wants C (f ∷ fs) x)

abbrev pub frames_message : Context → ℕ → ℕ → Option (List Frame) → List Instruction → List ℕ
frames_message C n i (Some (f ∷ fs)) is = next_message C n i f fs is
frames_message C n i fs is = not_valid n i

-- The body `is` of the function with the index `n`, whose results these are, at the instruction with the index `i`, or at its end.
-- The frames there are those after the instructions before it.
abbrev pub in_context : Context → List Instruction → List ValueType → ℕ → ℕ → List ℕ
in_context C is results n i = frames_message C n i (run C (Some (body_frame results ∷ [])) (take i is)) (drop i is)

abbrev pub of_type : Context → Function → ℕ → ℕ → Option FunctionType → List ℕ
of_type C f n i None = not_valid n i
of_type C f n i (Some t) = in_context (function_context C t f.locals) f.body t.results n i

abbrev pub function_message : Context → Function → ℕ → ℕ → List ℕ
function_message C f n i = of_type C f n i (use_type C.types f.uses)

abbrev pub field_message : Context → Option Field → ℕ → ℕ → List ℕ
field_message C (Some (Func f)) n i = function_message C f n i
field_message C f n i = not_valid n i

-- The message of the function with the index `n`, which the field with the index `k` defines, at the instruction with the index
-- `i`, or at the end of its body.
unfoldable pub body_message : List Field → ℕ → ℕ → ℕ → List ℕ
body_message fs k n i = field_message (context_of fs) (slice_get fs k) n i
