-- The messages of modules that are not valid, in bytes, and their offsets. The standard does not define them. Each is a
-- function of the fields of the module, the index of the first field that is not valid, and the reason.
use Rattle.std.specs.Prelude.{ℕ, Bool, true, false, ◌++◌, List, [], ◌∷◌, length, take, codes, slice_get, Option, Some, None, if◌then◌else◌}
use Rattle.std.specs.Fmt.{decimal}
use Rattle.wat_lex.specs.declared.lexer.kinds.Token.{Token}
use Rattle.wat_lex.specs.errors.Errors.{Report, Custom, report_in}
use Rattle.wat_module_ast.specs.declared.fields.IndexSpace.{IndexSpace}
use Rattle.wat_module_ast.specs.declared.fields.IndexSpace.TheVariants as space
use Rattle.wat_module_ast.specs.declared.instruction.Instruction.{Instruction}
use Rattle.wat_module_ast.specs.Fields.{ElemMode, Active, ExternType, FuncType, Field, Func, Global, Start, Table, Target}
use Rattle.wat_module_ast.specs.Fields as field
use Rattle.wat_module_ast.specs.Modules.{Module}
use Rattle.wat_module_ast.specs.Types.{index_or_zero}
use Rattle.wat_module_places.specs.Places.{keyword_in, place_in}
use Rattle.wat_module_tokens.specs.Terminals.{Terminal}
use Rattle.wat_modules.specs.Messages.{place}
use Rattle.wat_valid.specs.BodyMessages.{body_message, reference_name, value_name}
use Rattle.wat_valid.specs.declared.code.Cause.{Cause}
use Rattle.wat_valid.specs.declared.code.Cause.TheVariants as cause
use Rattle.wat_valid.specs.declared.module.Reason.{Reason}
use Rattle.wat_valid.specs.declared.module.Reason.TheVariants as reason
use Rattle.wat_valid.specs.Modules.{function_count}

-- Offsets.

abbrev pub count_of : Option (List Terminal) → ℕ
count_of None = 0
count_of (Some ts) = length ts

-- Returns `true` if a segment has an offset with an instruction.
abbrev pub has_instruction : List Instruction → Bool
has_instruction [] = false
has_instruction (i ∷ is) = true

abbrev pub target_has_offset : Option Target → Bool
target_has_offset None = false
target_has_offset (Some t) = has_instruction t.offset

abbrev pub mode_has_offset : ElemMode → Bool
mode_has_offset (Active t) = has_instruction t.offset
mode_has_offset m = false

abbrev pub has_offset : Option Field → Bool
has_offset (Some (field.Data l t bytes)) = target_has_offset t
has_offset (Some (field.Elem l m t es)) = mode_has_offset m
has_offset f = false

-- The count of tokens from the position of an error on: that of the first instruction of a body that is not valid, or of the
-- first instruction of an initial value or offset that is not valid. If there is none, and for all other errors, it is the
-- position of the keyword of the field.
abbrev pub tokens_left : {ts : List Terminal} {fs : List Field} → Module ts fs → ℕ → Cause → ℕ
tokens_left m k (cause.Header r) = count_of (keyword_in m k)
tokens_left m k (cause.Body i) = count_of (place_in m k i)
tokens_left m k cause.InitialValue = count_of (place_in m k 0)
tokens_left {fs = fs} m k cause.Offset = if has_offset (slice_get fs k) then count_of (place_in m k 0) else count_of (keyword_in m k)
tokens_left m k (cause.Element i) = count_of (keyword_in m k)

-- Phrases.

-- An item of an index space.
abbrev pub item : IndexSpace → List ℕ
item space.Func = codes "function"
item space.Table = codes "table"
item space.Mem = codes "memory"
item space.Global = codes "global"

-- The index to which a field refers, or 0 if there is none.
abbrev pub extern_index : ExternType → ℕ
extern_index (FuncType u) = index_or_zero u
extern_index t = 0

abbrev pub target_index : Option Target → ℕ
target_index None = 0
target_index (Some t) = t.index

abbrev pub mode_index : ElemMode → ℕ
mode_index (Active t) = t.index
mode_index m = 0

abbrev pub index_in : Field → ℕ
index_in (field.Import m n l names t) = extern_index t
index_in (Func f) = index_or_zero f.uses
index_in (field.Export name s i) = i
index_in (Start i) = i
index_in (field.Data l t bytes) = target_index t
index_in (field.Elem l m t es) = mode_index m
index_in f = 0

abbrev pub index_at : Option Field → ℕ
index_at None = 0
index_at (Some f) = index_in f

-- A field that violates a condition other than those on its instructions, by the index to which it refers.
abbrev pub reason_message : Reason → ℕ → List ℕ
reason_message reason.Limits n = codes "size out of range, or minimum above maximum"
reason_message reason.UnknownType n = codes "unknown type `" ++ (decimal n ++ codes "`")
reason_message (reason.UnknownItem s) n = codes "unknown " ++ (item s ++ (codes " `" ++ (decimal n ++ codes "`")))
reason_message reason.StartType n = codes "start function with parameters or results"
reason_message reason.ElementType n = codes "type of elements differs from that of table `" ++ (decimal n ++ codes "`")
reason_message reason.SecondMemory n = codes "more than one memory"
reason_message reason.DuplicateExport n = codes "duplicate export name"

-- The type of an initial value or of elements. An offset, which other fields have, has the type `i32`.
abbrev pub constant_type : Option Field → List ℕ
constant_type (Some (Global l names t is)) = value_name t.value
constant_type (Some (field.Elem l m t es)) = reference_name t
constant_type (Some (Table l names t es)) = reference_name t.element
constant_type f = codes "i32"

abbrev pub element_message : ℕ → List ℕ → List ℕ
element_message i of = codes "element " ++ (decimal i ++ (codes " is not a constant expression of type `" ++ (of ++ codes "`")))

-- The message of the field with the index `k`.
abbrev pub message : List Field → ℕ → Cause → List ℕ
message fs k (cause.Header r) = reason_message r (index_at (slice_get fs k))
message fs k (cause.Body i) = body_message fs k (function_count (take k fs)) i
message fs k cause.InitialValue = codes "initial value is not a constant expression of type `" ++ (constant_type (slice_get fs k) ++ codes "`")
message fs k cause.Offset = codes "offset is not a constant expression of type `i32`"
message fs k (cause.Element i) = element_message i (constant_type (slice_get fs k))

-- The error of a text with these visible tokens, which is a module that is not valid.
abbrev pub report : {ts : List Terminal} {fs : List Field} → List ℕ → List Token → Module ts fs → ℕ → Cause → Report
report {fs = fs} text tokens m k c = report_in text (place text tokens (tokens_left m k c)) (Custom (message fs k c))
