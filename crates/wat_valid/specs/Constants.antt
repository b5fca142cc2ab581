-- WebAssembly 2.0, 3.3.10 (validation, constant expressions): the type of the value of a constant instruction. Each constant
-- instruction leaves one value, so that a constant expression is one instruction.
use Rattle.std.specs.Prelude.{◌==◌, ◌&&◌, ℕ, length, nat_lt, Option, Some, None, slice_get, if◌then◌else◌}
use Rattle.wat_module_ast.specs.declared.fields.GlobalType.{GlobalType}
use Rattle.wat_module_ast.specs.declared.instruction.Argument.{Argument}
use Rattle.wat_module_ast.specs.declared.instruction.Argument.TheVariants as argument
use Rattle.wat_module_ast.specs.declared.instruction.Opcode.{Opcode}
use Rattle.wat_module_ast.specs.declared.instruction.Opcode.TheVariants.{Byte, Prefixed}
use Rattle.wat_module_ast.specs.declared.instruction.ReferenceType.TheVariants as reference
use Rattle.wat_module_ast.specs.declared.instruction.ValueType.{ValueType}
use Rattle.wat_module_ast.specs.declared.instruction.ValueType.TheVariants as value
use Rattle.wat_valid.specs.Algorithm.{has_index}
use Rattle.wat_valid.specs.Contexts.{Context}

-- `ref.null t`.
abbrev pub null_value : Argument → Option ValueType
null_value (argument.HeapType t) = Some (value.Reference t)
null_value a = None

-- `ref.func x`, of a declared function.
abbrev pub function_value : Context → Argument → Option ValueType
function_value C (argument.Index x) = if nat_lt x (length C.funcs) && has_index x C.refs then Some (value.Reference reference.Func) else None
function_value C a = None

-- `global.get x`, of a global that is not mutable.
abbrev pub global_type : Option GlobalType → Option ValueType
global_type None = None
global_type (Some t) = if t.is_mutable then None else Some t.value

abbrev pub global_value : Context → Argument → Option ValueType
global_value C (argument.Index x) = global_type (slice_get C.globals x)
global_value C a = None

-- The instructions with a one-byte opcode.
abbrev pub byte_value : Context → ℕ → Argument → Option ValueType
byte_value C b a =
    if b == 0x41 then Some value.I32 else if b == 0x42 then Some value.I64 else if b == 0x43 then Some value.F32 else if b == 0x44 then Some value.F64 else if b == 0xD0 then null_value a else if b == 0xD2 then function_value C a else if b == 0x23 then global_value C a else None

-- The type of the value of a constant instruction, or `None` if the instruction is not constant.
abbrev pub constant_value : Context → Opcode → Argument → Option ValueType
constant_value C (Byte b) a = byte_value C b a
constant_value C (Prefixed p n) a = if (p == 0xFD) && (n == 12) then Some value.V128 else None
