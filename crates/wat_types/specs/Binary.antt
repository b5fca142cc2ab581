-- WebAssembly 2.0, chapter 5 (binary format): 5.1.3 (vectors), 5.2.2 (integers), 5.3.1 (number types), 5.3.6 (function
-- types), 5.5.2 (sections), 5.5.4 (type section) and 5.5.16 (modules).
use Rattle.std.specs.Prelude.{ℕ, ◌<◌, ◌^◌, List, [], ◌∷◌, ◌++◌, length}
use Rattle.wat_lex.specs.binary.Encoding.{ListFits, list_encoding}
use Rattle.wat_lex.specs.binary.Leb128.{unsigned_leb128}
use Rattle.wat_types.specs.Signatures.{Signature}
use Rattle.wat_types.specs.declared.types.ValType.{ValType}
use Rattle.wat_types.specs.declared.types.ValType.TheVariants.{I32, I64, F32, F64}

abbrev pub val_byte : ValType → ℕ
val_byte I32 = 0x7F
val_byte I64 = 0x7E
val_byte F32 = 0x7D
val_byte F64 = 0x7C

abbrev pub val_bytes : ValType → List ℕ
val_bytes v = val_byte v ∷ []

-- A function type: 0x60, the vector of the parameter types, and the vector of the result types.
unfoldable pub func_bytes : Signature → List ℕ
func_bytes f = ((0x60 ∷ []) ++ list_encoding val_bytes f.params) ++ list_encoding val_bytes f.results

-- The lengths of both vectors are below 2^32.
abbrev pub FuncFits : Signature → Type 0
FuncFits f = ListFits (λ (v : ValType). Unit {0}) f.params × ListFits (λ (v : ValType). Unit {0}) f.results

-- The contents of the type section: a vector of function types.
unfoldable pub content : List Signature → List ℕ
content fs = list_encoding func_bytes fs

-- The size of the type section's contents, in bytes, is below 2^32.
abbrev pub Fits : List Signature → Type 0
Fits fs = length (content fs) < 2 ^ 32

-- The magic number and the version of the format.
abbrev pub header : List ℕ
header = 0x00 ∷ 0x61 ∷ 0x73 ∷ 0x6D ∷ 0x01 ∷ 0x00 ∷ 0x00 ∷ 0x00 ∷ []

-- The type section: its id 0x01, the size of its contents as unsigned LEB128, and the contents.
abbrev pub section : List Signature → List ℕ
section fs = (0x01 ∷ []) ++ (unsigned_leb128 (length (content fs)) ++ content fs)

-- A module with these function types and nothing else. Without function types it has no section.
abbrev pub module_bytes : List Signature → List ℕ
module_bytes [] = header
module_bytes (f ∷ fs) = header ++ section (f ∷ fs)
