-- WebAssembly 2.0, 3.3.1 to 3.3.8 (validation, instructions): the types of the plain instructions whose type is
-- determined by the opcode alone, as a list in the order of the table of plain instructions (`Table` of the crate
-- `wat_module_ast`), with the same keywords and opcodes (`EachHasAType` in `Law`). 3.3.1: numeric instructions; 3.3.3:
-- vector instructions; 3.3.7: memory instructions, with the widths of 2.4.7. The remaining instructions (`Own`) have
-- rules in `Instructions`.
use Rattle.std.specs.Prelude.{ℕ, suc, List, [], ◌∷◌, ◌++◌, codes}
use Rattle.wat_lex.specs.grammar.SpacedWords.{words_of}
use Rattle.wat_module_ast.specs.declared.instruction.Opcode.{Opcode}
use Rattle.wat_module_ast.specs.declared.instruction.Opcode.TheVariants.{Byte, Prefixed}
use Rattle.wat_module_ast.specs.declared.instruction.ValueType.{ValueType}
use Rattle.wat_module_ast.specs.declared.instruction.ValueType.TheVariants as value
use Rattle.wat_module_ast.specs.Types.{FunctionType, from_to}

-- The type of a plain instruction, and what else it needs.
pub data Typing : Type 0 where
  -- 3.3.1, 3.3.3: this type, without a condition.
  Plain : FunctionType → Typing
  -- 3.3.3, `extract_lane` and `replace_lane`: this type; the lane index is below the number of lanes (`dim(shape)`).
  Lane : ℕ → FunctionType → Typing
  -- 3.3.3, `i8x16.shuffle`: this type; each of the lane indices is below 32.
  Shuffle : FunctionType → Typing
  -- 3.3.7, loads and stores: this type; there is a memory, and the alignment is not larger than this number of bytes.
  Access : ℕ → FunctionType → Typing
  -- 3.3.7, `v128.loadN_lane` and `v128.storeN_lane`: this type; there is a memory, the alignment is not larger than N / 8
  -- bytes, which is the number here, and the lane index is below 128 / N.
  AccessLane : ℕ → FunctionType → Typing
  -- 3.3.7, `memory.size`, `memory.grow`, `memory.fill` and `memory.copy`: this type; there is a memory.
  OnMemory : FunctionType → Typing
  -- An instruction with a rule in `Instructions`.
  Own : Typing

-- A plain instruction: its keyword, its opcode and its type.
pub record TypedInstruction : Type 0 where
  pub word : List ℕ
  pub opcode : Opcode
  pub typing : Typing

abbrev pub i32 : ValueType
i32 = value.I32

abbrev pub i64 : ValueType
i64 = value.I64

abbrev pub f32 : ValueType
f32 = value.F32

abbrev pub f64 : ValueType
f64 = value.F64

abbrev pub v128 : ValueType
v128 = value.V128

-- 3.3.8, `nop`.
abbrev pub nop : FunctionType
nop = from_to [] []

-- 3.3.1, `t.const`; 3.3.3, `v128.const`.
abbrev pub const : ValueType → FunctionType
const t = from_to [] (t ∷ [])

-- 3.3.1, `t.unop`; 3.3.3, `v128.vvunop`, `shape.vunop`, and `vcvtop`: `extend_low` and `extend_high`, `trunc_sat`, `convert`,
-- `demote`, `promote`; `extadd_pairwise`.
abbrev pub unop : ValueType → FunctionType
unop t = from_to (t ∷ []) (t ∷ [])

-- 3.3.1, `t.binop`; 3.3.3, `v128.vvbinop`, `shape.vbinop`, `shape.vrelop`, `i8x16.swizzle`, `i8x16.shuffle`, `narrow`,
-- `extmul_low` and `extmul_high`, and `dot`.
abbrev pub binop : ValueType → FunctionType
binop t = from_to (t ∷ t ∷ []) (t ∷ [])

-- 3.3.1, `t.testop`; 3.3.3, `v128.vvtestop`, `shape.vtestop` and `shape.bitmask`.
abbrev pub testop : ValueType → FunctionType
testop t = from_to (t ∷ []) (i32 ∷ [])

-- 3.3.1, `t.relop`.
abbrev pub relop : ValueType → FunctionType
relop t = from_to (t ∷ t ∷ []) (i32 ∷ [])

-- 3.3.1, `t2.cvtop_t1`, from the type `t` to the type `u`.
abbrev pub cvtop : ValueType → ValueType → FunctionType
cvtop t u = from_to (t ∷ []) (u ∷ [])

-- 3.3.3, `v128.vvternop`.
abbrev pub vternop : FunctionType
vternop = from_to (v128 ∷ v128 ∷ v128 ∷ []) (v128 ∷ [])

-- 3.3.3, `ishape.vishiftop`.
abbrev pub vshiftop : FunctionType
vshiftop = from_to (v128 ∷ i32 ∷ []) (v128 ∷ [])

-- 3.3.3, `shape.splat`, from the unpacked type of the shape.
abbrev pub splat : ValueType → FunctionType
splat t = from_to (t ∷ []) (v128 ∷ [])

-- 3.3.3, `shape.extract_lane`, to the unpacked type of the shape.
abbrev pub extract : ValueType → FunctionType
extract t = from_to (v128 ∷ []) (t ∷ [])

-- 3.3.3, `shape.replace_lane`, from the unpacked type of the shape.
abbrev pub replace : ValueType → FunctionType
replace t = from_to (v128 ∷ t ∷ []) (v128 ∷ [])

-- 3.3.7, `t.load` and its forms; an address is an `i32`.
abbrev pub load : ValueType → FunctionType
load t = from_to (i32 ∷ []) (t ∷ [])

-- 3.3.7, `t.store` and its forms.
abbrev pub store : ValueType → FunctionType
store t = from_to (i32 ∷ t ∷ []) []

-- 3.3.7, `v128.loadN_lane`.
abbrev pub load_lane : FunctionType
load_lane = from_to (i32 ∷ v128 ∷ []) (v128 ∷ [])

-- 3.3.7, `v128.storeN_lane`.
abbrev pub store_lane : FunctionType
store_lane = from_to (i32 ∷ v128 ∷ []) []

-- Rows for keywords with the type `t`, and with one-byte opcodes that count up from `n`.
abbrev pub numbered : ℕ → Typing → List (List ℕ) → List TypedInstruction
numbered n t [] = []
numbered n t (w ∷ ws) = record { word = w; opcode = Byte n; typing = t } ∷ numbered (suc n) t ws

-- Rows for the keywords of a line with the type `t`, and with one-byte opcodes that count up from `n`.
abbrev pub typed : ℕ → Typing → List ℕ → List TypedInstruction
typed n t line = numbered n t (words_of line)

-- Rows for keywords with the type `t`, and with opcodes after the prefix byte `p` that count up from `n`.
abbrev pub numbered_after : ℕ → ℕ → Typing → List (List ℕ) → List TypedInstruction
numbered_after p n t [] = []
numbered_after p n t (w ∷ ws) = record { word = w; opcode = Prefixed p n; typing = t } ∷ numbered_after p (suc n) t ws

-- Rows for the keywords of a line with the type `t`, and with opcodes after the prefix byte `p` that count up from `n`.
abbrev pub typed_after : ℕ → ℕ → Typing → List ℕ → List TypedInstruction
typed_after p n t line = numbered_after p n t (words_of line)

-- The one-byte opcodes up to 0x7F.
unfoldable pub low : List TypedInstruction
low =
    typed 0x00 Own (codes "unreachable") ++
    typed 0x01 (Plain nop) (codes "nop") ++
    typed 0x0C Own (codes "br br_if br_table return call call_indirect") ++
    typed 0x1A Own (codes "drop select") ++
    typed 0x20 Own (codes "local.get local.set local.tee global.get global.set table.get table.set") ++
    typed 0x28 (Access 4 (load i32)) (codes "i32.load") ++
    typed 0x29 (Access 8 (load i64)) (codes "i64.load") ++
    typed 0x2A (Access 4 (load f32)) (codes "f32.load") ++
    typed 0x2B (Access 8 (load f64)) (codes "f64.load") ++
    typed 0x2C (Access 1 (load i32)) (codes "i32.load8_s i32.load8_u") ++
    typed 0x2E (Access 2 (load i32)) (codes "i32.load16_s i32.load16_u") ++
    typed 0x30 (Access 1 (load i64)) (codes "i64.load8_s i64.load8_u") ++
    typed 0x32 (Access 2 (load i64)) (codes "i64.load16_s i64.load16_u") ++
    typed 0x34 (Access 4 (load i64)) (codes "i64.load32_s i64.load32_u") ++
    typed 0x36 (Access 4 (store i32)) (codes "i32.store") ++
    typed 0x37 (Access 8 (store i64)) (codes "i64.store") ++
    typed 0x38 (Access 4 (store f32)) (codes "f32.store") ++
    typed 0x39 (Access 8 (store f64)) (codes "f64.store") ++
    typed 0x3A (Access 1 (store i32)) (codes "i32.store8") ++
    typed 0x3B (Access 2 (store i32)) (codes "i32.store16") ++
    typed 0x3C (Access 1 (store i64)) (codes "i64.store8") ++
    typed 0x3D (Access 2 (store i64)) (codes "i64.store16") ++
    typed 0x3E (Access 4 (store i64)) (codes "i64.store32") ++
    typed 0x3F (OnMemory (from_to [] (i32 ∷ []))) (codes "memory.size") ++
    typed 0x40 (OnMemory (from_to (i32 ∷ []) (i32 ∷ []))) (codes "memory.grow") ++
    typed 0x41 (Plain (const i32)) (codes "i32.const") ++
    typed 0x42 (Plain (const i64)) (codes "i64.const") ++
    typed 0x43 (Plain (const f32)) (codes "f32.const") ++
    typed 0x44 (Plain (const f64)) (codes "f64.const") ++
    typed 0x45 (Plain (testop i32)) (codes "i32.eqz") ++
    typed 0x46 (Plain (relop i32)) (codes "i32.eq i32.ne i32.lt_s i32.lt_u i32.gt_s i32.gt_u i32.le_s i32.le_u i32.ge_s i32.ge_u") ++
    typed 0x50 (Plain (testop i64)) (codes "i64.eqz") ++
    typed 0x51 (Plain (relop i64)) (codes "i64.eq i64.ne i64.lt_s i64.lt_u i64.gt_s i64.gt_u i64.le_s i64.le_u i64.ge_s i64.ge_u") ++
    typed 0x5B (Plain (relop f32)) (codes "f32.eq f32.ne f32.lt f32.gt f32.le f32.ge") ++
    typed 0x61 (Plain (relop f64)) (codes "f64.eq f64.ne f64.lt f64.gt f64.le f64.ge") ++
    typed 0x67 (Plain (unop i32)) (codes "i32.clz i32.ctz i32.popcnt") ++
    typed 0x6A (Plain (binop i32)) (codes "i32.add i32.sub i32.mul i32.div_s i32.div_u i32.rem_s i32.rem_u i32.and i32.or i32.xor i32.shl i32.shr_s i32.shr_u i32.rotl i32.rotr") ++
    typed 0x79 (Plain (unop i64)) (codes "i64.clz i64.ctz i64.popcnt") ++
    typed 0x7C (Plain (binop i64)) (codes "i64.add i64.sub i64.mul i64.div_s")

-- The one-byte opcodes from 0x80 on.
unfoldable pub high : List TypedInstruction
high =
    typed 0x80 (Plain (binop i64)) (codes "i64.div_u i64.rem_s i64.rem_u i64.and i64.or i64.xor i64.shl i64.shr_s i64.shr_u i64.rotl i64.rotr") ++
    typed 0x8B (Plain (unop f32)) (codes "f32.abs f32.neg f32.ceil f32.floor f32.trunc f32.nearest f32.sqrt") ++
    typed 0x92 (Plain (binop f32)) (codes "f32.add f32.sub f32.mul f32.div f32.min f32.max f32.copysign") ++
    typed 0x99 (Plain (unop f64)) (codes "f64.abs f64.neg f64.ceil f64.floor f64.trunc f64.nearest f64.sqrt") ++
    typed 0xA0 (Plain (binop f64)) (codes "f64.add f64.sub f64.mul f64.div f64.min f64.max f64.copysign") ++
    typed 0xA7 (Plain (cvtop i64 i32)) (codes "i32.wrap_i64") ++
    typed 0xA8 (Plain (cvtop f32 i32)) (codes "i32.trunc_f32_s i32.trunc_f32_u") ++
    typed 0xAA (Plain (cvtop f64 i32)) (codes "i32.trunc_f64_s i32.trunc_f64_u") ++
    typed 0xAC (Plain (cvtop i32 i64)) (codes "i64.extend_i32_s i64.extend_i32_u") ++
    typed 0xAE (Plain (cvtop f32 i64)) (codes "i64.trunc_f32_s i64.trunc_f32_u") ++
    typed 0xB0 (Plain (cvtop f64 i64)) (codes "i64.trunc_f64_s i64.trunc_f64_u") ++
    typed 0xB2 (Plain (cvtop i32 f32)) (codes "f32.convert_i32_s f32.convert_i32_u") ++
    typed 0xB4 (Plain (cvtop i64 f32)) (codes "f32.convert_i64_s f32.convert_i64_u") ++
    typed 0xB6 (Plain (cvtop f64 f32)) (codes "f32.demote_f64") ++
    typed 0xB7 (Plain (cvtop i32 f64)) (codes "f64.convert_i32_s f64.convert_i32_u") ++
    typed 0xB9 (Plain (cvtop i64 f64)) (codes "f64.convert_i64_s f64.convert_i64_u") ++
    typed 0xBB (Plain (cvtop f32 f64)) (codes "f64.promote_f32") ++
    typed 0xBC (Plain (cvtop f32 i32)) (codes "i32.reinterpret_f32") ++
    typed 0xBD (Plain (cvtop f64 i64)) (codes "i64.reinterpret_f64") ++
    typed 0xBE (Plain (cvtop i32 f32)) (codes "f32.reinterpret_i32") ++
    typed 0xBF (Plain (cvtop i64 f64)) (codes "f64.reinterpret_i64") ++
    typed 0xC0 (Plain (unop i32)) (codes "i32.extend8_s i32.extend16_s") ++
    typed 0xC2 (Plain (unop i64)) (codes "i64.extend8_s i64.extend16_s i64.extend32_s") ++
    typed 0xD0 Own (codes "ref.null ref.is_null ref.func")

-- The opcodes after the prefix 0xFC.
unfoldable pub prefixed : List TypedInstruction
prefixed =
    typed_after 0xFC 0 (Plain (cvtop f32 i32)) (codes "i32.trunc_sat_f32_s i32.trunc_sat_f32_u") ++
    typed_after 0xFC 2 (Plain (cvtop f64 i32)) (codes "i32.trunc_sat_f64_s i32.trunc_sat_f64_u") ++
    typed_after 0xFC 4 (Plain (cvtop f32 i64)) (codes "i64.trunc_sat_f32_s i64.trunc_sat_f32_u") ++
    typed_after 0xFC 6 (Plain (cvtop f64 i64)) (codes "i64.trunc_sat_f64_s i64.trunc_sat_f64_u") ++
    typed_after 0xFC 8 Own (codes "memory.init data.drop") ++
    typed_after 0xFC 10 (OnMemory (from_to (i32 ∷ i32 ∷ i32 ∷ []) [])) (codes "memory.copy memory.fill") ++
    typed_after 0xFC 12 Own (codes "table.init elem.drop table.copy table.grow table.size table.fill")

-- 3.3.3, 3.3.7: the opcodes after the prefix 0xFD, up to 127.
unfoldable pub low_vectors : List TypedInstruction
low_vectors =
    typed_after 0xFD 0 (Access 16 (load v128)) (codes "v128.load") ++
    typed_after 0xFD 1 (Access 8 (load v128)) (codes "v128.load8x8_s v128.load8x8_u v128.load16x4_s v128.load16x4_u v128.load32x2_s v128.load32x2_u") ++
    typed_after 0xFD 7 (Access 1 (load v128)) (codes "v128.load8_splat") ++
    typed_after 0xFD 8 (Access 2 (load v128)) (codes "v128.load16_splat") ++
    typed_after 0xFD 9 (Access 4 (load v128)) (codes "v128.load32_splat") ++
    typed_after 0xFD 10 (Access 8 (load v128)) (codes "v128.load64_splat") ++
    typed_after 0xFD 11 (Access 16 (store v128)) (codes "v128.store") ++
    typed_after 0xFD 12 (Plain (const v128)) (codes "v128.const") ++
    typed_after 0xFD 13 (Shuffle (binop v128)) (codes "i8x16.shuffle") ++
    typed_after 0xFD 14 (Plain (binop v128)) (codes "i8x16.swizzle") ++
    typed_after 0xFD 15 (Plain (splat i32)) (codes "i8x16.splat i16x8.splat i32x4.splat") ++
    typed_after 0xFD 18 (Plain (splat i64)) (codes "i64x2.splat") ++
    typed_after 0xFD 19 (Plain (splat f32)) (codes "f32x4.splat") ++
    typed_after 0xFD 20 (Plain (splat f64)) (codes "f64x2.splat") ++
    typed_after 0xFD 21 (Lane 16 (extract i32)) (codes "i8x16.extract_lane_s i8x16.extract_lane_u") ++
    typed_after 0xFD 23 (Lane 16 (replace i32)) (codes "i8x16.replace_lane") ++
    typed_after 0xFD 24 (Lane 8 (extract i32)) (codes "i16x8.extract_lane_s i16x8.extract_lane_u") ++
    typed_after 0xFD 26 (Lane 8 (replace i32)) (codes "i16x8.replace_lane") ++
    typed_after 0xFD 27 (Lane 4 (extract i32)) (codes "i32x4.extract_lane") ++
    typed_after 0xFD 28 (Lane 4 (replace i32)) (codes "i32x4.replace_lane") ++
    typed_after 0xFD 29 (Lane 2 (extract i64)) (codes "i64x2.extract_lane") ++
    typed_after 0xFD 30 (Lane 2 (replace i64)) (codes "i64x2.replace_lane") ++
    typed_after 0xFD 31 (Lane 4 (extract f32)) (codes "f32x4.extract_lane") ++
    typed_after 0xFD 32 (Lane 4 (replace f32)) (codes "f32x4.replace_lane") ++
    typed_after 0xFD 33 (Lane 2 (extract f64)) (codes "f64x2.extract_lane") ++
    typed_after 0xFD 34 (Lane 2 (replace f64)) (codes "f64x2.replace_lane") ++
    typed_after 0xFD 35 (Plain (binop v128)) (codes "i8x16.eq i8x16.ne i8x16.lt_s i8x16.lt_u i8x16.gt_s i8x16.gt_u i8x16.le_s i8x16.le_u i8x16.ge_s i8x16.ge_u i16x8.eq i16x8.ne i16x8.lt_s i16x8.lt_u") ++
    typed_after 0xFD 49 (Plain (binop v128)) (codes "i16x8.gt_s i16x8.gt_u i16x8.le_s i16x8.le_u i16x8.ge_s i16x8.ge_u i32x4.eq i32x4.ne i32x4.lt_s i32x4.lt_u i32x4.gt_s i32x4.gt_u i32x4.le_s i32x4.le_u") ++
    typed_after 0xFD 63 (Plain (binop v128)) (codes "i32x4.ge_s i32x4.ge_u f32x4.eq f32x4.ne f32x4.lt f32x4.gt f32x4.le f32x4.ge f64x2.eq f64x2.ne f64x2.lt f64x2.gt f64x2.le f64x2.ge") ++
    typed_after 0xFD 77 (Plain (unop v128)) (codes "v128.not") ++
    typed_after 0xFD 78 (Plain (binop v128)) (codes "v128.and v128.andnot v128.or v128.xor") ++
    typed_after 0xFD 82 (Plain vternop) (codes "v128.bitselect") ++
    typed_after 0xFD 83 (Plain (testop v128)) (codes "v128.any_true") ++
    typed_after 0xFD 84 (AccessLane 1 load_lane) (codes "v128.load8_lane") ++
    typed_after 0xFD 85 (AccessLane 2 load_lane) (codes "v128.load16_lane") ++
    typed_after 0xFD 86 (AccessLane 4 load_lane) (codes "v128.load32_lane") ++
    typed_after 0xFD 87 (AccessLane 8 load_lane) (codes "v128.load64_lane") ++
    typed_after 0xFD 88 (AccessLane 1 store_lane) (codes "v128.store8_lane") ++
    typed_after 0xFD 89 (AccessLane 2 store_lane) (codes "v128.store16_lane") ++
    typed_after 0xFD 90 (AccessLane 4 store_lane) (codes "v128.store32_lane") ++
    typed_after 0xFD 91 (AccessLane 8 store_lane) (codes "v128.store64_lane") ++
    typed_after 0xFD 92 (Access 4 (load v128)) (codes "v128.load32_zero") ++
    typed_after 0xFD 93 (Access 8 (load v128)) (codes "v128.load64_zero") ++
    typed_after 0xFD 94 (Plain (unop v128)) (codes "f32x4.demote_f64x2_zero f64x2.promote_low_f32x4 i8x16.abs i8x16.neg i8x16.popcnt") ++
    typed_after 0xFD 99 (Plain (testop v128)) (codes "i8x16.all_true i8x16.bitmask") ++
    typed_after 0xFD 101 (Plain (binop v128)) (codes "i8x16.narrow_i16x8_s i8x16.narrow_i16x8_u") ++
    typed_after 0xFD 103 (Plain (unop v128)) (codes "f32x4.ceil f32x4.floor f32x4.trunc f32x4.nearest") ++
    typed_after 0xFD 107 (Plain vshiftop) (codes "i8x16.shl i8x16.shr_s i8x16.shr_u") ++
    typed_after 0xFD 110 (Plain (binop v128)) (codes "i8x16.add i8x16.add_sat_s i8x16.add_sat_u i8x16.sub i8x16.sub_sat_s i8x16.sub_sat_u") ++
    typed_after 0xFD 116 (Plain (unop v128)) (codes "f64x2.ceil f64x2.floor") ++
    typed_after 0xFD 118 (Plain (binop v128)) (codes "i8x16.min_s i8x16.min_u i8x16.max_s i8x16.max_u") ++
    typed_after 0xFD 122 (Plain (unop v128)) (codes "f64x2.trunc") ++
    typed_after 0xFD 123 (Plain (binop v128)) (codes "i8x16.avgr_u") ++
    typed_after 0xFD 124 (Plain (unop v128)) (codes "i16x8.extadd_pairwise_i8x16_s i16x8.extadd_pairwise_i8x16_u i32x4.extadd_pairwise_i16x8_s i32x4.extadd_pairwise_i16x8_u")

-- 3.3.3: the opcodes after the prefix 0xFD, from 128 on.
unfoldable pub high_vectors : List TypedInstruction
high_vectors =
    typed_after 0xFD 128 (Plain (unop v128)) (codes "i16x8.abs i16x8.neg") ++
    typed_after 0xFD 130 (Plain (binop v128)) (codes "i16x8.q15mulr_sat_s") ++
    typed_after 0xFD 131 (Plain (testop v128)) (codes "i16x8.all_true i16x8.bitmask") ++
    typed_after 0xFD 133 (Plain (binop v128)) (codes "i16x8.narrow_i32x4_s i16x8.narrow_i32x4_u") ++
    typed_after 0xFD 135 (Plain (unop v128)) (codes "i16x8.extend_low_i8x16_s i16x8.extend_high_i8x16_s i16x8.extend_low_i8x16_u i16x8.extend_high_i8x16_u") ++
    typed_after 0xFD 139 (Plain vshiftop) (codes "i16x8.shl i16x8.shr_s i16x8.shr_u") ++
    typed_after 0xFD 142 (Plain (binop v128)) (codes "i16x8.add i16x8.add_sat_s i16x8.add_sat_u i16x8.sub i16x8.sub_sat_s i16x8.sub_sat_u") ++
    typed_after 0xFD 148 (Plain (unop v128)) (codes "f64x2.nearest") ++
    typed_after 0xFD 149 (Plain (binop v128)) (codes "i16x8.mul i16x8.min_s i16x8.min_u i16x8.max_s i16x8.max_u") ++
    typed_after 0xFD 155 (Plain (binop v128)) (codes "i16x8.avgr_u i16x8.extmul_low_i8x16_s i16x8.extmul_high_i8x16_s i16x8.extmul_low_i8x16_u i16x8.extmul_high_i8x16_u") ++
    typed_after 0xFD 160 (Plain (unop v128)) (codes "i32x4.abs i32x4.neg") ++
    typed_after 0xFD 163 (Plain (testop v128)) (codes "i32x4.all_true i32x4.bitmask") ++
    typed_after 0xFD 167 (Plain (unop v128)) (codes "i32x4.extend_low_i16x8_s i32x4.extend_high_i16x8_s i32x4.extend_low_i16x8_u i32x4.extend_high_i16x8_u") ++
    typed_after 0xFD 171 (Plain vshiftop) (codes "i32x4.shl i32x4.shr_s i32x4.shr_u") ++
    typed_after 0xFD 174 (Plain (binop v128)) (codes "i32x4.add") ++
    typed_after 0xFD 177 (Plain (binop v128)) (codes "i32x4.sub") ++
    typed_after 0xFD 181 (Plain (binop v128)) (codes "i32x4.mul i32x4.min_s i32x4.min_u i32x4.max_s i32x4.max_u i32x4.dot_i16x8_s") ++
    typed_after 0xFD 188 (Plain (binop v128)) (codes "i32x4.extmul_low_i16x8_s i32x4.extmul_high_i16x8_s i32x4.extmul_low_i16x8_u i32x4.extmul_high_i16x8_u") ++
    typed_after 0xFD 192 (Plain (unop v128)) (codes "i64x2.abs i64x2.neg") ++
    typed_after 0xFD 195 (Plain (testop v128)) (codes "i64x2.all_true i64x2.bitmask") ++
    typed_after 0xFD 199 (Plain (unop v128)) (codes "i64x2.extend_low_i32x4_s i64x2.extend_high_i32x4_s i64x2.extend_low_i32x4_u i64x2.extend_high_i32x4_u") ++
    typed_after 0xFD 203 (Plain vshiftop) (codes "i64x2.shl i64x2.shr_s i64x2.shr_u") ++
    typed_after 0xFD 206 (Plain (binop v128)) (codes "i64x2.add") ++
    typed_after 0xFD 209 (Plain (binop v128)) (codes "i64x2.sub") ++
    typed_after 0xFD 213 (Plain (binop v128)) (codes "i64x2.mul i64x2.eq i64x2.ne i64x2.lt_s i64x2.gt_s i64x2.le_s i64x2.ge_s i64x2.extmul_low_i32x4_s i64x2.extmul_high_i32x4_s i64x2.extmul_low_i32x4_u") ++
    typed_after 0xFD 223 (Plain (binop v128)) (codes "i64x2.extmul_high_i32x4_u") ++
    typed_after 0xFD 224 (Plain (unop v128)) (codes "f32x4.abs f32x4.neg") ++
    typed_after 0xFD 227 (Plain (unop v128)) (codes "f32x4.sqrt") ++
    typed_after 0xFD 228 (Plain (binop v128)) (codes "f32x4.add f32x4.sub f32x4.mul f32x4.div f32x4.min f32x4.max f32x4.pmin f32x4.pmax") ++
    typed_after 0xFD 236 (Plain (unop v128)) (codes "f64x2.abs f64x2.neg") ++
    typed_after 0xFD 239 (Plain (unop v128)) (codes "f64x2.sqrt") ++
    typed_after 0xFD 240 (Plain (binop v128)) (codes "f64x2.add f64x2.sub f64x2.mul f64x2.div f64x2.min f64x2.max f64x2.pmin f64x2.pmax") ++
    typed_after 0xFD 248 (Plain (unop v128)) (codes "i32x4.trunc_sat_f32x4_s i32x4.trunc_sat_f32x4_u f32x4.convert_i32x4_s f32x4.convert_i32x4_u i32x4.trunc_sat_f64x2_s_zero i32x4.trunc_sat_f64x2_u_zero") ++
    typed_after 0xFD 254 (Plain (unop v128)) (codes "f64x2.convert_low_i32x4_s f64x2.convert_low_i32x4_u")

-- All plain instructions, in the order of the table of plain instructions.
unfoldable pub typed_instructions : List TypedInstruction
typed_instructions = low ++ (high ++ (prefixed ++ (low_vectors ++ high_vectors)))
