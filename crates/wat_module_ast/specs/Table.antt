-- WebAssembly 2.0, 6.5.2 to 6.5.9 (text format: control, reference, parametric, variable, table, memory, numeric
-- and vector instructions) and 5.4 (binary format: instructions). The plain instructions: the keyword, the opcode
-- and the kind of immediate of each. Keywords with consecutive opcodes share a line. `select` with types has
-- another opcode (`opcode_of` in `Grammar`).
use Rattle.std.specs.Prelude.{ℕ, suc, List, [], ◌∷◌, ◌++◌, codes, Option, Some, None, bytes_eq, if◌then◌else◌}
use Rattle.wat_lex.specs.grammar.SpacedWords.{words_of}
use Rattle.wat_module_ast.specs.declared.instruction.Opcode.{Opcode}
use Rattle.wat_module_ast.specs.declared.instruction.Opcode.TheVariants.{Byte, Prefixed}
use Rattle.wat_module_ast.specs.declared.table.Row.{Row}
use Rattle.wat_module_ast.specs.declared.table.Immediate.{Immediate}
use Rattle.wat_module_ast.specs.declared.table.Immediate.TheVariants.{Data, Elem, F32, F64, Func, Global, HeapType, I32, I64, Indirect, Label, Labels, Lane, Local, Memory, MemoryInit, MemoryLane, No, Select, Shuffle, Table, TableCopy, TableInit, Vector, Zero, Zeros}

-- A plain instruction: its keyword, its opcode, and the kind of its immediate.
pub record Mnemonic : Type 0 where
  pub word : List ℕ
  pub opcode : Opcode
  pub immediate : Immediate

-- The row of the code's table, as a definition.
abbrev pub row_of : Row → Mnemonic
row_of r = record { word = r.word.now; opcode = r.opcode; immediate = r.immediate }

abbrev pub found_of : Option Row → Option Mnemonic
found_of None = None
found_of (Some r) = Some (row_of r)

-- Rows for keywords with the immediate `k`, and with one-byte opcodes that count up from `n`.
abbrev pub numbered : ℕ → Immediate → List (List ℕ) → List Mnemonic
numbered n k [] = []
numbered n k (w ∷ ws) = record { word = w; opcode = Byte n; immediate = k } ∷ numbered (suc n) k ws

-- Rows for the keywords of a line with the immediate `k`, and with one-byte opcodes that count up from `n`.
abbrev pub from : ℕ → Immediate → List ℕ → List Mnemonic
from n k line = numbered n k (words_of line)

-- Rows for keywords with the immediate `k`, and with opcodes after the prefix byte `p` that count up from `n`.
abbrev pub numbered_after : ℕ → ℕ → Immediate → List (List ℕ) → List Mnemonic
numbered_after p n k [] = []
numbered_after p n k (w ∷ ws) = record { word = w; opcode = Prefixed p n; immediate = k } ∷ numbered_after p (suc n) k ws

-- Rows for the keywords of a line with the immediate `k`, and with opcodes after the
-- prefix byte `p` that count up from `n`.
abbrev pub after_prefix : ℕ → ℕ → Immediate → List ℕ → List Mnemonic
after_prefix p n k line = numbered_after p n k (words_of line)

-- 5.4: the one-byte opcodes up to 0x7F.
unfoldable pub low : List Mnemonic
low =
    from 0x00 No (codes "unreachable nop") ++
    from 0x0C Label (codes "br br_if") ++
    from 0x0E Labels (codes "br_table") ++
    from 0x0F No (codes "return") ++
    from 0x10 Func (codes "call") ++
    from 0x11 Indirect (codes "call_indirect") ++
    from 0x1A No (codes "drop") ++
    from 0x1B Select (codes "select") ++
    from 0x20 Local (codes "local.get local.set local.tee") ++
    from 0x23 Global (codes "global.get global.set") ++
    from 0x25 Table (codes "table.get table.set") ++
    from 0x28 (Memory 2) (codes "i32.load") ++
    from 0x29 (Memory 3) (codes "i64.load") ++
    from 0x2A (Memory 2) (codes "f32.load") ++
    from 0x2B (Memory 3) (codes "f64.load") ++
    from 0x2C (Memory 0) (codes "i32.load8_s i32.load8_u") ++
    from 0x2E (Memory 1) (codes "i32.load16_s i32.load16_u") ++
    from 0x30 (Memory 0) (codes "i64.load8_s i64.load8_u") ++
    from 0x32 (Memory 1) (codes "i64.load16_s i64.load16_u") ++
    from 0x34 (Memory 2) (codes "i64.load32_s i64.load32_u i32.store") ++
    from 0x37 (Memory 3) (codes "i64.store") ++
    from 0x38 (Memory 2) (codes "f32.store") ++
    from 0x39 (Memory 3) (codes "f64.store") ++
    from 0x3A (Memory 0) (codes "i32.store8") ++
    from 0x3B (Memory 1) (codes "i32.store16") ++
    from 0x3C (Memory 0) (codes "i64.store8") ++
    from 0x3D (Memory 1) (codes "i64.store16") ++
    from 0x3E (Memory 2) (codes "i64.store32") ++
    from 0x3F Zero (codes "memory.size memory.grow") ++
    from 0x41 I32 (codes "i32.const") ++
    from 0x42 I64 (codes "i64.const") ++
    from 0x43 F32 (codes "f32.const") ++
    from 0x44 F64 (codes "f64.const") ++
    from 0x45 No (codes "i32.eqz i32.eq i32.ne i32.lt_s i32.lt_u i32.gt_s i32.gt_u i32.le_s i32.le_u i32.ge_s i32.ge_u i64.eqz i64.eq i64.ne") ++
    from 0x53 No (codes "i64.lt_s i64.lt_u i64.gt_s i64.gt_u i64.le_s i64.le_u i64.ge_s i64.ge_u f32.eq f32.ne f32.lt f32.gt f32.le f32.ge") ++
    from 0x61 No (codes "f64.eq f64.ne f64.lt f64.gt f64.le f64.ge i32.clz i32.ctz i32.popcnt i32.add i32.sub i32.mul i32.div_s i32.div_u") ++
    from 0x6F No (codes "i32.rem_s i32.rem_u i32.and i32.or i32.xor i32.shl i32.shr_s i32.shr_u i32.rotl i32.rotr i64.clz i64.ctz i64.popcnt") ++
    from 0x7C No (codes "i64.add i64.sub i64.mul i64.div_s")

-- 5.4: the one-byte opcodes from 0x80 on.
unfoldable pub high : List Mnemonic
high =
    from 0x80 No (codes "i64.div_u i64.rem_s i64.rem_u i64.and i64.or i64.xor i64.shl i64.shr_s i64.shr_u i64.rotl i64.rotr f32.abs f32.neg") ++
    from 0x8D No (codes "f32.ceil f32.floor f32.trunc f32.nearest f32.sqrt f32.add f32.sub f32.mul f32.div f32.min f32.max f32.copysign") ++
    from 0x99 No (codes "f64.abs f64.neg f64.ceil f64.floor f64.trunc f64.nearest f64.sqrt f64.add f64.sub f64.mul f64.div f64.min f64.max") ++
    from 0xA6 No (codes "f64.copysign i32.wrap_i64 i32.trunc_f32_s i32.trunc_f32_u i32.trunc_f64_s i32.trunc_f64_u i64.extend_i32_s i64.extend_i32_u") ++
    from 0xAE No (codes "i64.trunc_f32_s i64.trunc_f32_u i64.trunc_f64_s i64.trunc_f64_u f32.convert_i32_s f32.convert_i32_u f32.convert_i64_s") ++
    from 0xB5 No (codes "f32.convert_i64_u f32.demote_f64 f64.convert_i32_s f64.convert_i32_u f64.convert_i64_s f64.convert_i64_u f64.promote_f32") ++
    from 0xBC No (codes "i32.reinterpret_f32 i64.reinterpret_f64 f32.reinterpret_i32 f64.reinterpret_i64 i32.extend8_s i32.extend16_s i64.extend8_s") ++
    from 0xC3 No (codes "i64.extend16_s i64.extend32_s") ++
    from 0xD0 HeapType (codes "ref.null") ++
    from 0xD1 No (codes "ref.is_null") ++
    from 0xD2 Func (codes "ref.func")

-- 5.4: the opcodes after the prefix 0xFC.
unfoldable pub prefixed : List Mnemonic
prefixed =
    after_prefix 0xFC 0 No (codes "i32.trunc_sat_f32_s i32.trunc_sat_f32_u i32.trunc_sat_f64_s i32.trunc_sat_f64_u") ++
    after_prefix 0xFC 4 No (codes "i64.trunc_sat_f32_s i64.trunc_sat_f32_u i64.trunc_sat_f64_s i64.trunc_sat_f64_u") ++
    after_prefix 0xFC 8 MemoryInit (codes "memory.init") ++
    after_prefix 0xFC 9 Data (codes "data.drop") ++
    after_prefix 0xFC 10 Zeros (codes "memory.copy") ++
    after_prefix 0xFC 11 Zero (codes "memory.fill") ++
    after_prefix 0xFC 12 TableInit (codes "table.init") ++
    after_prefix 0xFC 13 Elem (codes "elem.drop") ++
    after_prefix 0xFC 14 TableCopy (codes "table.copy") ++
    after_prefix 0xFC 15 Table (codes "table.grow table.size table.fill")

-- 5.4.8, vector instructions: the opcodes after the prefix 0xFD, up to 127.
unfoldable pub low_vectors : List Mnemonic
low_vectors =
    after_prefix 0xFD 0 (Memory 4) (codes "v128.load") ++
    after_prefix 0xFD 1 (Memory 3) (codes "v128.load8x8_s v128.load8x8_u v128.load16x4_s v128.load16x4_u v128.load32x2_s v128.load32x2_u") ++
    after_prefix 0xFD 7 (Memory 0) (codes "v128.load8_splat") ++
    after_prefix 0xFD 8 (Memory 1) (codes "v128.load16_splat") ++
    after_prefix 0xFD 9 (Memory 2) (codes "v128.load32_splat") ++
    after_prefix 0xFD 10 (Memory 3) (codes "v128.load64_splat") ++
    after_prefix 0xFD 11 (Memory 4) (codes "v128.store") ++
    after_prefix 0xFD 12 Vector (codes "v128.const") ++
    after_prefix 0xFD 13 Shuffle (codes "i8x16.shuffle") ++
    after_prefix 0xFD 14 No (codes "i8x16.swizzle i8x16.splat i16x8.splat i32x4.splat i64x2.splat f32x4.splat f64x2.splat") ++
    after_prefix 0xFD 21 Lane (codes "i8x16.extract_lane_s i8x16.extract_lane_u i8x16.replace_lane i16x8.extract_lane_s i16x8.extract_lane_u") ++
    after_prefix 0xFD 26 Lane (codes "i16x8.replace_lane i32x4.extract_lane i32x4.replace_lane i64x2.extract_lane i64x2.replace_lane") ++
    after_prefix 0xFD 31 Lane (codes "f32x4.extract_lane f32x4.replace_lane f64x2.extract_lane f64x2.replace_lane") ++
    after_prefix 0xFD 35 No (codes "i8x16.eq i8x16.ne i8x16.lt_s i8x16.lt_u i8x16.gt_s i8x16.gt_u i8x16.le_s i8x16.le_u i8x16.ge_s i8x16.ge_u") ++
    after_prefix 0xFD 45 No (codes "i16x8.eq i16x8.ne i16x8.lt_s i16x8.lt_u i16x8.gt_s i16x8.gt_u i16x8.le_s i16x8.le_u i16x8.ge_s i16x8.ge_u") ++
    after_prefix 0xFD 55 No (codes "i32x4.eq i32x4.ne i32x4.lt_s i32x4.lt_u i32x4.gt_s i32x4.gt_u i32x4.le_s i32x4.le_u i32x4.ge_s i32x4.ge_u") ++
    after_prefix 0xFD 65 No (codes "f32x4.eq f32x4.ne f32x4.lt f32x4.gt f32x4.le f32x4.ge f64x2.eq f64x2.ne f64x2.lt f64x2.gt f64x2.le f64x2.ge") ++
    after_prefix 0xFD 77 No (codes "v128.not v128.and v128.andnot v128.or v128.xor v128.bitselect v128.any_true") ++
    after_prefix 0xFD 84 (MemoryLane 0) (codes "v128.load8_lane") ++
    after_prefix 0xFD 85 (MemoryLane 1) (codes "v128.load16_lane") ++
    after_prefix 0xFD 86 (MemoryLane 2) (codes "v128.load32_lane") ++
    after_prefix 0xFD 87 (MemoryLane 3) (codes "v128.load64_lane") ++
    after_prefix 0xFD 88 (MemoryLane 0) (codes "v128.store8_lane") ++
    after_prefix 0xFD 89 (MemoryLane 1) (codes "v128.store16_lane") ++
    after_prefix 0xFD 90 (MemoryLane 2) (codes "v128.store32_lane") ++
    after_prefix 0xFD 91 (MemoryLane 3) (codes "v128.store64_lane") ++
    after_prefix 0xFD 92 (Memory 2) (codes "v128.load32_zero") ++
    after_prefix 0xFD 93 (Memory 3) (codes "v128.load64_zero") ++
    after_prefix 0xFD 94 No (codes "f32x4.demote_f64x2_zero f64x2.promote_low_f32x4 i8x16.abs i8x16.neg i8x16.popcnt i8x16.all_true i8x16.bitmask") ++
    after_prefix 0xFD 101 No (codes "i8x16.narrow_i16x8_s i8x16.narrow_i16x8_u f32x4.ceil f32x4.floor f32x4.trunc f32x4.nearest i8x16.shl i8x16.shr_s") ++
    after_prefix 0xFD 109 No (codes "i8x16.shr_u i8x16.add i8x16.add_sat_s i8x16.add_sat_u i8x16.sub i8x16.sub_sat_s i8x16.sub_sat_u f64x2.ceil") ++
    after_prefix 0xFD 117 No (codes "f64x2.floor i8x16.min_s i8x16.min_u i8x16.max_s i8x16.max_u f64x2.trunc i8x16.avgr_u") ++
    after_prefix 0xFD 124 No (codes "i16x8.extadd_pairwise_i8x16_s i16x8.extadd_pairwise_i8x16_u i32x4.extadd_pairwise_i16x8_s") ++
    after_prefix 0xFD 127 No (codes "i32x4.extadd_pairwise_i16x8_u")

-- 5.4.8, vector instructions: the opcodes after the prefix 0xFD, from 128 on.
unfoldable pub high_vectors : List Mnemonic
high_vectors =
    after_prefix 0xFD 128 No (codes "i16x8.abs i16x8.neg i16x8.q15mulr_sat_s i16x8.all_true i16x8.bitmask i16x8.narrow_i32x4_s i16x8.narrow_i32x4_u") ++
    after_prefix 0xFD 135 No (codes "i16x8.extend_low_i8x16_s i16x8.extend_high_i8x16_s i16x8.extend_low_i8x16_u i16x8.extend_high_i8x16_u i16x8.shl") ++
    after_prefix 0xFD 140 No (codes "i16x8.shr_s i16x8.shr_u i16x8.add i16x8.add_sat_s i16x8.add_sat_u i16x8.sub i16x8.sub_sat_s i16x8.sub_sat_u") ++
    after_prefix 0xFD 148 No (codes "f64x2.nearest i16x8.mul i16x8.min_s i16x8.min_u i16x8.max_s i16x8.max_u") ++
    after_prefix 0xFD 155 No (codes "i16x8.avgr_u i16x8.extmul_low_i8x16_s i16x8.extmul_high_i8x16_s i16x8.extmul_low_i8x16_u") ++
    after_prefix 0xFD 159 No (codes "i16x8.extmul_high_i8x16_u i32x4.abs i32x4.neg") ++
    after_prefix 0xFD 163 No (codes "i32x4.all_true i32x4.bitmask") ++
    after_prefix 0xFD 167 No (codes "i32x4.extend_low_i16x8_s i32x4.extend_high_i16x8_s i32x4.extend_low_i16x8_u i32x4.extend_high_i16x8_u i32x4.shl") ++
    after_prefix 0xFD 172 No (codes "i32x4.shr_s i32x4.shr_u i32x4.add") ++
    after_prefix 0xFD 177 No (codes "i32x4.sub") ++
    after_prefix 0xFD 181 No (codes "i32x4.mul i32x4.min_s i32x4.min_u i32x4.max_s i32x4.max_u i32x4.dot_i16x8_s") ++
    after_prefix 0xFD 188 No (codes "i32x4.extmul_low_i16x8_s i32x4.extmul_high_i16x8_s i32x4.extmul_low_i16x8_u i32x4.extmul_high_i16x8_u i64x2.abs") ++
    after_prefix 0xFD 193 No (codes "i64x2.neg") ++
    after_prefix 0xFD 195 No (codes "i64x2.all_true i64x2.bitmask") ++
    after_prefix 0xFD 199 No (codes "i64x2.extend_low_i32x4_s i64x2.extend_high_i32x4_s i64x2.extend_low_i32x4_u i64x2.extend_high_i32x4_u i64x2.shl") ++
    after_prefix 0xFD 204 No (codes "i64x2.shr_s i64x2.shr_u i64x2.add") ++
    after_prefix 0xFD 209 No (codes "i64x2.sub") ++
    after_prefix 0xFD 213 No (codes "i64x2.mul i64x2.eq i64x2.ne i64x2.lt_s i64x2.gt_s i64x2.le_s i64x2.ge_s i64x2.extmul_low_i32x4_s") ++
    after_prefix 0xFD 221 No (codes "i64x2.extmul_high_i32x4_s i64x2.extmul_low_i32x4_u i64x2.extmul_high_i32x4_u f32x4.abs f32x4.neg") ++
    after_prefix 0xFD 227 No (codes "f32x4.sqrt f32x4.add f32x4.sub f32x4.mul f32x4.div f32x4.min f32x4.max f32x4.pmin f32x4.pmax f64x2.abs f64x2.neg") ++
    after_prefix 0xFD 239 No (codes "f64x2.sqrt f64x2.add f64x2.sub f64x2.mul f64x2.div f64x2.min f64x2.max f64x2.pmin f64x2.pmax") ++
    after_prefix 0xFD 248 No (codes "i32x4.trunc_sat_f32x4_s i32x4.trunc_sat_f32x4_u f32x4.convert_i32x4_s f32x4.convert_i32x4_u") ++
    after_prefix 0xFD 252 No (codes "i32x4.trunc_sat_f64x2_s_zero i32x4.trunc_sat_f64x2_u_zero f64x2.convert_low_i32x4_s f64x2.convert_low_i32x4_u")

-- 6.5: all plain instructions.
unfoldable pub mnemonics : List Mnemonic
mnemonics = low ++ (high ++ (prefixed ++ (low_vectors ++ high_vectors)))

-- The first row with the keyword `w`, or `None` if there is none.
abbrev pub found : List ℕ → List Mnemonic → Option Mnemonic
found w [] = None
found w (m ∷ ms) = if bytes_eq m.word w then Some m else found w ms
