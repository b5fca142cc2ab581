-- WebAssembly 2.0, 6.5 (text format, instructions): 6.5.1 labels, 6.5.2 control instructions, 6.5.2 to 6.5.9 plain
-- instructions, 6.5.10 folded instructions; and 6.6.3, type uses. All rules are over terminals: a rule consumes tokens
-- from the front of a list and leaves the rest. It yields instructions as the binary format has them (5.4): `end` and
-- `else` are among them, and a folded instruction comes after its operands. The standard does not define which error a
-- text outside the grammar has; the errors here are this library's.
use Rattle.std.specs.Prelude.{◌≡◌, ℕ, suc, Bool, true, false, List, [], ◌∷◌, ◌++◌, codes, Option, Some, None, Result, Ok, Err, bytes_eq, nat_lt, nat_le, ◌^◌, ◌*◌, ◌-◌, ◌==◌, ◌||◌, if◌then◌else◌, slice_get, ℤ, pos, ◌-ℤ◌, zero}
use Rattle.std.specs.Float.{binary32, binary64}
use Rattle.std.specs.Int.{Width, w8, w16, w32, w64, to_le_bytes}
use Rattle.std.specs.Option.{option_map}
use Rattle.wat_floats.specs.Literals.{of_integer}
use Rattle.wat_module_ast.specs.declared.instruction.Argument.{Argument}
use Rattle.wat_module_ast.specs.declared.instruction.Argument.TheVariants as argument
use Rattle.wat_module_ast.specs.declared.instruction.Instruction.{Instruction}
use Rattle.wat_module_ast.specs.declared.instruction.Opcode.{Opcode}
use Rattle.wat_module_ast.specs.declared.instruction.Opcode.TheVariants.{Byte}
use Rattle.wat_module_ast.specs.declared.error.FaultKind.{FaultKind}
use Rattle.wat_module_ast.specs.declared.error.FaultKind.TheVariants.{Unexpected, UnknownWord, UnknownName, WrongLabel, OutOfRange, OtherType}
use Rattle.wat_module_ast.specs.declared.error.Expected.TheVariants as expected
use Rattle.wat_module_ast.specs.declared.error.Range.{Range}
use Rattle.wat_module_ast.specs.declared.error.Range.TheVariants as range
use Rattle.wat_module_ast.specs.declared.error.Space.{Space}
use Rattle.wat_module_ast.specs.declared.error.Space.TheVariants as space
use Rattle.wat_module_tokens.specs.declared.token.Sign.{Sign}
use Rattle.wat_module_tokens.specs.declared.token.Sign.TheVariants as sign
use Rattle.wat_module_ast.specs.declared.instruction.ReferenceType.{ReferenceType}
use Rattle.wat_module_ast.specs.declared.instruction.ReferenceType.TheVariants as reference
use Rattle.wat_module_ast.specs.declared.instruction.ValueType.{ValueType}
use Rattle.wat_module_ast.specs.declared.instruction.ValueType.TheVariants as value
use Rattle.wat_module_ast.specs.declared.table.Immediate.{Immediate}
use Rattle.wat_module_ast.specs.declared.table.Immediate.TheVariants as immediate
use Rattle.wat_module_ast.specs.declared.vectors.Lane as declared_lane
use Rattle.wat_module_ast.specs.declared.vectors.Lane.TheVariants as lane
use Rattle.wat_module_ast.specs.Branches.{Branches, branches}
use Rattle.wat_module_ast.specs.Memory.{offset, align}
use Rattle.wat_module_ast.specs.Table.{Mnemonic, found, mnemonics}
pub use Rattle.wat_module_tokens.specs.Terminals.{past, is_name}
use Rattle.wat_module_tokens.specs.Terminals.{Terminal, Open, Close, Word, Id, Integer, Float, Label, Text, Other}
use Rattle.wat_module_ast.specs.Types.{FunctionType, Types, TypeUse, Indexed, Inline, from_to, indirect_call, same_type}

-- A syntax error: its kind, and the remaining tokens from the one at which it is reported.
abbrev pub Fault : Type 0
Fault = FaultKind × List Terminal

-- 6.1.3, context: the types, and the identifiers of the items of seven index spaces,
-- each in the order of their indices.
pub record Context : Type 0 where
  pub types : Types
  pub locals : List Label
  pub funcs : List Label
  pub tables : List Label
  pub memories : List Label
  pub globals : List Label
  pub elems : List Label
  pub datas : List Label

-- The index of the first item with the identifier `x`, counted from `k`, or `None` if no item has it.
abbrev pub position : ℕ → List ℕ → List Label → Option ℕ
position k x [] = None
position k x (l ∷ ls) = if is_name x l then Some k else position (suc k) x ls

-- The result of looking up an identifier in the index space `k`: its index with the tokens `ts` after it, or an
-- error at the tokens `all`, which begin with it.
abbrev pub named : Space → Option ℕ → List Terminal → List Terminal → Result (ℕ × List Terminal) Fault
named k None all ts = Err (UnknownName k, all)
named k (Some n) all ts = Ok (n, ts)

-- 6.3.1, `u32`: an integer below 2^32 without a sign. An error is at the tokens `all`, which begin with the integer.
abbrev pub small : Sign → ℕ → List Terminal → List Terminal → Result (ℕ × List Terminal) Fault
small sign.Absent n all ts = if nat_lt n (2 ^ 32) then Ok (n, ts) else Err (OutOfRange (range.Unsigned (2 ^ 31)), all)
small s n all ts = Err (Unexpected expected.Unsigned, all)

-- 6.6.1, index: a `u32`, or an identifier of one of the items `ls` of the index space `k`.
abbrev pub index : Space → List Label → List Terminal → Result (ℕ × List Terminal) Fault
index k ls (Integer s n ∷ ts) = small s n (Integer s n ∷ ts) ts
index k ls (Id x ∷ ts) = named k (position 0 x ls) (Id x ∷ ts) ts
index k ls ts = Err (Unexpected (expected.Index k), ts)

abbrev pub with_index : Result (ℕ × List Terminal) Fault → Result (Argument × List Terminal) Fault
with_index (Ok (n, ts)) = Ok (argument.Index n, ts)
with_index (Err f) = Err f

-- 6.3.1, integers: the N bits of -n, where `half` is 2^(N-1), as an unsigned integer: 2 * half - n, and 0 for 0.
abbrev pub opposite : ℕ → ℕ → ℕ
opposite half zero = zero
opposite half (suc n) = half * 2 - suc n

-- 6.3.1, `iN`: an unsigned integer of N bits, or an integer with a sign from -half to half - 1, where `half` is
-- 2^(N-1). Both denote N bits, here as an unsigned integer.
abbrev pub integer_bits : ℕ → Sign → ℕ → Option ℕ
integer_bits half sign.Absent n = if nat_lt n (half * 2) then Some n else None
integer_bits half sign.Plus n = if nat_lt n half then Some n else None
integer_bits half sign.Minus n = if nat_le n half then Some (opposite half n) else None

-- 4.3.2, signed interpretation: the integer with a sign that has the bits `n`.
abbrev pub signed_by : ℕ → ℕ → ℤ
signed_by half n = if nat_lt n half then pos n else pos n -ℤ pos (half * 2)

-- The integer with a sign that an `iN` denotes, or `None` if it is out of range.
abbrev pub signed : ℕ → Sign → ℕ → Option ℤ
signed half s n = option_map (signed_by half) (integer_bits half s n)

-- 6.3.1, `iN`: the range of an integer with this sign, where `half` is 2^(N-1): that of `sN` if it has a sign,
-- otherwise that of `uN`.
abbrev pub integer_range : ℕ → Sign → Range
integer_range half sign.Absent = range.Unsigned half
integer_range half sign.Plus = range.Signed half
integer_range half sign.Minus = range.Signed half

abbrev pub i32_by : Sign → Option ℤ → List Terminal → List Terminal → Result (Argument × List Terminal) Fault
i32_by s (Some n) all ts = Ok (argument.I32 n, ts)
i32_by s None all ts = Err (OutOfRange (integer_range (2 ^ 31) s), all)

abbrev pub i64_by : Sign → Option ℤ → List Terminal → List Terminal → Result (Argument × List Terminal) Fault
i64_by s (Some n) all ts = Ok (argument.I64 n, ts)
i64_by s None all ts = Err (OutOfRange (integer_range (2 ^ 63) s), all)

-- 6.3.1, `i32`, as an immediate.
abbrev pub i32 : List Terminal → Result (Argument × List Terminal) Fault
i32 (Integer s n ∷ ts) = i32_by s (signed (2 ^ 31) s n) (Integer s n ∷ ts) ts
i32 ts = Err (Unexpected expected.Integer, ts)

-- 6.3.1, `i64`, as an immediate.
abbrev pub i64 : List Terminal → Result (Argument × List Terminal) Fault
i64 (Integer s n ∷ ts) = i64_by s (signed (2 ^ 63) s n) (Integer s n ∷ ts) ts
i64 ts = Err (Unexpected expected.Integer, ts)

-- Returns `true` if the sign is `-`.
abbrev pub is_minus : Sign → Bool
is_minus sign.Minus = true
is_minus s = false

-- The bits with the tokens `ts` after them, or an error at the tokens `all` if the value is not in the range `of`.
abbrev pub bits_by : Range → Option ℕ → List Terminal → List Terminal → Result (ℕ × List Terminal) Fault
bits_by of (Some bits) all ts = Ok (bits, ts)
bits_by of None all ts = Err (OutOfRange of, all)

-- 6.3.2, `f32`: a float, or an integer read as a float, by its bits.
abbrev pub f32 : List Terminal → Result (ℕ × List Terminal) Fault
f32 (Integer s n ∷ ts) = bits_by range.Float32 (of_integer binary32 (is_minus s) n) (Integer s n ∷ ts) ts
f32 (Float narrow wide ∷ ts) = bits_by range.Float32 narrow (Float narrow wide ∷ ts) ts
f32 ts = Err (Unexpected expected.Number, ts)

-- 6.3.2, `f64`: a float, or an integer read as a float, by its bits.
abbrev pub f64 : List Terminal → Result (ℕ × List Terminal) Fault
f64 (Integer s n ∷ ts) = bits_by range.Float64 (of_integer binary64 (is_minus s) n) (Integer s n ∷ ts) ts
f64 (Float narrow wide ∷ ts) = bits_by range.Float64 wide (Float narrow wide ∷ ts) ts
f64 ts = Err (Unexpected expected.Number, ts)

abbrev pub with_f32 : Result (ℕ × List Terminal) Fault → Result (Argument × List Terminal) Fault
with_f32 (Ok (bits, ts)) = Ok (argument.F32 bits, ts)
with_f32 (Err f) = Err f

abbrev pub with_f64 : Result (ℕ × List Terminal) Fault → Result (Argument × List Terminal) Fault
with_f64 (Ok (bits, ts)) = Ok (argument.F64 bits, ts)
with_f64 (Err f) = Err f

-- The integer `m` with the tokens `ts` after it, if there is one, otherwise `n` with all tokens.
abbrev pub number_or : ℕ → Option ℕ → List Terminal → List Terminal → ℕ × List Terminal
number_or n (Some m) all ts = (m, ts)
number_or n None all ts = (n, all)

-- 6.5.7, `offset`: `offset=u32`, or nothing, which is 0.
abbrev pub offset_of : List Terminal → ℕ × List Terminal
offset_of (Word w ∷ ts) = number_or 0 (offset w) (Word w ∷ ts) ts
offset_of ts = (0, ts)

-- 6.5.7, `align`: `align=u32`, or nothing, which is the natural alignment. Both are exponents of 2.
abbrev pub align_of : ℕ → List Terminal → ℕ × List Terminal
align_of natural (Word w ∷ ts) = number_or natural (align w) (Word w ∷ ts) ts
align_of natural ts = (natural, ts)

-- 6.5.7, `memarg`: `offset align`.
abbrev pub memory_of : ℕ → List Terminal → Argument × List Terminal
memory_of natural ts = (argument.Memory (align_of natural (offset_of ts).1).0 (offset_of ts).0, (align_of natural (offset_of ts).1).1)

-- 6.5.9, `laneidx`: a `u8`, which is an unsigned integer of 8 bits.
abbrev pub lane_index : List Terminal → Result (ℕ × List Terminal) Fault
lane_index (Integer sign.Absent n ∷ ts) = if nat_lt n (2 ^ 8) then Ok (n, ts) else Err (OutOfRange (range.Unsigned (2 ^ 7)), Integer sign.Absent n ∷ ts)
lane_index ts = Err (Unexpected expected.LaneIndex, ts)

abbrev pub with_lane : Result (ℕ × List Terminal) Fault → Result (Argument × List Terminal) Fault
with_lane (Ok (n, ts)) = Ok (argument.Lane n, ts)
with_lane (Err f) = Err f

-- 6.5.9: a memory argument, with the lane index of a result.
abbrev pub with_memory : ℕ → ℕ → Result (ℕ × List Terminal) Fault → Result (Argument × List Terminal) Fault
with_memory align offset (Ok (n, ts)) = Ok (argument.MemoryLane align offset n, ts)
with_memory align offset (Err f) = Err f

-- 6.5.9: `memarg laneidx`.
abbrev pub memory_lane : ℕ → List Terminal → Result (Argument × List Terminal) Fault
memory_lane natural ts = with_memory (align_of natural (offset_of ts).1).0 (offset_of ts).0 (lane_index (align_of natural (offset_of ts).1).1)

-- A result with the bytes `bs` before its own.
abbrev pub before_bytes : List ℕ → Result (List ℕ × List Terminal) Fault → Result (List ℕ × List Terminal) Fault
before_bytes bs (Ok (cs, ts)) = Ok (bs ++ cs, ts)
before_bytes bs (Err f) = Err f

abbrev pub with_bytes : Result (List ℕ × List Terminal) Fault → Result (Argument × List Terminal) Fault
with_bytes (Ok (bs, ts)) = Ok (argument.Bytes bs, ts)
with_bytes (Err f) = Err f

abbrev pub and_indices : Result (ℕ × List Terminal) Fault → (List Terminal → Result (List ℕ × List Terminal) Fault) → Result (List ℕ × List Terminal) Fault
and_indices (Ok (n, ts)) others = before_bytes (n ∷ []) (others ts)
and_indices (Err f) others = Err f

-- 6.5.9: `n` lane indices, one after another.
unfoldable pub lane_indices : ℕ → List Terminal → Result (List ℕ × List Terminal) Fault
lane_indices zero ts = Ok ([], ts)
lane_indices (suc n) ts = and_indices (lane_index ts) (lane_indices n)

-- 6.5.9, `i8x16.shuffle`: 16 lane indices. In the binary format (5.4.8) each is one byte.
abbrev pub shuffle : List Terminal → Result (Argument × List Terminal) Fault
shuffle ts = with_bytes (lane_indices 16 ts)

-- 6.3.1, `iN`: its bits as an unsigned integer, where `half` is 2^(N-1).
abbrev pub integer : ℕ → List Terminal → Result (ℕ × List Terminal) Fault
integer half (Integer s n ∷ ts) = bits_by (integer_range half s) (integer_bits half s n) (Integer s n ∷ ts) ts
integer half ts = Err (Unexpected expected.Integer, ts)

-- 6.5.9: the kind of a vector's lanes: integers (6.3.1) or floats (6.3.2), by their bits.
abbrev pub Lane : Type 0
Lane = declared_lane.Lane

-- 6.5.9: a lane of this kind, by its bits.
abbrev pub lane_of : Lane → List Terminal → Result (ℕ × List Terminal) Fault
lane_of lane.I8 ts = integer (2 ^ 7) ts
lane_of lane.I16 ts = integer (2 ^ 15) ts
lane_of lane.I32 ts = integer (2 ^ 31) ts
lane_of lane.I64 ts = integer (2 ^ 63) ts
lane_of lane.F32 ts = f32 ts
lane_of lane.F64 ts = f64 ts

-- The width of a lane of this kind.
abbrev pub width : Lane → Width
width lane.I8 = w8
width lane.I16 = w16
width lane.I32 = w32
width lane.I64 = w64
width lane.F32 = w32
width lane.F64 = w64

-- The number of lanes of this kind in a vector.
abbrev pub lane_count : Lane → ℕ
lane_count lane.I8 = 16
lane_count lane.I16 = 8
lane_count lane.I32 = 4
lane_count lane.I64 = 2
lane_count lane.F32 = 4
lane_count lane.F64 = 2

-- 4.3.1, representations: the bytes of a lane, least significant first.
abbrev pub lane_bytes : Lane → ℕ → List ℕ
lane_bytes k n = to_le_bytes (width k) n

abbrev pub and_lanes : Lane → Result (ℕ × List Terminal) Fault → (List Terminal → Result (List ℕ × List Terminal) Fault) → Result (List ℕ × List Terminal) Fault
and_lanes k (Ok (n, ts)) others = before_bytes (lane_bytes k n) (others ts)
and_lanes k (Err f) others = Err f

-- The bytes of a given number of lanes of the kind `k`, one after another.
unfoldable pub lanes_from : Lane → ℕ → List Terminal → Result (List ℕ × List Terminal) Fault
lanes_from k zero ts = Ok ([], ts)
lanes_from k (suc n) ts = and_lanes k (lane_of k ts) (lanes_from k n)

-- The bytes of all lanes of a vector.
abbrev pub vector_of : Lane → List Terminal → Result (Argument × List Terminal) Fault
vector_of k ts = with_bytes (lanes_from k (lane_count k) ts)

-- 6.5.9, `v128.const`: the kind of the lanes of a shape, or `None` if the keyword is not a shape.
abbrev pub shape : List ℕ → Option Lane
shape w =
    if bytes_eq w (codes "i8x16") then Some lane.I8 else if bytes_eq w (codes "i16x8") then Some lane.I16 else if bytes_eq w (codes "i32x4") then Some lane.I32 else if bytes_eq w (codes "i64x2") then Some lane.I64 else if bytes_eq w (codes "f32x4") then Some lane.F32 else if bytes_eq w (codes "f64x2") then Some lane.F64 else None

abbrev pub constant_by : Option Lane → List Terminal → List Terminal → Result (Argument × List Terminal) Fault
constant_by None all ts = Err (UnknownWord expected.Shape, all)
constant_by (Some k) all ts = vector_of k ts

-- 6.5.9, `v128.const`: a shape, and its lanes.
abbrev pub constant : List Terminal → Result (Argument × List Terminal) Fault
constant (Word w ∷ ts) = constant_by (shape w) (Word w ∷ ts) ts
constant ts = Err (Unexpected expected.Shape, ts)

-- 6.5.2, `br_table`: one or more labels, of which the last is the default.

-- A result with the label `n` before its own.
abbrev pub before_labels : ℕ → Result (Branches × List Terminal) Fault → Result (Branches × List Terminal) Fault
before_labels n (Ok (b, ts)) = Ok (branches (n ∷ b.labels) b.default, ts)
before_labels n (Err f) = Err f

-- The label `n` before those that `others` yields for the next label, or the error of the next label.
abbrev pub and_labels : ℕ → Result (ℕ × List Terminal) Fault → (ℕ → Result (Branches × List Terminal) Fault) → Result (Branches × List Terminal) Fault
and_labels n (Ok (m, ts)) others = before_labels n (others m)
and_labels n (Err f) others = Err f

-- The labels that begin with `n`, which was already parsed; `n` is the default if no label follows.
unfoldable pub labels_from : List Label → ℕ → List Terminal → Result (Branches × List Terminal) Fault
labels_from ls n (Integer s m ∷ ts) = and_labels n (small s m (Integer s m ∷ ts) ts) (λ k. labels_from ls k ts)
labels_from ls n (Id x ∷ ts) = and_labels n (named space.Label (position 0 x ls) (Id x ∷ ts) ts) (λ k. labels_from ls k ts)
labels_from ls n ts = Ok (branches [] n, ts)

abbrev pub with_labels : Result (Branches × List Terminal) Fault → Result (Argument × List Terminal) Fault
with_labels (Ok (b, ts)) = Ok (argument.Labels b, ts)
with_labels (Err f) = Err f

abbrev pub labels_by : List Label → Result (ℕ × List Terminal) Fault → Result (Argument × List Terminal) Fault
labels_by ls (Ok (n, ts)) = with_labels (labels_from ls n ts)
labels_by ls (Err f) = Err f

-- 6.4.3, `reftype`: `funcref` or `externref`.
abbrev pub reference_type : List ℕ → Option ReferenceType
reference_type w = if bytes_eq w (codes "funcref") then Some reference.Func else if bytes_eq w (codes "externref") then Some reference.Extern else None

-- 6.4.4, `valtype`: a number type (6.4.1), the vector type (6.4.2), or a reference type (6.4.3).
abbrev pub value_type : List ℕ → Option ValueType
value_type w =
    if bytes_eq w (codes "i32") then Some value.I32 else if bytes_eq w (codes "i64") then Some value.I64 else if bytes_eq w (codes "f32") then Some value.F32 else if bytes_eq w (codes "f64") then Some value.F64 else if bytes_eq w (codes "v128") then Some value.V128 else option_map value.Reference (reference_type w)

-- 6.4.5, function types: groups `(word valtype*)` one after another, of parameters without identifiers or of results.

-- A result with the type `t` before its own.
abbrev pub before_type : ValueType → Result (List ValueType × List Terminal) Fault → Result (List ValueType × List Terminal) Fault
before_type t (Ok (us, ts)) = Ok (t ∷ us, ts)
before_type t (Err f) = Err f

abbrev pub before_types : Option ValueType → List Terminal → Result (List ValueType × List Terminal) Fault → Result (List ValueType × List Terminal) Fault
before_types None all q = Err (UnknownWord expected.ValueTypeOrClose, all)
before_types (Some t) all q = before_type t q

-- `listed word inside ts`: the types in all groups `(word valtype*)` at the front of `ts`. If `inside` is true, `ts`
-- begins inside such a group, and its types come first.
unfoldable pub listed : List ℕ → Bool → List Terminal → Result (List ValueType × List Terminal) Fault
listed word false (Open ∷ Word w ∷ ts) = if bytes_eq w word then listed word true ts else Ok ([], Open ∷ Word w ∷ ts)
listed word false ts = Ok ([], ts)
listed word true (Word w ∷ ts) = before_types (value_type w) (Word w ∷ ts) (listed word true ts)
listed word true (Close ∷ ts) = listed word false ts
listed word true ts = Err (Unexpected expected.ValueTypeOrClose, ts)

abbrev pub with_results : List ValueType → Result (List ValueType × List Terminal) Fault → Result (FunctionType × List Terminal) Fault
with_results ps (Ok (rs, ts)) = Ok (from_to ps rs, ts)
with_results ps (Err f) = Err f

abbrev pub and_results : Result (List ValueType × List Terminal) Fault → Result (FunctionType × List Terminal) Fault
and_results (Ok (ps, ts)) = with_results ps (listed (codes "result") false ts)
and_results (Err f) = Err f

-- 6.4.5: `param* result*`, the parameters without identifiers.
unfoldable pub lists_of : List Terminal → Result (FunctionType × List Terminal) Fault
lists_of ts = and_results (listed (codes "param") false ts)

-- Returns `true` if both lists are empty.
abbrev pub list_nothing : List ValueType → List ValueType → Bool
list_nothing [] [] = true
list_nothing ps rs = false

-- 6.6.3, `typeuse`: `param* result*`; or `(type index) param* result*`, whose lists
-- are those of the type or both empty.

-- A type use without an index.
abbrev pub listed_use : Result (FunctionType × List Terminal) Fault → Result (TypeUse × List Terminal) Fault
listed_use (Ok (t, ts)) = Ok (Inline t, ts)
listed_use (Err f) = Err f

-- A type use with the index `i` of the type `t`, after which the lists must be empty or those of `t`; otherwise an
-- error at the tokens `all`, which begin with the index.
abbrev pub agreed : ℕ → FunctionType → List Terminal → Result (FunctionType × List Terminal) Fault → Result (TypeUse × List Terminal) Fault
agreed i t all (Ok (u, ts)) = if list_nothing u.params u.results || same_type u t then Ok (Indexed i, ts) else Err (OtherType, all)
agreed i t all (Err f) = Err f

abbrev pub indexed_by : ℕ → Option FunctionType → List Terminal → List Terminal → Result (TypeUse × List Terminal) Fault
indexed_by i None all ts = Err (UnknownName space.Type, all)
indexed_by i (Some t) all ts = agreed i t all (lists_of ts)

-- A type use with an index, read before the types are known: its index is 0, regardless of
-- the text, and its lists may be any.
abbrev pub assumed : Result (FunctionType × List Terminal) Fault → Result (TypeUse × List Terminal) Fault
assumed (Ok (t, ts)) = Ok (Indexed 0, ts)
assumed (Err f) = Err f

abbrev pub closed_index : Types → ℕ → List Terminal → List Terminal → Result (TypeUse × List Terminal) Fault
closed_index types i all (Close ∷ ts) = if types.are_known then indexed_by i (slice_get types.types i) all ts else assumed (lists_of ts)
closed_index types i all ts = Err (Unexpected expected.Close, ts)

-- A type use after `(type`, by the result of its index; the tokens `all` begin with the index.
abbrev pub indexed_use : Types → List Terminal → Result (ℕ × List Terminal) Fault → Result (TypeUse × List Terminal) Fault
indexed_use types all (Ok (i, ts)) = closed_index types i all ts
indexed_use types all (Err f) = Err f

-- The tokens after the keyword `word`, or `None` if it is not the first token.
abbrev pub after_word : List ℕ → List Terminal → Option (List Terminal)
after_word word (Word w ∷ ts) = if bytes_eq w word then Some ts else None
after_word word ts = None

-- The tokens after `(` and the keyword `word`, or `None` if these are not the first two tokens.
abbrev pub after : List ℕ → List Terminal → Option (List Terminal)
after word (Open ∷ ts) = after_word word ts
after word ts = None

abbrev pub use_by : Types → Option (List Terminal) → List Terminal → Result (TypeUse × List Terminal) Fault
use_by types None all = listed_use (lists_of all)
use_by types (Some ts) all = indexed_use types ts (index space.Type types.names ts)

-- 6.6.3, `typeuse`, without identifiers of parameters.
unfoldable pub use_of : Types → List Terminal → Result (TypeUse × List Terminal) Fault
use_of types ts = use_by types (after (codes "type") ts) ts

-- 6.5.2, 6.5.6: the table of `call_indirect` or of a table instruction: an index, or nothing, which is 0.
abbrev pub table_of : List Label → List Terminal → Result (ℕ × List Terminal) Fault
table_of ls (Integer s n ∷ ts) = small s n (Integer s n ∷ ts) ts
table_of ls (Id x ∷ ts) = named space.Table (position 0 x ls) (Id x ∷ ts) ts
table_of ls ts = Ok (0, ts)

abbrev pub with_use : ℕ → Result (TypeUse × List Terminal) Fault → Result (Argument × List Terminal) Fault
with_use n (Ok (u, ts)) = Ok (argument.Indirect (indirect_call n u), ts)
with_use n (Err f) = Err f

-- 6.5.2, `call_indirect`: a table, and a type use.
abbrev pub indirect_by : Types → Result (ℕ × List Terminal) Fault → Result (Argument × List Terminal) Fault
indirect_by types (Ok (n, ts)) = with_use n (use_of types ts)
indirect_by types (Err f) = Err f

-- 6.4.3, `heaptype`: `func` is that of `funcref`, and `extern` that of `externref`.
abbrev pub heap_type : List ℕ → Option ReferenceType
heap_type w = if bytes_eq w (codes "func") then Some reference.Func else if bytes_eq w (codes "extern") then Some reference.Extern else None

abbrev pub heap_by : Option ReferenceType → List Terminal → List Terminal → Result (Argument × List Terminal) Fault
heap_by None all ts = Err (UnknownWord expected.HeapType, all)
heap_by (Some t) all ts = Ok (argument.HeapType t, ts)

-- 6.5.3, `ref.null`: its heap type.
abbrev pub heap_of : List Terminal → Result (Argument × List Terminal) Fault
heap_of (Word w ∷ ts) = heap_by (heap_type w) (Word w ∷ ts) ts
heap_of ts = Err (Unexpected expected.HeapType, ts)

abbrev pub with_types : Result (List ValueType × List Terminal) Fault → Result (Argument × List Terminal) Fault
with_types (Ok (us, ts)) = Ok (argument.Select us, ts)
with_types (Err f) = Err f

-- 6.5.4, `select`: groups of result types, or none. Without a group the instruction has no types; with a group it has
-- the listed ones, even if the groups list none. The standard leaves both cases open; they are choices of this library.
abbrev pub select_by : Option (List Terminal) → List Terminal → Result (Argument × List Terminal) Fault
select_by None ts = Ok (argument.Nothing, ts)
select_by (Some us) ts = with_types (listed (codes "result") false ts)

-- 5.4.6, `memory.init`: an index, followed by a byte 0.
abbrev pub with_zero : Result (ℕ × List Terminal) Fault → Result (Argument × List Terminal) Fault
with_zero (Ok (n, ts)) = Ok (argument.IndexZero n, ts)
with_zero (Err f) = Err f

-- Returns `true` if the first token can be an index: an integer or an identifier.
abbrev pub is_index : List Terminal → Bool
is_index (Integer s n ∷ ts) = true
is_index (Id x ∷ ts) = true
is_index ts = false

-- Returns `true` if each of the first two tokens can be an index: an integer or an identifier.
abbrev pub are_indices : List Terminal → Bool
are_indices (Integer s n ∷ ts) = is_index ts
are_indices (Id x ∷ ts) = is_index ts
are_indices ts = false

-- The index `n` of a destination table, with the index of the source table from a result.
abbrev pub with_source : ℕ → Result (ℕ × List Terminal) Fault → Result (Argument × List Terminal) Fault
with_source n (Ok (m, ts)) = Ok (argument.Pair (n, m), ts)
with_source n (Err f) = Err f

abbrev pub copy_by : List Label → Result (ℕ × List Terminal) Fault → Result (Argument × List Terminal) Fault
copy_by ls (Ok (n, ts)) = with_source n (index space.Table ls ts)
copy_by ls (Err f) = Err f

-- 6.5.6, `table.copy`: the indices of two tables, the destination first; or nothing, which is 0 for both.
abbrev pub copy_of : List Label → List Terminal → Result (Argument × List Terminal) Fault
copy_of ls ts = if is_index ts then copy_by ls (index space.Table ls ts) else Ok (argument.Pair (0, 0), ts)

-- 6.5.6, `table.init`: the index of the table, which is 0 if there is only one index.
abbrev pub init_table : List Label → List Terminal → Result (ℕ × List Terminal) Fault
init_table ls ts = if are_indices ts then index space.Table ls ts else Ok (0, ts)

-- 5.4.5, `table.init`: the index of the element segment, which precedes that of the table, `n`, in the binary format.
abbrev pub with_elements : ℕ → Result (ℕ × List Terminal) Fault → Result (Argument × List Terminal) Fault
with_elements n (Ok (m, ts)) = Ok (argument.Pair (m, n), ts)
with_elements n (Err f) = Err f

abbrev pub init_by : List Label → Result (ℕ × List Terminal) Fault → Result (Argument × List Terminal) Fault
init_by elems (Ok (n, ts)) = with_elements n (index space.Elem elems ts)
init_by elems (Err f) = Err f

-- The immediate of a kind, in a context, with the labels `ls` bound, the innermost first.
abbrev pub immediate_of : Context → List Label → Immediate → List Terminal → Result (Argument × List Terminal) Fault
immediate_of context ls immediate.No ts = Ok (argument.Nothing, ts)
immediate_of context ls immediate.Local ts = with_index (index space.Local context.locals ts)
immediate_of context ls immediate.Label ts = with_index (index space.Label ls ts)
immediate_of context ls immediate.Labels ts = labels_by ls (index space.Label ls ts)
immediate_of context ls immediate.Indirect ts = indirect_by context.types (table_of context.tables ts)
immediate_of context ls immediate.Func ts = with_index (index space.Func context.funcs ts)
immediate_of context ls immediate.Global ts = with_index (index space.Global context.globals ts)
immediate_of context ls immediate.I32 ts = i32 ts
immediate_of context ls immediate.I64 ts = i64 ts
immediate_of context ls immediate.F32 ts = with_f32 (f32 ts)
immediate_of context ls immediate.F64 ts = with_f64 (f64 ts)
immediate_of context ls (immediate.Memory natural) ts = Ok (memory_of natural ts)
immediate_of context ls immediate.Zero ts = Ok (argument.Zero, ts)
immediate_of context ls immediate.HeapType ts = heap_of ts
immediate_of context ls immediate.Select ts = select_by (after (codes "result") ts) ts
immediate_of context ls immediate.Zeros ts = Ok (argument.Zeros, ts)
immediate_of context ls immediate.Data ts = with_index (index space.Data context.datas ts)
immediate_of context ls immediate.MemoryInit ts = with_zero (index space.Data context.datas ts)
immediate_of context ls immediate.Elem ts = with_index (index space.Elem context.elems ts)
immediate_of context ls immediate.Table ts = with_index (table_of context.tables ts)
immediate_of context ls immediate.TableCopy ts = copy_of context.tables ts
immediate_of context ls immediate.TableInit ts = init_by context.elems (init_table context.tables ts)
immediate_of context ls immediate.Lane ts = with_lane (lane_index ts)
immediate_of context ls (immediate.MemoryLane natural) ts = memory_lane natural ts
immediate_of context ls immediate.Shuffle ts = shuffle ts
immediate_of context ls immediate.Vector ts = constant ts

-- The instruction with a one-byte opcode and this immediate.
abbrev pub instruction : ℕ → Argument → Instruction
instruction o a = record { opcode = Byte o; argument = a }

-- 5.4.3, `select`: with types it has the opcode 0x1C.
abbrev pub opcode_of : Opcode → Argument → Opcode
opcode_of o (argument.Select ts) = Byte 0x1C
opcode_of o a = o

abbrev pub with_opcode : Opcode → Result (Argument × List Terminal) Fault → Result (Instruction × List Terminal) Fault
with_opcode o (Ok (a, ts)) = Ok (record { opcode = opcode_of o a; argument = a }, ts)
with_opcode o (Err f) = Err f

abbrev pub plain_by : Context → List Label → Option Mnemonic → List Terminal → List Terminal → Result (Instruction × List Terminal) Fault
plain_by context ls None all ts = Err (UnknownWord expected.Instruction, all)
plain_by context ls (Some m) all ts = with_opcode m.opcode (immediate_of context ls m.immediate ts)

-- 6.5, `plaininstr`: the instruction whose keyword is the first token, with its immediate, and the tokens after it.
unfoldable pub plain : Context → List Label → List Terminal → Result (Instruction × List Terminal) Fault
plain context ls (Word w ∷ ts) = plain_by context ls (found w mnemonics) (Word w ∷ ts) ts
plain context ls ts = Err (Unexpected expected.Instruction, ts)

-- 6.5.1, label: an identifier, or nothing.
abbrev pub label_of : List Terminal → Label × List Terminal
label_of (Id x ∷ ts) = (Some x, ts)
label_of ts = (None, ts)

-- 6.5.2: the label after `end` or `else`: that of its block, or nothing.
abbrev pub end_label : Label → List Terminal → Result (List Terminal) Fault
end_label l (Id x ∷ ts) = if is_name x l then Ok ts else Err (WrongLabel, Id x ∷ ts)
end_label l ts = Ok ts

-- 6.5.2, 5.4.1: the opcode of `block`, `loop` or `if`, or `None` for any other keyword.
abbrev pub structured : List ℕ → Option ℕ
structured w = if bytes_eq w (codes "block") then Some 0x02 else if bytes_eq w (codes "loop") then Some 0x03 else if bytes_eq w (codes "if") then Some 0x04 else None

abbrev pub is_end : List ℕ → Bool
is_end w = bytes_eq w (codes "end")

abbrev pub is_else : List ℕ → Bool
is_else w = bytes_eq w (codes "else")

abbrev pub is_then : List ℕ → Bool
is_then w = bytes_eq w (codes "then")

-- Returns `true` if this is the opcode of `if`, which may have an `else`.
abbrev pub is_if : ℕ → Bool
is_if o = o == 0x04

-- 6.5.2, `blocktype`: the block type of a type use `u` without an index, by its parameters and results. With at most one
-- result and no parameters it is `(result valtype)` or nothing, otherwise the type use.
abbrev pub inline_block : List ValueType → List ValueType → TypeUse → Argument
inline_block [] [] u = argument.Block None
inline_block [] (t ∷ []) u = argument.Block (Some t)
inline_block ps rs u = argument.BlockUse u

-- 6.5.2, `blocktype`: the block type of a type use (6.6.3) whose parameters have no identifiers.
abbrev pub block_of : TypeUse → Argument
block_of (Indexed i) = argument.BlockUse (Indexed i)
block_of (Inline t) = inline_block t.params t.results (Inline t)

abbrev pub block_by : Result (TypeUse × List Terminal) Fault → Result (Argument × List Terminal) Fault
block_by (Ok (u, ts)) = Ok (block_of u, ts)
block_by (Err f) = Err f

-- 6.5.2, `blocktype`.
abbrev pub block_type : Types → List Terminal → Result (Argument × List Terminal) Fault
block_type types ts = block_by (use_of types ts)

-- 6.5.2: the instruction `end`, 0x0B in the binary format.
abbrev pub end : Instruction
end = instruction 0x0B argument.Nothing

-- 6.5.2: the instruction `else`, 0x05 in the binary format.
abbrev pub otherwise : Instruction
otherwise = instruction 0x05 argument.Nothing

-- 6.5, `instr*`; or `foldedinstr*`, if only operands may follow. `Instructions context ls folded ts is r`: in this
-- context, with the labels `ls` bound, the innermost first, the tokens `ts`, up to the rest `r`, match the grammar of
-- the instructions `is`. If `folded` is true, all are folded instructions.
pub data Instructions (context : Context) : List Label → Bool → List Terminal → List Instruction → List Terminal → Type 0 where
  -- No instruction.
  by_none : {ls : List Label} {folded : Bool} {ts : List Terminal} → Instructions context ls folded ts [] ts
  -- 6.5.2 to 6.5.9: a plain instruction, and further instructions.
  by_plain : {ls : List Label} {w : List ℕ} {ts us r : List Terminal} {i : Instruction} {is : List Instruction}
      → structured w ≡ None → plain context ls (Word w ∷ ts) ≡ Ok (i, us) → Instructions context ls false us is r → Instructions context ls false (Word w ∷ ts) (i ∷ is) r
  -- 6.5.2: `block`, `loop` or `if`, up to `end`. An `if` without `else` has an empty second branch. 5.4.1 has an
  -- encoding with and one without `else`; the encoding here follows the text, which is a choice of this library.
  by_block : {ls : List Label} {w v : List ℕ} {o : ℕ} {a : Argument} {ts bs us vs r : List Terminal} {body is : List Instruction}
      → structured w ≡ Some o → block_type context.types (label_of ts).1 ≡ Ok (a, bs) → Instructions context ((label_of ts).0 ∷ ls) false bs body (Word v ∷ us) → is_end v ≡ true → end_label (label_of ts).0 us ≡ Ok vs → Instructions context ls false vs is r
      → Instructions context ls false (Word w ∷ ts) (instruction o a ∷ (body ++ (end ∷ is))) r
  -- 6.5.2: `if`, up to `else`, up to `end`.
  by_if_else : {ls : List Label} {w v x : List ℕ} {o : ℕ} {a : Argument} {ts bs us xs ys vs r : List Terminal} {body other is : List Instruction}
      → structured w ≡ Some o → is_if o ≡ true → block_type context.types (label_of ts).1 ≡ Ok (a, bs) → Instructions context ((label_of ts).0 ∷ ls) false bs body (Word v ∷ us) → is_else v ≡ true → end_label (label_of ts).0 us ≡ Ok xs
      → Instructions context ((label_of ts).0 ∷ ls) false xs other (Word x ∷ ys) → is_end x ≡ true → end_label (label_of ts).0 ys ≡ Ok vs → Instructions context ls false vs is r
      → Instructions context ls false (Word w ∷ ts) (instruction o a ∷ (body ++ (otherwise ∷ (other ++ (end ∷ is))))) r
  -- 6.5.10: `(plaininstr foldedinstr*)` is `foldedinstr* plaininstr`.
  by_folded : {ls : List Label} {folded : Bool} {w : List ℕ} {ts us vs r : List Terminal} {i : Instruction} {operands is : List Instruction}
      → structured w ≡ None → plain context ls (Word w ∷ ts) ≡ Ok (i, us) → Instructions context ls true us operands (Close ∷ vs) → Instructions context ls folded vs is r
      → Instructions context ls folded (Open ∷ Word w ∷ ts) (operands ++ (i ∷ is)) r
  -- 6.5.10: `(block label blocktype instr*)` is `block label blocktype instr* end`; `loop` likewise.
  by_folded_block : {ls : List Label} {folded : Bool} {w : List ℕ} {o : ℕ} {a : Argument} {ts bs vs r : List Terminal} {body is : List Instruction}
      → structured w ≡ Some o → is_if o ≡ false → block_type context.types (label_of ts).1 ≡ Ok (a, bs) → Instructions context ((label_of ts).0 ∷ ls) false bs body (Close ∷ vs) → Instructions context ls folded vs is r
      → Instructions context ls folded (Open ∷ Word w ∷ ts) (instruction o a ∷ (body ++ (end ∷ is))) r
  -- 6.5.10: `(if label blocktype foldedinstr* (then instr*))` is `foldedinstr* if label blocktype instr* end`.
  by_folded_if : {ls : List Label} {folded : Bool} {w t : List ℕ} {o : ℕ} {a : Argument} {ts bs cs vs r : List Terminal} {condition body is : List Instruction}
      → structured w ≡ Some o → is_if o ≡ true → block_type context.types (label_of ts).1 ≡ Ok (a, bs) → Instructions context ls true bs condition (Open ∷ Word t ∷ cs) → is_then t ≡ true
      → Instructions context ((label_of ts).0 ∷ ls) false cs body (Close ∷ Close ∷ vs) → Instructions context ls folded vs is r
      → Instructions context ls folded (Open ∷ Word w ∷ ts) (condition ++ (instruction o a ∷ (body ++ (end ∷ is)))) r
  -- 6.5.10: `(if label blocktype foldedinstr* (then instr*) (else instr*))` is `foldedinstr* if
  -- label blocktype instr* else instr* end`.
  by_folded_if_else : {ls : List Label} {folded : Bool} {w t e : List ℕ} {o : ℕ} {a : Argument} {ts bs cs es vs r : List Terminal} {condition body other is : List Instruction}
      → structured w ≡ Some o → is_if o ≡ true → block_type context.types (label_of ts).1 ≡ Ok (a, bs) → Instructions context ls true bs condition (Open ∷ Word t ∷ cs) → is_then t ≡ true
      → Instructions context ((label_of ts).0 ∷ ls) false cs body (Close ∷ Open ∷ Word e ∷ es) → is_else e ≡ true
      → Instructions context ((label_of ts).0 ∷ ls) false es other (Close ∷ Close ∷ vs) → Instructions context ls folded vs is r
      → Instructions context ls folded (Open ∷ Word w ∷ ts) (condition ++ (instruction o a ∷ (body ++ (otherwise ∷ (other ++ (end ∷ is)))))) r

-- 6.5.11, 6.6.5: the instructions of an expression or a body up to its `)`, which is consumed. A body is in no block,
-- and its label has no identifier. `Body context ts is r`: the tokens `ts` match the grammar of the instructions
-- `is`, up to a `)`, and `r` comes after it.
abbrev pub Body : Context → List Terminal → List Instruction → List Terminal → Type 0
Body context ts is r = Instructions context (None ∷ []) false ts is (Close ∷ r)

-- 6.5.10: one folded instruction, in no block: folded instructions up to the `)` of the first `(`. `Folded
-- context ts is r`: the tokens `ts`, which begin with `(`, match the grammar of the instructions `is`, up
-- to the rest `r`, which comes after the `)`.
pub data Folded (context : Context) : List Terminal → List Instruction → List Terminal → Type 0 where
  by_group : {ts r : List Terminal} {is : List Instruction} → Instructions context [] true (Open ∷ ts) is r → r ≡ past 0 ts → Folded context (Open ∷ ts) is r
