-- WebAssembly 2.0, 3.3: why an instruction has no type in its context, whatever the operands are. The standard does not define
-- such reasons. The first is an index that does not exist. If all exist, the reason is one that is left: `reason` assumes
-- that there is one.
use Rattle.std.specs.Prelude.{ℕ, Bool, List, [], ◌∷◌, Option, Some, None, if◌then◌else◌, is_some, length, nat_lt, slice_get, ◌==◌}
use Rattle.wat_module_ast.specs.declared.error.Space.{Space}
use Rattle.wat_module_ast.specs.declared.error.Space.TheVariants as space
use Rattle.wat_module_ast.specs.declared.instruction.Argument.{Argument}
use Rattle.wat_module_ast.specs.declared.instruction.Argument.TheVariants as argument
use Rattle.wat_module_ast.specs.declared.instruction.Opcode.{Opcode}
use Rattle.wat_module_ast.specs.declared.instruction.Opcode.TheVariants.{Byte, Prefixed}
use Rattle.wat_module_ast.specs.Branches.{Branches}
use Rattle.wat_module_ast.specs.Types.{TypeUse, Indexed, Inline}
use Rattle.wat_valid.specs.declared.untyped.Untyped.{Untyped}
use Rattle.wat_valid.specs.declared.untyped.Untyped.TheVariants as untyped
use Rattle.wat_valid.specs.Contexts.{Context, Labels}
use Rattle.wat_valid.specs.Wants.{has_label}

-- Returns `true` if an index space has an item with this index.
abbrev pub exists : Context → Labels → Space → ℕ → Bool
exists C labels space.Type n = nat_lt n (length C.types)
exists C labels space.Func n = nat_lt n (length C.funcs)
exists C labels space.Table n = nat_lt n (length C.tables)
exists C labels space.Memory n = nat_lt n (length C.mems)
exists C labels space.Global n = nat_lt n (length C.globals)
exists C labels space.Elem n = nat_lt n (length C.elems)
exists C labels space.Data n = nat_lt n C.datas
exists C labels space.Local n = is_some (slice_get C.locals n)
exists C labels space.Label n = has_label labels n

-- The reason `r`, or that there is no item with this index.
abbrev pub unless_unknown : Context → Labels → Space → ℕ → Untyped → Untyped
unless_unknown C labels s n r = if exists C labels s n then r else untyped.Unknown s n

abbrev pub use_reason : Context → Labels → TypeUse → Untyped → Untyped
use_reason C labels (Indexed n) r = unless_unknown C labels space.Type n r
use_reason C labels (Inline t) r = r

-- The index space to which the one index of an instruction belongs.
abbrev pub byte_space : ℕ → Option Space
byte_space b =
    if b == 0x0C then Some space.Label else
    if b == 0x0D then Some space.Label else
    if b == 0x10 then Some space.Func else
    if b == 0x20 then Some space.Local else
    if b == 0x21 then Some space.Local else
    if b == 0x22 then Some space.Local else
    if b == 0x23 then Some space.Global else
    if b == 0x24 then Some space.Global else
    if b == 0x25 then Some space.Table else
    if b == 0x26 then Some space.Table else
    if b == 0xD2 then Some space.Func else None

-- The index space for an instruction after the prefix 0xFC.
abbrev pub bulk_space : ℕ → Option Space
bulk_space n =
    if n == 9 then Some space.Data else
    if n == 13 then Some space.Elem else
    if n == 15 then Some space.Table else
    if n == 16 then Some space.Table else
    if n == 17 then Some space.Table else None

abbrev pub index_space : Opcode → Option Space
index_space (Byte b) = byte_space b
index_space (Prefixed p n) = if p == 0xFC then bulk_space n else None

-- The reason for an instruction whose one index exists: `global.set` and `ref.func` have one.
abbrev pub known_reason : Opcode → ℕ → Untyped
known_reason (Byte b) n = if b == 0x24 then untyped.ImmutableGlobal n else if b == 0xD2 then untyped.UndeclaredFunction n else untyped.Other
known_reason o n = untyped.Other

abbrev pub index_reason : Context → Labels → Opcode → ℕ → Option Space → Untyped
index_reason C labels o n None = untyped.Other
index_reason C labels o n (Some s) = unless_unknown C labels s n (known_reason o n)

-- `br_table`: the first label that does not exist.
abbrev pub labels_reason : Context → Labels → List ℕ → Untyped → Untyped
labels_reason C labels [] r = r
labels_reason C labels (l ∷ ls) r = unless_unknown C labels space.Label l (labels_reason C labels ls r)

abbrev pub table_reason : Context → Labels → Branches → Untyped
table_reason C labels b = labels_reason C labels b.labels (unless_unknown C labels space.Label b.default untyped.Other)

-- Instructions with two indices after the prefix 0xFC: `table.init` has that of the element segment before that of the table;
-- `table.copy` has those of two tables.
abbrev pub pair_reason : Context → Labels → ℕ → ℕ → ℕ → Untyped
pair_reason C labels o x y = if o == 12 then unless_unknown C labels space.Table y (unless_unknown C labels space.Elem x untyped.OtherElements) else unless_unknown C labels space.Table x (unless_unknown C labels space.Table y untyped.OtherElements)

abbrev pub prefixed_pair_reason : Context → Labels → Opcode → ℕ → ℕ → Untyped
prefixed_pair_reason C labels (Prefixed p n) x y = pair_reason C labels n x y
prefixed_pair_reason C labels o x y = untyped.Other

-- An instruction on the memory with the index 0.
abbrev pub memory_reason : Context → Labels → Untyped → Untyped
memory_reason C labels r = unless_unknown C labels space.Memory 0 r

abbrev pub reason : Context → Labels → Opcode → Argument → Untyped
reason C labels o (argument.Index n) = index_reason C labels o n (index_space o)
reason C labels o (argument.Labels b) = table_reason C labels b
reason C labels o (argument.Indirect c) = unless_unknown C labels space.Table c.table (use_reason C labels c.uses (untyped.NoFunctions c.table))
reason C labels o (argument.BlockUse u) = use_reason C labels u untyped.Other
reason C labels o (argument.Memory align offset) = memory_reason C labels untyped.Alignment
reason C labels o (argument.MemoryLane align offset n) = memory_reason C labels untyped.AlignmentOrLane
reason C labels o argument.Zero = memory_reason C labels untyped.Other
reason C labels o argument.Zeros = memory_reason C labels untyped.Other
reason C labels o (argument.IndexZero n) = memory_reason C labels (unless_unknown C labels space.Data n untyped.Other)
reason C labels o (argument.Pair p) = prefixed_pair_reason C labels o p.0 p.1
reason C labels o (argument.Select ts) = untyped.SelectTypes
reason C labels o (argument.Lane n) = untyped.Lane
reason C labels o (argument.Bytes ns) = untyped.Lane
reason C labels o a = untyped.Other
