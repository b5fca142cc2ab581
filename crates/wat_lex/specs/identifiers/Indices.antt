-- WebAssembly 2.0, 6.6.1 (indices): an index is an integer, or an identifier that denotes one.
use Rattle.std.specs.Prelude.{◌≡◌, ℕ, Bool, false, ◌++◌, ◌==◌}
use Rattle.std.specs.Hash as fed
use Rattle.wat_lex.specs.identifiers.Identifiers.{Identifier, IsSameIdentifier, is_same_identifier}
use Rattle.wat_lex.specs.declared.token.Index.{Index}
use Rattle.wat_lex.specs.declared.token.Index.TheVariants.{Id, Num}

-- The byte offset of an index.
abbrev pub span_of : Index → ℕ
span_of (Num number span) = span
span_of (Id id) = id.span

-- `true` if the index has an owned name. An integer has no name.
abbrev pub owns_name : Index → Bool
owns_name (Num number span) = false
owns_name (Id id) = id.owned

-- Two indices are equal integers or the same identifier. Their spans may differ.
abbrev pub IsSameIndex : Index → Index → Type 0
IsSameIndex (Num m _) (Num n _) = m ≡ n
IsSameIndex (Id a) (Id b) = IsSameIdentifier a b
IsSameIndex (Num m _) (Id b) = ⊥
IsSameIndex (Id a) (Num n _) = ⊥

-- `IsSameIndex` as a test.
abbrev pub is_same_index : Index → Index → Bool
is_same_index (Num m _) (Num n _) = m == n
is_same_index (Id a) (Id b) = is_same_identifier a b
is_same_index (Num m _) (Id b) = false
is_same_index (Id a) (Num n _) = false

-- The input that an identifier feeds to a hasher: its name and its generation.
abbrev pub identifier_hash_input : Identifier → fed.HashWrites
identifier_hash_input id = fed.str id.name ++ fed.u32 id.generation

-- The input that an index feeds to a hasher: 0 and the integer, or 1 and the input of the identifier.
abbrev pub hash_input_of : Index → fed.HashWrites
hash_input_of (Num number _) = fed.u8 0 ++ fed.u32 number
hash_input_of (Id id) = fed.u8 1 ++ identifier_hash_input id
