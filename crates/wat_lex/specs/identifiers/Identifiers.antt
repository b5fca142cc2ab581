-- WebAssembly 2.0, 6.3.5 (identifiers): an identifier is its name. The generation is not in the standard. It is above 0
-- for the identifiers that a program generates, so these differ from every identifier of a source text.
use Rattle.std.specs.Prelude.{◌≡◌, ◌≤◌, ℕ, Bool, true, false, List, ◌&&◌, ◌==◌, codes}
use Rattle.std.specs.Cmp.Lexicographic.{pointwise}
use Rattle.std.specs.Cow.{cow_str_bytes}
use Rattle.std.specs.declared.borrow.CowStr.{CowStr}
use Rattle.std.specs.declared.borrow.CowStr.TheVariants.{Borrowed, Owned}

-- An identifier as callers see it: the bytes of its name, `true` if the name is owned, the generation, and the byte
-- offset of its span.
pub record Identifier : Type 0 where
  pub name : List ℕ
  pub owned : Bool
  pub generation : ℕ
  pub span : ℕ

-- `true` if the text is owned.
abbrev pub is_owned_str : {Z : Type 0} → CowStr Z → Bool
is_owned_str (Borrowed text) = false
is_owned_str (Owned text) = true

-- The identifier with this name, generation and byte offset.
abbrev pub identifier : {Z : Type 0} → CowStr Z → ℕ → ℕ → Identifier
identifier text g offset =
    record { name = cow_str_bytes text; owned = is_owned_str text; generation = g; span = offset }

-- The identifiers `a` and `b` have the same name and generation. Their spans and the owners of their names may differ.
pub record IsSameIdentifier (a b : Identifier) : Type 0 where
  pub name : a.name ≡ b.name
  pub generation : a.generation ≡ b.generation

-- `IsSameIdentifier` as a test.
abbrev pub is_same_identifier : Identifier → Identifier → Bool
is_same_identifier a b = pointwise ◌==◌ a.name b.name && (a.generation == b.generation)

-- The identifier that a program generates with this generation and byte offset. Its name is `gensym`.
abbrev pub generated : ℕ → ℕ → Identifier
generated generation span =
    record { name = codes "gensym"; owned = false; generation = generation; span = span }

-- `IsFresh counter id`: `id` differs from every identifier whose generation is at most `counter`.
abbrev pub IsFresh : ℕ → Identifier → Type 0
IsFresh counter id = (other : Identifier) → other.generation ≤ counter → ¬ IsSameIdentifier id other
