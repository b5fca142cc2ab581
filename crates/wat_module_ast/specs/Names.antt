-- WebAssembly 2.0, 6.1.3 (contexts), 6.6.5 (functions) and 6.6.13 (modules): no two items of a kind have the same
-- identifier. 7.4.1 (appendix, custom sections: name section): name maps. 6.5.2 and 6.5.10 (control instructions, folded
-- instructions), and the extended-name-section proposal: the labels of a function, in the order of their indices.
use Rattle.std.specs.Prelude.{◌≡◌, ℕ, zero, suc, Bool, true, false, List, [], ◌∷◌, ◌++◌, length, Option, Some, None, if◌then◌else◌, bytes_eq, codes, take, drop, is_some, slice_get}
use Rattle.wat_module_ast.specs.Grammar.{is_name, is_then, label_of, position, structured}
use Rattle.wat_module_tokens.specs.Terminals.{Terminal, Open, Close, Word, Label}

-- Returns `true` if one of the items has the identifier `x`.
abbrev pub has_name : List ℕ → List Label → Bool
has_name x [] = false
has_name x (l ∷ ls) = if is_name x l then true else has_name x ls

-- Returns `true` if no two items have the same identifier. Items without an identifier do not count.
abbrev pub are_distinct : List Label → Bool
are_distinct [] = true
are_distinct (None ∷ ls) = are_distinct ls
are_distinct (Some x ∷ ls) = if has_name x ls then false else are_distinct ls

-- `Repeats labels i j`: the item `j` is the first that has the identifier of an earlier item, and `i` is the first item with
-- this identifier.
pub record Repeats (labels : List Label) (i j : ℕ) : Type 0 where
  pub name : List ℕ
  pub second : slice_get labels j ≡ Some (Some name)
  pub first : position 0 name (take j labels) ≡ Some i
  pub distinct : are_distinct (take j labels) ≡ true

-- The index of the first of the items `before` with an identifier, if it is given.
abbrev pub earlier : Label → List Label → Option ℕ
earlier None before = None
earlier (Some x) before = position 0 x before

-- The indices `i` and `j`, or `others` without `i`.
abbrev pub pair_or : Option ℕ → ℕ → Option (ℕ × ℕ) → Option (ℕ × ℕ)
pair_or (Some i) j others = Some (i, j)
pair_or None j others = others

-- The first repetition among the items after those in `before`.
abbrev pub repeated_after : List Label → List Label → Option (ℕ × ℕ)
repeated_after before [] = None
repeated_after before (l ∷ ls) = pair_or (earlier l before) (length before) (repeated_after (before ++ l ∷ []) ls)

-- The indices of the first item that has the identifier of an earlier item, and of the first item with this identifier,
-- as `Repeats` has them (`RepeatedIsFirst`); or `None` if the identifiers are distinct.
unfoldable pub repeated : List Label → Option (ℕ × ℕ)
repeated labels = repeated_after [] labels

-- Theorem: what `repeated` returns is the first repetition; if it returns `None`, the identifiers are distinct.
pub record RepeatedIsFirst (labels : List Label) : Type 0 where
  pub found : (i j : ℕ) → repeated labels ≡ Some (i, j) → Repeats labels i j
  pub none : repeated labels ≡ None → are_distinct labels ≡ true

-- 7.4.1, `nameassoc`: an index, and the name of the item with this index.
pub record NameAssociation : Type 0 where
  pub index : ℕ
  pub name : List ℕ

abbrev pub association : ℕ → List ℕ → NameAssociation
association n x = record { index = n; name = x }

-- 7.4.1, `namemap`: the name map of items whose indices begin at `n`, by their identifiers. An item without an identifier
-- has an index and no entry. Each index occurs at most once, and indices increase.
abbrev pub associations : ℕ → List Label → List NameAssociation
associations n [] = []
associations n (None ∷ ls) = associations (suc n) ls
associations n (Some x ∷ ls) = association n x ∷ associations (suc n) ls

-- The tokens before the `)` of a group in which `d` more groups are open, or all tokens if the group has no `)`.
abbrev pub inside : ℕ → List Terminal → List Terminal
inside d [] = []
inside d (Open ∷ ts) = Open ∷ inside (suc d) ts
inside zero (Close ∷ ts) = []
inside (suc d) (Close ∷ ts) = Close ∷ inside d ts
inside d (t ∷ ts) = t ∷ inside d ts

-- Extended-name-section proposal, label index: the position of an instruction among all `block`, `loop` and `if` of a
-- body, in the order of the binary format (5.4.1), from 0. The label of the body itself has none. 6.5.2, 6.5.10: the
-- identifiers of the labels of these instructions in these tokens, in this order, with one entry for each instruction. A
-- folded `if` comes after its condition: `(if label blocktype foldedinstr* (then instr*))` is `foldedinstr* if label
-- blocktype instr* end`. Its label is therefore listed at `(then`; until then it is in `ls`, the labels of the folded
-- `if`s whose `(then` is still to come, the innermost first.
unfoldable pub block_labels : List Label → List Terminal → List Label
block_labels ls [] = []
block_labels ls (Open ∷ Word w ∷ ts) =
    if bytes_eq w (codes "if") then block_labels ((label_of ts).0 ∷ ls) ts else if is_then w then take 1 ls ++ block_labels (drop 1 ls) ts else block_labels ls (Word w ∷ ts)
block_labels ls (Word w ∷ ts) = if is_some (structured w) then (label_of ts).0 ∷ block_labels ls ts else block_labels ls ts
block_labels ls (t ∷ ts) = block_labels ls ts
