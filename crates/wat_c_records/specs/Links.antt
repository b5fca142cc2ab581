-- Groups in parentheses over the codes of rows, as annotations have balanced tokens (custom annotations proposal), and
-- the links of rows to the ends of these groups. Links are not part of the standard.
use Rattle.std.specs.Prelude.{◌≡◌, ◌≤◌, ℕ, zero, suc, ◌+◌, Bool, ◌==◌, ◌||◌, List, [], ◌∷◌, ◌++◌, length, drop, map, slice_get, Some, IsTrue, IsFalse}
use Rattle.wat_c_records.specs.Counting.{opens_at}
use Rattle.wat_c_records.specs.declared.counting.Row.{Row}

abbrev pub codes_of : List Row → List ℕ
codes_of rows = map (λ row. row.kind.code) rows

-- `opens code`: the code is that of a `(`, with or without `@` after it.
abbrev pub opens : ℕ → Bool
opens code = (code == 4) || (code == opens_at)

-- `closes code`: the code is that of a `)`.
abbrev pub closes : ℕ → Bool
closes code = code == 5

-- `Balanced codes`: each parenthesis is matched.
pub data Balanced : List ℕ → Type 0 where
  nothing : Balanced []
  plain : {c : ℕ} {b : List ℕ} → IsFalse (opens c) → IsFalse (closes c) → Balanced b → Balanced (c ∷ b)
  group : (o c : ℕ) {a b s : List ℕ} → IsTrue (opens o) → Balanced a → IsTrue (closes c) → Balanced b → s ≡ (o ∷ a) ++ (c ∷ b) → Balanced s

-- `ClosedWithin codes n`: the group that is open before these codes is closed by code `n`, counted from 1.
pub record ClosedWithin (codes : List ℕ) (n : ℕ) : Type 0 where
  pub within : List ℕ
  pub last : ℕ
  pub rest : List ℕ
  pub balanced : Balanced within
  pub closing : IsTrue (closes last)
  pub cut : codes ≡ within ++ (last ∷ rest)
  pub count : n ≡ length within + 1

-- `IsLink codes number link`: the link is 1 plus the index of the row that closes the innermost group open after row
-- `number`, or 0 if none closes it.
abbrev pub IsLink : List ℕ → ℕ → ℕ → Type 0
IsLink codes number zero = (n : ℕ) → ClosedWithin (drop (number + 1) codes) n → ⊥
IsLink codes number (suc closing) = (n : ℕ) × ClosedWithin (drop (number + 1) codes) n × (suc closing ≡ number + 1 + n)

-- `LinkedFrom first rows`: the rows from index `first` on have their links.
abbrev pub LinkedFrom : ℕ → List Row → Type 0
LinkedFrom first rows = (number : ℕ) (row : Row) → first ≤ number → slice_get rows number ≡ Some row → IsLink (codes_of rows) number row.link

-- `AreLinked rows`: each row has its link.
abbrev pub AreLinked : List Row → Type 0
AreLinked rows = LinkedFrom 0 rows

abbrev pub without_link : Row → Row
without_link row = record row { link = 0 }
