-- Custom annotations proposal (lexical format, annotations): a tool may interpret the annotations that it knows. These
-- are the names that a parser has registered, each with a count above 0. Registration and counts are not part of the
-- standard.
use Rattle.std.specs.Prelude.{ℕ, Bool, ◌≢◌, ◌+◌, ◌-◌, ◌^◌, List, nat_lt, cond, Some, unwrap_or}
use Rattle.std.specs.FinMap as finmap
use Rattle.std.specs.Cmp.Lexicographic.{slice_cmp}
use Rattle.std.specs.Ordering.{nat_cmp}

-- A finite map from names to counts.
abbrev pub Names : Type 0
Names = finmap.FinMap (slice_cmp nat_cmp) ℕ

abbrev pub no_names : Names
no_names = finmap.empty

-- The number of registrations of a name.
abbrev pub count : Names → List ℕ → ℕ
count names x = unwrap_or (finmap.get names x) 0

abbrev pub is_registered : Names → List ℕ → Bool
is_registered names x = nat_lt 0 (count names x)

-- The greatest count, `usize::MAX`.
abbrev pub max_registrations : ℕ
max_registrations = 2 ^ 64 - 1

-- The names after one more registration of `x`.
abbrev pub more : Names → List ℕ → Names
more names x = finmap.insert names x (count names x + 1)

-- The names after one registration of `x` is removed. A name whose count falls to 0 leaves the map.
abbrev pub fewer : Names → List ℕ → Names
fewer names x = cond (nat_lt 1 (count names x)) (finmap.insert names x (count names x - 1)) (finmap.remove names x)

-- No name has count 0.
abbrev pub IsPositive : Names → Type 0
IsPositive names = (x : List ℕ) → finmap.get names x ≢ Some 0
