-- A map that has the names of exports. Not part of the standard.
use denote.Ref.{Bor}
use Rattle.std.specs.Prelude.{◌≡◌, ◌++◌, ℕ, Bool, true, List, is_some}
use Rattle.std.specs.BTreeMap.{BTreeMap, get_by}
use Rattle.std.specs.Cmp.Lexicographic.{slice_cmp}
use Rattle.std.specs.Ordering.{nat_cmp}
use Rattle.wat_module_ast.specs.Names.{are_distinct, has_name}
use Rattle.wat_module_tokens.specs.Terminals.{Label}

-- `HasNames m names`: the map has a value for each of these names, and for no other.
abbrev pub HasNames : {X : Type 0} → BTreeMap (Bor (List ℕ)) X → List Label → Type 0
HasNames m names = (x : List ℕ) → is_some (get_by (λ k. slice_cmp nat_cmp x k.now) m) ≡ has_name x names

-- `Adds old new names are_new`: if the map `old` has names that are distinct, then `are_new` says that they are distinct with
-- the further names as well, and if so, the map `new` has all of them.
pub record AddsTo {X : Type 0} (new : BTreeMap (Bor (List ℕ)) X) (before names : List Label) (are_new : Bool) : Type 0 where
  pub distinct : are_new ≡ are_distinct (before ++ names)
  pub has : are_new ≡ true → HasNames new (before ++ names)

abbrev pub Adds : {X : Type 0} → BTreeMap (Bor (List ℕ)) X → BTreeMap (Bor (List ℕ)) X → List Label → Bool → Type 0
Adds old new names are_new = (before : List Label) → HasNames old before → are_distinct before ≡ true → AddsTo new before names are_new
