-- Where fields begin, by the parentheses alone.
use Rattle.std.proofs.Common.{◌≡◌, ◌≤◌, ℕ, zero, suc, List, [], ◌∷◌, ◌++◌, length, refl, arith}
use Rattle.wat_module_instructions.specs.Law.{past}
use Rattle.wat_module_tokens.specs.Terminals.{Terminal, Open, Close, Word, Id, Integer, Text, Float, Other}
use Rattle.wat_module_parser.specs.Reading.{starts, Before, Inside}

pub inside_past : (d : ℕ) (ss : List (List Terminal)) (ts : List Terminal) → starts (Inside d) ss ts ≡ starts Before ss (past d ts)
unfolding starts
inside_past d ss [] = refl
inside_past d ss (Open ∷ ts) = inside_past (suc d) ss ts
inside_past zero ss (Close ∷ ts) = refl
inside_past (suc d) ss (Close ∷ ts) = inside_past d ss ts
inside_past zero ss (Word w ∷ ts) = inside_past zero ss ts
inside_past (suc d) ss (Word w ∷ ts) = inside_past (suc d) ss ts
inside_past zero ss (Id x ∷ ts) = inside_past zero ss ts
inside_past (suc d) ss (Id x ∷ ts) = inside_past (suc d) ss ts
inside_past zero ss (Integer s n ∷ ts) = inside_past zero ss ts
inside_past (suc d) ss (Integer s n ∷ ts) = inside_past (suc d) ss ts
inside_past zero ss (Text v ∷ ts) = inside_past zero ss ts
inside_past (suc d) ss (Text v ∷ ts) = inside_past (suc d) ss ts
inside_past zero ss (Float narrow wide ∷ ts) = inside_past zero ss ts
inside_past zero ss (Other ∷ ts) = inside_past zero ss ts
inside_past (suc d) ss (Float narrow wide ∷ ts) = inside_past (suc d) ss ts
inside_past (suc d) ss (Other ∷ ts) = inside_past (suc d) ss ts

-- one field more
pub next_start : (ss : List (List Terminal)) (ts : List Terminal) → starts Before ss (Open ∷ ts) ≡ starts Before (ss ++ ts ∷ []) (past 0 ts)
unfolding starts
next_start ss ts = inside_past 0 (ss ++ ts ∷ []) ts

-- no field more
pub last_start : (ss : List (List Terminal)) (ts : List Terminal) → ((us : List Terminal) → ¬ (ts ≡ Open ∷ us)) → starts Before ss ts ≡ ss
unfolding starts
last_start ss [] h = refl
last_start ss (Open ∷ ts) h = absurd (h ts refl)
last_start ss (Close ∷ ts) h = refl
last_start ss (Word w ∷ ts) h = refl
last_start ss (Id x ∷ ts) h = refl
last_start ss (Integer s n ∷ ts) h = refl
last_start ss (Text v ∷ ts) h = refl
last_start ss (Float narrow wide ∷ ts) h = refl
last_start ss (Other ∷ ts) h = refl

pub past_is_short : (d : ℕ) (ts : List Terminal) → length (past d ts) ≤ length ts
past_is_short d [] = omega arith
past_is_short d (Open ∷ ts) = let k = past_is_short (suc d) ts in omega (arith, k)
past_is_short zero (Close ∷ ts) = omega arith
past_is_short (suc d) (Close ∷ ts) = let k = past_is_short d ts in omega (arith, k)
past_is_short d (Word w ∷ ts) = let k = past_is_short d ts in omega (arith, k)
past_is_short d (Id x ∷ ts) = let k = past_is_short d ts in omega (arith, k)
past_is_short d (Integer s n ∷ ts) = let k = past_is_short d ts in omega (arith, k)
past_is_short d (Text v ∷ ts) = let k = past_is_short d ts in omega (arith, k)
past_is_short d (Float narrow wide ∷ ts) = let k = past_is_short d ts in omega (arith, k)
past_is_short d (Other ∷ ts) = let k = past_is_short d ts in omega (arith, k)
