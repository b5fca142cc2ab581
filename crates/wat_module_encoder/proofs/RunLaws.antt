-- Runs of locals: locals of the type of a run, and locals of another type after it.
use Rattle.std.proofs.Common.{◌≡◌, ◌≤◌, ◌<◌, ◌∙◌, ◌++◌, ℕ, zero, suc, Bool, true, false, List, [], ◌∷◌, length, refl, sym, ap, append-nil, arith}
use Rattle.std.specs.Prelude.{◌==◌, if◌then◌else◌, replicate}
use Rattle.std.specs.List.{flat_map}
use Rattle.wat_lex.specs.binary.Leb128.{unsigned_leb128}
use Rattle.std.proofs.lemmas.Bool.Decides.{Decides-eqb}
use Rattle.wat_module_encoder.specs.Binary.{Run, run, before_run, run_bytes, runs_of}

same_byte : (b : ℕ) → (b == b) ≡ true
same_byte b = (Decides-eqb b b).1 refl

-- Locals of one type are one run.
pub one_run : (n b : ℕ) → runs_of (replicate (suc n) b) ≡ run (suc n) b ∷ []
one_run zero b = refl
one_run (suc n) b = ap (before_run b) (one_run n b) ∙ ap (λ (x : Bool). if x then run (suc (suc n)) b ∷ [] else run 1 b ∷ run (suc n) b ∷ []) (same_byte b)

pub count_one : (n b : ℕ) → 0 < n → 1 ≡ length (runs_of (replicate n b))
count_one zero b h = absurd (omega (arith, h))
count_one (suc n) b h = sym (ap length (one_run n b))

pub count_none : (n b : ℕ) → n ≤ 0 → 0 ≡ length (runs_of (replicate n b))
count_none zero b h = refl
count_none (suc n) b h = absurd (omega (arith, h))

-- The bytes of a run.
pub run_is : (n b : ℕ) → 0 < n → flat_map run_bytes (runs_of (replicate n b)) ≡ unsigned_leb128 n ++ b ∷ []
run_is zero b h = absurd (omega (arith, h))
run_is (suc n) b h = ap (flat_map run_bytes) (one_run n b) ∙ append-nil (unsigned_leb128 (suc n) ++ b ∷ [])

-- One local before a run of another type.
before_other : (b c : ℕ) → (b == c) ≡ false → (rs : List Run) → before_run b (before_run c rs) ≡ run 1 b ∷ before_run c rs
before_other b c e [] = ap (λ (x : Bool). if x then run 2 b ∷ [] else run 1 b ∷ run 1 c ∷ []) e
before_other b c e (r ∷ rs) = by (c == r.byte)
  where
    by : (x : Bool) → before_run b (if x then run (suc r.count) c ∷ rs else run 1 c ∷ r ∷ rs) ≡ run 1 b ∷ (if x then run (suc r.count) c ∷ rs else run 1 c ∷ r ∷ rs)
    by true = ap (λ (x : Bool). if x then run (suc (suc r.count)) b ∷ rs else run 1 b ∷ run (suc r.count) c ∷ rs) e
    by false = ap (λ (x : Bool). if x then run 2 b ∷ r ∷ rs else run 1 b ∷ run 1 c ∷ r ∷ rs) e

-- Locals of one type before a local of another type.
pub other_run : (n b c : ℕ) → (b == c) ≡ false → (xs : List ℕ) → runs_of (replicate n b ++ c ∷ xs) ≡ runs_of (replicate n b) ++ runs_of (c ∷ xs)
other_run zero b c e xs = refl
other_run (suc zero) b c e xs = before_other b c e (runs_of xs)
other_run (suc (suc n)) b c e xs =
    ap (before_run b) (other_run (suc n) b c e xs ∙ ap (λ rs. rs ++ runs_of (c ∷ xs)) (one_run n b))
    ∙ ap (λ (x : Bool). if x then run (suc (suc n)) b ∷ runs_of (c ∷ xs) else run 1 b ∷ run (suc n) b ∷ runs_of (c ∷ xs)) (same_byte b)
    ∙ ap (λ rs. rs ++ runs_of (c ∷ xs)) (sym (one_run (suc n) b))
