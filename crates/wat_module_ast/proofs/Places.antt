-- Each row is at the index that its keyword is hashed to, so no row at another index has the keyword.
use Rattle.std.proofs.Common.{ℕ, zero, suc, ◌+◌, ◌<◌, ◌/◌, ◌%◌, ◌==◌, List, [], ◌∷◌, ◌++◌, length, get_or, Bool, true, false, ◌&&◌, Some, None, bytes_eq, refl, ap, ◌∙◌, ◌≡◌, arith}
use Rattle.std.specs.List.{slice_get}
use Rattle.std.specs.Prelude.{if◌then◌else◌}
use Rattle.std.proofs.lemmas.Bool.{eqb-true}
use Rattle.std.proofs.lemmas.Slice.Eq.{bytes_eq-Decides}
use Rattle.wat_module_ast.specs.Slots.{hash, matching_row}
use Rattle.wat_module_ast.specs.Table.{Mnemonic, found, low, high, prefixed, low_vectors, high_vectors, mnemonics}
use Rattle.wat_module_ast.specs.declared.slots.TheConstants.{MOVES, SLOTS}

-- Returns `true` if the keywords of rows are hashed to consecutive indices from k on.

abbrev pub are_placed : (List ℕ → ℕ) → ℕ → List Mnemonic → Bool
are_placed f k [] = true
are_placed f k (m ∷ ms) = (f m.word == k) && are_placed f (suc k) ms

both : (a b : Bool) → (a && b) ≡ true → (a ≡ true) × (b ≡ true)
both true b e = (refl, e)
both false b e = cc

moved : (f : List ℕ → ℕ) (k j : ℕ) (ms : List Mnemonic) → k ≡ j → are_placed f j ms ≡ true → are_placed f k ms ≡ true
moved f k j ms e h = ap (λ i. are_placed f i ms) e ∙ h

pub placed-append : (f : List ℕ → ℕ) (k : ℕ) (xs ys : List Mnemonic) → are_placed f k xs ≡ true → are_placed f (k + length xs) ys ≡ true → are_placed f k (xs ++ ys) ≡ true
placed-append f k [] ys e h = moved f k (k + 0) ys (omega arith) h
placed-append f k (m ∷ ms) ys e h =
    let e' = both (f m.word == k) (are_placed f (suc k) ms) e in
    let rest = placed-append f (suc k) ms ys e'.1 (moved f (suc k + length ms) (k + length (m ∷ ms)) ys (omega arith) h) in
    ap (λ b. b && are_placed f (suc k) (ms ++ ys)) e'.0 ∙ rest

-- A keyword whose index is before those of the rows.

none_before : (f : List ℕ → ℕ) (w : List ℕ) (k : ℕ) (ms : List Mnemonic) → f w < k → are_placed f k ms ≡ true → found w ms ≡ None
none_before f w k [] l e = refl
none_before f w k (m ∷ ms) l e =
    let e' = both (f m.word == k) (are_placed f (suc k) ms) e in
    by (bytes_eq m.word w) refl (eqb-true (f m.word) k e'.0) (none_before f w (suc k) ms (omega arith) e'.1)
  where
    by : (b : Bool) → bytes_eq m.word w ≡ b → f m.word ≡ k → found w ms ≡ None → (if b then Some m else found w ms) ≡ None
    by true s p n = let same : f m.word ≡ f w = ap f ((bytes_eq-Decides m.word w).0 s) in absurd (omega arith)
    by false s p n = n

pub found_at_place : (f : List ℕ → ℕ) (w : List ℕ) (k p : ℕ) (ms : List Mnemonic) → k + p ≡ f w → are_placed f k ms ≡ true → found w ms ≡ matching_row w (slice_get ms p)
found_at_place f w k p [] l e = refl
found_at_place f w k zero (m ∷ ms) l e =
    let e' = both (f m.word == k) (are_placed f (suc k) ms) e in
    ap (λ o. if bytes_eq m.word w then Some m else o) (none_before f w (suc k) ms (omega arith) e'.1)
found_at_place f w k (suc p) (m ∷ ms) l e =
    let e' = both (f m.word == k) (are_placed f (suc k) ms) e in
    by (bytes_eq m.word w) refl (eqb-true (f m.word) k e'.0) (found_at_place f w (suc k) p ms (omega arith) e'.1)
  where
    by : (b : Bool) → bytes_eq m.word w ≡ b → f m.word ≡ k → found w ms ≡ matching_row w (slice_get ms p) → (if b then Some m else found w ms) ≡ matching_row w (slice_get ms p)
    by true s q n = let same : f m.word ≡ f w = ap f ((bytes_eq-Decides m.word w).0 s) in absurd (omega arith)
    by false s q n = n

-- The indices that the code computes for the rows of each part of the table.

abbrev pub place_at : ℕ → ℕ
place_at h = get_or SLOTS ((h / 128 + get_or MOVES (h % 128) 0) % 512) 0

abbrev pub place_of : List ℕ → ℕ
place_of w = place_at (hash w)

low_placed : are_placed place_of 0 low ≡ true
unfolding low hash
low_placed = refl

high_placed : are_placed place_of 105 high ≡ true
unfolding high hash
high_placed = refl

prefixed_placed : are_placed place_of 177 prefixed ≡ true
unfolding prefixed hash
prefixed_placed = refl

low_vectors_placed : are_placed place_of 195 low_vectors ≡ true
unfolding low_vectors hash
low_vectors_placed = refl

high_vectors_placed : are_placed place_of 323 high_vectors ≡ true
unfolding high_vectors hash
high_vectors_placed = refl

all_placed : are_placed place_of 0 mnemonics ≡ true
unfolding mnemonics low high prefixed low_vectors
all_placed =
    placed-append place_of 0 low (high ++ (prefixed ++ (low_vectors ++ high_vectors))) low_placed
    (placed-append place_of 105 high (prefixed ++ (low_vectors ++ high_vectors)) high_placed
    (placed-append place_of 177 prefixed (low_vectors ++ high_vectors) prefixed_placed
    (placed-append place_of 195 low_vectors high_vectors low_vectors_placed high_vectors_placed)))

pub found_at_place_of : (w : List ℕ) → found w mnemonics ≡ matching_row w (slice_get mnemonics (place_of w))
found_at_place_of w = found_at_place place_of w 0 (place_of w) mnemonics (omega arith) all_placed
