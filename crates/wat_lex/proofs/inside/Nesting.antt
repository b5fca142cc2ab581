-- Delimiters of comments by blocks: what their masks say of a text, and how many comments are open after a block.
use Rattle.std.proofs.Common.{◌≡◌, ◌≢◌, div-one, ℕ, zero, suc, ◌+◌, ◌-◌, ◌*◌, ◌/◌, ◌^◌, ◌<◌, ◌≤◌, Bool, true, false, ◌&&◌, ◌||◌, cond, eqb, List, ◌∷◌, map, length, take, drop, get_or, bit_and, bit_or, refl, sym, ap, ap₂, ◌∙◌, subst, inl, inr, arith}
use Rattle.std.specs.Simd.Lanes.{chunk, mask_l}
use Rattle.std.proofs.lemmas.Bool.{both_ways, eqb-true, or_cases}
use Rattle.std.proofs.lemmas.List.{drop_more}
use Rattle.std.proofs.lemmas.Nat.{and_block, or_block, shr-shr, shr_le}
use Rattle.wat_lex.specs.inside.Nesting.{Reaches, opens_at, closes_at, delimits, passing}
use Rattle.wat_lex.proofs.grammar.Comments.{other_at}

-- ---- masks bit by bit

pub and_bits : (a b : Bool) (x y : ℕ) → bit_and (cond a 1 0 + 2 * x) (cond b 1 0 + 2 * y) ≡ cond (a && b) 1 0 + 2 * bit_and x y
and_bits true true x y =
    let e : 1 + 2 * x ≡ x * 2 ^ 1 + 1 = omega arith in
    let f : 1 + 2 * y ≡ y * 2 ^ 1 + 1 = omega arith in
    let g : bit_and 1 1 ≡ 1 = refl in
    omega (arith, ap₂ bit_and e f ∙ and_block 1 x y 1 1 (omega arith) (omega arith), g)
and_bits true false x y =
    let e : 1 + 2 * x ≡ x * 2 ^ 1 + 1 = omega arith in
    let f : 0 + 2 * y ≡ y * 2 ^ 1 + 0 = omega arith in
    let g : bit_and 1 0 ≡ 0 = refl in
    omega (arith, ap₂ bit_and e f ∙ and_block 1 x y 1 0 (omega arith) (omega arith), g)
and_bits false true x y =
    let e : 0 + 2 * x ≡ x * 2 ^ 1 + 0 = omega arith in
    let f : 1 + 2 * y ≡ y * 2 ^ 1 + 1 = omega arith in
    let g : bit_and 0 1 ≡ 0 = refl in
    omega (arith, ap₂ bit_and e f ∙ and_block 1 x y 0 1 (omega arith) (omega arith), g)
and_bits false false x y =
    let e : 0 + 2 * x ≡ x * 2 ^ 1 + 0 = omega arith in
    let f : 0 + 2 * y ≡ y * 2 ^ 1 + 0 = omega arith in
    let g : bit_and 0 0 ≡ 0 = refl in
    omega (arith, ap₂ bit_and e f ∙ and_block 1 x y 0 0 (omega arith) (omega arith), g)

or_bits : (a b : Bool) (x y : ℕ) → bit_or (cond a 1 0 + 2 * x) (cond b 1 0 + 2 * y) ≡ cond (a || b) 1 0 + 2 * bit_or x y
or_bits true true x y =
    let e : 1 + 2 * x ≡ x * 2 ^ 1 + 1 = omega arith in
    let f : 1 + 2 * y ≡ y * 2 ^ 1 + 1 = omega arith in
    let g : bit_or 1 1 ≡ 1 = refl in
    omega (arith, ap₂ bit_or e f ∙ or_block 1 x y 1 1 (omega arith) (omega arith), g)
or_bits true false x y =
    let e : 1 + 2 * x ≡ x * 2 ^ 1 + 1 = omega arith in
    let f : 0 + 2 * y ≡ y * 2 ^ 1 + 0 = omega arith in
    let g : bit_or 1 0 ≡ 1 = refl in
    omega (arith, ap₂ bit_or e f ∙ or_block 1 x y 1 0 (omega arith) (omega arith), g)
or_bits false true x y =
    let e : 0 + 2 * x ≡ x * 2 ^ 1 + 0 = omega arith in
    let f : 1 + 2 * y ≡ y * 2 ^ 1 + 1 = omega arith in
    let g : bit_or 0 1 ≡ 1 = refl in
    omega (arith, ap₂ bit_or e f ∙ or_block 1 x y 0 1 (omega arith) (omega arith), g)
or_bits false false x y =
    let e : 0 + 2 * x ≡ x * 2 ^ 1 + 0 = omega arith in
    let f : 0 + 2 * y ≡ y * 2 ^ 1 + 0 = omega arith in
    let g : bit_or 0 0 ≡ 0 = refl in
    omega (arith, ap₂ bit_or e f ∙ or_block 1 x y 0 0 (omega arith) (omega arith), g)

-- what passes one test or another
pub either : (p q : ℕ → Bool) (i n : ℕ) → bit_or (passing p i n) (passing q i n) ≡ passing (λ k. p k || q k) i n
either p q i zero = refl
either p q i (suc n) =
    or_bits (p i) (q i) (passing p (i + 1) n) (passing q (i + 1) n) ∙ ap (λ x. cond (p i || q i) 1 0 + 2 * x) (either p q (i + 1) n)

pub chunk_more : (s : List ℕ) (i n : ℕ) → i < length s → chunk i (suc n) s ≡ get_or s i 0 ∷ chunk (i + 1) n s
chunk_more s i n l = ap (take (suc n)) (drop_more s i 0 l)

-- The mask of the n offsets from i on at which the byte a is followed by the byte b.
pub pairs : (s : List ℕ) (a b i n : ℕ) → i + n + 1 ≤ length s
    → bit_and (mask_l (map (λ x. eqb x a) (chunk i n s))) (mask_l (map (λ x. eqb x b) (chunk (i + 1) n s))) ≡ passing (λ k. eqb (get_or s k 0) a && eqb (get_or s (k + 1) 0) b) i n
pairs s a b i zero l = refl
pairs s a b i (suc n) l =
    let f : List ℕ → ℕ = λ v. mask_l (map (λ x. eqb x a) v) in
    let g : List ℕ → ℕ = λ v. mask_l (map (λ x. eqb x b) v) in
    ap₂ bit_and (ap f (chunk_more s i n (omega arith))) (ap g (chunk_more s (i + 1) n (omega arith)))
    ∙ and_bits (eqb (get_or s i 0) a) (eqb (get_or s (i + 1) 0) b) (f (chunk (i + 1) n s)) (g (chunk (i + 1 + 1) n s))
    ∙ ap (λ x. cond (eqb (get_or s i 0) a && eqb (get_or s (i + 1) 0) b) 1 0 + 2 * x) (pairs s a b (i + 1) n (omega arith))

halved : (b : Bool) (x : ℕ) → (cond b 1 0 + 2 * x) / 2 ^ 1 ≡ x
halved true x = omega arith
halved false x = omega arith

pub after_first : (p : ℕ → Bool) (i n : ℕ) → passing p i (suc n) / 2 ^ 1 ≡ passing p (i + 1) n
after_first p i n = halved (p i) (passing p (i + 1) n)

zero_shr : (k : ℕ) → 0 / 2 ^ k ≡ 0
zero_shr k = omega (arith, shr_le 0 k)

-- the mask of the offsets after the first k
pub after_many : (p : ℕ → Bool) (i n k : ℕ) → passing p i n / 2 ^ k ≡ passing p (i + k) (n - k)
after_many p i n zero = let a : i ≡ i + 0 = omega arith in let b : n ≡ n - 0 = omega arith in div-one (passing p i n) ∙ ap₂ (passing p) a b
after_many p i zero (suc k) = let none : 0 ≡ 0 - suc k = omega arith in zero_shr (suc k) ∙ ap (passing p (i + suc k)) none
after_many p i (suc n) (suc k) =
    let m = passing p i (suc n) in
    let e : suc k ≡ 1 + k = omega arith in
    let place : i + 1 + k ≡ i + suc k = omega arith in
    let few : n - k ≡ suc n - suc k = omega arith in
    ap (λ j. m / 2 ^ j) e ∙ sym (shr-shr m 1 k) ∙ ap (λ x. x / 2 ^ k) (after_first p i n) ∙ after_many p (i + 1) n k ∙ ap₂ (passing p) place few

-- ---- delimiters

both_true : (a b : Bool) → (a && b) ≡ true → (a ≡ true) × (b ≡ true)
both_true true true e = (refl, refl)
both_true true false e = cc
both_true false b e = cc

opened_bytes : (s : List ℕ) (k : ℕ) → opens_at s k ≡ true → (get_or s k 0 ≡ 40) × (get_or s (k + 1) 0 ≡ 59)
opened_bytes s k e =
    let h = both_true (eqb (get_or s k 0) 40) (eqb (get_or s (k + 1) 0) 59) e in
    (eqb-true _ _ h.0, eqb-true _ _ h.1)

closed_bytes : (s : List ℕ) (k : ℕ) → closes_at s k ≡ true → (get_or s k 0 ≡ 59) × (get_or s (k + 1) 0 ≡ 41)
closed_bytes s k e =
    let h = both_true (eqb (get_or s k 0) 59) (eqb (get_or s (k + 1) 0) 41) e in
    (eqb-true _ _ h.0, eqb-true _ _ h.1)

-- the bytes of a delimiter, by its first one
pub opening_bytes : (s : List ℕ) (k : ℕ) → delimits s k ≡ true → get_or s k 0 ≡ 40 → get_or s (k + 1) 0 ≡ 59
opening_bytes s k d e =
    elim (or_cases (opens_at s k) (closes_at s k) d) [ inl o ↦ (opened_bytes s k o).1 | inr c ↦ let h = (closed_bytes s k c).0 in absurd (omega (arith, e, h)) ]

pub closing_bytes : (s : List ℕ) (k : ℕ) → delimits s k ≡ true → get_or s k 0 ≢ 40 → (get_or s k 0 ≡ 59) × (get_or s (k + 1) 0 ≡ 41)
closing_bytes s k d n =
    elim (or_cases (opens_at s k) (closes_at s k) d) [ inl o ↦ absurd (n (opened_bytes s k o).0) | inr c ↦ closed_bytes s k c ]

moved : (s : List ℕ) (a b i j : ℕ) → a ≡ b → i ≡ j → Reaches s a (drop i s) → Reaches s b (drop j s)
moved s a b i j e f h = subst (λ x. Reaches s b (drop x s)) f (subst (λ x. Reaches s x (drop i s)) e h)

neither : (a b : Bool) → (a || b) ≡ false → (a ≡ false) × (b ≡ false)
neither true b e = cc
neither false b e = (refl, e)

past_plain : (s : List ℕ) (i level : ℕ) → i < length s → 0 < level → delimits s i ≡ false → Reaches s level (drop i s) → Reaches s level (drop (i + 1) s)
past_plain s i level l p e h =
    let none = neither (opens_at s i) (closes_at s i) e in
    other_at s i level l p h
    (λ x y z. both_ways (opens_at s i) none.0 (ap₂ (λ u v. eqb u 40 && eqb v 59) x z))
    (λ x y z. both_ways (closes_at s i) none.1 (ap₂ (λ u v. eqb u 59 && eqb v 41) x z))

past_bytes : (s : List ℕ) (d i level : ℕ) → i + d ≤ length s → 0 < level → ((k : ℕ) → i ≤ k → k < i + d → delimits s k ≡ false) → Reaches s level (drop i s) → Reaches s level (drop (i + d) s)
past_bytes s zero i level l p none h = let z : i ≡ i + 0 = omega arith in moved s level level i (i + 0) refl z h
past_bytes s (suc d) i level l p none h =
    let before = past_bytes s d i level (omega arith) p (λ k a b. none k a (omega arith)) h in
    let z : i + d + 1 ≡ i + suc d = omega arith in
    moved s level level (i + d + 1) (i + suc d) refl z (past_plain s (i + d) level (omega arith) p (none (i + d) (omega arith) (omega arith)) before)

-- What is reached before bytes at which no delimiter begins is reached after them.
pub past_stretch : (s : List ℕ) (i j level : ℕ) → i ≤ j → j ≤ length s → 0 < level → ((k : ℕ) → i ≤ k → k < j → delimits s k ≡ false) → Reaches s level (drop i s) → Reaches s level (drop j s)
past_stretch s i j level a l p none h =
    let z : i + (j - i) ≡ j = omega arith in
    moved s level level (i + (j - i)) j refl z (past_bytes s (j - i) i level (omega arith) p (λ k x y. none k x (omega arith)) h)
