-- Tests of blocks of bytes by vectors: what a lane holds, and what the mask of a test says of a text. They are for any
-- test.
use Rattle.std.proofs.Common.{◌≡◌, ◌≢◌, ℕ, zero, ◌+◌, ◌-◌, ◌*◌, ◌/◌, ◌%◌, ◌^◌, ◌<◌, ◌≤◌, Bool, true, false, not, cond, eqb, List, [], ◌∷◌, suc, map, length, take, drop, get_or, replicate, bit_and, bit_or, Fits, w8, refl, sym, ap, ap₂, ◌∙◌, subst, arith}
use Rattle.std.specs.List.{prefix_len}
use Rattle.std.specs.Simd.Lanes.{chunk, mask_l, top, zip2, Each1}
use Rattle.std.specs.Int.Count.{count_trailing_zeros, under}
use Rattle.std.specs.Int.Bits.{or_shifted_r}
use Rattle.std.proofs.Math.Nat.{div-div-eq-div-mul, div-one, mul_assoc, mul_comm, pow-suc}
use Rattle.std.proofs.lemmas.Nat.{and_le_r, le_or_l, le_or_r}
use Rattle.std.proofs.lemmas.Bool.{agree_below, agree_below_at, lt-leb, eq-eqb, ne_eqb}
use Rattle.std.proofs.lemmas.List.{drop-take, length-map, take-append-drop}
use Rattle.std.proofs.lemmas.List.Folds.{prefix_len-append}
use Rattle.std.proofs.lemmas.List.Sums.{prefix_len-le-length, prefix_len_is, prefix_len_passes}
use Rattle.std.proofs.lemmas.Simd.{Each1-all, Each1-weaker, Each1-zip2, Each2-splat, below_from_Fits, length-zip2, map-map, mask_l-mod, chunk-drop, length-chunk, leading_from_mask_l, mask_l-lt, trailing_mask_l, swz_l, SwzOk, SwzOk-from_below, zip2_of_maps, zip2_splat, zip2_splat_left, splat_is_map}
use Rattle.std.proofs.Math.Bool.{not-not}
use Rattle.wat_lex.specs.inside.Blocks.{failures, FirstFailures, GoesOn}

-- ---- lanes

abbrev pub IsBlock : List ℕ → Type 0
IsBlock v = (length v ≡ 16) × Each1 (Fits w8) v

-- Indices into a table of 16 entries.
pub record Places (js : List ℕ) : Type 0 where
  pub long : length js ≡ 16
  pub small : Each1 (λ j. j < 16) js

pub low_places : (v : List ℕ) → IsBlock v → Places (zip2 bit_and v (replicate 16 15))
low_places v h = record {
  long = length-zip2 bit_and v (replicate 16 15) h.0 ∙ h.0;
  small = Each1-zip2 bit_and (λ j. j < 16) v (replicate 16 15)
      (Each2-splat (λ a b. bit_and a b < 16) v 16 15 (Each1-all (λ a. bit_and a 15 < 16) (λ a. omega (arith, and_le_r a 15)) v));
}

abbrev down : ℕ → ℕ → ℕ
down a b = a / 2 ^ b

pub high_places : (v : List ℕ) → IsBlock v → Places (zip2 down v (replicate 16 4))
high_places v h = record {
  long = length-zip2 down v (replicate 16 4) h.0 ∙ h.0;
  small = Each1-zip2 down (λ j. j < 16) v (replicate 16 4)
      (Each2-splat (λ a b. down a b < 16) v 16 4 (Each1-weaker (λ a. a < 256) (λ a. a / 16 < 16) (λ a k. omega arith) v (below_from_Fits w8 v h.1)));
}

pub places_allowed : {js : List ℕ} → Places js → SwzOk w8 16 16 0 js
places_allowed {js} h = SwzOk-from_below w8 16 1 16 0 js refl (omega (arith, h.long)) h.small

looked_up_from : (table : List ℕ) (i : ℕ) (js : List ℕ) → i + length js ≤ 16 → Each1 (λ j. j < 16) js → swz_l w8 16 table i js ≡ map (λ j. get_or table j 0) js
looked_up_from table i [] room small = refl
looked_up_from table i (j ∷ js) room small =
    let first : 16 * (i / 16) + j ≡ j = omega arith in
    ap₂ (λ b k. cond b 0 (get_or table k 0) ∷ swz_l w8 16 table (suc i) js) (lt-leb 128 j (omega (arith, small.0))) first
    ∙ ap (λ rest. get_or table j 0 ∷ rest) (looked_up_from table (suc i) js (omega arith) small.1)

-- The entries of a table at indices that were computed from the bytes v, each by f.
pub looked_up : (table : List ℕ) (f : ℕ → ℕ) (v js : List ℕ) → Places js → js ≡ map f v → swz_l w8 16 table 0 js ≡ map (λ x. get_or table (f x) 0) v
looked_up table f v js h e =
    looked_up_from table 0 js (omega (arith, h.long)) h.small ∙ ap (map (λ j. get_or table j 0)) e ∙ map-map (λ j. get_or table j 0) f v

-- bytes as they are
pub itself : (v : List ℕ) → v ≡ map (λ x. x) v
itself [] = refl
itself (x ∷ xs) = ap (λ rest. x ∷ rest) (itself xs)

-- lanes that were computed from the bytes v, each beside the same number
pub beside_splat : (op : ℕ → ℕ → ℕ) (f : ℕ → ℕ) (v : List ℕ) (n : ℕ) {z : List ℕ} → length v ≡ 16 → z ≡ map f v → zip2 op z (replicate 16 n) ≡ map (λ x. op (f x) n) v
beside_splat op f v n long e = zip2_of_maps op f (λ x. n) v e (splat_is_map v 16 n long)

-- ---- masks

same_on_bytes : (f g : ℕ → Bool) → agree_below f g 256 ≡ true → (v : List ℕ) → Each1 (Fits w8) v → map f v ≡ map g v
same_on_bytes f g all [] h = refl
same_on_bytes f g all (x ∷ xs) h = ap₂ (λ b bs. b ∷ bs) (agree_below_at f g 256 x all h.0.fits) (same_on_bytes f g all xs h.1)

-- The lanes z were computed from the bytes v, each by f, and the top bit of f x is set just where x fails the test:
-- that is
-- evaluated at each of the 256 bytes.
pub failures_from_lanes : (p : ℕ → Bool) (f : ℕ → ℕ) (v z : List ℕ) → IsBlock v → z ≡ map f v → agree_below (λ x. top 7 (f x)) (λ x. not (p x)) 256 ≡ true → mask_l (map (top 7) z) % 2 ^ 64 ≡ failures p v
failures_from_lanes p f v z h e all =
    let tests : map (top 7) z ≡ map (λ x. not (p x)) v = ap (map (top 7)) e ∙ map-map (top 7) f v ∙ same_on_bytes (λ x. top 7 (f x)) (λ x. not (p x)) all v h.1 in
    ap (λ ms. mask_l ms % 2 ^ 64) tests ∙ mask_l-mod (map (λ x. not (p x)) v) 64 (omega (arith, length-map v (λ x. not (p x)), h.0))

-- ---- texts

none_fail_step : (b : Bool) (n l m : ℕ) → n ≤ l → cond b (1 + n) 0 ≡ 1 + l → (n ≡ l → m ≡ 0) → cond (not b) 1 0 + 2 * m ≡ 0
none_fail_step true n l m le e rest = let none = rest (omega arith) in omega arith
none_fail_step false n l m le e rest = absurd (omega arith)

none_fail : (p : ℕ → Bool) (xs : List ℕ) → prefix_len p xs ≡ length xs → failures p xs ≡ 0
none_fail p [] e = refl
none_fail p (x ∷ xs) e = none_fail_step (p x) (prefix_len p xs) (length xs) (failures p xs) (prefix_len-le-length p xs) (omega arith) (none_fail p xs)

doubly : (p : ℕ → Bool) (xs : List ℕ) → prefix_len (λ x. not (not (p x))) xs ≡ prefix_len p xs
doubly p xs = ap (λ t. prefix_len t xs) (λ i x. not-not (p x) i)

split : (p : ℕ → Bool) (text : List ℕ) (i n : ℕ)
    → prefix_len p (drop i text) ≡ cond (eqb (prefix_len p (chunk i n text)) (length (chunk i n text))) (length (chunk i n text) + prefix_len p (drop (i + n) text)) (prefix_len p (chunk i n text))
split p text i n = ap (prefix_len p) (chunk-drop i n text) ∙ prefix_len-append p (chunk i n text) (drop (i + n) text)

-- where no byte of a block fails a test, what passes a weaker one goes on after the block
pub goes_on_weaker : (p q : ℕ → Bool) → ((b : ℕ) → p b ≡ true → q b ≡ true) → (text : List ℕ) (i n m : ℕ) → m ≡ failures p (chunk i n text) → i + n ≤ length text → m ≡ 0 → GoesOn q text i n
goes_on_weaker p q weaker text i n m e room none =
    let v = chunk i n text in
    let strong : prefix_len p v ≡ length v = sym (doubly p v) ∙ leading_from_mask_l (λ x. not (p x)) v (sym e ∙ none) in
    let all : prefix_len q v ≡ length v = prefix_len_is q v (length v) 0 (omega arith) (λ k l. weaker (get_or v k 0) (prefix_len_passes p v k 0 (omega (arith, strong, l)))) (λ l. absurd (omega (arith, l))) in
    split q text i n ∙ ap (λ b. cond b (length v + prefix_len q (drop (i + n) text)) (prefix_len q v)) (eq-eqb _ _ all)
    ∙ ap (λ k. k + prefix_len q (drop (i + n) text)) (length-chunk i n text room)

-- where no byte of a block fails, what passes goes on after the block
pub goes_on : (p : ℕ → Bool) (text : List ℕ) (i n m : ℕ) → m ≡ failures p (chunk i n text) → i + n ≤ length text → m ≡ 0 → GoesOn p text i n
goes_on p text i n m e room none = goes_on_weaker p p (λ b h. h) text i n m e room none

-- where some byte of a block fails, what passes ends at the lowest bit
pub ends_at : (p : ℕ → Bool) (text : List ℕ) (i n m : ℕ) → m ≡ failures p (chunk i n text) → i + n ≤ length text → n ≤ 64 → m ≢ 0 → prefix_len p (drop i text) ≡ count_trailing_zeros 64 m
ends_at p text i n m e room few some =
    let v = chunk i n text in
    let stops : prefix_len p v ≢ length v = λ all. some (e ∙ none_fail p v all) in
    split p text i n ∙ ap (λ b. cond b (length v + prefix_len p (drop (i + n) text)) (prefix_len p v)) (ne_eqb _ _ stops)
    ∙ sym (doubly p v) ∙ sym (trailing_mask_l (λ x. not (p x)) 64 v (omega (arith, length-chunk i n text room)) (omega arith))
    ∙ ap (count_trailing_zeros 64) (sym e)

-- and so within the block
pub ends_before : (p : ℕ → Bool) (text : List ℕ) (i n m : ℕ) → m ≡ failures p (chunk i n text) → i + n ≤ length text → m ≢ 0 → prefix_len p (drop i text) < n
ends_before p text i n m e room some =
    let v = chunk i n text in
    let stops : prefix_len p v ≢ length v = λ all. some (e ∙ none_fail p v all) in
    let cut : prefix_len p (drop i text) ≡ prefix_len p v = split p text i n ∙ ap (λ b. cond b (length v + prefix_len p (drop (i + n) text)) (prefix_len p v)) (ne_eqb _ _ stops) in
    omega (arith, cut, stops, prefix_len-le-length p v, length-chunk i n text room)

-- where no bit of four masks together is set, none of each is
record AllClear (a b c d : ℕ) : Type 0 where
  first : a ≡ 0
  second : b ≡ 0
  third : c ≡ 0
  fourth : d ≡ 0

all_clear : (a b c d : ℕ) → bit_or (bit_or (bit_or a b) c) d ≡ 0 → AllClear a b c d
all_clear a b c d e =
    let two = bit_or a b in
    let three = bit_or two c in
    let none : three ≡ 0 = omega (arith, e, le_or_l three d) in
    let few : two ≡ 0 = omega (arith, none, le_or_l two c) in
    record {
      first = omega (arith, few, le_or_l a b);
      second = omega (arith, few, le_or_r a b);
      third = omega (arith, none, le_or_r two c);
      fourth = omega (arith, e, le_or_r three d);
    }

-- the masks of four blocks, one after another
pub record FourMasks (p : ℕ → Bool) (text : List ℕ) (i a b c d : ℕ) : Type 0 where
  pub first : a ≡ failures p (chunk i 16 text)
  pub second : b ≡ failures p (chunk (i + 16) 16 text)
  pub third : c ≡ failures p (chunk (i + 32) 16 text)
  pub fourth : d ≡ failures p (chunk (i + 48) 16 text)

pub four_go_on : (p q : ℕ → Bool) → ((b : ℕ) → p b ≡ true → q b ≡ true) → (text : List ℕ) (i a b c d : ℕ) → FourMasks p text i a b c d → i + 64 ≤ length text → bit_or (bit_or (bit_or a b) c) d ≡ 0 → GoesOn q text i 64
four_go_on p q weaker text i a b c d masks room none =
    let clear = all_clear a b c d none in
    let left : ℕ → ℕ = λ n. prefix_len q (drop n text) in
    let two : i + 16 + 16 ≡ i + 32 = omega arith in
    let three : i + 32 + 16 ≡ i + 48 = omega arith in
    let four : i + 48 + 16 ≡ i + 64 = omega arith in
    omega (
      arith,
      goes_on_weaker p q weaker text i 16 a masks.first (omega arith) clear.first,
      goes_on_weaker p q weaker text (i + 16) 16 b masks.second (omega arith) clear.second,
      ap left two,
      goes_on_weaker p q weaker text (i + 32) 16 c masks.third (omega arith) clear.third,
      ap left three,
      goes_on_weaker p q weaker text (i + 48) 16 d masks.fourth (omega arith) clear.fourth,
      ap left four,
    )

cut : (p : ℕ → Bool) (text : List ℕ) (n : ℕ)
    → prefix_len p text ≡ cond (eqb (prefix_len p (take n text)) (length (take n text))) (length (take n text) + prefix_len p (drop n text)) (prefix_len p (take n text))
cut p text n = ap (prefix_len p) (sym (take-append-drop n text)) ∙ prefix_len-append p (take n text) (drop n text)

-- what passes up to the end of a text's first bytes goes on after them
pub goes_on_after : (p : ℕ → Bool) (text : List ℕ) (n : ℕ) → prefix_len p (take n text) ≡ length (take n text) → prefix_len p text ≡ length (take n text) + prefix_len p (drop n text)
goes_on_after p text n all =
    cut p text n ∙ ap (λ b. cond b (length (take n text) + prefix_len p (drop n text)) (prefix_len p (take n text))) (eq-eqb _ _ all)

-- what ends within them ends there in the text
pub ends_within : (p : ℕ → Bool) (text : List ℕ) (n : ℕ) → prefix_len p (take n text) < length (take n text) → prefix_len p text ≡ prefix_len p (take n text)
ends_within p text n stops =
    cut p text n ∙ ap (λ b. cond b (length (take n text) + prefix_len p (drop n text)) (prefix_len p (take n text))) (ne_eqb _ _ (λ all. omega (arith, all, stops)))

-- below a first number or above a second
pub outside : (f : ℕ → ℕ → ℕ) (v : List ℕ) (a b : ℕ) → length v ≡ 16 → zip2 bit_or (zip2 f v (replicate 16 a)) (zip2 f (replicate 16 b) v) ≡ map (λ x. bit_or (f x a) (f b x)) v
outside f v a b long = zip2_of_maps bit_or _ _ v (zip2_splat f v 16 a long) (zip2_splat_left f b 16 v long)

-- The lanes z, computed from the bytes v by g, are each compared with two numbers, a and b.
pub outside_of : (f : ℕ → ℕ → ℕ) (g : ℕ → ℕ) (v z : List ℕ) (a b : ℕ) → length v ≡ 16 → z ≡ map g v → zip2 bit_or (zip2 f z (replicate 16 a)) (zip2 f (replicate 16 b) z) ≡ map (λ x. bit_or (f (g x) a) (f b (g x))) v
outside_of f g v z a b long e =
    zip2_of_maps bit_or _ _ v (beside_splat f g v a long e) (zip2_of_maps f _ g v (splat_is_map v 16 b long) e)

-- ---- bits from an index on

-- a bit for each byte that fails, and m after them
abbrev failures_and : (ℕ → Bool) → List ℕ → ℕ → ℕ
failures_and p [] m = m
failures_and p (x ∷ xs) m = cond (not (p x)) 1 0 + 2 * failures_and p xs m

failures_below : (p : ℕ → Bool) (xs : List ℕ) (m : ℕ) → failures_and p xs m ≡ m * 2 ^ length xs + failures p xs
failures_below p [] m = omega arith
failures_below p (x ∷ xs) m =
    let twice : m * 2 ^ suc (length xs) ≡ m * 2 ^ length xs * 2 = ap (λ n. m * n) (pow-suc 2 (length xs)) ∙ sym (mul_assoc m (2 ^ length xs) 2) in
    omega (arith, failures_below p xs m, twice)

lowest_bit : (b : Bool) (n : ℕ) → (cond b 1 0 + 2 * n) % 2 ≡ cond b 1 0
lowest_bit true n = omega arith
lowest_bit false n = omega arith

other_bits : (b : Bool) (n : ℕ) → (cond b 1 0 + 2 * n) / 2 ≡ n
other_bits true n = omega arith
other_bits false n = omega arith

-- with a bit after them the lowest bit is where what passes ends
lowest_fails : (p : ℕ → Bool) (k m : ℕ) (xs : List ℕ) → m % 2 ≡ 1 → count_trailing_zeros k (failures_and p xs m) ≤ prefix_len p xs
unfolding count_trailing_zeros
lowest_fails p zero m xs odd = omega arith
lowest_fails p (suc k) m [] odd = subst (λ d. under d (count_trailing_zeros k (m / 2)) ≤ 0) (sym odd) (omega arith)
lowest_fails p (suc k) m (x ∷ xs) odd =
    let n = failures_and p xs m in
    let z : List ℕ → ℕ = λ ys. count_trailing_zeros k (failures_and p ys m) in
    let step : (b : Bool) → under (cond (not b) 1 0) (z xs) ≤ cond b (1 + prefix_len p xs) 0 = λ b. elim b as (λ b. under (cond (not b) 1 0) (z xs) ≤ cond b (1 + prefix_len p xs) 0) [
      | true ↦ omega (arith, lowest_fails p k m xs odd)
      | false ↦ omega arith
    ] in
    subst (λ d. under d (count_trailing_zeros k ((cond (not (p x)) 1 0 + 2 * n) / 2)) ≤ cond (p x) (1 + prefix_len p xs) 0) (sym (lowest_bit (not (p x)) n))
    (subst (λ r. under (cond (not (p x)) 1 0) (count_trailing_zeros k r) ≤ cond (p x) (1 + prefix_len p xs) 0) (sym (other_bits (not (p x)) n)) (step (p x)))

failures_from : (p : ℕ → Bool) (m i : ℕ) (xs : List ℕ) → i ≤ length xs → failures_and p xs m / 2 ^ i ≡ failures_and p (drop i xs) m
failures_from p m zero xs h = div-one (failures_and p xs m)
failures_from p m (suc i) [] h = absurd (omega arith)
failures_from p m (suc i) (x ∷ xs) h =
    let all = cond (not (p x)) 1 0 + 2 * failures_and p xs m in
    ap (λ n. all / n) (pow-suc 2 i ∙ mul_comm (2 ^ i) 2) ∙ sym (div-div-eq-div-mul all 2 (2 ^ i)) ∙ ap (λ n. n / 2 ^ i) (other_bits (not (p x)) (failures_and p xs m))
    ∙ failures_from p m i xs (omega arith)

front_passes : (p : ℕ → Bool) (n : ℕ) (xs : List ℕ) → prefix_len p (take n xs) ≤ prefix_len p xs
front_passes p zero xs = omega arith
front_passes p (suc n) [] = omega arith
front_passes p (suc n) (x ∷ xs) =
    elim (p x) as (λ b. cond b (1 + prefix_len p (take n xs)) 0 ≤ cond b (1 + prefix_len p xs) 0) [
      | true ↦ omega (arith, front_passes p n xs)
      | false ↦ omega arith
    ]

-- as many as come before a bit pass
pub clear_pass : (p : ℕ → Bool) (text : List ℕ) (bits i : ℕ) → FirstFailures p text bits → i ≤ 16 → count_trailing_zeros 64 (bit_or bits 18446744073709486080 / 2 ^ i) ≤ prefix_len p (drop i text)
clear_pass p text bits i marked place =
    let v = chunk 0 16 text in
    let long : length v ≡ 16 = length-chunk 0 16 text marked.long in
    let m : ℕ = 281474976710655 in
    let small : bits < 2 ^ 16 = omega (arith, marked.each, mask_l-lt (map (λ x. not (p x)) v), length-map v (λ x. not (p x)), ap (λ n. 2 ^ n) (length-map v (λ x. not (p x)) ∙ long)) in
    let joined : bit_or bits (m * 2 ^ 16) ≡ failures_and p v m = or_shifted_r m 16 bits small ∙ ap₂ (λ a n. m * 2 ^ n + a) marked.each (sym long) ∙ sym (failures_below p v m) in
    let from : bit_or bits (m * 2 ^ 16) / 2 ^ i ≡ failures_and p (drop i v) m = ap (λ n. n / 2 ^ i) joined ∙ failures_from p m i v (omega (arith, long)) in
    let parts : i + (16 - i) ≡ 16 = omega arith in
    let there : drop i v ≡ take (16 - i) (drop i text) = ap (λ k. drop i (take k text)) (sym parts) ∙ drop-take i (16 - i) text in
    let zeros : count_trailing_zeros 64 (bit_or bits 18446744073709486080 / 2 ^ i) ≡ count_trailing_zeros 64 (failures_and p (drop i v) m) = ap (count_trailing_zeros 64) from in
    omega (arith, zeros, lowest_fails p 64 m (drop i v) refl, ap (prefix_len p) there, front_passes p (16 - i) (drop i text))
