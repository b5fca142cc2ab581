-- The search for bytes with which a confusing character may begin, by blocks.
use Rattle.std.proofs.Common.{◌≡◌, ◌≢◌, ℕ, zero, suc, ◌+◌, ◌-◌, ◌*◌, ◌<◌, ◌≤◌, Bool, true, false, not, ◌&&◌, ◌||◌, cond, eqb, List, [], ◌∷◌, map, length, get_or, bit_and, bit_or, refl, sym, ap, ap₂, ◌∙◌, subst, arith, inl, inr}
use Rattle.std.specs.Prelude.{◌==◌}
use Rattle.std.specs.List.{prefix_len, range_with_len}
use Rattle.std.specs.Int.Count.{count_trailing_zeros}
use Rattle.std.specs.Simd.Lanes.{chunk, mask_l}
use Rattle.std.proofs.lemmas.Bool.{cases_lt, eqb-true, and_parts, or_cases}
use Rattle.std.proofs.lemmas.List.{get_or_past}
use Rattle.std.proofs.lemmas.List.FromFn.{length-range_with_len, get_or-range_with_len}
use Rattle.std.proofs.lemmas.List.Sums.{prefix_len-le-length, prefix_len_passes, prefix_len_stops}
use Rattle.std.proofs.lemmas.Simd.{leading_from_mask_l, trailing_mask_l}
use Rattle.wat_lex.specs.inside.Blocks.{is_confusing_end, may_confuse, leads_at, IsLeadless, IsFirstLead}
use Rattle.wat_lex.specs.inside.Nesting.{passing}
use Rattle.wat_lex.proofs.inside.Nesting.{and_bits, chunk_more, either, pairs}

-- The mask of the offsets that pass a test, and that a byte which passes another follows by two.
pub and_after : (p q : ℕ → Bool) (s : List ℕ) (i n : ℕ) → i + 2 + n ≤ length s → bit_and (passing p i n) (mask_l (map q (chunk (i + 2) n s))) ≡ passing (λ k. p k && q (get_or s (k + 2) 0)) i n
and_after p q s i zero l = refl
and_after p q s i (suc n) l =
    let place : i + 2 + 1 ≡ i + 1 + 2 = omega arith in
    ap (λ v. bit_and (passing p i (suc n)) (mask_l (map q v))) (chunk_more s (i + 2) n (omega arith))
    ∙ and_bits (p i) (q (get_or s (i + 2) 0)) (passing p (i + 1) n) (mask_l (map q (chunk (i + 2 + 1) n s)))
    ∙ ap (λ j. cond (p i && q (get_or s (i + 2) 0)) 1 0 + 2 * bit_and (passing p (i + 1) n) (mask_l (map q (chunk j n s)))) place
    ∙ ap (λ x. cond (p i && q (get_or s (i + 2) 0)) 1 0 + 2 * x) (and_after p q s (i + 1) n (omega arith))

marks : ℕ → List ℕ → ℕ
marks a v = mask_l (map (λ x. eqb x a) v)

pair : ℕ → List ℕ → ℕ → Bool
pair b s k = eqb (get_or s k 0) 226 && eqb (get_or s (k + 1) 0) b

-- The mask of the 16 offsets from i on at which a confusing character may begin.
pub triples : (s : List ℕ) (i : ℕ) → i + 18 ≤ length s
    → bit_and (bit_or (bit_and (mask_l (map (λ x. eqb x 226) (chunk i 16 s))) (mask_l (map (λ x. eqb x 128) (chunk (i + 1) 16 s)))) (bit_and (mask_l (map (λ x. eqb x 226) (chunk i 16 s))) (mask_l (map (λ x. eqb x 129) (chunk (i + 1) 16 s))))) (mask_l (map is_confusing_end (chunk (i + 2) 16 s)))
    ≡ passing (leads_at s) i 16
unfolding marks pair
triples s i l =
    let both : bit_or (bit_and (marks 226 (chunk i 16 s)) (marks 128 (chunk (i + 1) 16 s))) (bit_and (marks 226 (chunk i 16 s)) (marks 129 (chunk (i + 1) 16 s))) ≡ passing (λ k. pair 128 s k || pair 129 s k) i 16 =
    ap₂ bit_or (pairs s 226 128 i 16 (omega arith)) (pairs s 226 129 i 16 (omega arith)) ∙ either (pair 128 s) (pair 129 s) i 16 in
    ap (λ x. bit_and x (mask_l (map is_confusing_end (chunk (i + 2) 16 s)))) both ∙ and_after (λ k. pair 128 s k || pair 129 s k) is_confusing_end s i 16 (omega arith)

denied : (b : Bool) → not b ≡ true → b ≡ false
denied true e = sym e
denied false e = refl

allowed : (b : Bool) → not b ≡ false → b ≡ true
allowed true e = refl
allowed false e = sym e

fails_before : (p : ℕ → Bool) (i n k : ℕ) → i ≤ k → k < i + prefix_len (λ x. not (p x)) (range_with_len i n) → p k ≡ false
fails_before p i n k a b =
    let xs = range_with_len i n in
    let few : k - i < n = omega (arith, prefix_len-le-length (λ x. not (p x)) xs, length-range_with_len i n) in
    let same : get_or xs (k - i) 0 ≡ k = omega (arith, get_or-range_with_len i n (k - i) 0 few) in
    denied (p k) (subst (λ x. not (p x) ≡ true) same (prefix_len_passes (λ x. not (p x)) xs (k - i) 0 (omega arith)))

-- where no bit is set, no offset passes
pub none_passes : (p : ℕ → Bool) (i n m : ℕ) → m ≡ passing p i n → m ≡ 0 → (k : ℕ) → i ≤ k → k < i + n → p k ≡ false
none_passes p i n m e z k a b =
    let xs = range_with_len i n in
    fails_before p i n k a (omega (arith, leading_from_mask_l p xs (sym e ∙ z), length-range_with_len i n))

no_bits : (p : ℕ → Bool) (xs : List ℕ) → prefix_len (λ x. not (p x)) xs ≡ length xs → mask_l (map p xs) ≡ 0
no_bits p [] e = refl
no_bits p (x ∷ xs) e = step (p x) (prefix_len (λ y. not (p y)) xs) (length xs) (mask_l (map p xs)) (prefix_len-le-length (λ y. not (p y)) xs) (omega (arith, e)) (no_bits p xs)
  where
    step : (b : Bool) (n l m : ℕ) → n ≤ l → cond (not b) (1 + n) 0 ≡ 1 + l → (n ≡ l → m ≡ 0) → cond b 1 0 + 2 * m ≡ 0
    step true n l m le f rest = absurd (omega arith)
    step false n l m le f rest = let none = rest (omega arith) in omega arith

-- the first of n offsets from i on that passes a test is i + z
pub record Lowest (p : ℕ → Bool) (i n z : ℕ) : Type 0 where
  pub within : z < n
  pub is : p (i + z) ≡ true
  pub before : (k : ℕ) → i ≤ k → k < i + z → p k ≡ false

-- where some bit is set, the lowest is the first offset that passes
pub lowest_passes : (p : ℕ → Bool) (i n m : ℕ) → m ≡ passing p i n → n ≤ 64 → m ≢ 0 → Lowest p i n (count_trailing_zeros 64 m)
lowest_passes p i n m e few some =
    let xs = range_with_len i n in
    let c = prefix_len (λ x. not (p x)) xs in
    let long = length-range_with_len i n in
    let bits : 0 < mask_l (map p xs) = omega (arith, some, e) in
    let stops : c ≢ length xs = λ all. some (e ∙ no_bits p xs all) in
    let within : c < n = omega (arith, stops, long, prefix_len-le-length (λ x. not (p x)) xs) in
    let same : get_or xs c 0 ≡ i + c = get_or-range_with_len i n c 0 within in
    let made : Lowest p i n c = record {
      within = within;
      is = allowed (p (i + c)) (subst (λ x. not (p x) ≡ false) same (prefix_len_stops (λ x. not (p x)) xs 0 (omega (arith, within, long))));
      before = fails_before p i n;
    } in
    subst (Lowest p i n) (sym (ap (count_trailing_zeros 64) e ∙ trailing_mask_l p 64 xs (omega (arith, long, few)) bits)) made

-- ---- bytes

pub lead_byte : (a b c : ℕ) → may_confuse a b c ≡ true → a ≡ 0xE2
lead_byte a b c h =
    elim (or_cases ((a == 0xE2) && (b == 0x80)) ((a == 0xE2) && (b == 0x81)) (and_parts (((a == 0xE2) && (b == 0x80)) || ((a == 0xE2) && (b == 0x81))) (is_confusing_end c) h).0) [
      | inl t ↦ eqb-true a 0xE2 (and_parts (a == 0xE2) (b == 0x80) t).0
      | inr t ↦ eqb-true a 0xE2 (and_parts (a == 0xE2) (b == 0x81) t).0
    ]

and_false : (b : Bool) → (b && false) ≡ false
and_false true = refl
and_false false = refl

-- the last two offsets of a text have no third byte
pub no_third : (s : List ℕ) (k : ℕ) → length s ≤ k + 2 → leads_at s k ≡ false
no_third s k l = ap (may_confuse (get_or s k 0) (get_or s (k + 1) 0)) (get_or_past s (k + 2) 0 l) ∙ and_false _

-- a first lead in the 16 offsets from i on, where there is none before i
pub lead_in_block : (s : List ℕ) (i j m : ℕ) → IsLeadless s i → j ≤ i → j + 18 ≤ length s → m ≡ passing (leads_at s) j 16 → m ≢ 0 → IsFirstLead s (j + count_trailing_zeros 64 m)
lead_in_block s i j m h a l e some =
    let z = count_trailing_zeros 64 m in
    let low = lowest_passes (leads_at s) j 16 m e (omega arith) some in
    record {
      range = omega (arith, low.within);
      lead = lead_byte (get_or s (j + z) 0) (get_or s (j + z + 1) 0) (get_or s (j + z + 2) 0) low.is;
      before = λ k b. elim (cases_lt k i) [ inl t ↦ h k t | inr t ↦ low.before k (omega arith) b ];
    }

-- no lead in the 16 offsets from j on, and none before i
pub block_is_leadless : (s : List ℕ) (i j m : ℕ) → IsLeadless s i → j ≤ i → m ≡ passing (leads_at s) j 16 → m ≡ 0 → IsLeadless s (j + 16)
block_is_leadless s i j m h a e none k b = elim (cases_lt k i) [ inl t ↦ h k t | inr t ↦ none_passes (leads_at s) j 16 m e none k (omega arith) b ]

-- and none at the end
pub end_is_leadless : (s : List ℕ) (n : ℕ) → IsLeadless s n → length s ≤ n + 2 → IsLeadless s (length s)
end_is_leadless s n h l k b = elim (cases_lt k n) [ inl t ↦ h k t | inr t ↦ no_third s k (omega arith) ]
