-- The encodings of LEB128 decode to their value, and no shorter bytes do.
use Rattle.std.proofs.Common.{◌≡◌, ℕ, zero, suc, ◌+◌, ◌-◌, ◌*◌, ◌/◌, ◌%◌, ◌^◌, ◌<◌, ◌≤◌, true, false, ℤ, pos, negsuc, List, [], ◌∷◌, length, map, refl, sym, ap, ◌∙◌, add-one, length-take, take, add_comm, append_assoc, bit_or, ◌++◌, arith, ◌⊎◌, inl, inr, ⊎_elim, cond, leb, le-leb, ◌-ℤ◌}
use Rattle.std.proofs.lemmas.Int.Digits.{all_below_base_digits_of, length-digits_of-le, length-digits_of_step, number_digits_of, number_lt}
use Rattle.std.proofs.lemmas.Bool.{cases_lt, false≢true, leb-false, leb-true, lt-leb, ltb-false, ltb-true}
use Rattle.std.proofs.lemmas.Int.{ints}
use Rattle.std.specs.Int.Signed.{le_z, lt_z}
use Rattle.std.proofs.lemmas.List.{take-append-le}
use Rattle.std.proofs.lemmas.Nat.{or_comm, or_shifted}
use Rattle.std.proofs.Math.Nat.{pow-le-pow_right, pow-suc}
use Rattle.std.specs.Int.Digits.{digits_of}
use Rattle.std.specs.List.{AllByRecursion}
use Rattle.wat_lex.specs.binary.Leb128.{IsTheEncoding, has_sign, high_bits_of, low_bits_of, signed_leb128, signed_value, IsLeb128, last, more, IsEncoding, continued, group_count, groups, unsigned_leb128, unsigned_value}

-- ---- how many groups

pub group_count-small : (n : ℕ) → n < 128 → group_count n ≡ 1
group_count-small zero small = refl
group_count-small (suc m) small =
    let quotient : suc m / 128 ≡ 0 = omega arith in
    let step = length-digits_of_step 128 (suc m) (omega arith) (omega arith) in
    let none : length (digits_of 128 (suc m / 128)) ≡ 0 = ap (λ q. length (digits_of 128 q)) quotient in
    omega (arith, step, none)

pub group_count-step : (n : ℕ) → 128 ≤ n → group_count n ≡ group_count (n / 128) + 1
group_count-step n large =
    let step = length-digits_of_step 128 n (omega arith) (omega arith) in
    let next = length-digits_of_step 128 (n / 128) (omega arith) (omega arith) in
    omega (arith, step, next)

-- an even number and the next one take as many
pub group_count-odd : (n : ℕ) → group_count (2 * n + 1) ≡ group_count (2 * n)
group_count-odd n =
    ⊎_elim (λ small. group_count-small (2 * n + 1) (omega arith) ∙ sym (group_count-small (2 * n) (omega arith)))
    (λ large.
    let same : (2 * n + 1) / 128 ≡ (2 * n) / 128 = omega arith in
    group_count-step (2 * n + 1) (omega arith) ∙ ap (λ q. group_count q + 1) same ∙ sym (group_count-step (2 * n) large))
    (cases_lt (2 * n) 128)

pub group_count-double : (n : ℕ) → 64 ≤ n → group_count (2 * n) ≡ group_count (2 * (n / 128)) + 1
group_count-double n large =
    group_count-step (2 * n) (omega arith)
    ∙ ⊎_elim
    (λ low. ap (λ q. group_count q + 1) (let e : (2 * n) / 128 ≡ 2 * (n / 128) = omega arith in e))
    (λ high.
    ap (λ q. group_count q + 1) (let e : (2 * n) / 128 ≡ 2 * (n / 128) + 1 = omega arith in e)
    ∙ ap (λ k. k + 1) (group_count-odd (n / 128)))
    (cases_lt (n % 128) 64)

pub group_count-le : (n k : ℕ) → 0 < k → n < 128 ^ k → group_count n ≤ k
group_count-le n k some below =
    let short = length-digits_of-le 128 k n (omega arith) below in
    omega (arith, short)

pub below_group_count : (n : ℕ) → n < 128 ^ group_count n
below_group_count n =
    let digits = all_below_base_digits_of 128 n (omega arith) in
    let below = number_lt 128 (digits_of 128 n) digits in
    let same = number_digits_of 128 n (omega arith) in
    let longer : length (digits_of 128 n) ≤ group_count n = omega arith in
    let power : 128 ^ length (digits_of 128 n) ≤ 128 ^ group_count n = pow-le-pow_right (omega arith) longer in
    omega (arith, below, same, power)

-- ---- the groups

abbrev pub AreGroups : List ℕ → Type 0
AreGroups gs = AllByRecursion (λ g. g < 128) gs

pub groups-below : (k n : ℕ) → AreGroups (groups k n)
groups-below zero n = tt
groups-below (suc k) n = (omega arith, groups-below k (n / 128))

pub length-groups : (k n : ℕ) → length (groups k n) ≡ k
length-groups zero n = refl
length-groups (suc k) n = ap suc (length-groups k (n / 128))

pub groups-value : (k n : ℕ) → n < 128 ^ k → unsigned_value (groups k n) ≡ n
groups-value zero n below = omega arith
groups-value (suc k) n below =
    let quotient : n / 128 < 128 ^ k = omega (arith, pow-suc 128 k) in
    omega (arith, groups-value k (n / 128) quotient)

pub length-continued : (gs : List ℕ) → length (continued gs) ≡ length gs
length-continued [] = refl
length-continued (g ∷ []) = refl
length-continued (g ∷ h ∷ gs) = ap suc (length-continued (h ∷ gs))

pub continued-value : (gs : List ℕ) → AreGroups gs → unsigned_value (continued gs) ≡ unsigned_value gs
continued-value [] below = refl
continued-value (g ∷ []) below = refl
continued-value (g ∷ h ∷ gs) below = omega (arith, below.0, continued-value (h ∷ gs) below.1)

pub continued-is_leb128 : (g : ℕ) (gs : List ℕ) → AreGroups (g ∷ gs) → IsLeb128 (continued (g ∷ gs))
continued-is_leb128 g [] below = last below.0
continued-is_leb128 g (h ∷ gs) below = more (omega arith) (omega (arith, below.0)) (continued-is_leb128 h gs below.1)

-- ---- bytes

pub value-below : (bs : List ℕ) → unsigned_value bs < 128 ^ length bs
value-below [] = omega arith
value-below (b ∷ bs) = omega (arith, value-below bs, pow-suc 128 (length bs))

pub length-positive : (bs : List ℕ) → IsLeb128 bs → 0 < length bs
length-positive [] is = elim is [ ]
length-positive (b ∷ bs) is = omega arith

last_byte : (b : ℕ) → IsLeb128 (b ∷ []) → b < 128
last_byte b (last below) = below
last_byte b (more least most is) = elim is [ ]

-- a byte that is not the last, and the bytes after it
record Continues (b : ℕ) (bs : List ℕ) : Type 0 where
  least : 128 ≤ b
  most : b < 256
  after : IsLeb128 bs

continuing : (b c : ℕ) (bs : List ℕ) → IsLeb128 (b ∷ c ∷ bs) → Continues b (c ∷ bs)
continuing b c bs (more least most is) = record { least = least; most = most; after = is }

-- bytes of one length with one value are the same
pub same_bytes : (xs ys : List ℕ) → IsLeb128 xs → IsLeb128 ys → length xs ≡ length ys → unsigned_value xs ≡ unsigned_value ys → xs ≡ ys
same_bytes [] ys x y lengths values = elim x [ ]
same_bytes (b ∷ bs) [] x y lengths values = elim y [ ]
same_bytes (b ∷ []) (c ∷ []) x y lengths values =
    let p = last_byte b x in
    let q = last_byte c y in
    ap (λ d. d ∷ []) (let e : b ≡ c = omega arith in e)
same_bytes (b ∷ []) (c ∷ d ∷ ds) x y lengths values = absurd (omega arith)
same_bytes (b ∷ d ∷ ds) (c ∷ []) x y lengths values = absurd (omega arith)
same_bytes (b ∷ d ∷ ds) (c ∷ h ∷ hs) x y lengths values =
    let p = continuing b d ds x in
    let q = continuing c h hs y in
    let first : b ≡ c = omega arith in
    let others = same_bytes (d ∷ ds) (h ∷ hs) p.after q.after (omega arith) (omega arith) in
    cc

-- ---- the encoding without a sign

pub unsigned_leb128-small : (n : ℕ) → n < 128 → unsigned_leb128 n ≡ n ∷ []
unfolding unsigned_leb128
unsigned_leb128-small n small =
    ap (λ k. continued (groups k n)) (group_count-small n small) ∙ ap (λ g. g ∷ []) (let e : n % 128 ≡ n = omega arith in e)

continued-more : (g k n : ℕ) → 0 < k → continued (g ∷ groups k n) ≡ (g + 128) ∷ continued (groups k n)
continued-more g zero n some = absurd (omega arith)
continued-more g (suc k) n some = refl

pub unsigned_leb128-step : (n : ℕ) → 128 ≤ n → unsigned_leb128 n ≡ (n % 128 + 128) ∷ unsigned_leb128 (n / 128)
unfolding unsigned_leb128
unsigned_leb128-step n large =
    ap (λ k. continued (groups k n)) (group_count-step n large ∙ add-one (group_count (n / 128)))
    ∙ continued-more (n % 128) (group_count (n / 128)) (n / 128) (omega arith)

groups-is_leb128 : (k n : ℕ) → 0 < k → IsLeb128 (continued (groups k n))
groups-is_leb128 zero n some = absurd (omega arith)
groups-is_leb128 (suc k) n some = continued-is_leb128 (n % 128) (groups k (n / 128)) (groups-below (suc k) n)

unsigned_leb128-is_encoding : (n : ℕ) → IsEncoding unsigned_value n (unsigned_leb128 n)
unfolding unsigned_leb128
unsigned_leb128-is_encoding n = record {
  is_leb128 = groups-is_leb128 (group_count n) n (omega arith);
  decodes = continued-value (groups (group_count n) n) (groups-below (group_count n) n) ∙ groups-value (group_count n) n (below_group_count n);
  is_shortest = λ others is decodes.
      let short = group_count-le n (length others) (length-positive others is) (omega (arith, value-below others, decodes)) in
      omega (arith, short, length-continued (groups (group_count n) n), length-groups (group_count n) n);
}

unsigned_leb128-only : (n : ℕ) (bytes : List ℕ) → IsEncoding unsigned_value n bytes → bytes ≡ unsigned_leb128 n
unsigned_leb128-only n bytes e =
    let own = unsigned_leb128-is_encoding n in
    let le = e.is_shortest (unsigned_leb128 n) own.is_leb128 own.decodes in
    let ge = own.is_shortest bytes e.is_leb128 e.decodes in
    same_bytes bytes (unsigned_leb128 n) e.is_leb128 own.is_leb128 (omega (arith, le, ge)) (e.decodes ∙ sym own.decodes)

pub unsigned_leb128-law : (n : ℕ) → IsTheEncoding unsigned_value n (unsigned_leb128 n)
unsigned_leb128-law n = record { is = unsigned_leb128-is_encoding n; only = unsigned_leb128-only n }

-- ---- the sign

same_test : (a b c d : ℕ) → (a ≤ b → c ≤ d) → (c ≤ d → a ≤ b) → leb a b ≡ leb c d
same_test a b c d there back =
    ⊎_elim
    (λ above.
    ⊎_elim (λ over. lt-leb a b above ∙ sym (lt-leb c d over))
    (λ within. let own = back within in absurd (omega arith))
    (cases_lt d c))
    (λ within. le-leb a b within ∙ sym (le-leb c d (there within)))
    (cases_lt b a)

-- the last byte has the sign where twice the value reaches what the bytes can hold
pub has_sign-is : (b : ℕ) (bs : List ℕ) → has_sign (b ∷ bs) ≡ leb (128 ^ length (b ∷ bs)) (2 * unsigned_value (b ∷ bs))
has_sign-is b [] = same_test 64 (b % 128) (128 ^ 1) (2 * (b % 128 + 128 * 0)) (λ h. omega arith) (λ h. omega arith)
has_sign-is b (c ∷ bs) =
    has_sign-is c bs
    ∙ same_test (128 ^ suc (length bs)) (2 * unsigned_value (c ∷ bs)) (128 ^ suc (suc (length bs))) (2 * unsigned_value (b ∷ c ∷ bs))
    (λ h. omega (arith, pow-suc 128 (length bs), pow-suc 128 (suc (length bs))))
    (λ h. omega (arith, pow-suc 128 (length bs), pow-suc 128 (suc (length bs))))

-- bytes without and with the sign
pub record IsPositive (bs : List ℕ) : Type 0 where
  pub below : 2 * unsigned_value bs < 128 ^ length bs
  pub value : signed_value bs ≡ pos (unsigned_value bs)

pub record IsNegative (bs : List ℕ) : Type 0 where
  pub least : 128 ^ length bs ≤ 2 * unsigned_value bs
  pub value : signed_value bs ≡ pos (unsigned_value bs) -ℤ pos (128 ^ length bs)

pub positive : (b : ℕ) (bs : List ℕ) → 2 * unsigned_value (b ∷ bs) < 128 ^ length (b ∷ bs) → IsPositive (b ∷ bs)
positive b bs below =
    let off = has_sign-is b bs ∙ lt-leb _ _ below in
    record { below = below; value = ap (λ s. cond s (pos (unsigned_value (b ∷ bs)) -ℤ pos (128 ^ length (b ∷ bs))) (pos (unsigned_value (b ∷ bs)))) off }

pub negative : (b : ℕ) (bs : List ℕ) → 128 ^ length (b ∷ bs) ≤ 2 * unsigned_value (b ∷ bs) → IsNegative (b ∷ bs)
negative b bs least =
    let on = has_sign-is b bs ∙ le-leb _ _ least in
    record { least = least; value = ap (λ s. cond s (pos (unsigned_value (b ∷ bs)) -ℤ pos (128 ^ length (b ∷ bs))) (pos (unsigned_value (b ∷ bs)))) on }

pub signs : (bs : List ℕ) → IsLeb128 bs → IsPositive bs ⊎ IsNegative bs
signs [] is = elim is [ ]
signs (b ∷ bs) is =
    ⊎_elim (λ below. inl (positive b bs below)) (λ least. inr (negative b bs least))
    (cases_lt (2 * unsigned_value (b ∷ bs)) (128 ^ length (b ∷ bs)))

-- ---- the groups with each bit turned over

turned-below : (gs : List ℕ) → AreGroups (map (λ g. 127 - g) gs)
turned-below [] = tt
turned-below (g ∷ gs) = (omega arith, turned-below gs)

length-turned : (gs : List ℕ) → length (map (λ g. 127 - g) gs) ≡ length gs
length-turned [] = refl
length-turned (g ∷ gs) = ap suc (length-turned gs)

turned-value : (gs : List ℕ) → AreGroups gs → unsigned_value (map (λ g. 127 - g) gs) + unsigned_value gs + 1 ≡ 128 ^ length gs
turned-value [] below = omega arith
turned-value (g ∷ gs) below = omega (arith, below.0, turned-value gs below.1, pow-suc 128 (length gs))

-- bytes that hold a number, with or without the sign
record Holds (n : ℕ) (bs : List ℕ) : Type 0 where
  is : IsLeb128 bs
  value : unsigned_value bs ≡ n
  room : 2 * n < 128 ^ length bs
  count : length bs ≡ group_count (2 * n)

record HoldsTurned (n : ℕ) (bs : List ℕ) : Type 0 where
  is : IsLeb128 bs
  value : unsigned_value bs + n + 1 ≡ 128 ^ length bs
  room : 2 * n < 128 ^ length bs
  count : length bs ≡ group_count (2 * n)

holds : (n : ℕ) → Holds n (continued (groups (group_count (2 * n)) n))
holds n =
    let k = group_count (2 * n) in
    let size : length (continued (groups k n)) ≡ k = length-continued (groups k n) ∙ length-groups k n in
    let room = below_group_count (2 * n) in
    let power : 128 ^ length (continued (groups k n)) ≡ 128 ^ k = ap (λ l. 128 ^ l) size in
    record {
      is = groups-is_leb128 k n (omega arith);
      value = continued-value (groups k n) (groups-below k n) ∙ groups-value k n (omega (arith, room));
      room = omega (arith, room, power);
      count = size;
    }

turned-is_leb128 : (k n : ℕ) → 0 < k → IsLeb128 (continued (map (λ g. 127 - g) (groups k n)))
turned-is_leb128 zero n some = absurd (omega arith)
turned-is_leb128 (suc k) n some =
    continued-is_leb128 (127 - n % 128) (map (λ g. 127 - g) (groups k (n / 128))) (turned-below (groups (suc k) n))

holds_turned : (n : ℕ) → HoldsTurned n (continued (map (λ g. 127 - g) (groups (group_count (2 * n)) n)))
holds_turned n =
    let k = group_count (2 * n) in
    let gs = groups k n in
    let size : length (continued (map (λ g. 127 - g) gs)) ≡ k =
    length-continued (map (λ g. 127 - g) gs) ∙ length-turned gs ∙ length-groups k n in
    let room = below_group_count (2 * n) in
    let power : 128 ^ length (continued (map (λ g. 127 - g) gs)) ≡ 128 ^ k = ap (λ l. 128 ^ l) size in
    let lengths : 128 ^ length gs ≡ 128 ^ k = ap (λ l. 128 ^ l) (length-groups k n) in
    let sum = turned-value gs (groups-below k n) in
    let own = groups-value k n (omega (arith, room)) in
    let whole = continued-value (map (λ g. 127 - g) gs) (turned-below gs) in
    record {
      is = turned-is_leb128 k n (omega arith);
      value = omega (arith, power, lengths, sum, own, whole);
      room = omega (arith, room, power);
      count = size;
    }

-- ---- the encoding with a sign

holds-positive : (n : ℕ) (bs : List ℕ) → Holds n bs → signed_value bs ≡ pos n
holds-positive n [] h = elim h.is [ ]
holds-positive n (b ∷ bs) h = (positive b bs (omega (arith, h.value, h.room))).value ∙ ap pos h.value

less : (u p n : ℕ) → u + n + 1 ≡ p → pos u -ℤ pos p ≡ negsuc n
less u p n e = omega (arith, ints)

-- the values are the same where the numbers are
same_differences : (u v p : ℕ) → pos u -ℤ pos p ≡ pos v -ℤ pos p → u ≡ v
same_differences u v p e = omega (arith, ints)

below_zero : (u v p : ℕ) → u < p → pos u -ℤ pos p ≡ pos v → ⊥
below_zero u v p below e = omega (arith, ints)

short_of : (u p n : ℕ) → pos u -ℤ pos p ≡ negsuc n → u + n + 1 ≡ p
short_of u p n e = omega (arith, ints)

same_naturals : (u v : ℕ) → pos u ≡ pos v → u ≡ v
same_naturals u v e = omega (arith, ints)

same_numbers : (xs ys : List ℕ) → IsLeb128 xs → IsLeb128 ys → length xs ≡ length ys → signed_value xs ≡ signed_value ys → unsigned_value xs ≡ unsigned_value ys
same_numbers xs ys x y lengths values =
    let power : 128 ^ length xs ≡ 128 ^ length ys = ap (λ l. 128 ^ l) lengths in
    ⊎_elim
    (λ p.
    ⊎_elim (λ q. same_naturals _ _ (sym p.value ∙ values ∙ q.value))
    (λ q. absurd (below_zero (unsigned_value ys) (unsigned_value xs) (128 ^ length ys) (value-below ys) (sym q.value ∙ sym values ∙ p.value)))
    (signs ys y))
    (λ p.
    ⊎_elim (λ q. absurd (below_zero (unsigned_value xs) (unsigned_value ys) (128 ^ length xs) (value-below xs) (sym p.value ∙ values ∙ q.value)))
    (λ q.
    same_differences (unsigned_value xs) (unsigned_value ys) (128 ^ length xs)
    (sym p.value ∙ values ∙ q.value ∙ ap (λ w. pos (unsigned_value ys) -ℤ pos w) (sym power)))
    (signs ys y))
    (signs xs x)

holds_turned-negative : (n : ℕ) (bs : List ℕ) → HoldsTurned n bs → signed_value bs ≡ negsuc n
holds_turned-negative n [] h = elim h.is [ ]
holds_turned-negative n (b ∷ bs) h =
    (negative b bs (omega (arith, h.value, h.room, pow-suc 128 (length bs)))).value ∙ less (unsigned_value (b ∷ bs)) (128 ^ length (b ∷ bs)) n h.value

-- no bytes of the value are shorter
positive_count : (n : ℕ) (others : List ℕ) → IsLeb128 others → signed_value others ≡ pos n → group_count (2 * n) ≤ length others
positive_count n others is decodes =
    ⊎_elim
    (λ p.
    let same = same_naturals (unsigned_value others) n (sym p.value ∙ decodes) in
    group_count-le (2 * n) (length others) (length-positive others is) (omega (arith, same, p.below)))
    (λ q. absurd (below_zero (unsigned_value others) n (128 ^ length others) (value-below others) (sym q.value ∙ decodes)))
    (signs others is)

negative_count : (n : ℕ) (others : List ℕ) → IsLeb128 others → signed_value others ≡ negsuc n → group_count (2 * n) ≤ length others
negative_count n others is decodes =
    ⊎_elim (λ p. let e = sym p.value ∙ decodes in cc)
    (λ q.
    let sum = short_of (unsigned_value others) (128 ^ length others) n (sym q.value ∙ decodes) in
    group_count-le (2 * n) (length others) (length-positive others is) (omega (arith, sum, q.least)))
    (signs others is)

signed_leb128-is_encoding : (z : ℤ) → IsEncoding signed_value z (signed_leb128 z)
unfolding signed_leb128
signed_leb128-is_encoding (pos n) =
    let h = holds n in
    record {
      is_leb128 = h.is;
      decodes = holds-positive n _ h;
      is_shortest = λ others is decodes. omega (arith, h.count, positive_count n others is decodes);
    }
signed_leb128-is_encoding (negsuc n) =
    let h = holds_turned n in
    record {
      is_leb128 = h.is;
      decodes = holds_turned-negative n _ h;
      is_shortest = λ others is decodes. omega (arith, h.count, negative_count n others is decodes);
    }

signed_leb128-only : (z : ℤ) (bytes : List ℕ) → IsEncoding signed_value z bytes → bytes ≡ signed_leb128 z
signed_leb128-only z bytes e =
    let own = signed_leb128-is_encoding z in
    let le = e.is_shortest (signed_leb128 z) own.is_leb128 own.decodes in
    let ge = own.is_shortest bytes e.is_leb128 e.decodes in
    let size : length bytes ≡ length (signed_leb128 z) = omega (arith, le, ge) in
    same_bytes bytes (signed_leb128 z) e.is_leb128 own.is_leb128 size
    (same_numbers bytes (signed_leb128 z) e.is_leb128 own.is_leb128 size (e.decodes ∙ sym own.decodes))

pub signed_leb128-law : (z : ℤ) → IsTheEncoding signed_value z (signed_leb128 z)
signed_leb128-law z = record { is = signed_leb128-is_encoding z; only = signed_leb128-only z }

-- ---- byte by byte

abbrev pub Small : ℤ → Type 0
Small (pos n) = n < 64
Small (negsuc n) = n < 64

abbrev pub Large : ℤ → Type 0
Large (pos n) = 64 ≤ n
Large (negsuc n) = 64 ≤ n

pub large_below : (z : ℤ) → lt_z z (negsuc 63) ≡ true → Large z
large_below (pos n) below = absurd (false≢true below)
large_below (negsuc n) below = ltb-true 63 n below

pub large_above : (z : ℤ) → le_z (pos 64) z ≡ true → Large z
large_above (pos n) above = leb-true 64 n above
large_above (negsuc n) above = absurd (false≢true above)

pub small_between : (z : ℤ) → lt_z z (negsuc 63) ≡ false → le_z (pos 64) z ≡ false → Small z
small_between (pos n) low high = leb-false 64 n high
small_between (negsuc n) low high = let most = ltb-false 63 n low in omega arith

pub signed_leb128-small : (z : ℤ) → Small z → signed_leb128 z ≡ low_bits_of z ∷ []
unfolding signed_leb128
signed_leb128-small (pos n) small = ap (λ k. continued (groups k n)) (group_count-small (2 * n) (omega arith))
signed_leb128-small (negsuc n) small =
    ap (λ k. continued (map (λ g. 127 - g) (groups k n))) (group_count-small (2 * n) (omega arith))

continued_turned-more : (g k n : ℕ) → 0 < k → continued (g ∷ map (λ h. 127 - h) (groups k n)) ≡ (g + 128) ∷ continued (map (λ h. 127 - h) (groups k n))
continued_turned-more g zero n some = absurd (omega arith)
continued_turned-more g (suc k) n some = refl

pub signed_leb128-step : (z : ℤ) → Large z → signed_leb128 z ≡ (low_bits_of z + 128) ∷ signed_leb128 (high_bits_of z)
unfolding signed_leb128
signed_leb128-step (pos n) large =
    ap (λ k. continued (groups k n)) (group_count-double n large ∙ add-one (group_count (2 * (n / 128))))
    ∙ continued-more (n % 128) (group_count (2 * (n / 128))) (n / 128) (omega arith)
signed_leb128-step (negsuc n) large =
    ap (λ k. continued (map (λ g. 127 - g) (groups k n))) (group_count-double n large ∙ add-one (group_count (2 * (n / 128))))
    ∙ continued_turned-more (127 - n % 128) (group_count (2 * (n / 128))) (n / 128) (omega arith)

-- how far a number is from 0 or -1
abbrev pub magnitude : ℤ → ℕ
magnitude (pos n) = n
magnitude (negsuc n) = n

pub low_bits_of-below : (z : ℤ) → low_bits_of z < 128
low_bits_of-below (pos n) = omega arith
low_bits_of-below (negsuc n) = omega arith

-- ---- bytes that are pushed

pub with_bit_7 : (g : ℕ) → g < 128 → bit_or g 128 ≡ g + 128
with_bit_7 g below = or_comm g 128 ∙ or_shifted 1 7 g below ∙ add_comm 128 g

-- a byte leaves the buffer, and is in it
pub moved : (items all next whole : List ℕ) (b : ℕ) → items ++ all ≡ whole → all ≡ b ∷ next → (items ++ b ∷ []) ++ next ≡ whole
moved items all next whole b start first = rw append_assoc (ap (λ w. items ++ w) (sym first) ∙ start)

-- what a buffer held at first is still its prefix
pub prefix-push : (n : ℕ) (items old : List ℕ) (b : ℕ) → n ≤ length old → take n items ≡ old → take n (items ++ b ∷ []) ≡ old
prefix-push n items old b within prefix =
    let taken = ap length prefix in
    let enough : n ≤ length items = omega (arith, taken, length-take n items) in
    take-append-le n items (b ∷ []) enough ∙ prefix
