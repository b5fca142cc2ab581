-- Code units of UTF-16, by characters and by bytes.
use Rattle.std.proofs.Common.{◌≡◌, ◌<◌, ◌≤◌, ◌+◌, ◌-◌, ◌*◌, ◌/◌, ℕ, zero, suc, Bool, true, false, cond, List, [], ◌∷◌, ◌++◌, length, take, drop, get_or, refl, arith, ap, sym, ◌∙◌, ◌⊎◌, inl, inr, rules}
use Rattle.std.specs.Prelude.{if◌then◌else◌, ◌==◌}
use Rattle.std.specs.Char.{len_utf8}
use Rattle.std.specs.Fmt.{is_char_start}
use Rattle.std.specs.List.{count_by, sum_by}
use Rattle.std.specs.Simd.Lanes.{chunk}
use Rattle.std.specs.Str.{chars, IsUtf8}
use Rattle.std.specs.Str.Lines.{lines}
use Rattle.std.proofs.lemmas.Bool.{cases_lt}
use Rattle.std.proofs.lemmas.Bool.Decides.{nat_tests}
use Rattle.std.proofs.lemmas.List.{get_or_push, length-append, take-append-drop, take_all, take-append-le}
use Rattle.std.proofs.lemmas.List.Sums.{sum_by-cons, sum_by-append, sum_by-le}
use Rattle.std.proofs.lemmas.Simd.{chunk-drop}
use Rattle.std.proofs.lemmas.Str.{IsUtf8-drop, encodes-chars, length-encode, len_utf8_bounds}
use Rattle.std.proofs.Math.ListN.{get_or-append}
use Rattle.std.proofs.Math.Seq.{take-add, take-append-add}
use lib.Dec.{ltb}
use lib.Utf8.{encode, encodes, next}
use Rattle.wat_lex.specs.errors.Positions.{line_and_column, utf16_len, utf16_units, utf16_line_and_column}
use Rattle.wat_lex.proofs.errors.Lines.{column_within, start_boundary}
use Rattle.wat_lex.proofs.errors.Positions.{past_end}
use Rattle.wat_lex.specs.inside.Utf16Bytes.{AreUnits, begins_pair, byte_units}

abbrev total : List ℕ → ℕ
total bytes = sum_by byte_units bytes

-- ---- blocks

pub both_counts : (xs : List ℕ) → count_by is_char_start xs + count_by begins_pair xs ≡ total xs
both_counts [] = refl
both_counts (x ∷ xs) =
    omega (arith, sum_by-cons (λ b. cond (is_char_start b) 1 0) x xs, sum_by-cons (λ b. cond (begins_pair b) 1 0) x xs, sum_by-cons byte_units x xs, both_counts xs)

pub total_chunk : (text : List ℕ) (i n : ℕ) → total (drop i text) ≡ total (chunk i n text) + total (drop (i + n) text)
total_chunk text i n = ap total (chunk-drop i n text) ∙ sum_by-append byte_units (chunk i n text) (drop (i + n) text)

few : (b : ℕ) → byte_units b ≤ 2
few b = by (is_char_start b) (begins_pair b)
  where
    by : (p q : Bool) → (if p then 1 else 0) + (if q then 1 else 0) ≤ 2
    by true true = omega arith
    by true false = omega arith
    by false true = omega arith
    by false false = omega arith

pub total_bound : (text : List ℕ) → total text ≤ length text * 2
total_bound text = sum_by-le byte_units 2 text (λ k d l. few (get_or text k d))

-- ---- characters

next_units : (n : ℕ) → byte_units (next n) ≡ 0
next_units n = grind (arith, nat_tests)

-- bytes that begin no character
AllLater : List ℕ → Type 0
AllLater [] = Unit {0}
AllLater (b ∷ bs) = (byte_units b ≡ 0) × AllLater bs

later_units : (bs : List ℕ) (m : ℕ) → AllLater bs → total (take m bs) ≡ 0
unfolding AllLater
later_units bs zero h = refl
later_units [] (suc m) h = refl
later_units (b ∷ bs) (suc m) h = sum_by-cons byte_units b (take m bs) ∙ omega (arith, h.0, later_units bs m h.1)

led_units : (b : ℕ) (bs : List ℕ) (m u : ℕ) → AllLater bs → byte_units b ≡ u → total (take (suc m) (b ∷ bs)) ≡ u
led_units b bs m u h e = sum_by-cons byte_units b (take m bs) ∙ omega (arith, e, later_units bs m h)

pick : (b : Bool) (x y : List ℕ) (P : List ℕ → Type 0) → (b ≡ true → P x) → (b ≡ false → P y) → P (cond b x y)
pick true x y P h k = h refl
pick false x y P h k = k refl

-- the first bytes of a character, one at least, have its units
front_units : (c m : ℕ) → total (take (suc m) (encode c)) ≡ utf16_len c
unfolding encode AllLater
front_units c m =
    pick (ltb c 128) _ _ P (λ t. led_units c [] m (utf16_len c) tt (grind (arith, nat_tests)))
    (λ f. pick (ltb c 2048) _ _ P (λ t. led_units (192 + c / 64) (next c ∷ []) m (utf16_len c) (next_units c, tt) (grind (arith, nat_tests)))
    (λ g. pick (ltb c 65536) _ _ P (λ t. led_units (224 + c / 4096) (next (c / 64) ∷ next c ∷ []) m (utf16_len c) (next_units (c / 64), (next_units c, tt)) (grind (arith, nat_tests)))
    (λ h. led_units (240 + c / 262144) (next (c / 4096) ∷ next (c / 64) ∷ next c ∷ []) m (utf16_len c) (next_units (c / 4096), (next_units (c / 64), (next_units c, tt))) (grind (arith, nat_tests)))))
  where
    P : List ℕ → Type 0
    P s = total (take (suc m) s) ≡ utf16_len c

all_units : (c : ℕ) → total (encode c) ≡ utf16_len c
all_units c =
    let small : length (encode c) ≤ 4 = let e = length-encode c in let b = (len_utf8_bounds c).1 in omega arith in
    ap total (sym (take_all 4 (encode c) small)) ∙ front_units c 3

none_begin : (cs : List ℕ) → utf16_units 0 cs ≡ 0
unfolding utf16_units
none_begin [] = refl
none_begin (c ∷ cs) = refl

more_begin : (c : ℕ) (cs : List ℕ) (m : ℕ) → utf16_units (suc m) (c ∷ cs) ≡ utf16_len c + utf16_units (suc m - len_utf8 c) cs
unfolding utf16_units
more_begin c cs m = let n : (suc m == 0) ≡ false = search rules in rw n refl

by_characters : (cs : List ℕ) (n : ℕ) → utf16_units n cs ≡ total (take n (encodes cs))
unfolding utf16_units
by_characters [] zero = refl
by_characters [] (suc m) = refl
by_characters (c ∷ cs) zero = refl
by_characters (c ∷ cs) (suc m) = more_begin c cs m ∙ by (by_characters cs (suc m - len_utf8 c)) (cases_lt (length (encode c)) (suc m))
  where
    long : length (encode c) ≡ len_utf8 c
    long = length-encode c

    k : ℕ
    k = suc m - len_utf8 c

    by : utf16_units k cs ≡ total (take k (encodes cs)) → (length (encode c) < suc m) ⊎ (suc m ≤ length (encode c)) → utf16_len c + utf16_units k cs ≡ total (take (suc m) (encode c ++ encodes cs))
    by h (inl l) =
        let more : length (encode c) + k ≡ suc m = omega (arith, l, long) in
        ap (λ u. utf16_len c + u) h ∙ ap (λ u. u + total (take k (encodes cs))) (sym (all_units c)) ∙ sym (sum_by-append byte_units (encode c) (take k (encodes cs)))
        ∙ ap total (sym (take-append-add (encode c) (encodes cs) k) ∙ ap (λ n. take n (encode c ++ encodes cs)) more)
    by h (inr l) =
        let none : k ≡ 0 = omega (arith, l, long) in
        let first : utf16_len c + utf16_units k cs ≡ utf16_len c = ap (λ n. utf16_len c + utf16_units n cs) none ∙ ap (λ u. utf16_len c + u) (none_begin cs) ∙ omega arith in
        first ∙ sym (front_units c m) ∙ ap total (sym (take-append-le (suc m) (encode c) (encodes cs) (omega (arith, l))))

by_bytes : (text : List ℕ) (n : ℕ) → IsUtf8 text → utf16_units n (chars text) ≡ total (take n text)
by_bytes text n u = by_characters (chars text) n ∙ ap (λ t. total (take n t)) (encodes-chars text u)

no_units : (cs : List ℕ) (n : ℕ) → n ≡ 0 → utf16_units n cs ≡ 0
no_units cs n e = ap (λ k. utf16_units k cs) e ∙ none_begin cs

-- ---- offsets whose line and column in bytes are known

module _ (text : List ℕ) (offset : ℕ) (place : ℕ × ℕ) (is : place ≡ line_and_column text offset) where
  pub at_start : place.1 ≡ 0 → (place.0, 0) ≡ utf16_line_and_column text offset
  at_start e = ap (λ n. (place.0, n)) (sym (no_units (chars (drop (offset - place.1) text)) place.1 e)) ∙ ap (λ p. (p.0, utf16_units p.1 (chars (drop (offset - p.1) text)))) is

  pub inside : (place.1 ≡ 0 → ⊥) → offset ≤ length text
  inside n = elim (cases_lt (length text) offset) [
    | inl l ↦ absurd (n (ap (λ p. p.1) is ∙ sym (ap (λ p. p.1) (past_end text offset (length (lines text)) l refl))))
    | inr l ↦ l
  ]

  column : place.1 ≡ (line_and_column text offset).1
  column = ap (λ p. p.1) is

  pub back : (place.1 ≡ 0 → ⊥) → place.1 ≤ offset
  back n = column_within text offset place.1 (inside n) column

  pub later : (place.1 ≡ 0 → ⊥) → IsUtf8 text → (units : ℕ) → units ≡ total (take (offset - (offset - place.1)) (drop (offset - place.1) text)) → (place.0, units) ≡ utf16_line_and_column text offset
  later n u units e =
      let start = offset - place.1 in
      let b = back n in
      let long : offset - start ≡ place.1 = omega (arith, b) in
      let same : units ≡ utf16_units place.1 (chars (drop start text)) =
      e ∙ ap (λ k. total (take k (drop start text))) long ∙ sym (by_bytes (drop start text) place.1 (IsUtf8-drop text start u (start_boundary text offset place.1 (inside n) column u))) in
      ap (λ k. (place.0, k)) same ∙ ap (λ p. (p.0, utf16_units p.1 (chars (drop (offset - p.1) text)))) is

-- ---- code units before a byte

pub total_more : (text : List ℕ) (i n : ℕ) → total (take (i + n) text) ≡ total (take i text) + total (take n (drop i text))
total_more text i n = ap total (take-add i n text) ∙ sum_by-append byte_units (take i text) (take n (drop i text))

pub total_between : (text : List ℕ) (i n : ℕ) → i ≤ n → total (take n text) ≡ total (take i text) + total (take (n - i) (drop i text))
total_between text i n l = let whole : n ≡ i + (n - i) = omega (arith, l) in ap (λ k. total (take k text)) whole ∙ total_more text i (n - i)

pub total_take_bound : (text : List ℕ) (n : ℕ) → total (take n text) ≤ length text * 2
total_take_bound text n =
    let parts : total text ≡ total (take n text) + total (drop n text) = ap total (sym (take-append-drop n text)) ∙ sum_by-append byte_units (take n text) (drop n text) in
    omega (arith, total_bound text, parts)

-- the units before one multiple more
pub one_mark_more : (text marks more : List ℕ) (at before : ℕ) → at ≡ length marks * 0x10000 → AreUnits text marks → before ≡ total (take at text) → more ≡ marks ++ before ∷ [] → AreUnits text more
one_mark_more text marks more at before e h b m k l =
    elim (cases_lt k (length marks)) [
      | inl lt ↦ ap (λ xs. get_or xs k 0) m ∙ get_or-append marks (before ∷ []) 0 k lt ∙ h k lt
      | inr ge ↦
          let long : length more ≡ length marks + 1 = ap length m ∙ length-append marks (before ∷ []) in
          let last : length marks ≡ k = omega (arith, l, ge, long) in
          ap (λ xs. get_or xs k 0) m ∙ get_or_push marks before 0 k last ∙ b ∙ ap (λ n. total (take n text)) (e ∙ ap (λ n. n * 0x10000) last)
    ]
