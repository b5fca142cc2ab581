-- The characters of which a prefix of a line's displayed form consists.
use Rattle.std.proofs.Common.{◌≡◌, ◌<◌, ◌≤◌, ◌+◌, ◌-◌, ◌/◌, ℕ, zero, suc, Bool, true, false, not, cond, List, [], ◌∷◌, ◌++◌, length, get_or, take, drop, reverse, refl, arith, true≢false, eq-eqb, ap, sym, ◌∙◌, subst, length-append, take-append-drop, le-leb, inl, inr}
use Rattle.std.specs.Prelude.{flat_map, ◌&&◌, nat_le, ◌==◌}
use Rattle.std.specs.Fmt.{is_char_start}
use Rattle.std.specs.Iterator.{Yields, YieldsLast}
use Rattle.std.specs.List.{list_all}
use Rattle.std.specs.Str.{chars, IsUtf8, IsCharBoundary}
use Rattle.std.proofs.lemmas.Bool.{cases_Bool, eqb-true, and_parts}
use Rattle.std.proofs.lemmas.Bool.Decides.{nat_tests}
use Rattle.std.proofs.lemmas.Grind.{flat_map-append}
use Rattle.std.proofs.lemmas.List.{append-nil, get_or-append-add, get_or_append_left, reverse-append}
use Rattle.std.proofs.lemmas.Str.{IsUtf8-past_char, IsUtf8-take, IsCharBoundary-past_char, drop_past_char, length-encode, chars-append, chars-nil, chars_from_encodes, scalars-chars, IsUtf8-nil, encodes-append}
use Rattle.std.proofs.Math.Seq.{take-add, take-append-add, take-append_seam}
use Rattle.std.specs.Char.{len_utf8}
use lib.Dec.{T, ltb, ltb→lt, leb→le}
use lib.Utf8.{encode, encodes, next, scalar, scalars}
use Rattle.wat_lex.specs.grammar.Classes.{is_confusing}
use Rattle.wat_lex.specs.errors.Rendering.{rendered_char, rendered_line, is_boundary}
use Rattle.wat_lex.specs.lemmas.Lengths.{shown_tab, shown_none, shown_self}
use Rattle.wat_lex.proofs.errors.ShownLines.{all_shown, first_off, last_off, spaces}

-- The displayed form of the line before the offset at has all of the bytes, except the missing ones.
pub record Walked (line : List ℕ) (at missing bytes : ℕ) : Type 0 where
  pub range : at ≤ length line
  pub before : IsUtf8 (take at line)
  pub after : IsUtf8 (drop at line)
  pub shown : bytes ≡ length (encodes (all_shown (take at line))) + missing

pub walked_start : (line : List ℕ) (bytes : ℕ) → IsUtf8 line → Walked line 0 bytes bytes
walked_start line bytes u = record {
  range = omega arith;
  before = IsUtf8-nil;
  after = u;
  shown = sym (ap (λ cs. length (encodes (flat_map rendered_char cs)) + bytes) chars-nil ∙ omega arith);
}

-- ---- the bytes of a character

by_cond : (b : Bool) (x y : List ℕ) (P : List ℕ → Type 0) → (b ≡ true → P x) → P y → P (cond b x y)
by_cond true x y P h k = h refl
by_cond false x y P h k = k

encode_cases : (c : ℕ) (P : List ℕ → Type 0) → (c < 128 → P (c ∷ [])) → ((a : ℕ) → P ((192 + a) ∷ next c ∷ [])) → ((a b : ℕ) → P ((224 + a) ∷ next b ∷ next c ∷ [])) → ((a b d : ℕ) → P ((240 + a) ∷ next b ∷ next d ∷ next c ∷ [])) → P (encode c)
unfolding encode
encode_cases c P one two three four =
    by_cond (ltb c 128) _ _ P (λ t. one (ltb→lt c 128 (subst T (sym t) tt))) (by_cond (ltb c 2048) _ _ P (λ _. two (c / 64)) (by_cond (ltb c 65536) _ _ P (λ _. three (c / 4096) (c / 64)) (four (c / 262144) (c / 4096) (c / 64))))

next_byte : (n : ℕ) → is_char_start (next n) ≡ false
next_byte n = grind (arith, nat_tests)

not_true : (b : Bool) → not b ≡ true → b ≡ false
not_true true e = absurd (true≢false (sym e))
not_true false e = refl

-- a byte after the first of a character begins none
later_in : (bytes : List ℕ) (k : ℕ) → list_all (λ b. not (is_char_start b)) bytes ≡ true → k < length bytes → is_char_start (get_or bytes k 0) ≡ false
later_in [] k h l = absurd (omega (arith, l))
later_in (b ∷ bs) zero h l = not_true (is_char_start b) (and_parts (not (is_char_start b)) (list_all (λ b. not (is_char_start b)) bs) h).0
later_in (b ∷ bs) (suc k) h l = later_in bs k (and_parts (not (is_char_start b)) (list_all (λ b. not (is_char_start b)) bs) h).1 (omega (arith, l))

later_after : (b : ℕ) (bytes : List ℕ) (k : ℕ) → list_all (λ b. not (is_char_start b)) bytes ≡ true → 0 < k → k < length (b ∷ bytes) → is_char_start (get_or (b ∷ bytes) k 0) ≡ false
later_after b bytes zero h low l = absurd (omega (arith, low))
later_after b bytes (suc k) h low l = later_in bytes k h (omega (arith, l))

later_byte : (c k : ℕ) → 0 < k → k < length (encode c) → is_char_start (get_or (encode c) k 0) ≡ false
later_byte c k low =
    encode_cases c (λ s. k < length s → is_char_start (get_or s k 0) ≡ false)
    (λ _. later_after c [] k refl low)
    (λ a. later_after (192 + a) (next c ∷ []) k (rw next_byte refl) low)
    (λ a b. later_after (224 + a) (next b ∷ next c ∷ []) k (rw (next_byte, next_byte) refl) low)
    (λ a b d. later_after (240 + a) (next b ∷ next d ∷ next c ∷ []) k (rw (next_byte, next_byte, next_byte) refl) low)

first_byte : (c : ℕ) → is_char_start (get_or (encode c) 0 0) ≡ true
first_byte c =
    encode_cases c (λ s. is_char_start (get_or s 0 0) ≡ true)
    (λ l. grind (arith, nat_tests))
    (λ a. grind (arith, nat_tests))
    (λ a b. grind (arith, nat_tests))
    (λ a b d. grind (arith, nat_tests))

-- A character that has a displayed form and is not a TAB is displayed unchanged.
shown_bytes : (c : ℕ) → (c ≡ 9 → ⊥) → 0 < length (encodes (rendered_char c)) → encodes (rendered_char c) ≡ encode c
shown_bytes c n l =
    elim (cases_Bool (is_confusing c)) [
      | inl t ↦ absurd (omega (arith, l, ap (λ s. length (encodes s)) (shown_none c n t)))
      | inr f ↦ ap encodes (sym (shown_self c n f)) ∙ append-nil (encode c)
    ]

pub tab_bytes : (c : ℕ) → c ≡ 9 → encodes (rendered_char c) ≡ spaces 4
unfolding encode
tab_bytes c e = ap encodes (sym (shown_tab c e))

space_bytes : (n : ℕ) → encodes (spaces n) ≡ spaces n
unfolding encode
space_bytes zero = refl
space_bytes (suc n) = ap (λ x. 32 ∷ x) (space_bytes n)

take_spaces : (m n : ℕ) (rest : List ℕ) → m ≤ n → take m (spaces n ++ rest) ≡ spaces m
take_spaces zero n rest l = refl
take_spaces (suc m) zero rest l = absurd (omega (arith, l))
take_spaces (suc m) (suc n) rest l = ap (λ x. 32 ∷ x) (take_spaces m n rest (omega (arith, l)))

space_at : (m n : ℕ) (rest : List ℕ) → m < n → get_or (spaces n ++ rest) m 0 ≡ 32
space_at m zero rest l = absurd (omega (arith, l))
space_at zero (suc n) rest l = refl
space_at (suc m) (suc n) rest l = space_at m n rest (omega (arith, l))

and-false : (b : Bool) → (b && false) ≡ false
and-false true = refl
and-false false = refl

-- The character c begins at the offset at.
module _ (line rest : List ℕ) (at c missing bytes : ℕ) (whole : IsUtf8 line) (w : Walked line at missing bytes) (here : drop at line ≡ encode c ++ rest) where
  boundary : IsCharBoundary line (at + len_utf8 c)
  boundary = IsCharBoundary-past_char line rest at c w.range w.after here

  through : take (at + len_utf8 c) line ≡ take at line ++ encode c
  through =
      take-add at (len_utf8 c) line ∙ ap (λ x. take at line ++ take (len_utf8 c) x) here
      ∙ ap (λ n. take at line ++ take n (encode c ++ rest)) (sym (length-encode c)) ∙ ap (λ x. take at line ++ x) (take-append_seam (encode c) rest)

  shown_through : all_shown (take (at + len_utf8 c) line) ≡ all_shown (take at line) ++ rendered_char c
  shown_through = last_off (take (at + len_utf8 c) line) (take at line) c (IsUtf8-take line (at + len_utf8 c) whole boundary) through

  pub walked_past : (len : ℕ) → len ≡ length (encodes (rendered_char c)) → len ≤ missing → Walked line (at + len_utf8 c) (missing - len) bytes
  walked_past len e l = record {
    range = boundary.0;
    before = IsUtf8-take line (at + len_utf8 c) whole boundary;
    after = subst IsUtf8 (sym (drop_past_char line rest at c here)) (IsUtf8-past_char (drop at line) rest c w.after here);
    shown =
        let more : length (encodes (all_shown (take (at + len_utf8 c) line))) ≡ length (encodes (all_shown (take at line))) + length (encodes (rendered_char c)) =
        ap (λ s. length (encodes s)) shown_through ∙ ap length (encodes-append (all_shown (take at line)) (rendered_char c)) ∙ length-append (encodes (all_shown (take at line))) (encodes (rendered_char c)) in
        omega (arith, more, w.shown, e, l);
  }

  -- The displayed form of the line, cut around the character.
  pub cut_here : rendered_line line ≡ encodes (all_shown (take at line)) ++ (encodes (rendered_char c) ++ encodes (all_shown rest))
  cut_here =
      ap (λ t. encodes (all_shown t)) (sym (take-append-drop at line)) ∙ ap (λ cs. encodes (flat_map rendered_char cs)) (chars-append (take at line) (drop at line) w.before)
      ∙ ap encodes (flat_map-append rendered_char (chars (take at line)) (chars (drop at line))) ∙ encodes-append (all_shown (take at line)) (all_shown (drop at line))
      ∙ ap (λ x. encodes (all_shown (take at line)) ++ encodes x) (first_off (drop at line) rest c w.after here) ∙ ap (λ x. encodes (all_shown (take at line)) ++ x) (encodes-append (rendered_char c) (all_shown rest))

  byte_here : get_or (rendered_line line) bytes 0 ≡ get_or (encodes (rendered_char c) ++ encodes (all_shown rest)) missing 0
  byte_here =
      ap (λ s. get_or s bytes 0) cut_here ∙ ap (λ n. get_or (encodes (all_shown (take at line)) ++ (encodes (rendered_char c) ++ encodes (all_shown rest))) n 0) w.shown
      ∙ get_or-append-add (encodes (all_shown (take at line))) (encodes (rendered_char c) ++ encodes (all_shown rest)) missing 0

  take_here : take bytes (rendered_line line) ≡ encodes (all_shown (take at line)) ++ take missing (encodes (rendered_char c) ++ encodes (all_shown rest))
  take_here =
      ap (λ s. take bytes s) cut_here ∙ ap (λ n. take n (encodes (all_shown (take at line)) ++ (encodes (rendered_char c) ++ encodes (all_shown rest)))) w.shown
      ∙ take-append-add (encodes (all_shown (take at line))) (encodes (rendered_char c) ++ encodes (all_shown rest)) missing

  -- cut inside the character
  pub inside_char : 0 < missing → missing < length (encodes (rendered_char c)) → (c ≡ 9 → ⊥) → is_boundary (rendered_line line) bytes ≡ false
  inside_char low high n =
      let plain : encodes (rendered_char c) ≡ encode c = shown_bytes c n (omega (arith, low, high)) in
      let inside : missing < length (encode c) = subst (λ s. missing < length s) plain high in
      let byte : get_or (rendered_line line) bytes 0 ≡ get_or (encode c) missing 0 =
      byte_here ∙ ap (λ s. get_or (s ++ encodes (all_shown rest)) missing 0) plain ∙ get_or_append_left (encode c) (encodes (all_shown rest)) 0 missing inside in
      ap (λ b. nat_le bytes (length (rendered_line line)) && is_char_start b) byte ∙ ap (λ b. nat_le bytes (length (rendered_line line)) && b) (later_byte c missing low inside) ∙ and-false _

  long_enough : missing < length (encodes (rendered_char c)) → nat_le bytes (length (rendered_line line)) ≡ true
  long_enough l =
      let whole_length = ap length cut_here ∙ length-append (encodes (all_shown (take at line))) (encodes (rendered_char c) ++ encodes (all_shown rest)) in
      let part_length = length-append (encodes (rendered_char c)) (encodes (all_shown rest)) in
      le-leb bytes (length (rendered_line line)) (omega (arith, whole_length, part_length, w.shown, l))

  -- cut before the character, or between the spaces of a TAB
  abbrev pub CutThere : Type 0
  CutThere = (is_boundary (rendered_line line) bytes ≡ true) × (encodes (all_shown (take at line) ++ spaces missing) ≡ take bytes (rendered_line line))

  cut_there : missing < length (encodes (rendered_char c)) → is_char_start (get_or (encodes (rendered_char c) ++ encodes (all_shown rest)) missing 0) ≡ true → take missing (encodes (rendered_char c) ++ encodes (all_shown rest)) ≡ spaces missing → CutThere
  cut_there l start front = (
    ap (λ b. b && is_char_start (get_or (rendered_line line) bytes 0)) (long_enough l) ∙ ap is_char_start byte_here ∙ start,
    encodes-append (all_shown (take at line)) (spaces missing) ∙ ap (λ x. encodes (all_shown (take at line)) ++ x) (space_bytes missing ∙ sym front) ∙ sym take_here,
  )

  cut_in_tab : missing < length (encodes (rendered_char c)) → c ≡ 9 → CutThere
  cut_in_tab l e =
      let four : encodes (rendered_char c) ≡ spaces 4 = tab_bytes c e in
      let below : missing < 4 = omega (arith, l, ap length four) in
      cut_there l
      (ap (λ s. is_char_start (get_or (s ++ encodes (all_shown rest)) missing 0)) four ∙ ap is_char_start (space_at missing 4 (encodes (all_shown rest)) below))
      (ap (λ s. take missing (s ++ encodes (all_shown rest))) four ∙ take_spaces missing 4 (encodes (all_shown rest)) (omega (arith, below)))

  cut_before : missing < length (encodes (rendered_char c)) → (c ≡ 9 → ⊥) → missing ≡ 0 → CutThere
  cut_before l n z =
      let some : 0 < length (encodes (rendered_char c)) = omega (arith, l) in
      let plain : encodes (rendered_char c) ≡ encode c = shown_bytes c n some in
      cut_there l
      (ap (λ k. is_char_start (get_or (encodes (rendered_char c) ++ encodes (all_shown rest)) k 0)) z
      ∙ ap (λ s. is_char_start (get_or (s ++ encodes (all_shown rest)) 0 0)) plain
      ∙ ap is_char_start (get_or_append_left (encode c) (encodes (all_shown rest)) 0 0 (subst (λ s. 0 < length s) plain some)) ∙ first_byte c)
      (ap (λ k. take k (encodes (rendered_char c) ++ encodes (all_shown rest))) z ∙ ap spaces (sym z))

  pub cut_at_boundary : missing < length (encodes (rendered_char c)) → ((c ≡ 9 → ⊥) → missing ≡ 0) → CutThere
  cut_at_boundary l h =
      elim (cases_Bool (c == 9)) [
        | inl t ↦ cut_in_tab l (eqb-true c 9 t)
        | inr f ↦ let n : c ≡ 9 → ⊥ = λ e. true≢false (sym (eq-eqb c 9 e) ∙ f) in cut_before l n (h n)
      ]

-- ---- the characters as they are taken from the back

pub truncate_on_error : (left seen end : List ℕ) → Yields (YieldsLast (λ x. x)) left seen end → end ≡ [] → (left ≡ reverse seen) × (length (encodes seen) ≡ length (encodes left))
truncate_on_error left [] end h e = (h ∙ e, ap (λ x. length (encodes x)) (sym (h ∙ e)))
truncate_on_error left (c ∷ cs) end h e =
    let more = truncate_on_error h.0 cs end h.2 e in
    let whole : length (encodes left) ≡ length (encodes h.0) + length (encodes (c ∷ [])) =
    ap (λ x. length (encodes x)) h.1 ∙ ap length (encodes-append h.0 (c ∷ [])) ∙ length-append (encodes h.0) (encodes (c ∷ [])) in
    let one : length (encodes (c ∷ [])) ≡ length (encode c) = ap length (append-nil (encode c)) in (
      h.1 ∙ ap (λ x. x ++ c ∷ []) more.0 ∙ sym (reverse-append (c ∷ []) cs),
      omega (arith, length-append (encode c) (encodes cs), more.1, whole, one),
    )

-- ---- displayed characters are Unicode scalar values

scalars_space : (c : ℕ) (cs : List ℕ) → scalars (c ∷ []) ≡ true → scalars cs ≡ true → scalars (rendered_char c ++ cs) ≡ true
scalars_space c cs h k =
    elim (cases_Bool (c == 9)) [
      | inl tab ↦ ap (λ x. scalars (x ++ cs)) (sym (shown_tab c (eqb-true c 9 tab))) ∙ k
      | inr other ↦
          let n : c ≡ 9 → ⊥ = λ e. true≢false (sym (eq-eqb c 9 e) ∙ other) in
          elim (cases_Bool (is_confusing c)) [
            | inl t ↦ ap (λ x. scalars (x ++ cs)) (sym (shown_none c n t)) ∙ k
            | inr f ↦ ap (λ x. scalars (x ++ cs)) (sym (shown_self c n f)) ∙ ap (λ b. scalar c && b) k ∙ h
          ]
    ]

pub scalars_shown : (cs : List ℕ) → scalars cs ≡ true → scalars (flat_map rendered_char cs) ≡ true
scalars_shown [] h = refl
scalars_shown (c ∷ cs) h =
    let parts = and_parts (scalar c) (scalars cs) h in
    scalars_space c (flat_map rendered_char cs) (ap (λ b. b && true) parts.0) (scalars_shown cs parts.1)

pub shown_utf8 : (line : List ℕ) → IsUtf8 line → IsUtf8 (rendered_line line)
shown_utf8 line u = (all_shown line, (scalars_shown (chars line) (scalars-chars line u), refl))

boundary_from : (text : List ℕ) (n : ℕ) → is_boundary text n ≡ true → IsCharBoundary text n
boundary_from text n h =
    let parts = and_parts (nat_le n (length text)) (is_char_start (get_or text n 0)) h in
    (leb→le n (length text) (subst T (sym parts.0) tt), λ _ high. lead_start (get_or text n 0) parts.1 high)
  where
    lead_start : (b : ℕ) → is_char_start b ≡ true → 128 ≤ b → 192 ≤ b
    lead_start b h l = grind (arith, nat_tests)

-- the characters of the first bytes
pub first_chars : (line shown : List ℕ) (bytes : ℕ) → IsUtf8 line → is_boundary (rendered_line line) bytes ≡ true → encodes shown ≡ take bytes (rendered_line line) → shown ≡ chars (take bytes (rendered_line line))
first_chars line shown bytes u b e = chars_from_encodes shown (take bytes (rendered_line line)) (IsUtf8-take (rendered_line line) bytes (shown_utf8 line u) (boundary_from (rendered_line line) bytes b)) e
