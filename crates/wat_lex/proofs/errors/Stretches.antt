-- Stretches of a line that are displayed unchanged, and those that are displayed in one column per byte.
use Rattle.std.proofs.Common.{◌≡◌, ◌≢◌, ◌<◌, ◌≤◌, ◌+◌, ℕ, zero, suc, Bool, true, false, cond, List, [], ◌∷◌, ◌++◌, length, get_or, take, drop, refl, arith, true≢false, eq-eqb, ap, sym, ◌∙◌, subst, length-append, take-append-drop, zero-add, inl, inr}
use Rattle.std.specs.Prelude.{flat_map, ◌&&◌, ◌==◌, Option, Some, None, IsNone, MatchOption, if◌then◌else◌}
use Rattle.std.specs.Fmt.{is_char_start}
use Rattle.std.specs.Int.{is_in_range}
use Rattle.std.specs.List.{list_all, prefix_len}
use Rattle.std.specs.Str.{chars, IsUtf8, IsAscii, IsCharBoundary, NonePass}
use Rattle.std.proofs.lemmas.Bool.{cases_Bool, eqb-true, and_parts, or_cases, both_ways, cases_lt, le-leb}
use Rattle.std.proofs.lemmas.Bool.Decides.{nat_tests}
use Rattle.std.proofs.lemmas.Grind.{flat_map-append}
use Rattle.std.proofs.lemmas.List.{append-nil, get_or-append-add, get_or_append_left, get_or-take, length-take-le, take-append-le, nil_from_length}
use Rattle.std.proofs.lemmas.List.Sums.{prefix_len_passes, prefix_len_stops, prefix_len-le-length}
use Rattle.std.proofs.lemmas.Str.{IsUtf8-take, IsUtf8-drop, IsUtf8-from_ascii, IsCharBoundary-past_char, IsCharBoundary-at_seam, IsAscii-take, drop_past_char, length-encode, encode_ascii, encodes-append, encodes-chars, encodes-IsAscii, chars-append, chars-nil, chars-IsAscii}
use Rattle.std.proofs.Math.Seq.{take-append_seam}
use Rattle.std.specs.Char.{len_utf8}
use lib.Utf8.{encode, encodes}
use Rattle.memchr.specs.Find.{IsFirstByte, is_byte}
use Rattle.unicode_width.specs.Width.{str_width}
use Rattle.unicode_width.proofs.Rules.{str_width-printable}
use Rattle.wat_lex.specs.errors.LineBytes.{is_kept, is_by_columns}
use Rattle.wat_lex.specs.errors.Rendering.{rendered_char, rendered_line, is_boundary, columns}
use Rattle.wat_lex.specs.grammar.Classes.{is_confusing}
use Rattle.wat_lex.specs.inside.ScannedLexemes.{FirstConfusing}
use Rattle.wat_lex.specs.lemmas.Lengths.{shown_tab, shown_none, shown_self}
use Rattle.wat_lex.proofs.errors.ShownBytes.{shown_utf8}
use Rattle.wat_lex.proofs.errors.ShownLines.{all_shown, first_off}
use Rattle.wat_lex.proofs.inside.Confusing.{Leadless, clear_text, encode_some, lead}

-- ---- a line in two

pub shown_append : (xs ys : List ℕ) → IsUtf8 xs → rendered_line (xs ++ ys) ≡ rendered_line xs ++ rendered_line ys
shown_append xs ys u =
    ap (λ cs. encodes (flat_map rendered_char cs)) (chars-append xs ys u) ∙ ap encodes (flat_map-append rendered_char (chars xs) (chars ys)) ∙ encodes-append (all_shown xs) (all_shown ys)

pub shown_nothing : (line : List ℕ) → length line ≡ 0 → rendered_line line ≡ []
shown_nothing line e = ap rendered_line (nil_from_length line e) ∙ ap (λ cs. encodes (flat_map rendered_char cs)) chars-nil

-- ---- characters that are displayed unchanged

kept_chars : (cs : List ℕ) → NonePass (λ c. c == 9) cs → NonePass is_confusing cs → flat_map rendered_char cs ≡ cs
kept_chars [] h k = refl
kept_chars (c ∷ cs) h k =
    ap (λ x. x ++ flat_map rendered_char cs) (sym (shown_self c (λ e. true≢false (sym (eq-eqb c 9 e) ∙ h.0)) k.0)) ∙ ap (λ x. c ∷ x) (kept_chars cs h.1 k.1)

abbrev Tabless : List ℕ → Type 0
Tabless bs = (k : ℕ) → k < length bs → get_or bs k 0 ≢ 9

tab_first : (c : ℕ) → c ≡ 9 → get_or (encode c) 0 0 ≡ 9
tab_first c e = ap (λ x. get_or x 0 0) (encode_ascii c (omega (arith, e))) ∙ e

tabless_chars : (cs : List ℕ) → Tabless (encodes cs) → NonePass (λ c. c == 9) cs
tabless_chars [] h = tt
tabless_chars (c ∷ cs) h = (
  elim (cases_Bool (c == 9)) [
    | inl t ↦ absurd (h 0 (omega (arith, length-append (encode c) (encodes cs), encode_some c)) (get_or_append_left (encode c) (encodes cs) 0 0 (encode_some c) ∙ tab_first c (eqb-true c 9 t)))
    | inr f ↦ f
  ],
  tabless_chars cs (λ k l e. h (length (encode c) + k) (omega (arith, length-append (encode c) (encodes cs))) (get_or-append-add (encode c) (encodes cs) k 0 ∙ e)),
)

kept_text : (bs : List ℕ) → IsUtf8 bs → Tabless bs → NonePass is_confusing (chars bs) → rendered_line bs ≡ bs
kept_text bs u h k = ap encodes (kept_chars (chars bs) (tabless_chars (chars bs) (subst Tabless (sym (encodes-chars bs u)) h)) k) ∙ encodes-chars bs u

pub shown_itself : (text : List ℕ) (tab : Option ℕ) (f : Option (ℕ × ℕ)) → IsUtf8 text → IsFirstByte (is_byte 9) text tab
    → MatchOption f (NonePass is_confusing (chars text)) (λ f. FirstConfusing text f.0 f.1) → IsNone tab → IsNone f → rendered_line text ≡ text
shown_itself text None None u t f a b = kept_text text u (λ k l e. t k (omega arith) l (eq-eqb (get_or text k 0) 9 e)) f
shown_itself text (Some x) f u t k a b = absurd (true≢false a)
shown_itself text None (Some x) u t k a b = absurd (true≢false b)

-- ---- the bytes before the first that may begin something else

stops_boundary : (b : ℕ) → is_kept b ≡ false → 128 ≤ b → 192 ≤ b
stops_boundary b h l = grind (arith, nat_tests)

pub kept_boundary : (line : List ℕ) (n : ℕ) → n ≡ prefix_len is_kept line → IsCharBoundary line n
kept_boundary line n e = (
  omega (arith, e, prefix_len-le-length is_kept line),
  λ l high. stops_boundary (get_or line n 0) (ap (λ k. is_kept (get_or line k 0)) e ∙ prefix_len_stops is_kept line 0 (omega (arith, e, l))) high,
)

kept_byte : (line : List ℕ) (n k : ℕ) → n ≡ prefix_len is_kept line → k < length (take n line) → is_kept (get_or (take n line) k 0) ≡ true
kept_byte line n k e l =
    let within : n ≤ length line = omega (arith, e, prefix_len-le-length is_kept line) in
    let below : k < n = omega (arith, l, length-take-le n line within) in
    ap is_kept (get_or-take n line k 0 below) ∙ prefix_len_passes is_kept line k 0 (omega (arith, e, below))

pub kept_front : (line : List ℕ) (n : ℕ) → IsUtf8 line → n ≡ prefix_len is_kept line → rendered_line line ≡ take n line ++ rendered_line (drop n line)
kept_front line n u e =
    let front : IsUtf8 (take n line) = IsUtf8-take line n u (kept_boundary line n e) in
    let tabless : Tabless (take n line) = λ k l q. both_ways (is_kept 9) refl (subst (λ x. is_kept x ≡ true) q (kept_byte line n k e l)) in
    let leadless : Leadless (take n line) = λ k l q. both_ways (is_kept 0xE2) refl (subst (λ x. is_kept x ≡ true) q (kept_byte line n k e l)) in
    ap rendered_line (sym (take-append-drop n line)) ∙ shown_append (take n line) (drop n line) front
    ∙ ap (λ x. x ++ rendered_line (drop n line)) (kept_text (take n line) front tabless (clear_text (take n line) front leadless))

-- ---- the first character of a line

module _ (line rest : List ℕ) (c : ℕ) (u : IsUtf8 line) (here : line ≡ encode c ++ rest) where
  pub past_first : IsCharBoundary line (len_utf8 c)
  past_first = subst (IsCharBoundary line) (zero-add (len_utf8 c)) (IsCharBoundary-past_char line rest 0 c (omega arith) u here)

  pub after_first : drop (len_utf8 c) line ≡ rest
  after_first = ap (λ k. drop k line) (sym (zero-add (len_utf8 c))) ∙ drop_past_char line rest 0 c here

  pub shorter_after : length (drop (len_utf8 c) line) < length line
  shorter_after = omega (arith, ap length here, length-append (encode c) rest, encode_some c, ap length after_first)

  first_shown : rendered_line line ≡ encodes (rendered_char c) ++ rendered_line (drop (len_utf8 c) line)
  first_shown = ap encodes (first_off line rest c u here) ∙ encodes-append (rendered_char c) (all_shown rest) ∙ ap (λ x. encodes (rendered_char c) ++ rendered_line x) (sym after_first)

  pub first_as : (s : List ℕ) → encodes (rendered_char c) ≡ s → rendered_line line ≡ s ++ rendered_line (drop (len_utf8 c) line)
  first_as s e = first_shown ∙ ap (λ x. x ++ rendered_line (drop (len_utf8 c) line)) e

  pub own_bytes : (c ≡ 9 → ⊥) → is_confusing c ≡ false → encodes (rendered_char c) ≡ take (len_utf8 c) line
  own_bytes n f =
      ap encodes (sym (shown_self c n f)) ∙ append-nil (encode c) ∙ sym (take-append_seam (encode c) rest)
      ∙ ap (λ k. take k (encode c ++ rest)) (length-encode c) ∙ ap (take (len_utf8 c)) (sym here)

  pub no_bytes : (c ≡ 9 → ⊥) → is_confusing c ≡ true → encodes (rendered_char c) ≡ []
  no_bytes n t = ap encodes (sym (shown_none c n t))

-- ---- a column a byte

all_pass : (p : ℕ → Bool) (bs : List ℕ) → prefix_len p bs ≡ length bs → list_all p bs ≡ true
all_pass p [] e = refl
all_pass p (b ∷ bs) e =
    elim (cases_Bool (p b)) [
      | inl t ↦
          let more : 1 + prefix_len p bs ≡ suc (length bs) = sym (ap (λ x. cond x (1 + prefix_len p bs) 0) t) ∙ e in
          ap (λ x. x && list_all p bs) t ∙ all_pass p bs (omega (arith, more))
      | inr f ↦
          let none : 0 ≡ suc (length bs) = sym (ap (λ x. cond x (1 + prefix_len p bs) 0) f) ∙ e in
          absurd (omega (arith, none))
    ]

all_ascii : (p : ℕ → Bool) → ((b : ℕ) → p b ≡ true → b < 128) → (bs : List ℕ) → list_all p bs ≡ true → IsAscii bs
all_ascii p h [] e i = omega arith
all_ascii p h (b ∷ bs) e zero = h b (and_parts (p b) (list_all p bs) e).0
all_ascii p h (b ∷ bs) e (suc i) = all_ascii p h bs (and_parts (p b) (list_all p bs) e).1 i

all_take : (p : ℕ → Bool) (n : ℕ) (bs : List ℕ) → list_all p bs ≡ true → list_all p (take n bs) ≡ true
all_take p zero bs e = refl
all_take p (suc n) [] e = refl
all_take p (suc n) (b ∷ bs) e =
    let parts = and_parts (p b) (list_all p bs) e in
    ap (λ x. x && list_all p (take n bs)) parts.0 ∙ all_take p n bs parts.1

all_append : (p : ℕ → Bool) (xs ys : List ℕ) → list_all p xs ≡ true → list_all p ys ≡ true → list_all p (xs ++ ys) ≡ true
all_append p [] ys e f = f
all_append p (x ∷ xs) ys e f =
    let parts = and_parts (p x) (list_all p xs) e in
    ap (λ b. b && list_all p (xs ++ ys)) parts.0 ∙ all_append p xs ys parts.1 f

by_columns_small : (b : ℕ) → is_by_columns b ≡ true → b < 128
by_columns_small b h = grind (arith, nat_tests)

printable_small : (b : ℕ) → is_in_range 0x20 0x7E b ≡ true → b < 128
printable_small b h = grind (arith, nat_tests)

no_tab : (b : ℕ) → is_in_range 0x20 0x7E b ≡ true → b ≡ 9 → ⊥
no_tab b h e = grind (arith, nat_tests)

small_clear : (b : ℕ) → b < 128 → is_confusing b ≡ false
small_clear b l =
    elim (cases_Bool (is_confusing b)) [
      | inl t ↦ let first : b ≡ 0xE2 = sym (ap (λ x. get_or x 0 0) (encode_ascii b l)) ∙ lead b t in absurd (omega (arith, first, l))
      | inr f ↦ f
    ]

-- The displayed form of a byte: printable ASCII, and not empty.
record InColumns (s : List ℕ) : Type 0 where
  printable : list_all (is_in_range 0x20 0x7E) s ≡ true
  some : 0 < length s

byte_columns : (b : ℕ) → is_by_columns b ≡ true → InColumns (rendered_char b)
byte_columns b h =
    elim (or_cases (is_in_range 0x20 0x7E b) (b == 9) h) [
      | inl p ↦
          let one : b ∷ [] ≡ rendered_char b = shown_self b (no_tab b p) (small_clear b (printable_small b p)) in
          subst InColumns one (record { printable = ap (λ x. x && true) p; some = omega arith })
      | inr t ↦ subst InColumns (shown_tab b (eqb-true b 9 t)) (record { printable = refl; some = omega arith })
    ]

record InColumnsAll (bs s : List ℕ) : Type 0 where
  printable : list_all (is_in_range 0x20 0x7E) s ≡ true
  long : length bs ≤ length s

in_columns : (bs : List ℕ) → list_all is_by_columns bs ≡ true → InColumnsAll bs (flat_map rendered_char bs)
in_columns [] e = record { printable = refl; long = omega arith }
in_columns (b ∷ bs) e =
    let parts = and_parts (is_by_columns b) (list_all is_by_columns bs) e in
    let first = byte_columns b parts.0 in
    let rest = in_columns bs parts.1 in
    record {
      printable = all_append (is_in_range 0x20 0x7E) (rendered_char b) (flat_map rendered_char bs) first.printable rest.printable;
      long = omega (arith, first.some, rest.long, length-append (rendered_char b) (flat_map rendered_char bs));
    }

either_way : (b : Bool) (w n : ℕ) → w ≡ n → (if b then w else n) ≡ n
either_way true w n e = e
either_way false w n e = refl

pub columns_are_bytes : (line : List ℕ) (n : ℕ) → n ≤ length line → n ≡ prefix_len is_by_columns (take n line) → columns (rendered_line line) n ≡ n
columns_are_bytes line n l e =
    let front = take n line in
    let s = flat_map rendered_char front in
    let size : length front ≡ n = length-take-le n line l in
    let all = all_pass is_by_columns front (sym e ∙ sym size) in
    let ascii : IsAscii front = all_ascii is_by_columns by_columns_small front all in
    let shape = in_columns front all in
    let printable = shape.printable in
    let s_ascii : IsAscii s = all_ascii (is_in_range 0x20 0x7E) printable_small s printable in
    let room : n ≤ length s = let long = shape.long in omega (arith, long, size) in
    let shown_front : rendered_line front ≡ s = ap (λ cs. encodes (flat_map rendered_char cs)) (chars-IsAscii front ascii) ∙ encodes-IsAscii s s_ascii in
    let whole : rendered_line line ≡ s ++ rendered_line (drop n line) =
    ap rendered_line (sym (take-append-drop n line)) ∙ shown_append front (drop n line) (IsUtf8-from_ascii front ascii) ∙ ap (λ x. x ++ rendered_line (drop n line)) shown_front in
    let first : take n (rendered_line line) ≡ take n s = ap (take n) whole ∙ take-append-le n s (rendered_line (drop n line)) room in
    let text : chars (take n (rendered_line line)) ≡ take n s = ap chars first ∙ chars-IsAscii (take n s) (IsAscii-take s n s_ascii) in
    let wide : str_width false (chars (take n (rendered_line line))) ≡ n =
    ap (str_width false) text ∙ str_width-printable false (take n s) (all_take (is_in_range 0x20 0x7E) n s printable) ∙ length-take-le n s room in
    either_way (is_boundary (rendered_line line) n) (str_width false (chars (take n (rendered_line line)))) n wide

-- ---- a prefix that is displayed unchanged

starts_char : (b : ℕ) → (128 ≤ b → 192 ≤ b) → is_char_start b ≡ true
starts_char b h = grind (arith, nat_tests)

past_end_starts : (text : List ℕ) (n : ℕ) → length text ≤ n → is_char_start (get_or text n 0) ≡ true
past_end_starts [] n l = refl
past_end_starts (x ∷ xs) zero l = absurd (omega (arith, l))
past_end_starts (x ∷ xs) (suc n) l = past_end_starts xs n (omega (arith, l))

boundary_to : (text : List ℕ) (n : ℕ) → IsCharBoundary text n → is_boundary text n ≡ true
boundary_to text n h =
    ap (λ b. b && is_char_start (get_or text n 0)) (le-leb n (length text) h.0)
    ∙ elim (cases_lt n (length text)) [
      | inl l ↦ starts_char (get_or text n 0) (h.1 l)
      | inr l ↦ past_end_starts text n l
    ]

pub columns_of_front : (line : List ℕ) (n : ℕ) → IsUtf8 line → IsCharBoundary line n → rendered_line (take n line) ≡ take n line → str_width false (chars (take n line)) ≡ columns (rendered_line line) n
columns_of_front line n u b e =
    let front = take n line in
    let size : length front ≡ n = length-take-le n line b.0 in
    let whole : rendered_line line ≡ front ++ rendered_line (drop n line) =
    ap rendered_line (sym (take-append-drop n line)) ∙ shown_append front (drop n line) (IsUtf8-take line n u b) ∙ ap (λ x. x ++ rendered_line (drop n line)) e in
    let seam : IsCharBoundary (rendered_line line) n = subst (IsCharBoundary (rendered_line line)) size (IsCharBoundary-at_seam (rendered_line line) front (rendered_line (drop n line)) whole (shown_utf8 (drop n line) (IsUtf8-drop line n u b))) in
    let first : take n (rendered_line line) ≡ front = ap (take n) whole ∙ ap (λ k. take k (front ++ rendered_line (drop n line))) (sym size) ∙ take-append_seam front (rendered_line (drop n line)) in
    sym (ap (λ b. if b then str_width false (chars (take n (rendered_line line))) else n) (boundary_to (rendered_line line) n seam) ∙ ap (λ t. str_width false (chars t)) first)
