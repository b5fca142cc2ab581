-- Lemmas about the location and the source line that an error prints, and a bound on their length.
use Rattle.std.proofs.Common.{◌≡◌, ◌≤◌, ◌<◌, ◌+◌, ◌-◌, ◌*◌, ◌/◌, ◌%◌, ℕ, zero, suc, Bool, true, false, List, [], ◌∷◌, ◌++◌, length, take, true≢false, eq-eqb, arith, ap, sym, ◌∙◌, subst, length-append, inl, inr, le-leb}
use Rattle.std.specs.Prelude.{◌==◌, codes, flat_map, replicate, unwrap_or, slice_get, slice_index, if◌then◌else◌}
use Rattle.std.specs.Fmt.{decimal, digits, digits_onto, digit_glyph}
use Rattle.std.specs.List.{join_with_byte, slice_split}
use Rattle.std.specs.Str.{chars, chars_after, continuation_len, lead_bits}
use Rattle.std.specs.Str.Lines.{lines, lines_of_parts, strip_carriage_return}
use Rattle.std.proofs.lemmas.Bool.{cases_Bool, cases_lt, eqb-true, ne_eqb, lt-leb}
use Rattle.std.proofs.lemmas.List.{length-replicate, length-take}
use Rattle.std.proofs.lemmas.List.Splits.{join_with_byte-slice_split}
use Rattle.std.proofs.lemmas.Str.{encodes-append, length-encode, len_utf8_bounds}
use lib.Utf8.{encode, encodes}
use Rattle.wat_lex.specs.grammar.Classes.{is_confusing}
use Rattle.wat_lex.specs.errors.Positions.{line_and_column}
use Rattle.wat_lex.specs.errors.Rendering.{Excerpt, excerpt, rendered_char, rendered_line, rendered_location, align_right}

pub length_if : (b : Bool) (x y : List ℕ) (n : ℕ) → length x ≤ n → length y ≤ n → length (if b then x else y) ≤ n
length_if true x y n h k = h
length_if false x y n h k = k

-- ---- Digits

length_onto : (k base n : ℕ) (acc : List ℕ) → length (digits_onto k base false n acc) ≤ k + length acc
length_onto zero base n acc = omega arith
length_onto (suc k) base n acc =
    let glyph = digit_glyph false (n % base) in
    length_if (n / base == 0) (glyph ∷ acc) (digits_onto k base false (n / base) (glyph ∷ acc)) (suc k + length acc) (omega arith) (omega (arith, length_onto k base (n / base) (glyph ∷ acc)))

pub length_digits : (base n : ℕ) → length (digits base false n) ≤ 64
unfolding digits
length_digits base n = length_onto 64 base n []

-- ---- Printed characters

not_tab : (c : ℕ) → (c ≡ 9 → ⊥) → rendered_char c ≡ (if is_confusing c then [] else c ∷ [])
not_tab c n = ap (λ b. if b then codes "    " else if is_confusing c then [] else c ∷ []) (ne_eqb c 9 n)

pub shown_tab : (c : ℕ) → c ≡ 9 → codes "    " ≡ rendered_char c
shown_tab c h = sym (ap rendered_char h)

pub shown_none : (c : ℕ) → (c ≡ 9 → ⊥) → is_confusing c ≡ true → [] ≡ rendered_char c
shown_none c n k = sym (not_tab c n ∙ ap (λ b. if b then [] else c ∷ []) k)

pub shown_self : (c : ℕ) → (c ≡ 9 → ⊥) → is_confusing c ≡ false → c ∷ [] ≡ rendered_char c
shown_self c n k = sym (not_tab c n ∙ ap (λ b. if b then [] else c ∷ []) k)

pub shown_near : (e : Excerpt) → e.column ≤ 500 → rendered_location e ≡ codes "\n     --> " ++ (codes "<anon>:" ++ decimal e.line ++ codes ":" ++ decimal e.column) ++ codes "\n      |" ++ codes "\n " ++ align_right 4 (decimal e.line) ++ codes " | " ++ e.snippet ++ codes "\n      | " ++ align_right e.column (codes "^")
shown_near e l =
    let place = codes "<anon>:" ++ decimal e.line ++ codes ":" ++ decimal e.column in
    ap (λ b. if b then codes " at " ++ place else codes "\n     --> " ++ place ++ codes "\n      |" ++ codes "\n " ++ align_right 4 (decimal e.line) ++ codes " | " ++ e.snippet ++ codes "\n      | " ++ align_right e.column (codes "^"))
    (lt-leb 501 e.column (omega (arith, l)))

pub shown_far : (e : Excerpt) → 500 < e.column → rendered_location e ≡ codes " at " ++ (codes "<anon>:" ++ decimal e.line ++ codes ":" ++ decimal e.column)
shown_far e l =
    let place = codes "<anon>:" ++ decimal e.line ++ codes ":" ++ decimal e.column in
    ap (λ b. if b then codes " at " ++ place else codes "\n     --> " ++ place ++ codes "\n      |" ++ codes "\n " ++ align_right 4 (decimal e.line) ++ codes " | " ++ e.snippet ++ codes "\n      | " ++ align_right e.column (codes "^"))
    (le-leb 501 e.column l)

-- ---- Lines

length_after : (n c : ℕ) (bs : List ℕ) → length (chars_after n c bs) ≤ 1 + length bs
length_after zero c [] = omega arith
length_after zero c (b ∷ bs) = omega (arith, length_after (continuation_len b) (lead_bits b) bs)
length_after (suc n) c [] = omega arith
length_after (suc n) c (b ∷ bs) = omega (arith, length_after n (c * 64 + (b - 128)) bs)

length_chars : (bs : List ℕ) → length (chars bs) ≤ length bs
unfolding chars
length_chars [] = omega arith
length_chars (b ∷ bs) = omega (arith, length_after (continuation_len b) (lead_bits b) bs)

length_tab : length (encodes (codes "    ")) ≤ 4
unfolding encode
length_tab = omega arith

length_self : (c : ℕ) → length (encodes (c ∷ [])) ≤ 4
length_self c = let bounds = len_utf8_bounds c in omega (arith, length-append (encode c) [], length-encode c, bounds.1)

length_shown : (c : ℕ) → length (encodes (rendered_char c)) ≤ 4
length_shown c =
    elim (cases_Bool (c == 9)) [
      | inl t ↦ subst (λ s. length (encodes s) ≤ 4) (shown_tab c (eqb-true c 9 t)) length_tab
      | inr f ↦ let n : c ≡ 9 → ⊥ = λ e. true≢false (sym (eq-eqb c 9 e) ∙ f) in
          elim (cases_Bool (is_confusing c)) [
            | inl t ↦ subst (λ s. length (encodes s) ≤ 4) (shown_none c n t) (omega arith)
            | inr f ↦ subst (λ s. length (encodes s) ≤ 4) (shown_self c n f) (length_self c)
          ]
    ]

length_shown_all : (cs : List ℕ) → length (encodes (flat_map rendered_char cs)) ≤ 4 * length cs
length_shown_all [] = omega arith
length_shown_all (c ∷ cs) =
    let parts = ap length (encodes-append (rendered_char c) (flat_map rendered_char cs)) ∙ length-append (encodes (rendered_char c)) (encodes (flat_map rendered_char cs)) in
    omega (arith, parts, length_shown c, length_shown_all cs)

length_shown_line : (line : List ℕ) → length (rendered_line line) ≤ 4 * length line
length_shown_line line = omega (arith, length_shown_all (chars line), length_chars line)

length_stripped : (line : List ℕ) → length (strip_carriage_return line) ≤ length line
length_stripped line = length_if (slice_index line (length line - 1) == 13) (take (length line - 1) line) line (length line) (omega (arith, length-take (length line - 1) line)) (omega arith)

length_last : (b : Bool) (x : List ℕ) (n : ℕ) → length (unwrap_or (slice_get (if b then [] else x ∷ []) n) []) ≤ length x
length_last true x n = omega arith
length_last false x zero = omega arith
length_last false x (suc n) = omega arith

length_part : (parts : List (List ℕ)) (n : ℕ) → length (unwrap_or (slice_get (lines_of_parts parts) n) []) ≤ length (join_with_byte 10 parts)
length_part [] n = omega arith
length_part (x ∷ []) n = length_last (length x == 0) x n
length_part (x ∷ y ∷ more) zero = omega (arith, length_stripped x, length-append x (10 ∷ join_with_byte 10 (y ∷ more)))
length_part (x ∷ y ∷ more) (suc n) = omega (arith, length_part (y ∷ more) n, length-append x (10 ∷ join_with_byte 10 (y ∷ more)))

length_line : (text : List ℕ) (n : ℕ) → length (unwrap_or (slice_get (lines text) n) []) ≤ length text
length_line text n = omega (arith, length_part (slice_split (λ b. b == 10) text) n, ap length (join_with_byte-slice_split 10 text))

-- ---- Location and source line

length_right : (n : ℕ) (t : List ℕ) → length (align_right n t) ≤ n + length t
length_right n t = omega (arith, length-append (replicate (n - length t) 32) t, length-replicate {A = ℕ} (n - length t) 32)

length_four : (a b c d : List ℕ) → length (a ++ b ++ c ++ d) ≡ length a + length b + length c + length d
length_four a b c d = simp length-append

length_nine : (a b c d e f g h i : List ℕ) → length (a ++ b ++ c ++ d ++ e ++ f ++ g ++ h ++ i) ≡ length a + length b + length c + length d + length e + length f + length g + length h + length i
length_nine a b c d e f g h i = simp length-append

length_where : (line column : ℕ) → length (codes "<anon>:" ++ decimal line ++ codes ":" ++ decimal column) ≤ 140
length_where line column = omega (arith, length_four (codes "<anon>:") (decimal line) (codes ":") (decimal column), length_digits 10 line, length_digits 10 column)

length_place : (e : Excerpt) → length (rendered_location e) ≤ 1000 + length e.snippet
length_place e =
    let place = codes "<anon>:" ++ decimal e.line ++ codes ":" ++ decimal e.column in
    elim (cases_lt 500 e.column) [
      | inl far ↦ omega (arith, ap length (shown_far e far), length-append (codes " at ") place, length_where e.line e.column)
      | inr near ↦
          let all = length_nine (codes "\n     --> ") place (codes "\n      |") (codes "\n ") (align_right 4 (decimal e.line)) (codes " | ") e.snippet (codes "\n      | ") (align_right e.column (codes "^")) in
          let number = length_right 4 (decimal e.line) in
          let marker = length_right e.column (codes "^") in
          omega (arith, ap length (shown_near e near), all, number, marker, length_digits 10 e.line, length_where e.line e.column, near)
    ]

pub length_excerpt : (text : List ℕ) (offset : ℕ) → length (rendered_location (excerpt text offset)) ≤ 1000 + 4 * length text
length_excerpt text offset =
    let at = (line_and_column text offset).0 in
    omega (arith, length_place (excerpt text offset), length_shown_line (unwrap_or (slice_get (lines text) at) []), length_line text at)
