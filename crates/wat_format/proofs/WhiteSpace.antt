-- White space: its characters are its bytes, and what is written in a gap reads as that gap.
use Rattle.std.proofs.Common.{◌≡◌, ◌+◌, ◌*◌, ◌<◌, ℕ, zero, suc, Bool, true, false, eqb, List, [], ◌∷◌, length, get_or, replicate, refl, sym, ap, ◌∙◌, subst, inl, inr, arith}
use Rattle.std.proofs.lemmas.Bool.Decides.{nat_tests}
use Rattle.std.proofs.lemmas.List.{length-replicate}
use Rattle.std.proofs.lemmas.Str.{IsUtf8-from_ascii, encodes-IsAscii, encodes-chars, chars_from_encodes}
use Rattle.std.specs.Prelude.{IsTrue, ◌⊎◌, nat_lt, if◌then◌else◌}
use Rattle.std.specs.Str.{IsUtf8, chars}
use Rattle.wat_lex.specs.grammar.Classes.{Each, is_line_end, is_whitespace, line_feed}
use Rattle.wat_format.specs.Gaps.{line_ends, gap_of, is_break, gap_text, settled}
use Rattle.wat_format.specs.declared.gap.Gap.{Gap}
use Rattle.wat_format.specs.declared.gap.Gap.TheVariants.{Touching, Blanks, LineEnd, EmptyLine}
use Rattle.wat_format.specs.declared.sort.Sort.{Sort}
use Rattle.wat_format.specs.declared.sort.Sort.TheVariants.{Open, Close, Comment, Mark, At}
use Rattle.wat_format.proofs.FirstCharacters.{white_cases}

pub small : (c : ℕ) → IsTrue (is_whitespace c) → c < 128
small c h = elim (white_cases c h) [
  | inl e ↦ omega arith
  | inr f ↦ elim f [
    | inl e ↦ omega arith
    | inr g ↦ elim g [ inl e ↦ omega arith | inr e ↦ omega arith ]
  ]
]

ascii_at : (w : List ℕ) → Each is_whitespace w → (i : ℕ) → get_or w i 0 < 128
ascii_at [] h zero = omega arith
ascii_at [] h (suc i) = omega arith
ascii_at (c ∷ w) h zero = small c h.0
ascii_at (c ∷ w) h (suc i) = ascii_at w h.1 i

pub white_utf8 : (w : List ℕ) → Each is_whitespace w → IsUtf8 w
white_utf8 w h = IsUtf8-from_ascii w (ascii_at w h)

pub white_chars : (w : List ℕ) → Each is_whitespace w → chars w ≡ w
white_chars w h = sym (chars_from_encodes w w (white_utf8 w h) (encodes-IsAscii w (ascii_at w h)))

-- Bytes whose characters are whitespace are these characters.
pub white_bytes : (w : List ℕ) → IsUtf8 w → Each is_whitespace (chars w) → chars w ≡ w
white_bytes w u h = sym (encodes-IsAscii (chars w) (ascii_at (chars w) h)) ∙ encodes-chars w u

each_blank : (n : ℕ) → Each is_whitespace (replicate n 32)
each_blank zero = tt
each_blank (suc n) = (refl, each_blank n)

pub each_gap : (g : Gap) (l : ℕ) → Each is_whitespace (gap_text g l)
each_gap Touching l = tt
each_gap (Blanks n) l = each_blank n
each_gap LineEnd l = (refl, each_blank (2 * l))
each_gap EmptyLine l = (refl, (refl, each_blank (2 * l)))

-- A gap of spaces has at least one.
abbrev pub Filled : Gap → Type 0
Filled (Blanks n) = 0 < n
Filled g = Unit {0}

not_zero : (n : ℕ) → eqb (suc n) 0 ≡ false
not_zero n = grind (arith, nat_tests)

above_one : (n : ℕ) → nat_lt 1 (1 + suc n) ≡ true
above_one n = grind (arith, nat_tests)

choice_filled : (b c : Bool) (n : ℕ) → Filled (if b then EmptyLine else if c then LineEnd else if eqb n 0 then Touching else Blanks n)
choice_filled true c n = tt
choice_filled false true n = tt
choice_filled false false zero = tt
choice_filled false false (suc n) =
    let some : 0 < suc n = omega arith in
    subst (λ b. Filled (if b then Touching else Blanks (suc n))) (sym (not_zero n)) some

pub gap_filled : (w : List ℕ) → Filled (gap_of w)
gap_filled w = choice_filled (nat_lt 1 (line_ends 0 w)) (eqb (line_ends 0 w) 1) (length w)

pub settled_filled : (x y : Sort) (g : Gap) → Filled g → Filled (settled x y g)
settled_filled Comment Close g h = tt
settled_filled Comment y g h = h
settled_filled x Comment Touching h = omega arith
settled_filled Open Comment (Blanks n) h = h
settled_filled Open Comment g h = omega arith
settled_filled x Comment g h = h
settled_filled Open Mark Touching h = tt
settled_filled Open Mark g h = omega arith
settled_filled Open At Touching h = tt
settled_filled Open At g h = omega arith
settled_filled Open y g h = tt
settled_filled x Close LineEnd h = tt
settled_filled x Close EmptyLine h = tt
settled_filled x y LineEnd h = tt
settled_filled x y EmptyLine h = tt
settled_filled Mark y Touching h = tt
settled_filled Mark y g h = omega arith
settled_filled x Mark Touching h = tt
settled_filled x Mark g h = omega arith
settled_filled x Close g h = tt
settled_filled x y g h = omega arith

choice_touching : (b c : Bool) (n : ℕ) → (if b then EmptyLine else if c then LineEnd else if eqb n 0 then Touching else Blanks n) ≡ Touching → n ≡ 0
choice_touching true c n h = absurd cc
choice_touching false true n h = absurd cc
choice_touching false false zero h = refl
choice_touching false false (suc n) h =
    let k : Blanks (suc n) ≡ Touching = subst (λ b. (if b then Touching else Blanks (suc n)) ≡ Touching) (not_zero n) h in absurd cc

-- Whitespace is not an empty gap.
pub white_is_apart : (c : ℕ) (w : List ℕ) → gap_of (c ∷ w) ≡ Touching → ⊥
white_is_apart c w h =
    let e : length (c ∷ w) ≡ 0 = choice_touching (nat_lt 1 (line_ends 0 (c ∷ w))) (eqb (line_ends 0 (c ∷ w)) 1) (length (c ∷ w)) h in
    omega arith

-- Whitespace that begins with a line end is a line break.
choice_break : (n m : ℕ) → is_break (if nat_lt 1 (1 + n) then EmptyLine else if eqb (1 + n) 1 then LineEnd else if eqb m 0 then Touching else Blanks m) ≡ true
choice_break zero m = refl
choice_break (suc n) m = rw (above_one n) refl

pub line_end_cases : (c : ℕ) → IsTrue (is_line_end c) → (c ≡ 10) ⊎ (c ≡ 13)
line_end_cases c h = grind (arith, nat_tests)

pub breaks : (c : ℕ) (w : List ℕ) → IsTrue (is_line_end c) → is_break (gap_of (c ∷ w)) ≡ true
breaks c w h = elim (line_end_cases c h) [
  | inl e ↦ subst (λ x. is_break (gap_of (x ∷ w)) ≡ true) (sym e) (choice_break (line_ends 10 w) (length (10 ∷ w)))
  | inr e ↦ subst (λ x. is_break (gap_of (x ∷ w)) ≡ true) (sym e) (choice_break (line_ends 13 w) (length (13 ∷ w)))
]

no_line_ends : (n p : ℕ) → line_ends p (replicate n 32) ≡ 0
no_line_ends zero p = refl
no_line_ends (suc n) p = let h = no_line_ends n 32 in omega arith

blank_gap : (w : List ℕ) → line_ends 0 w ≡ 0 → eqb (length w) 0 ≡ false → gap_of w ≡ Blanks (length w)
blank_gap w e f = rw (e, f) refl

one_end_gap : (w : List ℕ) → line_ends 0 w ≡ 1 → gap_of w ≡ LineEnd
one_end_gap w e = rw e refl

two_ends_gap : (w : List ℕ) → line_ends 0 w ≡ 2 → gap_of w ≡ EmptyLine
two_ends_gap w e = rw e refl

-- a gap that is written reads as that gap
pub gap_again : (g : Gap) (l : ℕ) → Filled g → gap_of (gap_text g l) ≡ g
gap_again Touching l h = refl
gap_again (Blanks zero) l h = absurd (let k : 0 < 0 = h in omega arith)
gap_again (Blanks (suc n)) l h =
    let e : line_ends 0 (32 ∷ replicate n 32) ≡ 0 = no_line_ends (suc n) 0 in
    let k : length (32 ∷ replicate n 32) ≡ suc n = length-replicate (suc n) 32 in
    let f : eqb (length (32 ∷ replicate n 32)) 0 ≡ false = ap (λ m. eqb m 0) k ∙ not_zero n in
    blank_gap (32 ∷ replicate n 32) e f ∙ ap Blanks k
gap_again LineEnd l h = let k = no_line_ends (2 * l) 10 in one_end_gap (line_feed ∷ replicate (2 * l) 32) (omega arith)
gap_again EmptyLine l h = let k = no_line_ends (2 * l) 10 in two_ends_gap (line_feed ∷ line_feed ∷ replicate (2 * l) 32) (omega arith)
