-- Raw tokens up to a significant token.
use Rattle.std.proofs.Common.{◌≡◌, ◌≤◌, ◌<◌, ◌+◌, ℕ, zero, suc, List, [], ◌∷◌, true, false, refl, sym, ap, ◌∙◌, subst, inl, inr, arith, length, drop}
use Rattle.std.proofs.Common.{Some}
use Rattle.std.specs.Prelude.{if◌then◌else◌, slice_get}
use Rattle.std.specs.Str.{IsUtf8, IsCharBoundary}
use Rattle.std.proofs.lemmas.Bool.{cases_Bool}
use Rattle.wat_lex.specs.tokens.EverySetting.{TokensAreReadable, TokensEndAtBoundaries}
use Rattle.wat_lex.specs.tokens.ReadableTokens.{IsTokenOf}
use Rattle.wat_lex.specs.tokens.Setting.{Setting}
use Rattle.wat_lex.specs.tokens.Tiling.{Tiling}
use Rattle.wat_lex.specs.declared.lexer.kinds.Token.{Token}
use Rattle.wat_lex.specs.tokens.Blanks.{is_blank}
use Rattle.wat_lexer_parser.specs.lemmas.Parts.{end_of}
use Rattle.wat_lexer_parser.specs.places.Places.{offset_at}
use Rattle.wat_lexer_parser.specs.laws.Counting.{counting}
use Rattle.wat_c_records.specs.Places.{raw_position}
use Rattle.wat_c_records.proofs.Counted.{counting_blank, counting_other}

at_none : (t : Token) (ts : List Token) → raw_position (t ∷ ts) 0 ≡ 0
unfolding raw_position
at_none t ts = refl

at_blank : (t : Token) (ts : List Token) (n : ℕ) → is_blank t.kind ≡ true → raw_position (t ∷ ts) (suc n) ≡ suc (raw_position ts (suc n))
unfolding raw_position
at_blank t ts n e = ap (λ b. suc (if b then raw_position ts (suc n) else raw_position ts n)) e

at_other : (t : Token) (ts : List Token) (n : ℕ) → is_blank t.kind ≡ false → raw_position (t ∷ ts) (suc n) ≡ suc (raw_position ts n)
unfolding raw_position
at_other t ts n e = ap (λ b. suc (if b then raw_position ts (suc n) else raw_position ts n)) e

at_end : (n : ℕ) → raw_position [] n ≡ 0
unfolding raw_position
at_end n = refl

-- The significant tokens from the position after `n` significant tokens are those without the first `n`.
pub drops : (ts : List Token) (n : ℕ) → counting (drop (raw_position ts n) ts) ≡ drop n (counting ts)
drops [] zero = ap (λ k. counting (drop k [])) (at_end 0)
drops [] (suc n) = ap (λ k. counting (drop k [])) (at_end (suc n))
drops (t ∷ ts) zero = ap (λ k. counting (drop k (t ∷ ts))) (at_none t ts)
drops (t ∷ ts) (suc n) = elim (cases_Bool (is_blank t.kind)) [
  | inl b ↦ ap (λ k. counting (drop k (t ∷ ts))) (at_blank t ts n b) ∙ drops ts (suc n) ∙ ap (drop (suc n)) (sym (counting_blank t ts b))
  | inr o ↦ ap (λ k. counting (drop k (t ∷ ts))) (at_other t ts n o) ∙ drops ts n ∙ ap (drop (suc n)) (sym (counting_other t ts o))
]

pub counting_shorter : (t : Token) (ts : List Token) → length (counting ts) ≤ length (counting (t ∷ ts))
counting_shorter t ts = elim (cases_Bool (is_blank t.kind)) [
  | inl b ↦ omega (arith, ap length (counting_blank t ts b))
  | inr o ↦ omega (arith, ap length (counting_other t ts o))
]

pub drop_shorter : (ts : List Token) (j : ℕ) → length (counting (drop j ts)) ≤ length (counting ts)
drop_shorter ts zero = omega arith
drop_shorter [] (suc j) = omega arith
drop_shorter (t ∷ ts) (suc j) = omega (arith, drop_shorter ts j, counting_shorter t ts)

after_shorter : (ts : List Token) (j : ℕ) (t : Token) → slice_get ts j ≡ Some t → is_blank t.kind ≡ false
    → length (counting (drop (suc j) ts)) < length (counting ts)
after_shorter [] zero t e o = cc
after_shorter [] (suc j) t e o = cc
after_shorter (u ∷ ts) zero t e o =
    let k : u ≡ t = cc in
    omega (arith, ap length (counting_other u ts (ap (λ (v : Token). is_blank v.kind) k ∙ o)))
after_shorter (u ∷ ts) (suc j) t e o = omega (arith, after_shorter ts j t e o, counting_shorter u ts)

-- The position directly after a significant token is that after the number of significant tokens up to it.
pub place_of : (ts : List Token) (j : ℕ) (t : Token) (n : ℕ) → slice_get ts j ≡ Some t → is_blank t.kind ≡ false
    → n + length (counting (drop (suc j) ts)) ≡ length (counting ts) → raw_position ts n ≡ suc j
place_of [] zero t n e o h = cc
place_of [] (suc j) t n e o h = cc
place_of (u ∷ ts) j t zero e o h = absurd (omega (arith, h, after_shorter (u ∷ ts) j t e o))
place_of (u ∷ ts) zero t (suc n) e o h =
    let k : u ≡ t = cc in
    let other : is_blank u.kind ≡ false = ap (λ (v : Token). is_blank v.kind) k ∙ o in
    let z : n ≡ 0 = omega (arith, h, ap length (counting_other u ts other)) in
    at_other u ts n other ∙ ap (λ m. suc (raw_position ts m)) z ∙ ap suc (none_place ts)
  where
    none_place : (ts : List Token) → raw_position ts 0 ≡ 0
    none_place [] = at_end 0
    none_place (v ∷ vs) = at_none v vs
place_of (u ∷ ts) (suc j) t (suc n) e o h = elim (cases_Bool (is_blank u.kind)) [
  | inl b ↦ at_blank u ts n b ∙ ap suc (place_of ts j t (suc n) e o (h ∙ ap length (counting_blank u ts b)))
  | inr k ↦ let l : n + length (counting (drop (suc j) ts)) ≡ length (counting ts) = omega (
    arith,
    h,
    ap length
        (counting_other u ts k),
  ) in at_other u ts n k ∙ ap suc (place_of ts j t n e o l)
]

-- A significant token of a tiling can be read.
pub readable : TokensAreReadable → TokensEndAtBoundaries → (s : Setting) (from to : ℕ) (ts : List Token) (n : ℕ) (t : Token) → IsUtf8 s.text
    → IsCharBoundary s.text from → Tiling s from to ts → slice_get (counting ts) n ≡ Some t
    → IsTokenOf s.text t
readable reads ends s from to [] zero t utf8 b h e = cc
readable reads ends s from to [] (suc n) t utf8 b h e = cc
readable reads ends s from to (u ∷ ts) n t utf8 b h e =
    let later = ends s from u utf8 b h.0 in
    elim (cases_Bool (is_blank u.kind)) [
      | inl k ↦ readable reads ends s (u.offset + u.len) to ts n t utf8 later h.1 (sym (ap (λ r. slice_get r n) (counting_blank u ts k)) ∙ e)
      | inr k ↦ (elim n as (λ m. slice_get (u ∷ counting ts) m ≡ Some t → IsTokenOf s.text t) [
        | zero ↦ λ f. let g : u ≡ t = cc in subst (IsTokenOf s.text) g (reads s from u b h.0)
        | suc m ↦ λ f. readable reads ends s (u.offset + u.len) to ts m t utf8 later h.1 f
      ]) (sym (ap (λ r. slice_get r n) (counting_other u ts k)) ∙ e)
    ]

-- A significant token is not trivia.
pub counts : (ts : List Token) (n : ℕ) (t : Token) → slice_get (counting ts) n ≡ Some t → is_blank t.kind ≡ false
counts [] zero t e = cc
counts [] (suc n) t e = cc
counts (u ∷ ts) n t e = elim (cases_Bool (is_blank u.kind)) [
  | inl k ↦ counts ts n t (sym (ap (λ r. slice_get r n) (counting_blank u ts k)) ∙ e)
  | inr k ↦ (elim n as (λ m. slice_get (u ∷ counting ts) m ≡ Some t → is_blank t.kind ≡ false) [
    | zero ↦ λ f. let g : u ≡ t = cc in ap (λ (v : Token). is_blank v.kind) (sym g) ∙ k
    | suc m ↦ λ f. counts ts m t f
  ]) (sym (ap (λ r. slice_get r n) (counting_other u ts k)) ∙ e)
]

none_place : (ts : List Token) → raw_position ts 0 ≡ 0
none_place [] = at_end 0
none_place (t ∷ ts) = at_none t ts

pub record LastPlace (ts : List Token) (n : ℕ) (t : Token) : Type 0 where
  pub place : ℕ
  pub after : raw_position ts (suc n) ≡ suc place
  pub there : slice_get ts place ≡ Some t

-- The last of the first `n` significant tokens is before the position after them.
pub last_place : (ts : List Token) (n : ℕ) (t : Token) → slice_get (counting ts) n ≡ Some t → LastPlace ts n t
last_place [] zero t e = cc
last_place [] (suc n) t e = cc
last_place (u ∷ ts) n t e = elim (cases_Bool (is_blank u.kind)) [
  | inl k ↦
      let h = last_place ts n t (sym (ap (λ r. slice_get r n) (counting_blank u ts k)) ∙ e) in
      record { place = suc h.place; after = at_blank u ts n k ∙ ap suc h.after; there = h.there }
  | inr k ↦ (elim n as (λ m. slice_get (u ∷ counting ts) m ≡ Some t → LastPlace (u ∷ ts) m t) [
    | zero ↦ λ f. record { place = 0; after = at_other u ts 0 k ∙ ap suc (none_place ts); there = f }
    | suc m ↦ λ f.
        let h = last_place ts m t f in
        record { place = suc h.place; after = at_other u ts (suc m) k ∙ ap suc h.after; there = h.there }
  ]) (sym (ap (λ r. slice_get r n) (counting_other u ts k)) ∙ e)
]

pub offset_of_none : (ts : List Token) → offset_at ts (raw_position ts 0) ≡ 0
offset_of_none ts = ap (offset_at ts) (none_place ts)

pub offset_of_last : (ts : List Token) (n : ℕ) (t : Token) → slice_get (counting ts) n ≡ Some t → offset_at ts (raw_position ts (suc n)) ≡ t.offset + t.len
offset_of_last ts n t e = let h = last_place ts n t e in ap (offset_at ts) h.after ∙ ap end_of h.there
