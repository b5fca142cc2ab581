-- How many lines a text has.
use Rattle.std.proofs.Common.{◌≡◌, ◌<◌, ◌+◌, ◌-◌, ℕ, zero, suc, false, cond, List, [], ◌∷◌, length, get_or, refl, arith, ap, sym, ◌∙◌, subst, inl, inr, rules}
use Rattle.std.specs.Prelude.{◌==◌, if◌then◌else◌}
use Rattle.std.specs.List.{count_by, slice_split, onto_first}
use Rattle.std.specs.Str.Lines.{lines, lines_of_parts}
use Rattle.std.proofs.lemmas.Bool.{cases_Bool, eq-eqb, ne_eqb}
use Rattle.std.proofs.lemmas.List.Splits.{slice_split-cons_yes, slice_split-cons_no}
use Rattle.wat_lex.specs.errors.Positions.{is_line_feed}
use Rattle.wat_lex.proofs.errors.Lines.{feed, parts, count_yes, count_no}

-- one where bytes come after the last line feed, else none
open_lines : List ℕ → ℕ
open_lines [] = 0
open_lines (x ∷ []) = cond (feed x) 0 1
open_lines (x ∷ y ∷ ys) = open_lines (y ∷ ys)

-- the only part of some bytes is not empty
only_part : (y : ℕ) (ys p : List ℕ) → slice_split feed (y ∷ ys) ≡ p ∷ [] → 0 < length p
only_part y ys p e =
    elim (cases_Bool (feed y)) [
      | inl t ↦ let q = parts ys in
          let k : [] ∷ (q.first ∷ q.more) ≡ p ∷ [] = ap (λ ps. [] ∷ ps) (sym q.cut) ∙ sym (slice_split-cons_yes feed y ys t) ∙ e in absurd (two q.first q.more p k)
      | inr f ↦ let q = parts ys in
          let k : (y ∷ q.first) ∷ q.more ≡ p ∷ [] = ap (onto_first y) (sym q.cut) ∙ sym (slice_split-cons_no feed y ys f) ∙ e in
          subst (λ x. 0 < length x) (same_first (y ∷ q.first) p q.more [] k) (omega arith)
    ]
  where
    two : (a : List ℕ) (more : List (List ℕ)) (p : List ℕ) → [] ∷ (a ∷ more) ≡ p ∷ [] → ⊥
    two a more p e = cc

    same_first : (a b : List ℕ) (more others : List (List ℕ)) → a ∷ more ≡ b ∷ others → a ≡ b
    same_first a b more others e = cc

one_part : (p : List ℕ) → 0 < length p → length (lines_of_parts (p ∷ [])) ≡ 1
one_part p l = let n : (length p == 0) ≡ false = search rules in ap (λ b. length (if b then [] else p ∷ [])) n

one_line : (x : ℕ) (p : List ℕ) → 0 < length p → length (lines_of_parts (onto_first x (p ∷ []))) ≡ 1
one_line x p l = one_part (x ∷ p) (omega arith)

-- a byte before the first part makes no line more
onto : (x y : ℕ) (ys : List ℕ) → length (lines_of_parts (onto_first x (slice_split feed (y ∷ ys)))) ≡ length (lines (y ∷ ys))
onto x y ys = by (parts (y ∷ ys)).first (parts (y ∷ ys)).more (parts (y ∷ ys)).cut
  where
    by : (p : List ℕ) (more : List (List ℕ)) → slice_split feed (y ∷ ys) ≡ p ∷ more → length (lines_of_parts (onto_first x (slice_split feed (y ∷ ys)))) ≡ length (lines_of_parts (slice_split feed (y ∷ ys)))
    by [] [] e = absurd (omega (arith, only_part y ys [] e))
    by (b ∷ p) [] e = ap (λ ps. length (lines_of_parts (onto_first x ps))) e ∙ one_line x (b ∷ p) (omega arith) ∙ sym (one_part (b ∷ p) (omega arith)) ∙ sym (ap (λ ps. length (lines_of_parts ps)) e)
    by p (q ∷ more) e = ap (λ ps. length (lines_of_parts (onto_first x ps))) e ∙ sym (ap (λ ps. length (lines_of_parts ps)) e)

-- an empty first part is a line, where others come after it
after_empty : (xs : List ℕ) → length (lines_of_parts ([] ∷ slice_split feed xs)) ≡ suc (length (lines xs))
after_empty xs = let p = parts xs in ap (λ ps. length (lines_of_parts ([] ∷ ps))) p.cut ∙ sym (ap (λ ps. suc (length (lines_of_parts ps))) p.cut)

line_count : (xs : List ℕ) → length (lines xs) ≡ count_by is_line_feed xs + open_lines xs
unfolding open_lines
line_count [] = omega arith
line_count (x ∷ []) = elim (cases_Bool (feed x)) [
  | inl t ↦ ap (λ ps. length (lines_of_parts ps)) (slice_split-cons_yes feed x [] t) ∙ omega (arith, count_yes x [] t, ap (λ b. cond {A = ℕ} b 0 1) t)
  | inr f ↦ ap (λ ps. length (lines_of_parts ps)) (slice_split-cons_no feed x [] f) ∙ omega (arith, count_no x [] f, ap (λ b. cond {A = ℕ} b 0 1) f)
]
line_count (x ∷ y ∷ ys) = elim (cases_Bool (feed x)) [
  | inl t ↦ ap (λ ps. length (lines_of_parts ps)) (slice_split-cons_yes feed x (y ∷ ys) t) ∙ after_empty (y ∷ ys) ∙ omega (arith, line_count (y ∷ ys), count_yes x (y ∷ ys) t)
  | inr f ↦ ap (λ ps. length (lines_of_parts ps)) (slice_split-cons_no feed x (y ∷ ys) f) ∙ onto x y ys ∙ omega (arith, line_count (y ∷ ys), count_no x (y ∷ ys) f)
]

open_by_last : (xs : List ℕ) (m : ℕ) → length xs ≡ suc m → open_lines xs ≡ cond (feed (get_or xs m 0)) 0 1
unfolding open_lines
open_by_last [] m e = absurd (omega (arith, e))
open_by_last (x ∷ []) zero e = refl
open_by_last (x ∷ []) (suc m) e = absurd (omega (arith, e))
open_by_last (x ∷ y ∷ ys) zero e = absurd (omega (arith, e))
open_by_last (x ∷ y ∷ ys) (suc m) e = open_by_last (y ∷ ys) m (omega (arith, e))

-- a text of no bytes, one that a line feed ends, and one that another byte ends
pub no_lines : (text : List ℕ) → length text ≡ 0 → 0 ≡ length (lines text)
no_lines [] e = refl
no_lines (x ∷ xs) e = absurd (omega (arith, e))

pub ended_lines : (text : List ℕ) → 0 < length text → get_or text (length text - 1) 0 ≡ 10 → count_by is_line_feed text ≡ length (lines text)
ended_lines text l e =
    let last = open_by_last text (length text - 1) (omega (arith, l)) in
    omega (arith, line_count text, last, ap (λ b. cond {A = ℕ} b 0 1) (eq-eqb (get_or text (length text - 1) 0) 10 e))

pub unended_lines : (text : List ℕ) → 0 < length text → (get_or text (length text - 1) 0 ≡ 10 → ⊥) → count_by is_line_feed text + 1 ≡ length (lines text)
unended_lines text l n =
    let last = open_by_last text (length text - 1) (omega (arith, l)) in
    omega (arith, line_count text, last, ap (λ b. cond {A = ℕ} b 0 1) (ne_eqb (get_or text (length text - 1) 0) 10 n))
