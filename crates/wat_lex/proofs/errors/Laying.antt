-- Texts that are laid into bytes, one after another.
use Rattle.std.proofs.Common.{◌≡◌, ◌≤◌, ◌+◌, ◌-◌, ℕ, zero, suc, min, List, [], ◌∷◌, ◌++◌, length, take, drop, refl, arith, ap, sym, ◌∙◌, subst, append_assoc, length-append, length-take, length-drop, inl, inr}
use Rattle.std.specs.Prelude.{replicate}
use Rattle.std.proofs.lemmas.Bool.{cases_lt}
use Rattle.std.proofs.lemmas.List.{append-nil, take_all, drop_all, drop-drop, take-append-le}
use Rattle.std.proofs.Math.Seq.{take-append-add, take-append_seam, drop-append-add}
use Rattle.wat_lex.specs.errors.LaidPieces.{Laid, WritesAfter}
use Rattle.wat_lex.specs.errors.Rendering.{overwrite_start}

-- a text that fits, and one that does not
laid_short : (text before : List ℕ) → length text ≤ length before → overwrite_start text before ≡ text ++ drop (length text) before
laid_short text before l = ap (λ x. x ++ drop (length text) before) (take_all (length before) text l)

laid_long : (text before : List ℕ) → length before ≤ length text → overwrite_start text before ≡ take (length before) text
laid_long text before l = ap (λ x. take (length before) text ++ x) (drop_all (length text) before l) ∙ append-nil (take (length before) text)

-- A text is written to the buffer at an index, as far as it fits: its first count bytes.
module _ (before already bytes text bytes' : List ℕ) (at count : ℕ) (h : Laid before already bytes at)
    (room : count ≡ min (length text) (length bytes - at)) (wrote : bytes' ≡ take at bytes ++ (take count text ++ drop (at + count) bytes)) where
  fits : length already ≤ length before → bytes ≡ already ++ drop (length already) before
  fits l = h.over ∙ laid_short already before l

  long : length bytes ≡ length before
  long =
      let over = ap length h.over in
      let parts = length-append (take (length before) already) (drop (length already) before) in
      omega (arith, over, parts, length-take (length before) already, length-drop (length already) before)

  -- The bytes before the index are the text that was written first, if that fits.
  fitting_front : length already ≤ length before → take at bytes ≡ already
  fitting_front l =
      let end : at ≡ length already = omega (arith, h.place, l) in
      ap (λ n. take n bytes) end ∙ ap (take (length already)) (fits l) ∙ take-append_seam already (drop (length already) before)

  fitting_back : length already ≤ length before → (n : ℕ) → drop (at + n) bytes ≡ drop (length already + n) before
  fitting_back l n =
      let end : at ≡ length already = omega (arith, h.place, l) in
      ap (λ k. drop (k + n) bytes) end ∙ ap (drop (length already + n)) (fits l) ∙ drop-append-add already (drop (length already) before) n ∙ drop-drop n (length already) before

  all_fits : length already + length text ≤ length before → bytes' ≡ overwrite_start (already ++ text) before
  all_fits l =
      let first : length already ≤ length before = omega (arith, l) in
      let all : count ≡ length text = omega (arith, room, long, h.place, l) in
      let sum = length-append already text in
      wrote ∙ ap (λ x. x ++ (take count text ++ drop (at + count) bytes)) (fitting_front first)
      ∙ ap (λ n. already ++ (take n text ++ drop (at + n) bytes)) all
      ∙ ap (λ x. already ++ (x ++ drop (at + length text) bytes)) (take_all (length text) text (omega arith))
      ∙ ap (λ x. already ++ (text ++ x)) (fitting_back first (length text))
      ∙ sym (append_assoc already text (drop (length already + length text) before))
      ∙ ap (λ n. (already ++ text) ++ drop n before) (sym sum)
      ∙ sym (laid_short (already ++ text) before (omega (arith, l, sum)))

  part_fits : length already ≤ length before → length before ≤ length already + length text → bytes' ≡ overwrite_start (already ++ text) before
  part_fits first l =
      let rest : length already + count ≡ length before = omega (arith, room, long, h.place, first, l) in
      let sum = length-append already text in
      wrote ∙ ap (λ x. x ++ (take count text ++ drop (at + count) bytes)) (fitting_front first)
      ∙ ap (λ x. already ++ (take count text ++ x)) (fitting_back first count ∙ drop_all (length already + count) before (omega (arith, rest)))
      ∙ ap (λ x. already ++ x) (append-nil (take count text))
      ∙ sym (take-append-add already text count) ∙ ap (λ n. take n (already ++ text)) rest
      ∙ sym (laid_long (already ++ text) before (omega (arith, l, sum)))

  none_fits : length before ≤ length already → bytes' ≡ overwrite_start (already ++ text) before
  none_fits l =
      let end : at ≡ length bytes = omega (arith, h.place, long, l) in
      let none : count ≡ 0 = omega (arith, room, end) in
      let past : length bytes ≤ at + count = omega (arith, end) in
      let sum = length-append already text in
      wrote ∙ ap (λ x. x ++ (take count text ++ drop (at + count) bytes)) (take_all at bytes (omega (arith, end)))
      ∙ ap (λ x. bytes ++ (take count text ++ x)) (drop_all (at + count) bytes past) ∙ ap (λ n. bytes ++ (take n text ++ [])) none ∙ append-nil bytes
      ∙ h.over ∙ laid_long already before l ∙ sym (take-append-le (length before) already text l)
      ∙ sym (laid_long (already ++ text) before (omega (arith, l, sum)))

  pub laid_more : Laid before (already ++ text) bytes' (at + count)
  laid_more = record {
    over = elim (cases_lt (length before) (length already)) [
      | inl l ↦ none_fits (omega (arith, l))
      | inr l ↦ elim (cases_lt (length before) (length already + length text)) [ inl m ↦ part_fits l (omega (arith, m)) | inr m ↦ all_fits m ]
    ];
    place = let sum = length-append already text in omega (arith, room, long, h.place, sum);
  }

pub lays_nothing : (bytes : List ℕ) (at : ℕ) → at ≤ length bytes → WritesAfter bytes at [] bytes at
lays_nothing bytes at l = record { within = l; long = refl; more = λ before already h. subst (λ s. Laid before s bytes at) (sym (append-nil already)) h }

pub lays_then : (a b c s t all : List ℕ) (i j k : ℕ) → WritesAfter a i s b j → WritesAfter b j t c k → s ++ t ≡ all → WritesAfter a i all c k
lays_then a b c s t all i j k first second e = record {
  within = second.within;
  long = second.long ∙ first.long;
  more = λ before already h. subst (λ x. Laid before x c k) (append_assoc already s t ∙ ap (λ x. already ++ x) e) (second.more before (already ++ s) (first.more before already h));
}

abbrev spaces : ℕ → List ℕ
spaces n = replicate n 32

pub spaces_more : (n m : ℕ) → m ≡ n + 1 → spaces n ++ 32 ∷ [] ≡ spaces m
spaces_more n zero e = absurd (omega (arith, e))
spaces_more zero (suc m) e = let none : 0 ≡ m = omega (arith, e) in ap (λ k. 32 ∷ spaces k) none
spaces_more (suc n) (suc m) e = ap (λ x. 32 ∷ x) (spaces_more n m (omega (arith, e)))

pub length_of_written : (bytes text : List ℕ) (at count : ℕ) → at ≤ length bytes → count ≡ min (length text) (length bytes - at) → length (take at bytes ++ (take count text ++ drop (at + count) bytes)) ≡ length bytes
length_of_written bytes text at count l e =
    let outer = length-append (take at bytes) (take count text ++ drop (at + count) bytes) in
    let inner = length-append (take count text) (drop (at + count) bytes) in
    omega (arith, outer, inner, length-take at bytes, length-take count text, length-drop (at + count) bytes, e, l)

pub laid_none : (bytes : List ℕ) → Laid bytes [] bytes 0
laid_none bytes = record { over = ap (λ x. x ++ bytes) (sym (take_all (length bytes) [] (omega arith))); place = omega arith }
