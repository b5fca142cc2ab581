-- The rows of a text so far.
use Rattle.std.proofs.Common.{◌≡◌, ◌<◌, ◌≤◌, ◌+◌, ◌++◌, ℕ, suc, List, [], ◌∷◌, length, drop, map, refl, arith, ap, sym, ◌∙◌, subst, slice_set, get_or, append_assoc, length-append, drop-cons, length-drop}
use Rattle.std.specs.Str.{IsCharBoundary, IsUtf8}
use Rattle.std.proofs.lemmas.List.{map-append, length-map}
use Rattle.std.proofs.lemmas.Str.{IsCharBoundary-start}
use Rattle.wat_lex.specs.tokens.Setting.{Setting}
use Rattle.wat_lex.specs.tokens.Tiling.{TokenAt, Tiling}
use Rattle.wat_lex.specs.declared.lexer.kinds.Token.{Token}
use Rattle.wat_wasm.specs.Endings.{row_of}
use Rattle.wat_wasm.specs.declared.rows.Row.{Row}

-- The rows of the tokens up to offset `pos` replace the first old ones.
pub record Filling (s : Setting) (old new : List Row) (n pos : ℕ) : Type 0 where
  pub tokens : List Token
  pub tiling : Tiling s 0 pos tokens
  pub rows : new ≡ map row_of tokens ++ drop (length tokens) old
  pub count : n ≡ length tokens
  pub fits : n ≤ length old
  pub boundary : IsCharBoundary s.text pos

pub filling_none : (s : Setting) (old : List Row) → IsUtf8 s.text → Filling s old old 0 0
filling_none s old u = record { tokens = []; tiling = refl; rows = refl; count = refl; fits = omega arith; boundary = IsCharBoundary-start s.text u }

tiled_more : (s : Setting) (from to : ℕ) (ts : List Token) (t : Token) → Tiling s from to ts → TokenAt s to t → Tiling s from (t.offset + t.len) (ts ++ t ∷ [])
tiled_more s from to [] t h k = (subst (λ p. TokenAt s p t) (sym h) k, refl)
tiled_more s from to (u ∷ ts) t h k = (h.0, tiled_more s (u.offset + u.len) to ts t h.1 k)

-- the first of what comes after a list is set
set_after : {A : Type 0} (front : List A) (x y : A) (back : List A) → slice_set (front ++ x ∷ back) (length front) y ≡ front ++ y ∷ back
set_after [] x y back = refl
set_after (z ∷ front) x y back = ap (λ l. z ∷ l) (set_after front x y back)

rows_length : (s : Setting) (old rows : List Row) (count pos : ℕ) → Filling s old rows count pos → length rows ≡ length old
rows_length s old rows count pos h =
    let fits = h.fits in
    let number = h.count in
    let shown = length-map h.tokens row_of in
    let all = ap length h.rows ∙ length-append (map row_of h.tokens) (drop (length h.tokens) old) in
    omega (arith, fits, number, shown, all, length-drop (length h.tokens) old)

module _ (s : Setting) (old rows : List Row) (count pos : ℕ) (t : Token) (h : Filling s old rows count pos) (k : TokenAt s pos t) (room : count < length rows) where
  same_length : length rows ≡ length old
  same_length = rows_length s old rows count pos h

  one_more : slice_set rows count (row_of t) ≡ map row_of (h.tokens ++ t ∷ []) ++ drop (length (h.tokens ++ t ∷ [])) old
  one_more =
      let shown = map row_of h.tokens in
      let last = length (h.tokens ++ t ∷ []) in
      let after : last ≡ suc (length h.tokens) = omega (arith, length-append h.tokens (t ∷ [])) in
      let place : count ≡ length shown = h.count ∙ sym (length-map h.tokens row_of) in
      let below : length h.tokens < length old = omega (arith, room, same_length, h.count) in
      let opened : drop (length h.tokens) old ≡ get_or old (length h.tokens) (row_of t) ∷ drop (suc (length h.tokens)) old = drop-cons old (length h.tokens) (row_of t) below in
      ap (λ r. slice_set r count (row_of t)) (h.rows ∙ ap (λ r. shown ++ r) opened) ∙ ap (λ n. slice_set (shown ++ (get_or old (length h.tokens) (row_of t) ∷ drop (suc (length h.tokens)) old)) n (row_of t)) place
      ∙ set_after shown (get_or old (length h.tokens) (row_of t)) (row_of t) (drop (suc (length h.tokens)) old)
      ∙ sym (append_assoc shown (row_of t ∷ []) (drop (suc (length h.tokens)) old)) ∙ ap (λ r. r ++ drop (suc (length h.tokens)) old) (sym (map-append row_of h.tokens (t ∷ [])))
      ∙ ap (λ n. map row_of (h.tokens ++ t ∷ []) ++ drop n old) (sym after)

  pub filling_more : IsCharBoundary s.text (pos + t.len) → Filling s old (slice_set rows count (row_of t)) (count + 1) (t.offset + t.len)
  filling_more b = record {
    tokens = h.tokens ++ t ∷ [];
    tiling = tiled_more s 0 pos h.tokens t h.tiling k;
    rows = one_more;
    count = let number = h.count in let more = length-append h.tokens (t ∷ []) in omega (arith, number, more);
    fits = omega (arith, room, same_length);
    boundary = let o = k.offset in subst (λ p. IsCharBoundary s.text (p + t.len)) (sym o) b;
  }
