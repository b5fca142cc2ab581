-- The rows of the significant tokens while a buffer is filled.
use Rattle.std.proofs.Common.{◌≡◌, ◌≤◌, ◌<◌, ◌+◌, ◌++◌, ℕ, List, [], ◌∷◌, length, take, drop, refl, arith, ap, sym, ◌∙◌, subst, slice_set, false}
use Rattle.std.proofs.Common.{true}
use Rattle.std.specs.Prelude.{map, cond, not}
use Rattle.std.specs.Str.{IsCharBoundary}
use Rattle.std.proofs.lemmas.List.{length-map, length-take, map-append, take_more_set, drop-set-lt, length-set, drop-drop, append-nil}
use Rattle.std.proofs.lemmas.List.Elements.{filter-append}
use Rattle.wat_lex.specs.tokens.Setting.{Setting}
use Rattle.wat_lex.specs.tokens.Tiling.{TokenAt, Tiling}
use Rattle.wat_lex.specs.declared.lexer.kinds.Token.{Token}
use Rattle.wat_lex.specs.tokens.Blanks.{is_blank}
use Rattle.wat_lexer_parser.specs.laws.Counting.{counting}
use Rattle.wat_c_records.specs.Counting.{row_of, EndsCounting, StopsCounting, FillsCounting}
use Rattle.wat_c_records.specs.declared.counting.Row.{Row}
use Rattle.wat_c_records.proofs.Filling.{tiled_more}

-- The first `count` rows are those of the significant tokens from `from` to `at`. If the buffer is full, `at` is the
-- end of the last row. All other rows are unchanged.
pub record Counted (s : Setting) (from at : ℕ) (old out : List Row) (count : ℕ) : Type 0 where
  pub tokens : List Token
  pub tiling : Tiling s from at tokens
  pub rows : take count out ≡ map (row_of s.text 0) (counting tokens)
  pub boundary : IsCharBoundary s.text at
  pub bound : count ≤ length out
  pub rest : drop count out ≡ drop count old
  pub last : count ≡ length out → EndsCounting tokens

pub counting_other : (t : Token) (r : List Token) → is_blank t.kind ≡ false → counting (t ∷ r) ≡ t ∷ counting r
counting_other t r e = ap (λ b. cond (not b) (t ∷ counting r) (counting r)) e

pub counting_blank : (t : Token) (r : List Token) → is_blank t.kind ≡ true → counting (t ∷ r) ≡ counting r
counting_blank t r e = ap (λ b. cond (not b) (t ∷ counting r) (counting r)) e

pub counting_append : (ts us : List Token) → counting (ts ++ us) ≡ counting ts ++ counting us
counting_append ts us = filter-append (λ t. not (is_blank t.kind)) ts us

ends_counting : (ts : List Token) (t : Token) → is_blank t.kind ≡ false → EndsCounting (ts ++ t ∷ [])
ends_counting [] t e = e
ends_counting (u ∷ []) t e = e
ends_counting (u ∷ v ∷ ts) t e = ends_counting (v ∷ ts) t e

-- what a row more leaves after the rows
rest_more : (old out : List Row) (count : ℕ) (row : Row) → count < length out → drop count out ≡ drop count old
    → drop (count + 1) (slice_set out count row) ≡ drop (count + 1) old
rest_more old out count row b h =
    drop-set-lt (count + 1) out count row (omega arith) ∙ sym (drop-drop 1 count out) ∙ ap (drop 1) h ∙ drop-drop 1 count old

pub counted_more : (s : Setting) (from at : ℕ) (old out : List Row) (count : ℕ) (t : Token) (row : Row) → Counted s from at old out count
    → count < length out → TokenAt s at t → IsCharBoundary s.text (at + t.len) → row ≡ row_of s.text 0 t → is_blank t.kind ≡ false
    → Counted s from (t.offset + t.len) old (slice_set out count row) (count + 1)
counted_more s from at old out count t row h b k e r c =
    let more : counting (h.tokens ++ t ∷ []) ≡ counting h.tokens ++ t ∷ [] = counting_append h.tokens (t ∷ [])
    ∙ ap (λ x. counting h.tokens ++ x) (counting_other t [] c) in
    record {
      tokens = h.tokens ++ t ∷ [];
      tiling = tiled_more s from at h.tokens t h.tiling k;
      rows = take_more_set out count row b ∙ ap (λ x. x ++ row ∷ []) h.rows ∙ ap (λ x. map (row_of s.text 0) (counting h.tokens) ++ x ∷ []) r
          ∙ sym (map-append (row_of s.text 0) (counting h.tokens) (t ∷ [])) ∙ ap (map (row_of s.text 0)) (sym more);
      boundary = let o = k.offset in subst (λ p. IsCharBoundary s.text (p + t.len)) (sym o) e;
      bound = omega (arith, length-set out count row, b);
      rest = rest_more old out count row b h.rest;
      last = λ _. ends_counting h.tokens t c;
    }

pub counted_blank : (s : Setting) (from at : ℕ) (old out : List Row) (count : ℕ) (t : Token) → Counted s from at old out count → count < length out
    → TokenAt s at t → IsCharBoundary s.text (at + t.len) → is_blank t.kind ≡ true
    → Counted s from (t.offset + t.len) old out count
counted_blank s from at old out count t h b k e c =
    let more : counting (h.tokens ++ t ∷ []) ≡ counting h.tokens = counting_append h.tokens (t ∷ [])
    ∙ ap (λ x. counting h.tokens ++ x) (counting_blank t [] c) ∙ append-nil (counting h.tokens) in
    record {
      tokens = h.tokens ++ t ∷ [];
      tiling = tiled_more s from at h.tokens t h.tiling k;
      rows = h.rows ∙ ap (map (row_of s.text 0)) (sym more);
      boundary = let o = k.offset in subst (λ p. IsCharBoundary s.text (p + t.len)) (sym o) e;
      bound = h.bound;
      rest = h.rest;
      last = λ f. absurd (omega (arith, b, f));
    }

pub counted_start : (s : Setting) (from : ℕ) (old : List Row) → IsCharBoundary s.text from → Counted s from from old old 0
counted_start s from old b = record { tokens = []; tiling = refl; rows = refl; boundary = b; bound = omega arith; rest = refl; last = λ _. tt }

pub counted_fills : (s : Setting) (from at room : ℕ) (old out : List Row) (count why : ℕ) → (h : Counted s from at old out count)
    → StopsCounting s at room count h.tokens why
    → FillsCounting s from room (take count out) (record { count = count; at = at; why = why })
counted_fills s from at room old out count why h stops = record {
  tokens = h.tokens;
  tiling = h.tiling;
  rows_are = h.rows;
  count = omega
      (arith, ap length h.rows, length-take count out, length-map (counting h.tokens) (row_of s.text 0), h.bound);
  stops = stops;
}
