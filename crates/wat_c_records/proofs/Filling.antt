-- The rows of a text so far.
use Rattle.std.proofs.Common.{◌≡◌, ◌≤◌, ◌<◌, ◌+◌, ◌++◌, ℕ, List, [], ◌∷◌, length, take, drop, refl, arith, ap, sym, ◌∙◌, subst, slice_set}
use Rattle.std.specs.Prelude.{map}
use Rattle.std.specs.Str.{IsCharBoundary}
use Rattle.std.proofs.lemmas.List.{length-map, length-take, map-append, take_more_set, drop-set-lt, length-set, drop-drop}
use Rattle.wat_lex.specs.tokens.Setting.{Setting}
use Rattle.wat_lex.specs.tokens.Tiling.{TokenAt, Tiling}
use Rattle.wat_lex.specs.declared.lexer.kinds.Token.{Token}
use Rattle.wat_c_records.specs.Rows.{token_row, Stops, Fills}
use Rattle.wat_c_records.specs.declared.rows.TokenRow.{TokenRow}

-- The first `count` rows are those of the tokens from `from` to `at`. All other rows are unchanged.
pub record Listed (s : Setting) (from at : ℕ) (old out : List TokenRow) (count : ℕ) : Type 0 where
  pub tokens : List Token
  pub tiling : Tiling s from at tokens
  pub rows : take count out ≡ map token_row tokens
  pub boundary : IsCharBoundary s.text at
  pub bound : count ≤ length out
  pub rest : drop count out ≡ drop count old

pub tiled_more : (s : Setting) (from to : ℕ) (ts : List Token) (t : Token) → Tiling s from to ts → TokenAt s to t
    → Tiling s from (t.offset + t.len) (ts ++ t ∷ [])
tiled_more s from to [] t h k = (subst (λ p. TokenAt s p t) (sym h) k, refl)
tiled_more s from to (u ∷ ts) t h k = (h.0, tiled_more s (u.offset + u.len) to ts t h.1 k)

-- what a row more leaves after the rows
rest_more : (old out : List TokenRow) (count : ℕ) (row : TokenRow) → count < length out → drop count out ≡ drop count old
    → drop (count + 1) (slice_set out count row) ≡ drop (count + 1) old
rest_more old out count row b h =
    drop-set-lt (count + 1) out count row (omega arith) ∙ sym (drop-drop 1 count out) ∙ ap (drop 1) h ∙ drop-drop 1 count old

pub listed_more : (s : Setting) (from at : ℕ) (old out : List TokenRow) (count : ℕ) (t : Token) (row : TokenRow) → Listed s from at old out count
    → count < length out → TokenAt s at t → IsCharBoundary s.text (at + t.len) → row ≡ token_row t
    → Listed s from (t.offset + t.len) old (slice_set out count row) (count + 1)
listed_more s from at old out count t row h b k e r = record {
  tokens = h.tokens ++ t ∷ [];
  tiling = tiled_more s from at h.tokens t h.tiling k;
  rows = take_more_set out count row b ∙ ap (λ x. x ++ row ∷ []) h.rows ∙ ap (λ x. map token_row h.tokens ++ x ∷ []) r
      ∙ sym (map-append token_row h.tokens (t ∷ []));
  boundary = let o = k.offset in subst (λ p. IsCharBoundary s.text (p + t.len)) (sym o) e;
  bound = omega (arith, length-set out count row, b);
  rest = rest_more old out count row b h.rest;
}

pub listed_fills : (s : Setting) (from at room : ℕ) (old out : List TokenRow) (count why : ℕ) → Listed s from at old out count
    → Stops s at room count why → Fills s from room (take count out) (record { count = count; at = at; why = why })
listed_fills s from at room old out count why h stops = record {
  tokens = h.tokens;
  tiling = h.tiling;
  rows_are = h.rows;
  count = omega
      (arith, ap length h.rows, length-take count out, length-map h.tokens token_row, h.bound);
  stops = stops;
}
