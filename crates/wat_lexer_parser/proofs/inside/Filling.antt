-- Filling a table, one token at a time.
use Rattle.std.proofs.Common.{◌≡◌, ◌+◌, ◌++◌, ◌<◌, ◌^◌, ℕ, List, [], ◌∷◌, refl, sym, subst, zero, suc, arith}
use Rattle.std.specs.Prelude.{Option, Some, slice_get}
use Rattle.std.specs.Str.{IsCharBoundary}
use Rattle.wat_lex.specs.tokens.ReadableTokens.{IsTokenOf}
use Rattle.wat_lex.specs.tokens.Setting.{Setting}
use Rattle.wat_lex.specs.tokens.Tiling.{TokenAt, Tiling, EndsAt, MaximalTiling}
use Rattle.wat_lex.specs.declared.lexer.faults.LexFault.{LexFault}
use Rattle.wat_lex.specs.declared.lexer.kinds.Token.{Token}
use Rattle.wat_lexer_parser.specs.inside.Table.{NameOrFault, HasAnnotations, Headed, Opening, Readable}

-- The table of the tokens up to a byte offset of the text.
pub record Filling (s : Setting) (pos : ℕ) (ts : List Token) (opens : List ℕ) (names : List (Option NameOrFault)) : Type 0 where
  pub tiling : Tiling s 0 pos ts
  pub noted : HasAnnotations s.text ts opens names
  pub boundary : IsCharBoundary s.text pos

tiled_more : (s : Setting) (from to : ℕ) (ts : List Token) (t : Token) → Tiling s from to ts → TokenAt s to t → Tiling s from (t.offset + t.len) (ts ++ t ∷ [])
tiled_more s from to [] t h k = (subst (λ p. TokenAt s p t) (sym h) k, refl)
tiled_more s from to (u ∷ ts) t h k = (h.0, tiled_more s (u.offset + u.len) to ts t h.1 k)

nothing_noted : (text : List ℕ) → HasAnnotations text [] [] []
nothing_noted text = record {
  readable = tt;
  headed = record { long = refl; each = λ g l. absurd (omega (arith, l)); all = λ i t u e f. cc; sorted = λ g h l m. absurd (omega (arith, m)) };
}

pub filling_start : (s : Setting) (ts : List Token) (opens : List ℕ) (names : List (Option NameOrFault)) → IsCharBoundary s.text 0 → ts ≡ [] → opens ≡ [] → names ≡ [] → Filling s 0 ts opens names
filling_start s ts opens names b e f g =
    subst (λ x. Filling s 0 x opens names) (sym e)
    (subst (λ x. Filling s 0 [] x names) (sym f)
    (subst (λ x. Filling s 0 [] [] x) (sym g) (record { tiling = refl; noted = nothing_noted s.text; boundary = b })))

pub filling_more : (s : Setting) (pos : ℕ) (ts us : List Token) (opens opens2 : List ℕ) (names names2 : List (Option NameOrFault)) (t : Token)
    → Filling s pos ts opens names → TokenAt s pos t → IsCharBoundary s.text (pos + t.len) → us ≡ ts ++ t ∷ [] → HasAnnotations s.text us opens2 names2 → Filling s (t.offset + t.len) us opens2 names2
filling_more s pos ts us opens opens2 names names2 t h k b e n = record {
  tiling = subst (Tiling s 0 (t.offset + t.len)) (sym e) (tiled_more s 0 pos ts t h.tiling k);
  noted = n;
  boundary = let o = k.offset in subst (λ p. IsCharBoundary s.text (p + t.len)) (sym o) b;
}

pub filled : (s : Setting) (pos : ℕ) (ts : List Token) (opens : List ℕ) (names : List (Option NameOrFault)) (e : Option LexFault) → Filling s pos ts opens names → EndsAt s pos e → MaximalTiling s 0 ts e
filled s pos ts opens names e h k = record { to = pos; tiling = h.tiling; ends = k }

-- The positions of annotation groups are positions of opening parentheses.
pub opening_from : (text : List ℕ) (ts : List Token) (opens : List ℕ) (names : List (Option NameOrFault)) → Headed text ts opens names → Opening ts opens
opening_from text ts opens names h g l = let k = h.each g l in (k.paren, k.opens, k.is_open)

pub readable_at : (text : List ℕ) (ts : List Token) (i : ℕ) (t : Token) → Readable text ts → slice_get ts i ≡ Some t → IsTokenOf text t × (t.offset + t.len < 2 ^ 32)
readable_at text [] i t h e = cc
readable_at text (u ∷ ts) zero t h e = let k : u ≡ t = cc in subst (λ x. IsTokenOf text x × (x.offset + x.len < 2 ^ 32)) k h.0
readable_at text (u ∷ ts) (suc i) t h e = readable_at text ts i t h.1 e
