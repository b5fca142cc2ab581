-- What holds of each list of raw tokens.
use Rattle.std.proofs.Common.{◌≡◌, ◌≤◌, ◌<◌, ◌+◌, ℕ, List, [], ◌∷◌, ◌++◌, length, drop, arith, ap, sym, ◌∙◌, subst, true, false}
use Rattle.std.specs.Prelude.{Option, Some, None}
use Rattle.std.proofs.lemmas.List.{take-append-drop, drop-drop}
use Rattle.std.proofs.Math.Seq.{drop-length}
use Rattle.std.proofs.lemmas.Str.{IsCharBoundary-from_rest}
use Rattle.std.specs.Str.{IsUtf8, IsCharBoundary}
use Rattle.wat_lex.specs.tokens.Setting.{Setting}
use Rattle.wat_lex.specs.tokens.Tiling.{TokenAt, Tiling, EndsAt, MaximalTiling}
use Rattle.wat_lex.specs.tokens.Raw.{Item, AreItemsOf, Raw}
use Rattle.wat_lex.specs.tokens.ReadableTokens.{IsTokenOf, token_text}
use Rattle.wat_lex.specs.tokens.Laws.{AreTokens, EachToken, joined_texts, Laws}
use Rattle.wat_lex.specs.declared.lexer.kinds.Token.{Token}
use Rattle.wat_lex.specs.declared.lexer.faults.LexFault.{LexFault}
use Rattle.wat_lex.proofs.grammar.Looser.{Looser, is_at_looser}
use Rattle.wat_lex.proofs.tokens.Scans.{some_size, word_some}
use Rattle.wat_lex.proofs.tokens.ReadableTokens.{token_of, token_ends}

-- a token of a text ends in it, at a boundary
token_past : (text : List ℕ) (t : Token) → IsUtf8 text → IsTokenOf text t → IsCharBoundary text (t.offset + t.len)
token_past text t u h = IsCharBoundary-from_rest text t.offset t.len h.boundary.0 (token_ends text t u h)

pub token_some : (s : Setting) (p : ℕ) (t : Token) → TokenAt s p t → 0 < t.len
token_some s p t h = let k = some_size h.word (word_some t.kind h.word s.flags h.is_at.word) in omega (arith, h.len, k)

-- the boundary after a token
pub after : (s : Setting) (p : ℕ) (t : Token) → IsUtf8 s.text → IsCharBoundary s.text p → TokenAt s p t → IsCharBoundary s.text (t.offset + t.len)
after s p t u b h = token_past s.text t u (token_of s p t b h)

few : (s : Setting) (from to : ℕ) (tokens : List Token) (ending : Option LexFault) (items : List Item) → IsUtf8 s.text → IsCharBoundary s.text from → Tiling s from to tokens → AreItemsOf s.text tokens ending items → from + length items ≤ length s.text + 1
few s from to [] None items u b t h = omega (arith, b.0, ap length h)
few s from to [] (Some f) items u b t h = omega (arith, b.0, ap length h.1)
few s from to (t ∷ ts) ending items u b h k =
    let r = few s (t.offset + t.len) to ts ending k.0 u (after s from t u b h.0) h.1 k.2 in
    let o = h.0.offset in
    let l = token_some s from t h.0 in
    omega (arith, ap length k.1, r, o, l)

tokens_of : (s : Setting) (from to : ℕ) (tokens : List Token) (ending : Option LexFault) (items : List Item) → IsUtf8 s.text → IsCharBoundary s.text from → Tiling s from to tokens → AreItemsOf s.text tokens ending items → EachToken (λ t. IsTokenOf s.text t × (0 < t.len)) items
tokens_of s from to [] None items u b t h = subst (EachToken (λ t. IsTokenOf s.text t × (0 < t.len))) (sym h) tt
tokens_of s from to [] (Some f) items u b t h = subst (EachToken (λ t. IsTokenOf s.text t × (0 < t.len))) (sym h.1) tt
tokens_of s from to (t ∷ ts) ending items u b h k = subst (EachToken (λ t. IsTokenOf s.text t × (0 < t.len))) (sym k.1)
    ((token_of s from t b h.0, token_some s from t h.0), tokens_of s (t.offset + t.len) to ts ending k.0 u (after s from t u b h.0) h.1 k.2)

-- one token's text, and what comes after it
next_text : (text : List ℕ) (from : ℕ) (t : Token) (rest : List ℕ) → t.offset ≡ from → rest ≡ drop (t.offset + t.len) text → token_text text t ++ rest ≡ drop from text
next_text text from t rest o e =
    let step : drop (t.offset + t.len) text ≡ drop t.len (drop t.offset text) = sym (drop-drop t.len t.offset text) in
    ap (λ x. token_text text t ++ x) (e ∙ step) ∙ take-append-drop t.len (drop t.offset text) ∙ ap (λ x. drop x text) o

whole : (s : Setting) (from to : ℕ) (tokens : List Token) (ending : Option LexFault) (items : List Item) → Tiling s from to tokens → EndsAt s to ending → AreItemsOf s.text tokens ending items → AreTokens items → joined_texts s.text items ≡ drop from s.text
whole s from to [] None items t e h a = ap (joined_texts s.text) h ∙ sym (ap (λ x. drop x s.text) (t ∙ e) ∙ drop-length s.text)
whole s from to [] (Some f) items t e h a = absurd (subst AreTokens h.1 a)
whole s from to (t ∷ ts) ending items h e k a =
    let r = whole s (t.offset + t.len) to ts ending k.0 h.1 e k.2 (subst AreTokens k.1 a) in
    ap (joined_texts s.text) k.1 ∙ next_text s.text from t (joined_texts s.text k.0) h.0.offset r

unstrict_tiling : (s : Setting) (from to : ℕ) (tokens : List Token) → Tiling s from to tokens → Tiling (record s { flags = record s.flags { strict = false } }) from to tokens
unstrict_tiling s from to [] h = h
unstrict_tiling s from to (t ∷ ts) h =
    let g = h.0 in
    let loose : Looser s.flags (record s.flags { strict = false }) = record { allow = λ a. a; strict = λ x. absurd (let k : false ≡ true = x in cc) } in (
      record { offset = g.offset; word = g.word; rest = g.rest; is_at = is_at_looser s.flags (record s.flags { strict = false }) _ t.kind g.word g.rest loose g.is_at; len = g.len },
      unstrict_tiling s (t.offset + t.len) to ts h.1,
    )

no_fault : (text : List ℕ) (tokens : List Token) (f : LexFault) (items : List Item) → AreItemsOf text tokens (Some f) items → AreTokens items → ⊥
no_fault text [] f items h a = subst AreTokens h.1 a
no_fault text (t ∷ ts) f items h a = no_fault text ts f h.0 h.2 (subst AreTokens h.1 a)

unstrict_by : (s : Setting) (from : ℕ) (items : List Item) (tokens : List Token) (ending : Option LexFault) → MaximalTiling s from tokens ending → AreItemsOf s.text tokens ending items → AreTokens items → Raw (record s { flags = record s.flags { strict = false } }) from items
unstrict_by s from items tokens None m h a = record {
  tokens = tokens;
  ending = None;
  tiling = record { to = m.to; tiling = unstrict_tiling s from m.to tokens m.tiling; ends = m.ends };
  spelled = h;
}
unstrict_by s from items tokens (Some f) m h a = absurd (no_fault s.text tokens f items h a)

pub laws_of : (s : Setting) (from : ℕ) (items : List Item) → IsUtf8 s.text → IsCharBoundary s.text from → Raw s from items → Laws s from items
laws_of s from items u b r = record {
  few = few s from r.tiling.to r.tokens r.ending items u b r.tiling.tiling r.spelled;
  tokens = tokens_of s from r.tiling.to r.tokens r.ending items u b r.tiling.tiling r.spelled;
  whole = whole s from r.tiling.to r.tokens r.ending items r.tiling.tiling r.tiling.ends r.spelled;
  unstrict = unstrict_by s from items r.tokens r.ending r.tiling r.spelled;
}
