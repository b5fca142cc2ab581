-- Raw tokens as pieces, each a kind and bytes, that follow each other: those of a text, and back.
use Rattle.std.proofs.Common.{◌≡◌, ◌+◌, ◌-◌, ℕ, List, [], ◌∷◌, ◌++◌, length, take, drop, refl, sym, ap, ◌∙◌, subst, arith, length-append}
use Rattle.std.proofs.Math.Seq.{take-append_seam, drop-append_seam, drop-length}
use Rattle.std.proofs.lemmas.List.{drop-drop}
use Rattle.std.proofs.lemmas.Str.{IsUtf8-drop, IsUtf8-between, IsUtf8-append, IsUtf8-nil, encodes-chars, encodes-append, chars_from_encodes}
use Rattle.std.specs.Prelude.{encode_utf8_all}
use Rattle.std.specs.Str.{IsUtf8, IsCharBoundary, chars}
use Rattle.wat_lex.specs.grammar.Words.{Word, MayFollow}
use Rattle.wat_lex.specs.tokens.EverySetting.{TokensEndAtBoundaries}
use Rattle.wat_lex.specs.tokens.ReadableTokens.{token_text}
use Rattle.wat_lex.specs.tokens.Setting.{Setting}
use Rattle.wat_lex.specs.tokens.Tiling.{TokenAt, Tiling}
use Rattle.wat_lex.specs.declared.lexer.kinds.Token.{Token}
use Rattle.wat_lex.specs.declared.lexer.kinds.TokenKind.{TokenKind}
use Rattle.wat_lex.specs.declared.lexer.settings.Settings.{Settings}

abbrev pub Piece : Type 0
Piece = TokenKind × List ℕ

abbrev pub pieces : List ℕ → List Token → List Piece
pieces text [] = []
pieces text (t ∷ ts) = (t.kind, token_text text t) ∷ pieces text ts

abbrev pub joined : List Piece → List ℕ
joined [] = []
joined (p ∷ ps) = p.1 ++ joined ps

-- The bytes are a lexeme of the kind, which may precede these bytes.
pub record IsAt (flags : Settings) (kind : TokenKind) (bytes rest : List ℕ) : Type 0 where
  pub utf8 : IsUtf8 bytes
  pub word : Word kind (chars bytes) flags
  pub ends : MayFollow kind (chars bytes) (chars rest)

abbrev pub AllLegal : Settings → List Piece → Type 0
AllLegal flags [] = Unit {0}
AllLegal flags (p ∷ ps) = IsAt flags p.0 p.1 (joined ps) × AllLegal flags ps

pub utf8_joined : (flags : Settings) (ps : List Piece) → AllLegal flags ps → IsUtf8 (joined ps)
utf8_joined flags [] h = IsUtf8-nil
utf8_joined flags (p ∷ ps) h = IsUtf8-append p.1 (joined ps) h.0.utf8 (utf8_joined flags ps h.1)

pub chars_append : (bs cs : List ℕ) → IsUtf8 bs → IsUtf8 cs → chars (bs ++ cs) ≡ chars bs ++ chars cs
chars_append bs cs u v =
    let e : encode_utf8_all (chars bs ++ chars cs) ≡ bs ++ cs = encodes-append (chars bs) (chars cs) ∙ ap (λ x. x ++ encode_utf8_all (chars cs)) (encodes-chars bs u) ∙ ap (λ x. bs ++ x) (encodes-chars cs v) in
    sym (chars_from_encodes (chars bs ++ chars cs) (bs ++ cs) (IsUtf8-append bs cs u v) e)

pub record Cut (s : Setting) (p : ℕ) (ts : List Token) : Type 0 where
  pub whole : joined (pieces s.text ts) ≡ drop p s.text
  pub legal : AllLegal s.flags (pieces s.text ts)

module _ (s : Setting) (utf8 : IsUtf8 s.text) (bounds : TokensEndAtBoundaries) where
  cut_one : (p : ℕ) (t : Token) (ts : List Token) → IsCharBoundary s.text p → TokenAt s p t → Cut s (t.offset + t.len) ts → Cut s p (t ∷ ts)
  cut_one p t ts b h ih =
      let o : t.offset ≡ p = h.offset in
      let end : IsCharBoundary s.text (t.offset + t.len) = bounds s p t utf8 b h in
      let end' : IsCharBoundary s.text (p + t.len) = subst (λ n. IsCharBoundary s.text (n + t.len)) o end in
      let w : List ℕ = encode_utf8_all h.word in
      let r : List ℕ = encode_utf8_all h.rest in
      let split : drop p s.text ≡ w ++ r = sym (encodes-chars (drop p s.text) (IsUtf8-drop s.text p utf8 b)) ∙ ap encode_utf8_all h.is_at.cut ∙ encodes-append h.word h.rest in
      let len : t.len ≡ length w = h.len in
      let bytes : token_text s.text t ≡ w = ap (λ n. take t.len (drop n s.text)) o ∙ ap (λ x. take t.len x) split ∙ ap (λ n. take n (w ++ r)) len ∙ take-append_seam w r in
      let after : drop (t.offset + t.len) s.text ≡ r = ap (λ n. drop (n + t.len) s.text) o ∙ sym (drop-drop t.len p s.text) ∙ ap (λ x. drop t.len x) split ∙ ap (λ n. drop n (w ++ r)) len ∙ drop-append_seam w r in
      let cut : take ((p + t.len) - p) (drop p s.text) ≡ token_text s.text t = ap (λ n. take n (drop p s.text)) (let k : (p + t.len) - p ≡ t.len = omega arith in k) ∙ ap (λ n. take t.len (drop n s.text)) (sym o) in
      let u : IsUtf8 (token_text s.text t) = subst IsUtf8 cut (IsUtf8-between s.text p (p + t.len) utf8 (omega arith) b end') in
      let word : h.word ≡ chars (token_text s.text t) = chars_from_encodes h.word (token_text s.text t) u (sym bytes) in
      let rest : h.rest ≡ chars (joined (pieces s.text ts)) = chars_from_encodes h.rest (drop (t.offset + t.len) s.text) (IsUtf8-drop s.text (t.offset + t.len) utf8 end) (sym after) ∙ ap chars (sym ih.whole) in
      record {
        whole = ap (λ x. x ++ joined (pieces s.text ts)) bytes ∙ ap (λ x. w ++ x) (ih.whole ∙ after) ∙ sym split;
        legal = (
          record {
            utf8 = u;
            word = subst (λ x. Word t.kind x s.flags) word h.is_at.word;
            ends = subst (λ x. MayFollow t.kind x (chars (joined (pieces s.text ts)))) word (subst (λ x. MayFollow t.kind h.word x) rest h.is_at.ends);
          },
          ih.legal,
        );
      }

  pub cut_text : (p to : ℕ) (ts : List Token) → IsCharBoundary s.text p → Tiling s p to ts → to ≡ length s.text → Cut s p ts
  cut_text p to [] b h e = record { whole = sym (ap (λ n. drop n s.text) (h ∙ e) ∙ drop-length s.text); legal = tt }
  cut_text p to (t ∷ ts) b h e = cut_one p t ts b h.0 (cut_text (t.offset + t.len) to ts (bounds s p t utf8 b h.0) h.1 e)

-- The tokens of pieces from an offset on.
abbrev pub placed : ℕ → List Piece → List Token
placed p [] = []
placed p (q ∷ qs) = record { offset = p; len = length q.1; kind = q.0 } ∷ placed (p + length q.1) qs

module _ (s : Setting) where
  pub drop_piece : (p : ℕ) (q : Piece) (qs : List Piece) → drop p s.text ≡ joined (q ∷ qs) → drop (p + length q.1) s.text ≡ joined qs
  drop_piece p q qs e = sym (drop-drop (length q.1) p s.text) ∙ ap (λ x. drop (length q.1) x) e ∙ drop-append_seam q.1 (joined qs)

  pub placed_tiling : (p : ℕ) (qs : List Piece) → AllLegal s.flags qs → drop p s.text ≡ joined qs → p + length (joined qs) ≡ length s.text → Tiling s p (length s.text) (placed p qs)
  placed_tiling p [] h e l = omega arith
  placed_tiling p (q ∷ qs) h e l =
      let u = utf8_joined s.flags qs h.1 in
      let n : length (q.1 ++ joined qs) ≡ length q.1 + length (joined qs) = length-append q.1 (joined qs) in (
        record {
          offset = refl;
          word = chars q.1;
          rest = chars (joined qs);
          is_at = record { cut = ap chars e ∙ chars_append q.1 (joined qs) h.0.utf8 u; word = h.0.word; ends = h.0.ends };
          len = ap length (sym (encodes-chars q.1 h.0.utf8));
        },
        placed_tiling (p + length q.1) qs h.1 (drop_piece p q qs e) (omega arith),
      )

  pub pieces_placed : (p : ℕ) (qs : List Piece) → drop p s.text ≡ joined qs → pieces s.text (placed p qs) ≡ qs
  pieces_placed p [] e = refl
  pieces_placed p (q ∷ qs) e =
      let first : take (length q.1) (drop p s.text) ≡ q.1 = ap (λ x. take (length q.1) x) e ∙ take-append_seam q.1 (joined qs) in
      ap (λ x. (q.0, x) ∷ pieces s.text (placed (p + length q.1) qs)) first ∙ ap (λ x. q ∷ x) (pieces_placed (p + length q.1) qs (drop_piece p q qs e))
