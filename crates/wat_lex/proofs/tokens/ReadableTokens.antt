-- The tokens of a text, as their readers see them.
use Rattle.std.proofs.Common.{◌≡◌, ◌-◌, ℕ, List, take, drop, refl, arith, ap, sym, ◌∙◌, subst}
use Rattle.std.specs.Prelude.{slice_range}
use Rattle.std.proofs.lemmas.List.{take_at}
use Rattle.std.proofs.lemmas.Str.{chars-encodes, IsUtf8-drop, IsCharBoundary-at_seam}
use Rattle.std.specs.Str.{chars, IsUtf8, IsCharBoundary}
use lib.Utf8.{encodes}
use Rattle.wat_lex.specs.tokens.ReadableTokens.{IsTokenOf, token_text}
use Rattle.wat_lex.specs.tokens.Setting.{Setting, lenient}
use Rattle.wat_lex.specs.tokens.Tiling.{TokenAt}
use Rattle.wat_lex.specs.grammar.Words.{Word}
use Rattle.wat_lex.specs.declared.lexer.kinds.Token.{Token}
use Rattle.wat_lex.proofs.inside.CheckedComments.{Halves, halves}
use Rattle.wat_lex.proofs.grammar.Looser.{word_looser, lenient_looser}

-- a token that a lexer finds at a boundary is a token of the text
pub token_of : (s : Setting) (p : ℕ) (t : Token) → IsCharBoundary s.text p → TokenAt s p t → IsTokenOf s.text t
token_of s p t b h = record {
  boundary = subst (IsCharBoundary s.text) (sym h.offset) b;
  word = h.word;
  rest = h.rest;
  cut = ap (λ x. chars (drop x s.text)) h.offset ∙ h.is_at.cut;
  is = word_looser t.kind h.word s.flags lenient (lenient_looser s.flags) h.is_at.word;
  len = h.len;
}

parts : (text : List ℕ) (t : Token) → IsUtf8 text → (h : IsTokenOf text t) → Halves (drop t.offset text) h.word h.rest
parts text t u h = halves (drop t.offset text) h.word h.rest (IsUtf8-drop text t.offset u h.boundary) h.cut

pub token_ends : (text : List ℕ) (t : Token) → IsUtf8 text → IsTokenOf text t → IsCharBoundary (drop t.offset text) t.len
token_ends text t u h =
    let p = parts text t u h in
    subst (IsCharBoundary (drop t.offset text)) (sym h.len) (IsCharBoundary-at_seam (drop t.offset text) (encodes h.word) (encodes h.rest) p.bytes (h.rest, (p.right, refl)))

-- the token's bytes are its word
pub token_chars : (text : List ℕ) (t : Token) → IsUtf8 text → (h : IsTokenOf text t) → chars (token_text text t) ≡ h.word
token_chars text t u h =
    let p = parts text t u h in
    ap (λ x. chars (take t.len x)) p.bytes ∙ ap chars (take_at (encodes h.word) (encodes h.rest) t.len (sym h.len)) ∙ chars-encodes h.word p.left

pub token_word : (text : List ℕ) (t : Token) → IsUtf8 text → IsTokenOf text t → Word t.kind (chars (token_text text t)) lenient
token_word text t u h = subst (λ w. Word t.kind w lenient) (sym (token_chars text t u h)) h.is

-- what is cut from the start
pub prefix_is : (text : List ℕ) (n : ℕ) (r : List ℕ) → r ≡ slice_range text 0 n → r ≡ take n text
prefix_is text n r e = let k : n - 0 ≡ n = omega arith in e ∙ ap (λ x. take x text) k
