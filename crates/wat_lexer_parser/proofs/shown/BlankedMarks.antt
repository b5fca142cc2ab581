-- A text with whitespace over a comment: outside the comment it has the same bytes, so the other parentheses are
-- followed by `@` as before.
use lib.Utf8.{encode, encodes}
use Rattle.std.proofs.Common.{◌≡◌, ◌≢◌, ◌≤◌, ◌<◌, ◌+◌, ◌-◌, ℕ, zero, suc, List, [], ◌∷◌, ◌++◌, length, take, drop, refl, arith, ap, sym, ◌∙◌, subst, append_assoc, length-append, length-drop}
use Rattle.std.specs.Prelude.{slice_get}
use Rattle.std.proofs.lemmas.List.{take-append-drop, drop-append-le, drop-drop, length-take-le}
use Rattle.std.proofs.Math.Seq.{drop-append-add}
use Rattle.std.proofs.lemmas.Str.{length-encode, len_utf8_bounds}
use Rattle.wat_lex.specs.grammar.Classes.{size}
use Rattle.wat_lex.specs.grammar.Runs.{Piece, Run, none, idchar, string}
use Rattle.wat_lex.specs.grammar.Words.{Word}
use Rattle.wat_lex.specs.tokens.Blanking.{AreBlanksOf, overwritten}
use Rattle.wat_lex.specs.tokens.Setting.{Setting}
use Rattle.wat_lex.specs.tokens.Tiling.{TokenAt}
use Rattle.wat_lex.specs.declared.lexer.settings.Settings.{Settings}
use Rattle.wat_lex.specs.declared.lexer.kinds.Token.{Token}
use Rattle.wat_lex.specs.declared.lexer.kinds.TokenKind.TheVariants.{Annotation}
use Rattle.wat_lex.specs.tokens.Blanks.{is_marked}
use Rattle.wat_lexer_parser.specs.lemmas.Parts.{is_mark}

-- An element is the first of those from its index on.
from_there : (xs : List ℕ) (i : ℕ) → slice_get xs i ≡ slice_get (drop i xs) 0
from_there [] zero = refl
from_there [] (suc i) = refl
from_there (x ∷ xs) zero = refl
from_there (x ∷ xs) (suc i) = from_there xs i

first_of : (m x y : List ℕ) → 0 < length m → slice_get (m ++ x) 0 ≡ slice_get (m ++ y) 0
first_of [] x y l = absurd (omega arith)
first_of (c ∷ m) x y l = refl

module _ (text : List ℕ) (t : Token) (white : List ℕ) (fits : t.offset + t.len ≤ length text) (blanks : AreBlanksOf t white) where
  byte_after : (i : ℕ) → t.offset + t.len ≤ i → slice_get (overwritten text t white) i ≡ slice_get text i
  byte_after i l =
      let prefix = take t.offset text ++ white in
      let some = blanks.long in
      let n = i - (t.offset + t.len) in
      let long : length prefix ≡ t.offset + t.len = omega (arith, fits, some, length-append (take t.offset text) white, length-take-le t.offset text (omega (arith, fits))) in
      let k : i ≡ length prefix + n = omega (arith, long, l) in
      let m : (t.offset + t.len) + n ≡ i = omega (arith, l) in
      let same : drop i (overwritten text t white) ≡ drop i text =
      ap (λ x. drop x (overwritten text t white)) k ∙ drop-append-add prefix (drop (t.offset + t.len) text) n ∙ drop-drop n (t.offset + t.len) text ∙ ap (λ x. drop x text) m in
      from_there (overwritten text t white) i ∙ ap (λ x. slice_get x 0) same ∙ sym (from_there text i)

  byte_before : (i : ℕ) → i < t.offset → slice_get (overwritten text t white) i ≡ slice_get text i
  byte_before i l =
      let prefix = take t.offset text in
      let rest = drop (t.offset + t.len) text in
      let long = length-take-le t.offset text (omega (arith, fits)) in
      let m = drop i prefix in
      let some : 0 < length m = omega (arith, l, long, length-drop i prefix) in
      let now : drop i (overwritten text t white) ≡ m ++ (white ++ rest) = ap (drop i) (append_assoc prefix white rest) ∙ drop-append-le i prefix (white ++ rest) (omega (arith, l, long)) in
      let was : drop i text ≡ m ++ drop t.offset text = ap (drop i) (sym (take-append-drop t.offset text)) ∙ drop-append-le i prefix (drop t.offset text) (omega (arith, l, long)) in
      from_there (overwritten text t white) i ∙ ap (λ x. slice_get x 0) now ∙ first_of m (white ++ rest) (drop t.offset text) some ∙ sym (ap (λ x. slice_get x 0) was) ∙ sym (from_there text i)

  pub mark_after : (u : Token) → t.offset + t.len ≤ u.offset → is_marked (overwritten text t white) u ≡ is_marked text u
  mark_after u l = ap is_mark (byte_after (u.offset + 1) (omega (arith, l)))

  pub mark_before : (u : Token) → u.offset + 1 < t.offset → is_marked (overwritten text t white) u ≡ is_marked text u
  mark_before u l = ap is_mark (byte_before (u.offset + 1) l)

run_some : (flags : Settings) (w : List ℕ) (ps : List Piece) → ps ≢ [] → Run flags w ps [] → w ≢ []
run_some flags w ps n none e = n refl
run_some flags w ps n (idchar i h) e = cc
run_some flags w ps n (string q h) e = cc

size_some : (w : List ℕ) → w ≢ [] → 0 < size w
size_some [] h = absurd (h refl)
size_some (c ∷ w) h = omega (arith, length-append (encode c) (encodes w), length-encode c, (len_utf8_bounds c).0)

-- An annotation is not empty.
pub annotation_some : (s : Setting) (p : ℕ) (t : Token) → TokenAt s p t → t.kind ≡ Annotation → 0 < t.len
annotation_some s p t h e =
    let w = subst (λ k. Word k h.word s.flags) e h.is_at.word in
    omega (arith, h.len, size_some h.word (run_some s.flags h.word w.0 w.1 w.2))
