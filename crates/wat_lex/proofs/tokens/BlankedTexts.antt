-- A text with white bytes over those of a token: its bytes and its characters before the token, over it, and after it.
use Rattle.std.proofs.Common.{◌≡◌, ◌≤◌, ◌<◌, ◌+◌, ◌-◌, ℕ, zero, suc, List, [], ◌∷◌, ◌++◌, length, take, drop, refl, arith, ap, sym, ◌∙◌, append_assoc, length-append, length-drop}
use Rattle.std.specs.Prelude.{IsTrue}
use Rattle.std.specs.Str.{chars, IsAscii, IsUtf8, IsCharBoundary}
use Rattle.std.proofs.lemmas.List.{take-append-drop, drop-append-le, drop-drop, length-take-le, take-append-le}
use Rattle.std.proofs.Math.Seq.{drop-append-add}
use Rattle.std.proofs.lemmas.Str.{chars-append, chars-IsAscii, encodes-chars, encodes-IsAscii, IsUtf8-append, IsUtf8-from_ascii, IsUtf8-take, IsUtf8-drop}
use Rattle.wat_lex.specs.grammar.Classes.{size, Each, is_whitespace}
use Rattle.wat_lex.specs.tokens.Blanking.{AreBlanksOf, overwritten}
use Rattle.wat_lex.specs.tokens.ReadableTokens.{token_text}
use Rattle.wat_lex.specs.declared.lexer.kinds.Token.{Token}
use Rattle.wat_lex.proofs.inside.LineComments.{whitespace_ascii}
use Rattle.wat_lex.proofs.tokens.CutTexts.{prefix_utf8}

white_ascii : (w : List ℕ) → Each is_whitespace w → IsAscii w
white_ascii [] h i = omega arith
white_ascii (c ∷ w) h zero = whitespace_ascii c h.0
white_ascii (c ∷ w) h (suc i) = white_ascii w h.1 i

pub white_size : (w : List ℕ) → Each is_whitespace w → size w ≡ length w
white_size w h = ap length (encodes-IsAscii w (white_ascii w h))

-- the first of some white bytes
pub first_white : (w r : List ℕ) → Each is_whitespace w → 0 < length w → (c : ℕ) × (t : List ℕ) × (w ++ r ≡ c ∷ t) × IsTrue (is_whitespace c)
first_white [] r h l = absurd (omega arith)
first_white (c ∷ w) r h l = (c, w ++ r, refl, h.0)

-- a text without characters has no bytes
pub no_characters : (bs : List ℕ) → IsUtf8 bs → chars bs ≡ [] → length bs ≡ 0
no_characters bs u e = ap length (sym (encodes-chars bs u)) ∙ ap size e

module _ (text : List ℕ) (t : Token) (fits : t.offset + t.len ≤ length text) where
  pub drop_text : (q : ℕ) → q ≤ t.offset → drop q text ≡ drop q (take t.offset text) ++ drop t.offset text
  drop_text q l =
      ap (drop q) (sym (take-append-drop t.offset text))
      ∙ drop-append-le q (take t.offset text) (drop t.offset text) (omega (arith, l, fits, length-take-le t.offset text (omega (arith, fits))))

  module _ (utf8 : IsUtf8 text) (first : IsCharBoundary text t.offset) where
    pub chars_text : (q : ℕ) → IsCharBoundary text q → q ≤ t.offset → chars (drop q text) ≡ chars (drop q (take t.offset text)) ++ chars (drop t.offset text)
    chars_text q b l = ap chars (drop_text q l) ∙ chars-append (drop q (take t.offset text)) (drop t.offset text) (prefix_utf8 text t.offset q utf8 first b l)

    pub size_before : (q : ℕ) → IsCharBoundary text q → q ≤ t.offset → size (chars (drop q (take t.offset text))) ≡ t.offset - q
    size_before q b l =
        ap length (encodes-chars (drop q (take t.offset text)) (prefix_utf8 text t.offset q utf8 first b l)) ∙ length-drop q (take t.offset text)
        ∙ ap (λ x. x - q) (length-take-le t.offset text first.0)

module _ (text : List ℕ) (t : Token) (white : List ℕ) (fits : t.offset + t.len ≤ length text) (blanks : AreBlanksOf t white) where
  prefix_length : length (take t.offset text ++ white) ≡ t.offset + t.len
  prefix_length = let n = blanks.long in omega (arith, n, length-append (take t.offset text) white, length-take-le t.offset text (omega (arith, fits)))

  pub blanked_length : length (overwritten text t white) ≡ length text
  blanked_length = omega (arith, fits, prefix_length, length-append (take t.offset text ++ white) (drop (t.offset + t.len) text), length-drop (t.offset + t.len) text)

  -- after the token nothing changes
  pub drop_after : (q : ℕ) → t.offset + t.len ≤ q → drop q (overwritten text t white) ≡ drop q text
  drop_after q l =
      let prefix = take t.offset text ++ white in
      let n = q - (t.offset + t.len) in
      let k : q ≡ length prefix + n = omega (arith, prefix_length, l) in
      let m : (t.offset + t.len) + n ≡ q = omega (arith, l) in
      ap (λ x. drop x (overwritten text t white)) k ∙ drop-append-add prefix (drop (t.offset + t.len) text) n ∙ drop-drop n (t.offset + t.len) text ∙ ap (λ x. drop x text) m

  -- before the token, the text up to it, and what follows there
  drop_before : (q : ℕ) → q ≤ t.offset → drop q (overwritten text t white) ≡ drop q (take t.offset text) ++ (white ++ drop (t.offset + t.len) text)
  drop_before q l =
      ap (drop q) (append_assoc (take t.offset text) white (drop (t.offset + t.len) text))
      ∙ drop-append-le q (take t.offset text) (white ++ drop (t.offset + t.len) text) (omega (arith, l, fits, length-take-le t.offset text (omega (arith, fits))))

  -- another token has the same text, before it or after it
  pub text_after : (u : Token) → t.offset + t.len ≤ u.offset → token_text (overwritten text t white) u ≡ token_text text u
  text_after u l = ap (take u.len) (drop_after u.offset l)

  pub text_before : (u : Token) → u.offset + u.len ≤ t.offset → token_text (overwritten text t white) u ≡ token_text text u
  text_before u l =
      let m = drop u.offset (take t.offset text) in
      let k : u.len ≤ length m = omega (arith, l, fits, length-take-le t.offset text (omega (arith, fits)), length-drop u.offset (take t.offset text)) in
      ap (take u.len) (drop_before u.offset (omega (arith, l))) ∙ take-append-le u.len m (white ++ drop (t.offset + t.len) text) k
      ∙ sym (ap (take u.len) (drop_text text t fits u.offset (omega (arith, l))) ∙ take-append-le u.len m (drop t.offset text) k)

  module _ (utf8 : IsUtf8 text) (first : IsCharBoundary text t.offset) (last : IsCharBoundary text (t.offset + t.len)) where
    ascii : IsAscii white
    ascii = white_ascii white blanks.blank

    pub blanked_utf8 : IsUtf8 (overwritten text t white)
    blanked_utf8 =
        IsUtf8-append (take t.offset text ++ white) (drop (t.offset + t.len) text)
        (IsUtf8-append (take t.offset text) white (IsUtf8-take text t.offset utf8 first) (IsUtf8-from_ascii white ascii))
        (IsUtf8-drop text (t.offset + t.len) utf8 last)

    pub chars_blanked : (q : ℕ) → IsCharBoundary text q → q ≤ t.offset → chars (drop q (overwritten text t white)) ≡ chars (drop q (take t.offset text)) ++ (white ++ chars (drop (t.offset + t.len) text))
    chars_blanked q b l =
        let m = drop q (take t.offset text) in
        let after = drop (t.offset + t.len) text in
        ap chars (drop_before q l) ∙ chars-append m (white ++ after) (prefix_utf8 text t.offset q utf8 first b l)
        ∙ ap (λ x. chars m ++ x) (chars-append white after (IsUtf8-from_ascii white ascii) ∙ ap (λ x. x ++ chars after) (chars-IsAscii white ascii))
