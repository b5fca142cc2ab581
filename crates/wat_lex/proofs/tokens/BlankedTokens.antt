-- The tokens of a text with white bytes over a comment: those before it and after it are as they were, and one white
-- space token
-- is between them.
use Rattle.std.proofs.Common.{◌≡◌, ◌≢◌, ◌≤◌, ◌<◌, ◌+◌, ℕ, List, [], ◌∷◌, ◌++◌, take, drop, refl, arith, ap, sym, ◌∙◌, subst, append_assoc, length-drop, inl, inr, Bool, true, ◌||◌}
use Rattle.std.specs.Prelude.{Option, Some, None, ◌==◌, IsTrue}
use Rattle.std.specs.Str.{chars, IsUtf8, IsCharBoundary}
use Rattle.std.proofs.lemmas.Bool.{both_ways, or_cases, eqb-true}
use Rattle.std.proofs.lemmas.List.{append_cancel_right, length-take-le}
use Rattle.wat_lex.specs.grammar.Classes.{Begins, is_whitespace, is_line_end, open_paren, semicolon}
use Rattle.wat_lex.specs.grammar.Comments.{BlockComment as Commented, opened, LineComment as CommentedLine, begun}
use Rattle.wat_lex.specs.grammar.Words.{Word, MayFollow, WordIsAt}
use Rattle.wat_lex.specs.tokens.Blanking.{AreBlanksOf, overwritten, with_other_text}
use Rattle.wat_lex.specs.tokens.Faults.{IsComment, Fault}
use Rattle.wat_lex.specs.tokens.Setting.{Setting}
use Rattle.wat_lex.specs.tokens.Tiling.{TokenAt, Tiling, EndsAt}
use Rattle.wat_lex.specs.declared.lexer.settings.Settings.{Settings}
use Rattle.wat_lex.specs.declared.lexer.faults.LexFault.{LexFault}
use Rattle.wat_lex.specs.declared.lexer.kinds.Token.{Token}
use Rattle.wat_lex.specs.declared.lexer.kinds.TokenKind.{TokenKind}
use Rattle.wat_lex.specs.declared.lexer.kinds.TokenKind.TheVariants.{LineComment, BlockComment, Whitespace, LParen, RParen, String, Id, Keyword, Annotation, Reserved, Integer, Float}
use Rattle.wat_lex.proofs.grammar.OneWord.{whitespace_no_run}
use Rattle.wat_lex.proofs.tokens.BlankedTexts.{first_white, no_characters, drop_after, blanked_length, chars_blanked, chars_text}
use Rattle.wat_lex.proofs.tokens.CutTexts.{token_rest, prefix_utf8}
use Rattle.wat_lex.proofs.tokens.OneStringFault.{set_apart}
use Rattle.wat_lex.proofs.tokens.RawLaws.{after}

-- a comment begins with one of these
pub opens_comment : ℕ → Bool
opens_comment c = c == open_paren || c == semicolon

line_opens : (w r : List ℕ) → CommentedLine w → Begins opens_comment (w ++ r)
unfolding opens_comment
line_opens w r (begun h) = refl

block_opens : (w r q : List ℕ) → Commented w q → Begins opens_comment (w ++ r)
unfolding opens_comment
block_opens w r q (opened h) = refl

pub comment_opens : (k : TokenKind) (w r : List ℕ) (flags : Settings) → IsComment k → Word k w flags → Begins opens_comment (w ++ r)
comment_opens k w r flags (inl e) h = line_opens w r (subst (λ x. Word x w flags) e h).0
comment_opens k w r flags (inr e) h = block_opens w r [] (subst (λ x. Word x w flags) e h).0

-- a line comment does not end where another comment begins
no_line_before : (x : List ℕ) → Begins opens_comment x → MayFollow LineComment [] x → ⊥
unfolding opens_comment
no_line_before [] o h = o
no_line_before (c ∷ x) o (inl e) = cc
no_line_before (c ∷ x) o (inr e) =
    elim (or_cases (c == open_paren) (c == semicolon) o) [
      | inl k ↦ both_ways (is_line_end c) (ap is_line_end (eqb-true c open_paren k)) e
      | inr k ↦ both_ways (is_line_end c) (ap is_line_end (eqb-true c semicolon k)) e
    ]

white_no_semicolon : (c : ℕ) → is_whitespace c ≡ true → (c == semicolon) ≡ true → ⊥
white_no_semicolon c = set_apart (λ d. d == semicolon) (32 ∷ 10 ∷ 13 ∷ 9 ∷ []) c (refl, (refl, (refl, (refl, tt))))

-- Every token except whitespace that a comment may follow, whitespace may follow.
follows_white : (k : TokenKind) (w x : List ℕ) (c : ℕ) (t : List ℕ) → IsTrue (is_whitespace c) → k ≢ Whitespace → Begins opens_comment x → MayFollow k w x → MayFollow k w (c ∷ t)
follows_white Whitespace w x c t i n o h = absurd (n refl)
follows_white LineComment w x c t i n o h = absurd (no_line_before x o h)
follows_white BlockComment w x c t i n o h = tt
follows_white LParen w x c t i n o h = λ b. white_no_semicolon c i b
follows_white RParen w x c t i n o h = tt
follows_white Reserved w x c t i n o h = (λ e b. white_no_semicolon c i b, λ m b. whitespace_no_run c i b)
follows_white String w x c t i n o h = λ b. whitespace_no_run c i b
follows_white Id w x c t i n o h = λ b. whitespace_no_run c i b
follows_white Keyword w x c t i n o h = λ b. whitespace_no_run c i b
follows_white Annotation w x c t i n o h = λ b. whitespace_no_run c i b
follows_white (Integer k) w x c t i n o h = λ b. whitespace_no_run c i b
follows_white (Float k) w x c t i n o h = λ b. whitespace_no_run c i b

-- What may follow is known by the first character.
follows_first : (k : TokenKind) (w : List ℕ) (d : ℕ) (m x y : List ℕ) → MayFollow k w (d ∷ m ++ x) → MayFollow k w (d ∷ m ++ y)
follows_first Whitespace w d m x y h = h
follows_first LineComment w d m x y (inl e) = cc
follows_first LineComment w d m x y (inr e) = inr e
follows_first BlockComment w d m x y h = h
follows_first LParen w d m x y h = h
follows_first RParen w d m x y h = h
follows_first Reserved w d m x y h = h
follows_first String w d m x y h = h
follows_first Id w d m x y h = h
follows_first Keyword w d m x y h = h
follows_first Annotation w d m x y h = h
follows_first (Integer k) w d m x y h = h
follows_first (Float k) w d m x y h = h

follows_blanks : (k : TokenKind) (w m x : List ℕ) (c : ℕ) (t : List ℕ) → IsTrue (is_whitespace c) → (m ≡ [] → k ≢ Whitespace) → Begins opens_comment x → MayFollow k w (m ++ x) → MayFollow k w (m ++ c ∷ t)
follows_blanks k w [] x c t i n o h = follows_white k w x c t i (n refl) o h
follows_blanks k w (d ∷ m) x c t i n o h = follows_first k w d m x (c ∷ t) h

-- the text with these bytes over the comment, with the flags
abbrev pub over : Setting → Token → List ℕ → Setting
over s c white = with_other_text s (overwritten s.text c white)

-- A comment of a text, and whitespace bytes of its length.
pub record CommentIn (s : Setting) (c : Token) (white : List ℕ) : Type 0 where
  pub utf8 : IsUtf8 s.text
  pub first : IsCharBoundary s.text c.offset
  pub last : IsCharBoundary s.text (c.offset + c.len)
  pub opens : Begins opens_comment (chars (drop c.offset s.text))
  pub some : 0 < c.len
  pub blanks : AreBlanksOf c white

-- a token before the comment is as it was, unless it is white space directly before it
pub token_before : (s : Setting) (c : Token) (white : List ℕ) (q : ℕ) (t : Token) → CommentIn s c white → IsCharBoundary s.text q → TokenAt s q t → t.offset + t.len ≤ c.offset → (t.offset + t.len ≡ c.offset → t.kind ≢ Whitespace) → TokenAt (over s c white) q t
token_before s c white q t here b h l n =
    let p = t.offset + t.len in
    let fits = here.last.0 in
    let o = h.offset in
    let m = chars (drop p (take c.offset s.text)) in
    let x = chars (drop c.offset s.text) in
    let long = here.blanks.long in
    let some = here.some in
    let y = first_white white (chars (drop (c.offset + c.len) s.text)) here.blanks.blank (omega (arith, long, some)) in
    let pb = after s q t here.utf8 b h in
    let was = chars_text s.text c fits here.utf8 here.first q b (omega (arith, l, o)) in
    let rest : h.rest ≡ m ++ x = sym (token_rest s q t here.utf8 b h) ∙ chars_text s.text c fits here.utf8 here.first p pb l in
    let word : chars (drop q (take c.offset s.text)) ≡ h.word ++ m =
    append_cancel_right (chars (drop q (take c.offset s.text))) (h.word ++ m) x (sym was ∙ h.is_at.cut ∙ ap (λ z. h.word ++ z) rest ∙ sym (append_assoc h.word m x)) in
    let gone : m ≡ [] → p ≡ c.offset = λ e.
    let z = no_characters (drop p (take c.offset s.text)) (prefix_utf8 s.text c.offset p here.utf8 here.first pb l) e in
    omega (arith, z, l, fits, length-drop p (take c.offset s.text), length-take-le c.offset s.text here.first.0) in
    record {
      offset = h.offset;
      word = h.word;
      rest = m ++ y.0 ∷ y.1;
      is_at = record {
        cut = chars_blanked s.text c white fits here.blanks here.utf8 here.first here.last q b (omega (arith, l, o)) ∙ ap (λ z. chars (drop q (take c.offset s.text)) ++ z) y.2 ∙ ap (λ z. z ++ y.0 ∷ y.1) word ∙ append_assoc h.word m (y.0 ∷ y.1);
        word = h.is_at.word;
        ends = follows_blanks t.kind h.word m x y.0 y.1 y.3 (λ e. n (gone e)) here.opens (subst (MayFollow t.kind h.word) rest h.is_at.ends);
      };
      len = h.len;
    }

-- what comes after the comment is there as it was
pub token_after : (s : Setting) (c : Token) (white : List ℕ) (q : ℕ) (t : Token) → CommentIn s c white → c.offset + c.len ≤ q → TokenAt s q t → TokenAt (over s c white) q t
token_after s c white q t here l h = record {
  offset = h.offset;
  word = h.word;
  rest = h.rest;
  is_at = subst (λ x. WordIsAt s.flags (chars x) t.kind h.word h.rest) (sym (drop_after s.text c white here.last.0 here.blanks q l)) h.is_at;
  len = h.len;
}

pub tiling_after : (s : Setting) (c : Token) (white : List ℕ) (q to : ℕ) (ts : List Token) → CommentIn s c white → c.offset + c.len ≤ q → Tiling s q to ts → Tiling (over s c white) q to ts
tiling_after s c white q to [] here l h = h
tiling_after s c white q to (t ∷ ts) here l h =
    let o = h.0.offset in
    (token_after s c white q t here l h.0, tiling_after s c white (t.offset + t.len) to ts here (omega (arith, o, l)) h.1)

pub ending_after : (s : Setting) (c : Token) (white : List ℕ) (q : ℕ) (e : Option LexFault) → CommentIn s c white → c.offset + c.len ≤ q → EndsAt s q e → EndsAt (over s c white) q e
ending_after s c white q None here l h = h ∙ sym (blanked_length s.text c white here.last.0 here.blanks)
ending_after s c white q (Some f) here l h = record {
  at = h.at;
  fault = subst (λ x. Fault s.flags (chars x) f.error h.at) (sym (drop_after s.text c white here.last.0 here.blanks q l)) h.fault;
  place = h.place ∙ sym (blanked_length s.text c white here.last.0 here.blanks);
}
