-- The raw tokens of a text with white bytes over a comment.
use Rattle.std.proofs.Common.{◌≡◌, ◌≢◌, ◌≤◌, ◌<◌, ◌+◌, ◌-◌, ◌⊎◌, ℕ, zero, suc, List, [], ◌∷◌, ◌++◌, length, get_or, take, drop, refl, arith, ap, sym, ◌∙◌, subst, append_assoc, inl, inr}
use Rattle.std.specs.Prelude.{Option, Some, None}
use Rattle.std.specs.List.{All}
use Rattle.std.specs.Str.{chars, IsUtf8, IsCharBoundary}
use Rattle.std.proofs.lemmas.List.{append_cancel_right, length-take-le}
use Rattle.std.proofs.lemmas.List.Elements.{All-nil, All-cons}
use Rattle.wat_lex.specs.grammar.Classes.{size, Each, Begins, is_whitespace}
use Rattle.wat_lex.specs.grammar.Words.{Word, MayFollow, WordIsAt}
use Rattle.wat_lex.specs.tokens.Blanking.{AreBlanksOf, overwritten, AtMostOneSpace, Spaced, IsRawComment, BlanksAreSpace, BlanksAreText}
use Rattle.wat_lex.specs.tokens.Faults.{IsComment}
use Rattle.wat_lex.specs.tokens.ReadableTokens.{token_text}
use Rattle.wat_lex.specs.tokens.Setting.{Setting}
use Rattle.wat_lex.specs.tokens.Tiling.{TokenAt, Tiling, EndsAt}
use Rattle.wat_lex.specs.declared.lexer.faults.LexFault.{LexFault}
use Rattle.wat_lex.specs.declared.lexer.kinds.Token.{Token}
use Rattle.wat_lex.specs.declared.lexer.kinds.TokenKind.{TokenKind}
use Rattle.wat_lex.specs.declared.lexer.kinds.TokenKind.TheVariants.{LineComment, BlockComment, Whitespace, LParen, RParen, String, Id, Keyword, Annotation, Reserved, Integer, Float}
use Rattle.wat_lex.specs.declared.lexer.settings.Settings.{Settings}
use Rattle.wat_lex.proofs.grammar.OneWord.{is_at_unique}
use Rattle.wat_lex.proofs.inside.Confusing.{size-append}
use Rattle.wat_lex.proofs.tokens.BlankedTexts.{white_size, chars_blanked, chars_text, size_before, text_before, text_after, blanked_length, blanked_utf8}
use Rattle.wat_lex.proofs.tokens.BlankedTokens.{over, CommentIn, opens_comment, comment_opens, token_before, tiling_after, ending_after}
use Rattle.wat_lex.proofs.tokens.CutTexts.{token_rest}
use Rattle.wat_lex.proofs.tokens.OneFault.{no_word_at_fault}
use Rattle.wat_lex.proofs.tokens.OneTilings.{nothing_left}
use Rattle.wat_lex.proofs.tokens.RawLaws.{after, token_some}
use Rattle.wat_lex.proofs.tokens.SomeAnswer.{span}

-- where white space begins, a word of white space is
white_word : (flags : Settings) (text : List ℕ) → Begins is_whitespace text → (w r : List ℕ) × WordIsAt flags text Whitespace w r
white_word flags [] b = absurd b
white_word flags (c ∷ t) b =
    let k = span is_whitespace t in
    (c ∷ k.prefix, k.rest, record { cut = ap (λ x. c ∷ x) k.cut; word = (λ e. cc, (b, k.passes)); ends = k.stops })

no_white_token : (s : Setting) (p : ℕ) (t : Token) → TokenAt s p t → t.kind ≢ Whitespace → Begins is_whitespace (chars (drop p s.text)) → ⊥
no_white_token s p t h n b =
    let w = white_word s.flags (chars (drop p s.text)) b in
    n (is_at_unique s.flags (chars (drop p s.text)) t.kind Whitespace h.word w.0 h.rest w.1 h.is_at w.2).0

no_white_ending : (s : Setting) (p : ℕ) (e : Option LexFault) → EndsAt s p e → Begins is_whitespace (chars (drop p s.text)) → ⊥
no_white_ending s p None h b = subst (Begins is_whitespace) (nothing_left s.text p h) b
no_white_ending s p (Some f) h b =
    let w = white_word s.flags (chars (drop p s.text)) b in
    no_word_at_fault s.flags (chars (drop p s.text)) Whitespace w.0 w.1 f.error h.at w.2 h.fault

white_or_not : (k : TokenKind) → (k ≡ Whitespace) ⊎ (k ≢ Whitespace)
white_or_not Whitespace = inl refl
white_or_not LineComment = inr (λ e. cc)
white_or_not BlockComment = inr (λ e. cc)
white_or_not LParen = inr (λ e. cc)
white_or_not RParen = inr (λ e. cc)
white_or_not String = inr (λ e. cc)
white_or_not Id = inr (λ e. cc)
white_or_not Keyword = inr (λ e. cc)
white_or_not Annotation = inr (λ e. cc)
white_or_not Reserved = inr (λ e. cc)
white_or_not (Integer k) = inr (λ e. cc)
white_or_not (Float k) = inr (λ e. cc)

each_append : (p : ℕ → _) (x y : List ℕ) → Each p x → Each p y → Each p (x ++ y)
each_append p [] y h g = g
each_append p (c ∷ x) y h g = (h.0, each_append p x y h.1 g)

-- the white space directly after the comment, and what is after that
record White (s : Setting) (from to : ℕ) (ts : List Token) : Type 0 where
  right : List Token
  rest : List Token
  cut : ts ≡ right ++ rest
  beside : AtMostOneSpace right
  word : List ℕ
  at : ℕ
  place : at ≡ from + size word
  there : chars (drop from s.text) ≡ word ++ chars (drop at s.text)
  passes : Each is_whitespace word
  stops : Begins is_whitespace (chars (drop at s.text)) → ⊥
  tiling : Tiling s at to rest

white_after : (s : Setting) (from to : ℕ) (ts : List Token) (e : Option LexFault) → IsUtf8 s.text → IsCharBoundary s.text from → Tiling s from to ts → EndsAt s to e → White s from to ts
white_after s from to [] e u b h g = record {
  right = [];
  rest = [];
  cut = refl;
  beside = tt;
  word = [];
  at = from;
  place = omega arith;
  there = refl;
  passes = tt;
  stops = no_white_ending s from e (subst (λ q. EndsAt s q e) (sym h) g);
  tiling = h;
}
white_after s from to (t ∷ ts) e u b h g =
    let o = h.0.offset in
    elim (white_or_not t.kind) [
      | inl k ↦
          let rest = token_rest s from t u b h.0 in
          let word : Word Whitespace h.0.word s.flags = subst (λ x. Word x h.0.word s.flags) k h.0.is_at.word in
          let ends : MayFollow Whitespace h.0.word h.0.rest = subst (λ x. MayFollow x h.0.word h.0.rest) k h.0.is_at.ends in
          record {
            right = t ∷ [];
            rest = ts;
            cut = refl;
            beside = k;
            word = h.0.word;
            at = t.offset + t.len;
            place = omega (arith, o, h.0.len);
            there = h.0.is_at.cut ∙ ap (λ x. h.0.word ++ x) (sym rest);
            passes = word.1;
            stops = λ b. ends (subst (Begins is_whitespace) rest b);
            tiling = h.1;
          }
      | inr n ↦ record {
        right = [];
        rest = t ∷ ts;
        cut = refl;
        beside = tt;
        word = [];
        at = from;
        place = omega arith;
        there = refl;
        passes = tt;
        stops = no_white_token s from t h.0 n;
        tiling = h;
      }
    ]

-- The whitespace token from the offset q up to the offset at, if there is only whitespace between q and the comment.
white_token : ℕ → ℕ → Token
white_token q at = record { kind = Whitespace; offset = q; len = at - q }

white_is_at : (s : Setting) (c : Token) (white : List ℕ) (q to : ℕ) (ts : List Token) → CommentIn s c white → IsCharBoundary s.text q → q ≤ c.offset → Each is_whitespace (chars (drop q (take c.offset s.text)))
    → (k : White s (c.offset + c.len) to ts) → TokenAt (over s c white) q (white_token q k.at)
unfolding white_token
white_is_at s c white q to ts here b l p k =
    let m = chars (drop q (take c.offset s.text)) in
    let r = chars (drop k.at s.text) in
    let fits = here.last.0 in
    let long : size (m ++ (white ++ k.word)) ≡ k.at - q =
    omega (arith, size-append m (white ++ k.word), size-append white k.word, white_size white here.blanks.blank, here.blanks.long, size_before s.text c fits here.utf8 here.first q b l, k.place, l) in
    record {
      offset = refl;
      word = m ++ (white ++ k.word);
      rest = r;
      is_at = record {
        cut = chars_blanked s.text c white fits here.blanks here.utf8 here.first here.last q b l ∙ ap (λ x. m ++ (white ++ x)) k.there ∙ ap (λ x. m ++ x) (sym (append_assoc white k.word r)) ∙ sym (append_assoc m (white ++ k.word) r);
        word = (λ e. let z = ap size e in let some = here.some in omega (arith, z, long, k.place, l, some), each_append is_whitespace m (white ++ k.word) p (each_append is_whitespace white k.word here.blanks.blank k.passes));
        ends = k.stops;
      };
      len = sym long;
    }

-- the raw tokens from q on, as they are in the text with white bytes
record Rejoined (s : Setting) (c : Token) (white : List ℕ) (q to : ℕ) (ts : List Token) : Type 0 where
  tokens : List Token
  spaced : Spaced s.text (overwritten s.text c white) c ts tokens
  tiling : Tiling (over s c white) q to tokens

texts_after : (s : Setting) (c : Token) (white : List ℕ) (q to : ℕ) (ts : List Token) → CommentIn s c white → c.offset + c.len ≤ q → Tiling s q to ts → All (λ t. token_text (overwritten s.text c white) t ≡ token_text s.text t) ts
texts_after s c white q to [] here l h = All-nil (λ t. token_text (overwritten s.text c white) t ≡ token_text s.text t)
texts_after s c white q to (t ∷ ts) here l h =
    let o = h.0.offset in
    All-cons (λ t. token_text (overwritten s.text c white) t ≡ token_text s.text t) t ts (text_after s.text c white here.last.0 here.blanks t (omega (arith, o, l)))
    (texts_after s c white (t.offset + t.len) to ts here (omega (arith, o, l)) h.1)

-- the comment, with the white space beside it
joined : (s : Setting) (c : Token) (white : List ℕ) (q to : ℕ) (left after ts : List Token) → CommentIn s c white → IsCharBoundary s.text q → q ≤ c.offset → Each is_whitespace (chars (drop q (take c.offset s.text))) → AtMostOneSpace left
    → (k : White s (c.offset + c.len) to after) → ts ≡ (left ++ c ∷ k.right) ++ k.rest → Rejoined s c white q to ts
unfolding white_token
joined s c white q to left after ts here b l p a k was =
    let place = k.place in
    let e : k.at ≡ q + (k.at - q) = omega (arith, place, l) in
    let past : c.offset + c.len ≤ k.at = omega (arith, place) in
    record {
      tokens = white_token q k.at ∷ k.rest;
      spaced = record {
        before = [];
        left = left;
        right = k.right;
        after = k.rest;
        white = white_token q k.at;
        was = was;
        is = refl;
        beside_left = a;
        beside_right = k.beside;
        kind = refl;
        texts_before = All-nil (λ t. token_text (overwritten s.text c white) t ≡ token_text s.text t);
        texts_after = texts_after s c white k.at to k.rest here past k.tiling;
      };
      tiling = (white_is_at s c white q to after here b l p k, subst (λ x. Tiling (over s c white) x to k.rest) e (tiling_after s c white k.at to k.rest here past k.tiling));
    }

one_more : (s : Setting) (c : Token) (white : List ℕ) (q to : ℕ) (t : Token) (ts : List Token) → CommentIn s c white → t.offset + t.len ≤ c.offset → TokenAt (over s c white) q t → Rejoined s c white (t.offset + t.len) to ts → Rejoined s c white q to (t ∷ ts)
one_more s c white q to t ts here l h r =
    let g = r.spaced in
    record {
      tokens = t ∷ r.tokens;
      spaced = record {
        before = t ∷ g.before;
        left = g.left;
        right = g.right;
        after = g.after;
        white = g.white;
        was = ap (λ x. t ∷ x) g.was;
        is = ap (λ x. t ∷ x) g.is;
        beside_left = g.beside_left;
        beside_right = g.beside_right;
        kind = g.kind;
        texts_before = All-cons (λ t. token_text (overwritten s.text c white) t ≡ token_text s.text t) t g.before (text_before s.text c white here.last.0 here.blanks t l) g.texts_before;
        texts_after = g.texts_after;
      };
      tiling = (h, r.tiling);
    }

-- The offset of the comment is at least p.
reaches : (s : Setting) (p to : ℕ) (c : Token) (b r : List Token) → Tiling s p to (b ++ c ∷ r) → p ≤ c.offset
reaches s p to c [] r h = let o = h.0.offset in omega (arith, o)
reaches s p to c (t ∷ b) r h = let o = h.0.offset in omega (arith, o, reaches s (t.offset + t.len) to c b r h.1)

module _ (s : Setting) (c : Token) (white : List ℕ) (here : CommentIn s c white) where
  at_comment : (q to : ℕ) (r : List Token) (e : Option LexFault) → IsCharBoundary s.text q → Tiling s q to (c ∷ r) → EndsAt s to e → Rejoined s c white q to (c ∷ r)
  at_comment q to r e b h g =
      let o = h.0.offset in
      let k = white_after s (c.offset + c.len) to r e here.utf8 here.last h.1 g in
      let none : chars (drop q (take c.offset s.text)) ≡ [] = nothing_left (take c.offset s.text) q (omega (arith, o, length-take-le c.offset s.text here.first.0)) in
      joined s c white q to [] r (c ∷ r) here b (omega (arith, o)) (subst (Each is_whitespace) (sym none) tt) tt k (ap (λ x. c ∷ x) k.cut)

  -- white space directly before the comment
  after_white : (q to : ℕ) (t : Token) (r : List Token) (e : Option LexFault) → IsCharBoundary s.text q → Tiling s q to (t ∷ c ∷ r) → EndsAt s to e → t.kind ≡ Whitespace → Rejoined s c white q to (t ∷ c ∷ r)
  after_white q to t r e b h g w =
      let o = h.0.offset in
      let n = h.1.0.offset in
      let x = chars (drop c.offset s.text) in
      let l : q ≤ c.offset = omega (arith, o, n) in
      let k = white_after s (c.offset + c.len) to r e here.utf8 here.last h.1.1 g in
      let rest : h.0.rest ≡ x = sym (token_rest s q t here.utf8 b h.0) ∙ ap (λ y. chars (drop y s.text)) (sym n) in
      let word : chars (drop q (take c.offset s.text)) ≡ h.0.word =
      append_cancel_right (chars (drop q (take c.offset s.text))) h.0.word x (sym (chars_text s.text c here.last.0 here.utf8 here.first q b l) ∙ h.0.is_at.cut ∙ ap (λ y. h.0.word ++ y) rest) in
      let space : Word Whitespace h.0.word s.flags = subst (λ y. Word y h.0.word s.flags) w h.0.is_at.word in
      joined s c white q to (t ∷ []) r (t ∷ c ∷ r) here b l (subst (Each is_whitespace) (sym word) space.1) w k (ap (λ y. t ∷ c ∷ y) k.cut)

  rejoined : (q to : ℕ) (b r : List Token) (e : Option LexFault) → IsCharBoundary s.text q → Tiling s q to (b ++ c ∷ r) → EndsAt s to e → Rejoined s c white q to (b ++ c ∷ r)
  rejoined q to [] r e at h g = at_comment q to r e at h g
  rejoined q to (t ∷ []) r e at h g =
      let n = h.1.0.offset in
      let next = after s q t here.utf8 at h.0 in
      elim (white_or_not t.kind) [
        | inl w ↦ after_white q to t r e at h g w
        | inr w ↦ one_more s c white q to t (c ∷ r) here (omega (arith, n)) (token_before s c white q t here at h.0 (omega (arith, n)) (λ _. w)) (at_comment (t.offset + t.len) to r e next h.1 g)
      ]
  rejoined q to (t ∷ u ∷ b) r e at h g =
      let o = h.1.0.offset in
      let some = token_some s (t.offset + t.len) u h.1.0 in
      let far = reaches s (u.offset + u.len) to c b r h.1.1 in
      let next = after s q t here.utf8 at h.0 in
      one_more s c white q to t (u ∷ b ++ c ∷ r) here (omega (arith, o, far))
      (token_before s c white q t here at h.0 (omega (arith, o, far)) (λ k. absurd (omega (arith, k, o, some, far))))
      (rejoined (t.offset + t.len) to (u ∷ b) r e next h.1 g)

-- where the comment is
found : (s : Setting) (p to : ℕ) (c : Token) (white : List ℕ) (b r : List Token) → IsUtf8 s.text → IsCharBoundary s.text p → AreBlanksOf c white → IsComment c.kind → Tiling s p to (b ++ c ∷ r) → CommentIn s c white
found s p to c white [] r u at a i h =
    let e = sym h.0.offset in
    let g = subst (λ x. TokenAt s x c) e h.0 in
    record {
      utf8 = u;
      first = subst (IsCharBoundary s.text) e at;
      last = after s p c u at h.0;
      opens = subst (Begins opens_comment) (sym g.is_at.cut) (comment_opens c.kind g.word g.rest s.flags i g.is_at.word);
      some = token_some s p c h.0;
      blanks = a;
    }
found s p to c white (t ∷ b) r u at a i h = found s (t.offset + t.len) to c white b r u (after s p t u at h.0) a i h.1

-- the tokens before an element, and those after it
split_at : (ts : List Token) (c : Token) (k : ℕ) → k < length ts → get_or ts k c ≡ c → (b r : List Token) × (ts ≡ b ++ c ∷ r)
split_at [] c k l e = absurd (omega arith)
split_at (t ∷ ts) c zero l e = ([], ts, ap (λ x. x ∷ ts) e)
split_at (t ∷ ts) c (suc k) l e = let g = split_at ts c k (omega arith) e in (t ∷ g.0, g.1, ap (λ x. t ∷ x) g.2)

forward : (s : Setting) (p to : ℕ) (ts : List Token) → Tiling s p to ts → p ≤ to
forward s p to [] h = omega (arith, h)
forward s p to (t ∷ ts) h = let o = h.0.offset in omega (arith, o, forward s (t.offset + t.len) to ts h.1)

past_comment : (s : Setting) (p to : ℕ) (c : Token) (b r : List Token) → Tiling s p to (b ++ c ∷ r) → c.offset + c.len ≤ to
past_comment s p to c [] r h = forward s (c.offset + c.len) to r h.1
past_comment s p to c (t ∷ b) r h = past_comment s (t.offset + t.len) to c b r h.1

-- where a comment among the raw tokens is
record Place (s : Setting) (p : ℕ) (c : Token) (white : List ℕ) (raw : IsRawComment s p c) : Type 0 where
  before : List Token
  after : List Token
  cut : raw.tokens ≡ before ++ c ∷ after
  tiling : Tiling s p raw.tiling.to (before ++ c ∷ after)
  here : CommentIn s c white

placed : (s : Setting) (p : ℕ) (c : Token) (white : List ℕ) (raw : IsRawComment s p c) → IsUtf8 s.text → IsCharBoundary s.text p → AreBlanksOf c white → Place s p c white raw
placed s p c white raw u at a =
    let k = split_at raw.tokens c raw.among.0 raw.among.1 raw.among.2 in
    let tiling = subst (Tiling s p raw.tiling.to) k.2 raw.tiling.tiling in
    record { before = k.0; after = k.1; cut = k.2; tiling = tiling; here = found s p raw.tiling.to c white k.0 k.1 u at a raw.kind tiling }

pub blanks_are_space : BlanksAreSpace
blanks_are_space s p c white u at a raw =
    let k = placed s p c white raw u at a in
    let to = raw.tiling.to in
    let r = rejoined s c white k.here p to k.before k.after raw.ending at k.tiling raw.tiling.ends in
    let ends = ending_after s c white to raw.ending k.here (past_comment s p to c k.before k.after k.tiling) raw.tiling.ends in
    (r.tokens, record { to = to; tiling = r.tiling; ends = ends }, subst (λ x. Spaced s.text (overwritten s.text c white) c x r.tokens) (sym k.cut) r.spaced)

pub blanks_are_text : BlanksAreText
blanks_are_text s p c white u at a raw =
    let here = (placed s p c white raw u at a).here in
    (blanked_length s.text c white here.last.0 here.blanks, blanked_utf8 s.text c white here.last.0 here.blanks u here.first here.last)
