-- The tokens of a prefix of a text, except its last, are tokens of the text.
use Rattle.std.proofs.Common.{Bool, ◌≡◌, ◌≢◌, ◌≤◌, ◌+◌, ◌-◌, ℕ, List, [], ◌∷◌, ◌++◌, take, drop, refl, arith, ap, sym, ◌∙◌, subst, append_assoc, inl, inr}
use Rattle.std.specs.Prelude.{Option, Some, None, ◌==◌}
use Rattle.std.proofs.lemmas.List.{take-append-drop, drop-take, drop-drop, drop_at, length-take-le}
use Rattle.std.proofs.lemmas.Str.{chars-append, chars-encodes, IsUtf8-drop, IsUtf8-take, IsUtf8-between, IsCharBoundary-from_drop}
use Rattle.std.specs.Str.{chars, IsUtf8, IsCharBoundary}
use lib.Utf8.{encodes}
use Rattle.wat_lex.specs.grammar.Classes.{Begins, is_whitespace, is_run_char, semicolon}
use Rattle.wat_lex.specs.tokens.Setting.{Setting}
use Rattle.wat_lex.specs.tokens.Tiling.{TokenAt, Tiling, EndsAt}
use Rattle.wat_lex.specs.tokens.CutsAndMoves.{sure, prefix, Cuts}
use Rattle.wat_lex.proofs.tokens.SomeTilings.{some_tiling}
use Rattle.wat_lex.specs.grammar.Words.{MayFollow, WordIsAt}
use Rattle.wat_lex.specs.declared.lexer.settings.Settings.{Settings}
use Rattle.wat_lex.specs.declared.lexer.kinds.Token.{Token}
use Rattle.wat_lex.specs.declared.lexer.kinds.TokenKind.{TokenKind}
use Rattle.wat_lex.specs.declared.lexer.kinds.TokenKind.TheVariants.{LineComment, BlockComment, Whitespace, LParen, RParen, String, Id, Keyword, Annotation, Reserved, Integer, Float}
use Rattle.wat_lex.specs.declared.lexer.faults.LexFault.{LexFault}
use Rattle.wat_lex.proofs.inside.CheckedComments.{halves}
use Rattle.wat_lex.proofs.tokens.RawLaws.{after}
use Rattle.wat_lex.proofs.tokens.OneTilings.{token_one, no_token_left, no_fault_left, ending_no_token}

-- what may follow is said of the first character after the word
begins_prefix : (p : ℕ → Bool) (r x : List ℕ) → r ≢ [] → Begins p (r ++ x) → Begins p r
begins_prefix p [] x n h = absurd (n refl)
begins_prefix p (c ∷ r) x n h = h

line_follows : (r x : List ℕ) → r ≢ [] → MayFollow LineComment [] r → MayFollow LineComment [] (r ++ x)
line_follows [] x n h = absurd (n refl)
line_follows (c ∷ r) x n (inl e) = cc
line_follows (c ∷ r) x n (inr e) = inr e

follows_more : (k : TokenKind) (w r x : List ℕ) → r ≢ [] → MayFollow k w r → MayFollow k w (r ++ x)
follows_more Whitespace w r x n h = λ b. h (begins_prefix is_whitespace r x n b)
follows_more LineComment w r x n h = line_follows r x n h
follows_more BlockComment w r x n h = tt
follows_more LParen w r x n h = λ b. h (begins_prefix (λ c. c == semicolon) r x n b)
follows_more RParen w r x n h = tt
follows_more Reserved w r x n h = (λ e b. h.0 e (begins_prefix (λ c. c == semicolon) r x n b), λ m b. h.1 m (begins_prefix is_run_char r x n b))
follows_more String w r x n h = λ b. h (begins_prefix is_run_char r x n b)
follows_more Id w r x n h = λ b. h (begins_prefix is_run_char r x n b)
follows_more Keyword w r x n h = λ b. h (begins_prefix is_run_char r x n b)
follows_more Annotation w r x n h = λ b. h (begins_prefix is_run_char r x n b)
follows_more (Integer k) w r x n h = λ b. h (begins_prefix is_run_char r x n b)
follows_more (Float k) w r x n h = λ b. h (begins_prefix is_run_char r x n b)

-- a word that does not end the text may be before more text too
pub is_at_more : (flags : Settings) (text x : List ℕ) (k : TokenKind) (w r : List ℕ) → r ≢ [] → WordIsAt flags text k w r → WordIsAt flags (text ++ x) k w (r ++ x)
is_at_more flags text x k w r n h = record { cut = ap (λ y. y ++ x) h.cut ∙ append_assoc w r x; word = h.word; ends = follows_more k w r x n h.ends }

-- what is left after a token
pub token_rest : (s : Setting) (q : ℕ) (t : Token) → IsUtf8 s.text → IsCharBoundary s.text q → (h : TokenAt s q t) → chars (drop (t.offset + t.len) s.text) ≡ h.rest
token_rest s q t u b h =
    let p = halves (drop q s.text) h.word h.rest (IsUtf8-drop s.text q u b) h.is_at.cut in
    ap (λ x. chars (drop (x + t.len) s.text)) h.offset ∙ ap chars (sym (drop-drop t.len q s.text)) ∙ ap (λ x. chars (drop t.len x)) p.bytes
    ∙ ap chars (drop_at (encodes h.word) (encodes h.rest) t.len (sym h.len)) ∙ chars-encodes h.rest p.right

pub prefix_utf8 : (text : List ℕ) (n p : ℕ) → IsUtf8 text → IsCharBoundary text n → IsCharBoundary text p → p ≤ n → IsUtf8 (drop p (take n text))
prefix_utf8 text n p u b c l =
    let k : n ≡ p + (n - p) = omega arith in
    subst IsUtf8 (sym (ap (λ x. drop p (take x text)) k ∙ drop-take p (n - p) text)) (IsUtf8-between text p n u l c b)

prefix_boundary : (text : List ℕ) (n p : ℕ) → IsUtf8 text → IsCharBoundary text n → IsCharBoundary text p → p ≤ n → IsCharBoundary (take n text) p
prefix_boundary text n p u b c l = IsCharBoundary-from_drop (take n text) p (omega (arith, length-take-le n text b.0)) (prefix_utf8 text n p u b c l)

-- The characters of a text from the offset q on are those of the prefix, and then those after the prefix.
prefix_chars : (text : List ℕ) (n q : ℕ) → IsUtf8 text → IsCharBoundary text n → IsCharBoundary (take n text) q → chars (drop q text) ≡ chars (drop q (take n text)) ++ chars (drop n text)
prefix_chars text n q u b c =
    let l : q ≤ n = omega (arith, c.0, length-take-le n text b.0) in
    let k : n ≡ q + (n - q) = omega arith in
    let prefix : drop q (take n text) ≡ take (n - q) (drop q text) = ap (λ x. drop q (take x text)) k ∙ drop-take q (n - q) text in
    let after_it : drop (n - q) (drop q text) ≡ drop n text = drop-drop (n - q) q text ∙ ap (λ x. drop x text) (sym k) in
    let bytes : drop q text ≡ drop q (take n text) ++ drop n text = sym (take-append-drop (n - q) (drop q text)) ∙ ap (λ x. x ++ drop (n - q) (drop q text)) (sym prefix) ∙ ap (λ x. drop q (take n text) ++ x) after_it in
    ap chars bytes ∙ chars-append (drop q (take n text)) (drop n text) (IsUtf8-drop (take n text) q (IsUtf8-take text n u b) c)

-- a text, and its prefix of n bytes
prefix_of : Setting → ℕ → Setting
prefix_of s n = record s { text = take n s.text }

token_more : (s : Setting) (n q : ℕ) (t : Token) → IsUtf8 s.text → IsCharBoundary s.text n → IsCharBoundary (take n s.text) q → TokenAt (prefix_of s n) q t → (chars (drop (t.offset + t.len) (take n s.text)) ≢ []) → TokenAt s q t
unfolding prefix_of
token_more s n q t u b c h some =
    let e : chars (drop (t.offset + t.len) (take n s.text)) ≡ h.rest = token_rest (prefix_of s n) q t (IsUtf8-take s.text n u b) c h in
    record {
      offset = h.offset;
      word = h.word;
      rest = h.rest ++ chars (drop n s.text);
      is_at = subst (λ x. WordIsAt s.flags x t.kind h.word (h.rest ++ chars (drop n s.text))) (sym (prefix_chars s.text n q u b c))
          (is_at_more s.flags (chars (drop q (take n s.text))) (chars (drop n s.text)) t.kind h.word h.rest (λ k. some (e ∙ k)) h.is_at);
      len = h.len;
    }

-- the tiling begins with this token
record Led (s : Setting) (t : Token) (to : ℕ) (us : List Token) : Type 0 where
  tail : List Token
  is : us ≡ t ∷ tail
  tiling : Tiling s (t.offset + t.len) to tail

led_by : (s : Setting) (q to : ℕ) (t : Token) (us : List Token) (f : Option LexFault) → TokenAt s q t → Tiling s q to us → EndsAt s to f → Led s t to us
led_by s q to t [] f h g e = absurd (ending_no_token s q f t (subst (λ x. EndsAt s x f) (sym g) e) h)
led_by s q to t (u ∷ us) f h g e =
    let k = token_one s q u t g.0 h in
    record { tail = us; is = ap (λ x. x ∷ us) k; tiling = subst (λ (x : Token). Tiling s (x.offset + x.len) to us) k g.1 }

-- something is left before a fault
left_before : (s : Setting) (q to : ℕ) (ts : List Token) (g : LexFault) → Tiling s q to ts → EndsAt s to (Some g) → chars (drop q s.text) ≢ []
left_before s q to [] g h e = λ n. no_fault_left s q g n (subst (λ x. EndsAt s x (Some g)) (sym h) e)
left_before s q to (t ∷ ts) g h e = λ n. no_token_left s q t n h.0

module _ (s : Setting) (n : ℕ) (utf8 : IsUtf8 s.text) (cut : IsCharBoundary s.text n) where
  next_boundary : (q : ℕ) (t : Token) → IsCharBoundary (take n s.text) q → TokenAt (prefix_of s n) q t → IsCharBoundary (take n s.text) (t.offset + t.len)
  unfolding prefix_of
  next_boundary q t b h = after (prefix_of s n) q t (IsUtf8-take s.text n utf8 cut) b h

  Begun : List Token → List Token → Type 0
  Begun ts us = (rest : List Token) × (us ≡ ts ++ rest)

  begun_more : (t : Token) (ts us : List Token) (to : ℕ) (l : Led s t to us) → Begun ts l.tail → Begun (t ∷ ts) us
  unfolding Begun
  begun_more t ts us to l h = (h.0, l.is ∙ ap (λ x. t ∷ x) h.1)

  before_fault : (q a b : ℕ) (ts us : List Token) (g : LexFault) (f : Option LexFault) → IsCharBoundary (take n s.text) q → Tiling (prefix_of s n) q a ts → EndsAt (prefix_of s n) a (Some g) → Tiling s q b us → EndsAt s b f → Begun ts us
  unfolding Begun prefix_of
  before_fault q a b [] us g f at h e k i = (us, refl)
  before_fault q a b (t ∷ ts) us g f at h e k i =
      let l = led_by s q b t us f (token_more s n q t utf8 cut at h.0 (left_before (prefix_of s n) (t.offset + t.len) a ts g h.1 e)) k i in
      begun_more t ts us b l (before_fault (t.offset + t.len) a b ts l.tail g f (next_boundary q t at h.0) h.1 e l.tiling i)

  before_end : (q a b : ℕ) (ts us : List Token) (f : Option LexFault) → IsCharBoundary (take n s.text) q → Tiling (prefix_of s n) q a ts → Tiling s q b us → EndsAt s b f → Begun (sure ts None) us
  unfolding Begun prefix_of
  before_end q a b [] us f at h k i = (us, refl)
  before_end q a b (t ∷ []) us f at h k i = (us, refl)
  before_end q a b (t ∷ v ∷ ts) us f at h k i =
      let l = led_by s q b t us f (token_more s n q t utf8 cut at h.0 (λ none_left. no_token_left (prefix_of s n) (t.offset + t.len) v none_left h.1.0)) k i in
      begun_more t (sure (v ∷ ts) None) us b l (before_end (t.offset + t.len) a b (v ∷ ts) l.tail f (next_boundary q t at h.0) h.1 l.tiling i)

  begins_whole : (q a b : ℕ) (ts us : List Token) (e f : Option LexFault) → IsCharBoundary (take n s.text) q → Tiling (prefix_of s n) q a ts → EndsAt (prefix_of s n) a e → Tiling s q b us → EndsAt s b f → Begun (sure ts e) us
  begins_whole q a b ts us None f at h g k i = before_end q a b ts us f at h k i
  begins_whole q a b [] us (Some e) f at h g k i = before_fault q a b [] us e f at h g k i
  begins_whole q a b (t ∷ ts) us (Some e) f at h g k i = before_fault q a b (t ∷ ts) us e f at h g k i

pub cuts : (s : Setting) (p : ℕ) → IsUtf8 s.text → IsCharBoundary s.text p → Cuts s p
unfolding Begun prefix_of
cuts s p u b n c l =
    let at = prefix_boundary s.text n p u c b l in
    record {
      some = some_tiling (prefix s n) p (IsUtf8-take s.text n u c) at;
      begins = λ ts us e f h g. begins_whole s n u c p h.to g.to ts us e f at h.tiling h.ends g.tiling g.ends;
    }
