-- A text whose comments are all overwritten has the same visible tokens, and no comments.
use Rattle.std.proofs.Common.{◌≡◌, ◌⊎◌, ◌≤◌, ◌<◌, ◌+◌, ℕ, zero, suc, Bool, true, false, cond, List, [], ◌∷◌, ◌++◌, length, take, drop, refl, arith, ap, sym, ◌∙◌, subst, inl, inr, append_assoc, length-drop, None}
use Rattle.std.specs.Prelude.{IsFalse, if◌then◌else◌, map, flat_map}
use Rattle.std.specs.List.{All, Contains}
use Rattle.std.specs.Str.{IsUtf8}
use Rattle.std.proofs.lemmas.List.{append_cancel_left, append_cancel_right, append-nil, drop-drop, length-map, length-take-le, take-append-drop}
use Rattle.std.proofs.lemmas.List.Concat.{flat_map-append}
use Rattle.std.proofs.lemmas.List.Elements.{All-nil, All-cons, recursion_from_All}
use Rattle.std.proofs.lemmas.Str.{IsCharBoundary-start}
use Rattle.std.proofs.Math.Seq.{drop-length}
use Rattle.std.specs.List.{AllByRecursion}
use Rattle.wat_lex.specs.tokens.Blanking.{AreBlanksOf, overwritten, with_other_text, AtMostOneSpace, Spaced, IsRawComment, BlanksAreSpace, BlanksAreText}
use Rattle.wat_lex.specs.tokens.EverySetting.{TokensEndAtBoundaries}
use Rattle.wat_lex.specs.tokens.Faults.{IsComment}
use Rattle.wat_lex.specs.tokens.ReadableTokens.{token_text}
use Rattle.wat_lex.specs.tokens.Setting.{Setting}
use Rattle.wat_lex.specs.tokens.Tiling.{Tiling, MaximalTiling}
use Rattle.wat_lex.specs.declared.lexer.kinds.Token.{Token}
use Rattle.wat_lex.specs.declared.lexer.kinds.TokenKind.{TokenKind}
use Rattle.wat_lex.specs.declared.lexer.kinds.TokenKind.TheVariants.{LineComment, BlockComment, Whitespace, LParen, RParen, String, Id, Keyword, Annotation, Reserved, Integer, Float}
use Rattle.wat_lex.specs.tokens.Blanks.{is_comment}
use Rattle.wat_lexer_parser.specs.laws.Blanking.{ShowTheSame, BlankingShowsTheSame}
use Rattle.wat_lexer_parser.specs.laws.BlankTexts.{blank_byte, blank_text, blank_texts, HasNoComment, BlankTextsShowTheSame}
use Rattle.wat_lexer_parser.proofs.calls.AllShownBlanked.{SameText}
use Rattle.wat_lexer_parser.proofs.calls.BlankingLaw.{comment_bounds}
use Rattle.wat_lexer_parser.proofs.shown.BlankBytes.{bytes_white, texts_twice, same_line_ends}

-- The theorems about one comment.
pub record OneBlanked : Type 0 where
  pub tokens : BlanksAreSpace
  pub text : BlanksAreText
  pub boundary : TokensEndAtBoundaries
  pub same : BlankingShowsTheSame

-- The bytes of the tokens, concatenated.
abbrev joined : List ℕ → List Token → List ℕ
joined text ts = flat_map (token_text text) ts

-- A tiling is split at the end of one of its tokens.
cut : (s : Setting) (p to : ℕ) (a b : List Token) → Tiling s p to (a ++ b) → (q : ℕ) × Tiling s p q a × Tiling s q to b
cut s p to [] b h = (p, refl, h)
cut s p to (t ∷ a) b h = let k = cut s (t.offset + t.len) to a b h.1 in (k.0, (h.0, k.1), k.2)

up_to : (s : Setting) (p to : ℕ) (ts : List Token) → Tiling s p to ts → joined s.text ts ++ drop to s.text ≡ drop p s.text
up_to s p to [] h = ap (λ q. drop q s.text) (sym h)
up_to s p to (t ∷ ts) h =
    let step : drop (t.offset + t.len) s.text ≡ drop t.len (drop t.offset s.text) = sym (drop-drop t.len t.offset s.text) in
    append_assoc (token_text s.text t) (joined s.text ts) (drop to s.text)
    ∙ ap (λ x. token_text s.text t ++ x) (up_to s (t.offset + t.len) to ts h.1 ∙ step)
    ∙ take-append-drop t.len (drop t.offset s.text) ∙ ap (λ q. drop q s.text) h.0.offset

to_end : (s : Setting) (p to : ℕ) (ts : List Token) → Tiling s p to ts → to ≡ length s.text → joined s.text ts ≡ drop p s.text
to_end s p to ts h e =
    sym (append-nil (joined s.text ts)) ∙ ap (λ x. joined s.text ts ++ x) (sym (ap (λ q. drop q s.text) e ∙ drop-length s.text)) ∙ up_to s p to ts h

-- The part between equal prefixes and equal suffixes.
between : (b l w r h m : List ℕ) → b ++ (m ++ h) ≡ ((b ++ l) ++ w) ++ (r ++ h) → m ≡ l ++ (w ++ r)
between b l w r h m e =
    let right : ((b ++ l) ++ w) ++ (r ++ h) ≡ b ++ ((l ++ (w ++ r)) ++ h) =
    append_assoc (b ++ l) w (r ++ h) ∙ append_assoc b l (w ++ (r ++ h))
    ∙ ap (λ x. b ++ x) (ap (λ x. l ++ x) (sym (append_assoc w r h)) ∙ sym (append_assoc l (w ++ r) h)) in
    append_cancel_right m (l ++ (w ++ r)) h (append_cancel_left b (m ++ h) ((l ++ (w ++ r)) ++ h) (e ∙ right))

-- Tokens with the same bytes in two texts have the same concatenated bytes, with comments overwritten or not.
same_joined : (x y : List ℕ) (ts : List Token) → AllByRecursion (SameText x y) ts → joined y ts ≡ joined x ts
same_joined x y [] h = refl
same_joined x y (t ∷ ts) h = ap (λ z. z ++ joined y ts) h.0 ∙ ap (λ z. token_text x t ++ z) (same_joined x y ts h.1)

same_blank : (x y : List ℕ) (ts : List Token) → AllByRecursion (SameText x y) ts → blank_texts y ts ≡ blank_texts x ts
same_blank x y [] h = refl
same_blank x y (t ∷ ts) h = ap (λ z. (if is_comment t.kind then map blank_byte z else z) ++ blank_texts y ts) h.0 ∙ ap (λ z. blank_text x t ++ z) (same_blank x y ts h.1)

other_text : (x : List ℕ) (t : Token) → is_comment t.kind ≡ false → blank_text x t ≡ token_text x t
other_text x t e = ap (λ k. if k then map blank_byte (token_text x t) else token_text x t) e

comment_text : (x : List ℕ) (t : Token) → is_comment t.kind ≡ true → blank_text x t ≡ map blank_byte (token_text x t)
comment_text x t e = ap (λ k. if k then map blank_byte (token_text x t) else token_text x t) e

-- Whitespace is not a comment.
space_joined : (x : List ℕ) (ts : List Token) → AtMostOneSpace ts → blank_texts x ts ≡ joined x ts
space_joined x [] h = refl
space_joined x (t ∷ []) h = ap (λ z. z ++ []) (other_text x t (ap is_comment h))
space_joined x (t ∷ u ∷ ts) h = absurd h

none_joined : (x : List ℕ) (ts : List Token) → AllByRecursion (λ t. IsFalse (is_comment t.kind)) ts → blank_texts x ts ≡ joined x ts
none_joined x [] h = refl
none_joined x (t ∷ ts) h = ap (λ z. z ++ blank_texts x ts) (other_text x t h.0) ∙ ap (λ z. token_text x t ++ z) (none_joined x ts h.1)

-- The count of a token: 1 if it is a comment.
abbrev one_if : Bool → ℕ
one_if b = cond b 1 0

abbrev comments : List Token → ℕ
comments [] = 0
comments (t ∷ ts) = one_if (is_comment t.kind) + comments ts

comments_of : (a b : List Token) → comments (a ++ b) ≡ comments a + comments b
comments_of [] b = omega arith
comments_of (t ∷ a) b = omega (arith, comments_of a b)

-- Either none of the tokens is a comment, or one is.
abbrev Found : List Token → Type 0
Found ts = (c : Token) × Contains ts c × (is_comment c.kind ≡ true)

found_next : (t : Token) (ts : List Token) → Found ts → Found (t ∷ ts)
found_next t ts f = (f.0, (suc f.1.0, omega (arith, f.1.1), f.1.2), f.2)

none_or_one : (ts : List Token) → All (λ t. IsFalse (is_comment t.kind)) ts ⊎ Found ts
none_or_one [] = inl (All-nil (λ t. IsFalse (is_comment t.kind)))
none_or_one (t ∷ ts) = by (is_comment t.kind) refl (none_or_one ts)
  where
    by : (b : Bool) → is_comment t.kind ≡ b → All (λ u. IsFalse (is_comment u.kind)) ts ⊎ Found ts → All (λ u. IsFalse (is_comment u.kind)) (t ∷ ts) ⊎ Found (t ∷ ts)
    by true e h = inr (t, (0, omega arith, refl), e)
    by false e (inl h) = inl (All-cons (λ u. IsFalse (is_comment u.kind)) t ts e h)
    by false e (inr f) = inr (found_next t ts f)

comment_kind : (k : TokenKind) → is_comment k ≡ true → IsComment k
comment_kind LineComment e = inl refl
comment_kind BlockComment e = inr refl
comment_kind Whitespace e = cc
comment_kind LParen e = cc
comment_kind RParen e = cc
comment_kind String e = cc
comment_kind Id e = cc
comment_kind Keyword e = cc
comment_kind Annotation e = cc
comment_kind Reserved e = cc
comment_kind (Integer k) e = cc
comment_kind (Float k) e = cc

-- Having the same visible tokens is reflexive and transitive.
same_self : (s : Setting) → ShowTheSame s s
same_self s = record { tokens = λ n us last. (λ h. h, λ h. h); texts = λ n us last h k d l. refl }

same_through : (s r q : Setting) → ShowTheSame s r → ShowTheSame r q → ShowTheSame s q
same_through s r q f g = record {
  tokens = λ n us last. (λ h. (g.tokens n us last).0 ((f.tokens n us last).0 h), λ h. (f.tokens n us last).1 ((g.tokens n us last).1 h));
  texts = λ n us last h k d l. g.texts n us last ((f.tokens n us last).0 h) k d l ∙ f.texts n us last h k d l;
}

-- After a comment is overwritten, the text has one comment fewer.
fewer : (text other : List ℕ) (c : Token) (ts us : List Token) → is_comment c.kind ≡ true → Spaced text other c ts us → comments us < comments ts
fewer text other c ts us e g =
    let was : comments ts ≡ comments g.before + ((comments g.left + (one_if (is_comment c.kind) + comments g.right)) + comments g.after) =
    ap comments g.was ∙ comments_of g.before ((g.left ++ c ∷ g.right) ++ g.after)
    ∙ ap (λ n. comments g.before + n) (comments_of (g.left ++ c ∷ g.right) g.after ∙ ap (λ n. n + comments g.after) (comments_of g.left (c ∷ g.right))) in
    let is : comments us ≡ comments g.before + (one_if (is_comment g.white.kind) + comments g.after) = ap comments g.is ∙ comments_of g.before (g.white ∷ g.after) in
    let one : one_if (is_comment c.kind) ≡ 1 = ap one_if e in
    let none : one_if (is_comment g.white.kind) ≡ 0 = ap (λ k. one_if (is_comment k)) g.kind in
    omega (arith, was, is, one, none)

-- The bytes that replace a comment.
abbrev blanks_of : List ℕ → Token → List ℕ
blanks_of text c = map blank_byte (token_text text c)

blanks_are : (text : List ℕ) (c : Token) → c.offset + c.len ≤ length text → AreBlanksOf c (blanks_of text c)
blanks_are text c fits = record {
  long = length-map (token_text text c) blank_byte ∙ length-take-le c.len (drop c.offset text) (omega (arith, fits, length-drop c.offset text));
  blank = bytes_white (token_text text c);
}

-- One comment is overwritten, and then all others: the bytes are those with all overwritten at once.
module _ (s : Setting) (c : Token) (white : List ℕ) (ts us : List Token) (comment : is_comment c.kind ≡ true) (is_white : white ≡ blanks_of s.text c)
    (was : MaximalTiling s 0 ts None) (now : MaximalTiling (with_other_text s (overwritten s.text c white)) 0 us None) (g : Spaced s.text (overwritten s.text c white) c ts us) where
  abbrev other : List ℕ
  other = overwritten s.text c white

  -- The text with the comment overwritten, in parts by the tokens of the original text.
  pieces : other ≡ ((joined s.text g.before ++ joined s.text g.left) ++ white) ++ (joined s.text g.right ++ joined s.text g.after)
  pieces =
      let k = cut s 0 was.to g.before ((g.left ++ c ∷ g.right) ++ g.after) (subst (Tiling s 0 was.to) g.was was.tiling) in
      let l = cut s k.0 was.to g.left (c ∷ g.right ++ g.after) (subst (Tiling s k.0 was.to) (append_assoc g.left (c ∷ g.right) g.after) k.2) in
      let front : joined s.text g.before ++ (joined s.text g.left ++ drop l.0 s.text) ≡ s.text = ap (λ x. joined s.text g.before ++ x) (up_to s k.0 l.0 g.left l.1) ∙ up_to s 0 k.0 g.before k.1 in
      let at : take c.offset s.text ++ drop l.0 s.text ≡ s.text = ap (λ q. take c.offset s.text ++ drop q s.text) (sym l.2.0.offset) ∙ take-append-drop c.offset s.text in
      let first : take c.offset s.text ≡ joined s.text g.before ++ joined s.text g.left =
      append_cancel_right (take c.offset s.text) (joined s.text g.before ++ joined s.text g.left) (drop l.0 s.text) (at ∙ sym (append_assoc (joined s.text g.before) (joined s.text g.left) (drop l.0 s.text) ∙ front)) in
      let last : drop (c.offset + c.len) s.text ≡ joined s.text g.right ++ joined s.text g.after =
      sym (to_end s (c.offset + c.len) was.to (g.right ++ g.after) l.2.1 was.ends) ∙ flat_map-append (token_text s.text) g.right g.after in
      ap (λ x. (x ++ white) ++ drop (c.offset + c.len) s.text) first ∙ ap (λ x. ((joined s.text g.before ++ joined s.text g.left) ++ white) ++ x) last

  before_is : joined other g.before ≡ joined s.text g.before
  before_is = same_joined s.text other g.before (recursion_from_All (SameText s.text other) g.before g.texts_before)

  after_is : joined other g.after ≡ joined s.text g.after
  after_is = same_joined s.text other g.after (recursion_from_All (SameText s.text other) g.after g.texts_after)

  -- The bytes of the whitespace token around the comment.
  middle : token_text other g.white ≡ joined s.text g.left ++ (white ++ joined s.text g.right)
  middle =
      let all : joined other us ≡ other = to_end (with_other_text s other) 0 now.to us now.tiling now.ends in
      let cut : joined other us ≡ joined s.text g.before ++ (token_text other g.white ++ joined s.text g.after) =
      ap (joined other) g.is ∙ flat_map-append (token_text other) g.before (g.white ∷ g.after)
      ∙ ap (λ x. x ++ (token_text other g.white ++ joined other g.after)) before_is
      ∙ ap (λ x. joined s.text g.before ++ (token_text other g.white ++ x)) after_is in
      between (joined s.text g.before) (joined s.text g.left) white (joined s.text g.right) (joined s.text g.after) (token_text other g.white) (sym cut ∙ all ∙ pieces)

  pub same_bytes : blank_texts other us ≡ blank_texts s.text ts
  same_bytes =
      let before = same_blank s.text other g.before (recursion_from_All (SameText s.text other) g.before g.texts_before) in
      let after = same_blank s.text other g.after (recursion_from_All (SameText s.text other) g.after g.texts_after) in
      let now_is : blank_texts other us ≡ blank_texts s.text g.before ++ (token_text other g.white ++ blank_texts s.text g.after) =
      ap (blank_texts other) g.is ∙ flat_map-append (blank_text other) g.before (g.white ∷ g.after)
      ∙ ap (λ x. x ++ (blank_text other g.white ++ blank_texts other g.after)) before
      ∙ ap (λ x. blank_texts s.text g.before ++ (blank_text other g.white ++ x)) after
      ∙ ap (λ x. blank_texts s.text g.before ++ (x ++ blank_texts s.text g.after)) (other_text other g.white (ap is_comment g.kind)) in
      let group : blank_texts s.text (g.left ++ c ∷ g.right) ≡ joined s.text g.left ++ (white ++ joined s.text g.right) =
      flat_map-append (blank_text s.text) g.left (c ∷ g.right)
      ∙ ap (λ x. x ++ (blank_text s.text c ++ blank_texts s.text g.right)) (space_joined s.text g.left g.beside_left)
      ∙ ap (λ x. joined s.text g.left ++ (blank_text s.text c ++ x)) (space_joined s.text g.right g.beside_right)
      ∙ ap (λ x. joined s.text g.left ++ (x ++ joined s.text g.right)) (comment_text s.text c comment ∙ sym is_white) in
      let was_is : blank_texts s.text ts ≡ blank_texts s.text g.before ++ ((joined s.text g.left ++ (white ++ joined s.text g.right)) ++ blank_texts s.text g.after) =
      ap (blank_texts s.text) g.was ∙ flat_map-append (blank_text s.text) g.before ((g.left ++ c ∷ g.right) ++ g.after)
      ∙ ap (λ x. blank_texts s.text g.before ++ x) (flat_map-append (blank_text s.text) (g.left ++ c ∷ g.right) g.after ∙ ap (λ x. x ++ blank_texts s.text g.after) group) in
      now_is ∙ ap (λ x. blank_texts s.text g.before ++ (x ++ blank_texts s.text g.after)) middle ∙ sym was_is

-- The statement that is proved by induction over the comments.
record Blanked (s : Setting) (other : List ℕ) : Type 0 where
  utf8 : IsUtf8 other
  no_comment : HasNoComment (with_other_text s other)
  same : ShowTheSame s (with_other_text s other)

nothing_to_do : (s : Setting) (ts : List Token) → IsUtf8 s.text → MaximalTiling s 0 ts None → All (λ t. IsFalse (is_comment t.kind)) ts → Blanked s (blank_texts s.text ts)
nothing_to_do s ts utf8 h none =
    let e : blank_texts s.text ts ≡ s.text = none_joined s.text ts (recursion_from_All (λ t. IsFalse (is_comment t.kind)) ts none) ∙ to_end s 0 h.to ts h.tiling h.ends in
    let as_it_is : Blanked s s.text = record { utf8 = utf8; no_comment = record { tokens = ts; tiling = h; none = none }; same = same_self s } in
    subst (Blanked s) (sym e) as_it_is

module _ (laws : OneBlanked) where
  -- One comment is overwritten, and then the others.
  one_by_one : (s : Setting) (ts : List Token) → ((r : Setting) (us : List Token) → comments us < comments ts → IsUtf8 r.text → MaximalTiling r 0 us None → Blanked r (blank_texts r.text us)) → IsUtf8 s.text → MaximalTiling s 0 ts None → Found ts
      → Blanked s (blank_texts s.text ts)
  one_by_one s ts next utf8 h f =
      let c = f.0 in
      let raw : IsRawComment s 0 c = record { tokens = ts; ending = None; tiling = h; among = f.1; kind = comment_kind c.kind f.2 } in
      let white = blanks_of s.text c in
      let other = overwritten s.text c white in
      let start = IsCharBoundary-start s.text utf8 in
      let blanks = blanks_are s.text c (comment_bounds laws.boundary laws.tokens s c utf8 raw).1.0 in
      let k = laws.tokens s 0 c white utf8 start blanks raw in
      let rest = next (with_other_text s other) k.0 (fewer s.text other c ts k.0 f.2 k.2) (laws.text s 0 c white utf8 start blanks raw).1 k.1 in
      let first = laws.same s.text c white utf8 blanks s.flags raw in
      let all : Blanked s (blank_texts other k.0) =
      record { utf8 = rest.utf8; no_comment = rest.no_comment; same = same_through s (with_other_text s other) (with_other_text s (blank_texts other k.0)) first rest.same } in
      subst (Blanked s) (same_bytes s c white ts k.0 f.2 refl h k.1 k.2) all

  -- Induction over the number of comments.
  all_of : (n : ℕ) (s : Setting) (ts : List Token) → comments ts ≤ n → IsUtf8 s.text → MaximalTiling s 0 ts None → Blanked s (blank_texts s.text ts)
  all_of zero s ts few utf8 h = elim (none_or_one ts) [
    | inl none ↦ nothing_to_do s ts utf8 h none
    | inr f ↦ one_by_one s ts (λ r us l u g. absurd (omega (arith, l, few))) utf8 h f
  ]
  all_of (suc n) s ts few utf8 h = elim (none_or_one ts) [
    | inl none ↦ nothing_to_do s ts utf8 h none
    | inr f ↦ one_by_one s ts (λ r us l u g. all_of n r us (omega (arith, l, few)) u g) utf8 h f
  ]

  pub blank_texts_show_the_same : BlankTextsShowTheSame
  blank_texts_show_the_same s ts utf8 h =
      let k = all_of (comments ts) s ts (omega arith) utf8 h in
      let other = blank_texts s.text ts in
      let twice : map blank_byte other ≡ map blank_byte s.text = texts_twice s.text ts ∙ ap (map blank_byte) (to_end s 0 h.to ts h.tiling h.ends) in
      record {
        utf8 = k.utf8;
        long = sym (length-map other blank_byte) ∙ ap length twice ∙ length-map s.text blank_byte;
        line_ends = same_line_ends s.text other twice;
        no_comment = k.no_comment;
        same = k.same;
      }
