-- The entries of annotations that follow a parenthesis, one token at a time.
use Rattle.std.proofs.Common.{◌≡◌, ◌⊎◌, ◌<◌, ◌≤◌, ◌+◌, ◌-◌, ◌*◌, ◌^◌, ◌++◌, ℕ, zero, suc, Bool, true, false, List, [], ◌∷◌, length, refl, sym, ap, ◌∙◌, subst, arith, inl, inr, get_or, Some, None}
use Rattle.std.specs.Prelude.{Option, slice_get, ◌&&◌}
use Rattle.std.proofs.lemmas.Bool.{cases_lt}
use Rattle.std.proofs.lemmas.List.{get_or_append_left, get_or_push, length_push}
use Rattle.std.proofs.lemmas.Option.{slice_get_within}
use Rattle.wat_lex.specs.tokens.ReadableTokens.{IsTokenOf, word_of}
use Rattle.wat_lex.specs.declared.lexer.kinds.TokenKind.{TokenKind}
use Rattle.wat_lex.specs.declared.lexer.kinds.TokenKind.TheVariants.{LineComment, BlockComment, Whitespace, LParen, RParen, String, Id, Keyword, Annotation, Reserved, Integer, Float}
use Rattle.wat_lex.specs.declared.lexer.kinds.Token.{Token}
use Rattle.wat_lexer_parser.specs.inside.Table.{NameOrFault, NotedName, OneMoreName, HeadAt, Headed, Started, StartedUpTo, HasAnnotations, Readable, block, is_head, is_annotation}
use Rattle.wat_lexer_parser.specs.groups.Sorts.{is_open}

pub slice_left : {A : Type 0} (ts us : List A) (i : ℕ) (t : A) → slice_get ts i ≡ Some t → slice_get (ts ++ us) i ≡ Some t
slice_left [] us i t e = cc
slice_left (a ∷ ts) us zero t e = e
slice_left (a ∷ ts) us (suc i) t e = slice_left ts us i t e

pub slice_pushed : {A : Type 0} (ts : List A) (u : A) → slice_get (ts ++ u ∷ []) (length ts) ≡ Some u
slice_pushed [] u = refl
slice_pushed (a ∷ ts) u = slice_pushed ts u

-- An element of a list with one more element at its end.
pub slice_back : {A : Type 0} (ts : List A) (u : A) (i : ℕ) (t : A) → slice_get (ts ++ u ∷ []) i ≡ Some t → (slice_get ts i ≡ Some t) ⊎ ((i ≡ length ts) × (u ≡ t))
slice_back [] u zero t e = inr (refl, cc)
slice_back [] u (suc i) t e = cc
slice_back (a ∷ ts) u zero t e = inl e
slice_back (a ∷ ts) u (suc i) t e = elim (slice_back ts u i t e) [
  | inl h ↦ inl h
  | inr h ↦ inr (ap suc h.0, h.1)
]

open_is : (k : TokenKind) → k ≡ LParen → is_open k ≡ true
open_is k e = ap is_open e

annotation_is : (k : TokenKind) → k ≡ Annotation → is_annotation k ≡ true
annotation_is k e = ap is_annotation e

-- An annotation after a parenthesis is a head.
pub head_is : (ts : List Token) (t u : Token) → slice_get ts (length ts - 1) ≡ Some t → t.kind ≡ LParen → u.kind ≡ Annotation → is_head (slice_get ts (length ts - 1)) u ≡ true
head_is ts t u e o a = ap (λ x. is_head x u) e ∙ both (is_open t.kind) (is_annotation u.kind) (open_is t.kind o) (annotation_is u.kind a)
  where
    both : (x y : Bool) → x ≡ true → y ≡ true → (x && y) ≡ true
    both true y e f = f
    both false y e f = cc

open_from : (k : TokenKind) → is_open k ≡ true → k ≡ LParen
open_from LParen e = refl
open_from LineComment e = cc
open_from BlockComment e = cc
open_from Whitespace e = cc
open_from RParen e = cc
open_from String e = cc
open_from Id e = cc
open_from Keyword e = cc
open_from Annotation e = cc
open_from Reserved e = cc
open_from (Integer k) e = cc
open_from (Float k) e = cc

annotation_from : (k : TokenKind) → is_annotation k ≡ true → k ≡ Annotation
annotation_from Annotation e = refl
annotation_from LParen e = cc
annotation_from LineComment e = cc
annotation_from BlockComment e = cc
annotation_from Whitespace e = cc
annotation_from RParen e = cc
annotation_from String e = cc
annotation_from Id e = cc
annotation_from Keyword e = cc
annotation_from Reserved e = cc
annotation_from (Integer k) e = cc
annotation_from (Float k) e = cc

-- A head: the last token is an opening parenthesis, and the next one is an annotation.
pub record Head (last : Option Token) (u : Token) : Type 0 where
  pub paren : Token
  pub is : last ≡ Some paren
  pub opens : paren.kind ≡ LParen
  pub annotation : u.kind ≡ Annotation

pub head_from : (last : Option Token) (u : Token) → is_head last u ≡ true → Head last u
head_from None u e = cc
head_from (Some t) u e = let h = split (is_open t.kind) (is_annotation u.kind) e in record { paren = t; is = refl; opens = open_from t.kind h.0; annotation = annotation_from u.kind h.1 }
  where
    split : (x y : Bool) → (x && y) ≡ true → (x ≡ true) × (y ≡ true)
    split true y f = (refl, f)
    split false y f = cc

-- A token that is not an annotation is not a head.
pub no_head : (last : Option Token) (u : Token) → is_annotation u.kind ≡ false → is_head last u ≡ false
no_head None u e = refl
no_head (Some t) u e = neither (is_open t.kind) (is_annotation u.kind) e
  where
    neither : (x y : Bool) → y ≡ false → (x && y) ≡ false
    neither true y f = f
    neither false y f = refl

head_kept : (text : List ℕ) (ts : List Token) (u : Token) (i : ℕ) (x : Option NameOrFault) → HeadAt text ts i x → HeadAt text (ts ++ u ∷ []) i x
head_kept text ts u i x h = record {
  paren = h.paren;
  word = h.word;
  opens = slice_left ts (u ∷ []) i h.paren h.opens;
  next = slice_left ts (u ∷ []) (i + 1) h.word h.next;
  is_open = h.is_open;
  is_annotation = h.is_annotation;
  name = h.name;
}

-- A head is before the last token.
pub head_below : (text : List ℕ) (ts : List Token) (i : ℕ) (x : Option NameOrFault) → HeadAt text ts i x → i + 1 < length ts
head_below text ts i x h = slice_get_within ts (i + 1) h.word h.next

readable_more : (text : List ℕ) (ts : List Token) (t : Token) → Readable text ts → IsTokenOf text t → t.offset + t.len < 2 ^ 32 → Readable text (ts ++ t ∷ [])
readable_more text [] t h k l = ((k, l), tt)
readable_more text (u ∷ ts) t h k l = (h.0, readable_more text ts t h.1 k l)

-- One more token that is not a head.
headed_plain : (text : List ℕ) (ts : List Token) (u : Token) (opens : List ℕ) (names : List (Option NameOrFault)) → is_head (slice_get ts (length ts - 1)) u ≡ false → Headed text ts opens names → Headed text (ts ++ u ∷ []) opens names
headed_plain text ts u opens names e h = record {
  long = h.long;
  each = λ g l. head_kept text ts u (get_or opens g 0) (get_or names g None) (h.each g l);
  all = λ i t v a b o p. elim (slice_back ts u (i + 1) v b) [
    | inl k ↦ elim (slice_back ts u i t a) [
      | inl j ↦ h.all i t v j k o p
      | inr j ↦ absurd (omega (arith, slice_get_within ts (i + 1) v k, j.0))
    ]
    | inr k ↦ elim (slice_back ts u i t a) [
      | inl j ↦
          let m : length ts - 1 ≡ i = omega (arith, k.0) in
          let f = head_is ts t u (ap (slice_get ts) m ∙ j) o (ap (λ x. x.kind) k.1 ∙ p) in
          let g : true ≡ false = sym f ∙ e in cc
      | inr j ↦ absurd (omega (arith, k.0, j.0))
    ]
  ];
  sorted = h.sorted;
}

-- One more token that is a head.
headed_more : (text : List ℕ) (ts : List Token) (u : Token) (opens : List ℕ) (names : List (Option NameOrFault)) (x : Option NameOrFault) → NotedName (word_of text u) x → 0 < length ts → Head (slice_get ts (length ts - 1)) u → Headed text ts opens names
    → Headed text (ts ++ u ∷ []) (opens ++ (length ts - 1) ∷ []) (names ++ x ∷ [])
headed_more text ts u opens names x y n d h =
    let p = length ts - 1 in
    let lo : length (opens ++ p ∷ []) ≡ length opens + 1 = length_push opens p in
    let ln : length (names ++ x ∷ []) ≡ length names + 1 = length_push names x in
    let s : p + 1 ≡ length ts = omega arith in
    let made : HeadAt text (ts ++ u ∷ []) p x = record {
      paren = d.paren;
      word = u;
      opens = slice_left ts (u ∷ []) p d.paren d.is;
      next = ap (slice_get (ts ++ u ∷ [])) s ∙ slice_pushed ts u;
      is_open = d.opens;
      is_annotation = d.annotation;
      name = y;
    } in
    record {
      long = omega (arith, h.long);
      each = λ g l. elim (cases_lt g (length opens)) [
        | inl k ↦
            let a = get_or_append_left opens (p ∷ []) 0 g k in
            let b = get_or_append_left names (x ∷ []) None g (omega (arith, h.long)) in
            subst (λ y. HeadAt text (ts ++ u ∷ []) y (get_or (names ++ x ∷ []) g None)) (sym a)
            (subst (HeadAt text (ts ++ u ∷ []) (get_or opens g 0)) (sym b) (head_kept text ts u (get_or opens g 0) (get_or names g None) (h.each g k)))
        | inr k ↦
            let a = get_or_push opens p 0 g (omega arith) in
            let b = get_or_push names x None g (omega (arith, h.long)) in
            subst (λ y. HeadAt text (ts ++ u ∷ []) y (get_or (names ++ x ∷ []) g None)) (sym a) (subst (HeadAt text (ts ++ u ∷ []) p) (sym b) made)
      ];
      all = λ i t v a b o q. elim (slice_back ts u (i + 1) v b) [
        | inl k ↦ elim (slice_back ts u i t a) [
          | inl j ↦ let f = h.all i t v j k o q in (f.0, omega (arith, f.1), get_or_append_left opens (p ∷ []) 0 f.0 f.1 ∙ f.2)
          | inr j ↦ absurd (omega (arith, slice_get_within ts (i + 1) v k, j.0))
        ]
        | inr k ↦ (length opens, omega arith, get_or_push opens p 0 (length opens) refl ∙ omega (arith, k.0))
      ];
      sorted = λ g f l m. elim (cases_lt f (length opens)) [
        | inl k ↦ omega (arith, get_or_append_left opens (p ∷ []) 0 g (omega arith), get_or_append_left opens (p ∷ []) 0 f k, h.sorted g f l k)
        | inr k ↦ let j : g < length opens = omega arith in omega (arith, get_or_append_left opens (p ∷ []) 0 g j, get_or_push opens p 0 f (omega arith), head_below text ts (get_or opens g 0) (get_or names g None) (h.each g j))
      ];
    }

-- One more token.

pub noted_plain : (text : List ℕ) (ts us : List Token) (opens : List ℕ) (names : List (Option NameOrFault)) (u : Token) → HasAnnotations text ts opens names → IsTokenOf text u → u.offset + u.len < 2 ^ 32 → us ≡ ts ++ u ∷ []
    → is_head (slice_get ts (length ts - 1)) u ≡ false → HasAnnotations text us opens names
noted_plain text ts us opens names u h r l e n = record {
  readable = subst (Readable text) (sym e) (readable_more text ts u h.readable r l);
  headed = subst (λ x. Headed text x opens names) (sym e) (headed_plain text ts u opens names n h.headed);
}

pub noted_more : (text : List ℕ) (ts us : List Token) (opens opens2 : List ℕ) (names names2 : List (Option NameOrFault)) (u : Token) → HasAnnotations text ts opens names → IsTokenOf text u → u.offset + u.len < 2 ^ 32 → us ≡ ts ++ u ∷ []
    → is_head (slice_get ts (length ts - 1)) u ≡ true → opens2 ≡ opens ++ (length us - 2) ∷ [] → OneMoreName (word_of text u) names names2 → HasAnnotations text us opens2 names2
noted_more text ts us opens opens2 names names2 u h r l e n a b =
    let d = head_from (slice_get ts (length ts - 1)) u n in
    let w : length ts - 1 < length ts = slice_get_within ts (length ts - 1) d.paren d.is in
    let m : length us ≡ length ts + 1 = ap length e ∙ length_push ts u in
    let c : opens2 ≡ opens ++ (length ts - 1) ∷ [] = a ∙ ap (λ x. opens ++ x ∷ []) (omega arith) in
    record {
      readable = subst (Readable text) (sym e) (readable_more text ts u h.readable r l);
      headed = subst (λ x. Headed text x opens2 names2) (sym e) (subst (λ y. Headed text (ts ++ u ∷ []) y names2) (sym c) (subst (Headed text (ts ++ u ∷ []) (opens ++ (length ts - 1) ∷ [])) (sym b.1) (headed_more text ts u opens names b.0 b.2 (omega arith) d h.headed)));
    }

-- The index by blocks of the first `count` positions.
pub record StartedFor (count : ℕ) (opens starts : List ℕ) : Type 0 where
  pub within : (b : ℕ) → b < length starts → get_or starts b 0 ≤ count
  pub before : (b g : ℕ) → b < length starts → g < get_or starts b 0 → get_or opens g 0 < block * b
  pub covers : (g : ℕ) → g < count → get_or opens g 0 < block * length starts

pub started_none : (opens starts : List ℕ) → starts ≡ [] → StartedFor 0 opens starts
started_none opens starts e =
    let l : length starts ≡ 0 = ap length e in
    record {
      within = λ b k. absurd (omega (arith, k, l));
      before = λ b g k j. absurd (omega (arith, k, l));
      covers = λ g k. absurd (omega (arith, k));
    }

-- One more position, up to whose block the index was extended.
pub started_more : (count : ℕ) (opens old new : List ℕ) → StartedFor count opens old → StartedUpTo old new count (get_or opens count 0) → StartedFor (count + 1) opens new
started_more count opens old new h k = record {
  within = λ b l. elim (cases_lt b (length old)) [
    | inl j ↦ omega (arith, k.kept b j, h.within b j)
    | inr j ↦ omega (arith, k.begun b j l)
  ];
  before = λ b g l m. elim (cases_lt b (length old)) [
    | inl j ↦ h.before b g j (omega (arith, m, k.kept b j))
    | inr j ↦ omega (arith, j, h.covers g (omega (arith, m, k.begun b j l)))
  ];
  covers = λ g l. elim (cases_lt g count) [
    | inl j ↦ omega (arith, h.covers g j, k.longer)
    | inr j ↦ let e : g ≡ count = omega (arith, j, l) in subst (λ x. get_or opens x 0 < block * length new) (sym e) k.reached
  ];
}

pub started_all : (opens starts : List ℕ) → StartedFor (length opens) opens starts → Started opens starts
started_all opens starts h = record { within = h.within; before = h.before; covers = h.covers }
