-- Each list of tokens whose annotations have a name, or an error in it, has a finding.
use Rattle.std.proofs.Common.{◌≡◌, ◌≢◌, ◌⊎◌, ℕ, zero, suc, ◌<◌, ◌+◌, List, [], ◌∷◌, true, false, refl, sym, ap, ◌∙◌, inl, inr, subst, length, drop, arith, Some, None, Err}
use Rattle.std.specs.Prelude.{Option}
use Rattle.std.specs.Str.{IsUtf8, IsCharBoundary}
use Rattle.std.proofs.lemmas.Bool.{cases_Bool}
use Rattle.wat_lex.specs.values.UniqueValues.{SomeName, good, fault}
use Rattle.wat_lex.specs.tokens.ReadableTokens.{IsTokenOf, word_of}
use Rattle.wat_lex.specs.tokens.EverySetting.{NamesExist, NamesAreValues, TokensAreReadable, TokensEndAtBoundaries, WordsOfTokens}
use Rattle.wat_lex.specs.tokens.Setting.{Setting, lenient}
use Rattle.wat_lex.specs.tokens.Tiling.{Tiling}
use Rattle.wat_lex.specs.grammar.Words.{Word}
use Rattle.wat_lex.specs.declared.lexer.faults.LexError.TheVariants.{EmptyAnnotation}
use Rattle.wat_lex.specs.declared.lexer.faults.LexFault.{LexFault}
use Rattle.wat_lex.specs.declared.lexer.kinds.TokenKind.{TokenKind}
use Rattle.wat_lex.specs.declared.lexer.kinds.TokenKind.TheVariants.{LineComment, BlockComment, Whitespace, LParen, RParen, String, Id, Keyword, Annotation, Reserved, Integer, Float}
use Rattle.wat_lex.specs.declared.lexer.kinds.Token.{Token}
use Rattle.wat_lexer_parser.specs.declared.parser.fault.Step.TheVariants.{Pass, Take, Finish, Skip}
use Rattle.wat_lexer_parser.specs.names.RegisteredNames.{Names, is_registered}
use Rattle.wat_lexer_parser.specs.places.Source.{Source, IsRead}
use Rattle.wat_lexer_parser.specs.shown.Shown.{HasName, IsMisnamed, Shown, none_left, blank, other, unmarked, none_follows, no_annotation, misnamed, registered, skipped, unclosed}
use Rattle.wat_lexer_parser.specs.inside.ShownIn.{Showing, shown_in, first}
use Rattle.wat_lex.specs.tokens.Blanks.{is_blank, is_marked}
use Rattle.wat_lexer_parser.proofs.groups.Closing.{closed_from, group_from, closed_shorter}
use Rattle.wat_lexer_parser.proofs.groups.Closing.{Closed, close, beyond, nested}
use Rattle.wat_lexer_parser.proofs.shown.Skipping.{past_closed, closes_or_not}
use Rattle.wat_lexer_parser.proofs.shown.Annotations.{is_annotation, no_name}
use Rattle.wat_lexer_parser.proofs.shown.Steps.{blank_step, other_step, named, misnamed_is, by_step, mark_step, name_step, registered_step}

kind_sort : (k : TokenKind) → (k ≡ LParen) ⊎ ((is_blank k ≡ true) ⊎ ((is_blank k ≡ false) × (k ≢ LParen)))
kind_sort Whitespace = inr (inl refl)
kind_sort LineComment = inr (inl refl)
kind_sort BlockComment = inr (inl refl)
kind_sort LParen = inl refl
kind_sort RParen = inr (inr (refl, λ e. cc))
kind_sort String = inr (inr (refl, λ e. cc))
kind_sort Id = inr (inr (refl, λ e. cc))
kind_sort Keyword = inr (inr (refl, λ e. cc))
kind_sort Annotation = inr (inr (refl, λ e. cc))
kind_sort Reserved = inr (inr (refl, λ e. cc))
kind_sort (Integer k) = inr (inr (refl, λ e. cc))
kind_sort (Float k) = inr (inr (refl, λ e. cc))

-- Each annotation has a name, or an error in it.
abbrev pub Nameable : List ℕ → List Token → Type 0
Nameable text [] = Unit {0}
Nameable text (t ∷ ts) = (t.kind ≡ Annotation → SomeName EmptyAnnotation (word_of text t)) × Nameable text ts

-- The theorems about words, names and tokens that the proof uses.
pub record Known : Type 0 where
  pub there : NamesExist
  pub values : NamesAreValues
  pub readable : TokensAreReadable
  pub boundary : TokensEndAtBoundaries
  pub words : WordsOfTokens

name_there : Known → (text : List ℕ) (t : Token) → IsUtf8 text → IsTokenOf text t → t.kind ≡ Annotation → SomeName EmptyAnnotation (word_of text t)
name_there known text t u h e = known.there EmptyAnnotation (word_of text t) (inr (subst (λ w. Word Annotation w lenient) (sym (known.words text t u h)) (subst (λ k. Word k h.word lenient) e h.is)))

pub nameable : Known → (s : Setting) (from to : ℕ) (ts : List Token) → IsUtf8 s.text → IsCharBoundary s.text from → Tiling s from to ts → Nameable s.text ts
nameable known s from to [] u b h = tt
nameable known s from to (t ∷ ts) u b h =
    let e : from + t.len ≡ t.offset + t.len = ap (λ p. p + t.len) (sym h.0.offset) in
    (name_there known s.text t u (known.readable s from t b h.0), nameable known s (t.offset + t.len) to ts u (known.boundary s from t u b h.0) h.1)

nameable_drop : (text : List ℕ) (p : ℕ) (ts : List Token) → Nameable text ts → Nameable text (drop p ts)
nameable_drop text zero ts h = h
nameable_drop text (suc p) [] h = tt
nameable_drop text (suc p) (t ∷ ts) h = nameable_drop text p ts h.1

nameable_past : (x : List ℕ) (s r : List Token) → Closed s r → Nameable x s → Nameable x r
nameable_past x s r (close e) h = h.1
nameable_past x s r (beyond {s = u} e g) h = nameable_past x u r g h.1
nameable_past x s r (nested {s = u} {m = m} e g k) h = nameable_past x m r k (nameable_past x u m g h.1)

abbrev pub Below : List ℕ → Option LexFault → Names → ℕ → Type 0
Below x z n d = (ts : List Token) → length ts < d → Nameable x ts → Shown x z n ts (shown_in x z n Showing ts)

opened : Known → (x : List ℕ) (z : Option LexFault) (n : Names) (t : Token) (r : List Token) → Below x z n (length (t ∷ r)) → Nameable x r → t.kind ≡ LParen → is_marked x t ≡ true → Shown x z n (t ∷ r) (shown_in x z n Showing (t ∷ r))
opened known x z n t [] below h e f = subst (Shown x z n (t ∷ [])) (sym (by_step x z n t [] Finish (mark_step x n t None true e f))) (none_follows (e, f))
opened known x z n t (u ∷ r) below h e f = elim (is_annotation u.kind) [
  | inl a ↦ by_name a (h.0 a)
  | inr a ↦ subst (Shown x z n (t ∷ u ∷ r)) (sym (by_step x z n t (u ∷ r) Take (name_step x n t u None e f (no_name x u u.kind a)))) (no_annotation (e, f) a)
]
  where
    skips : (v : List ℕ) → HasName x u v → is_registered n v ≡ false → Shown x z n (t ∷ u ∷ r) (shown_in x z n Showing (t ∷ u ∷ r))
    skips v g i =
        let k = by_step x z n t (u ∷ r) Skip (registered_step x n t u v false e f (named known.values x u v g) i) in
        elim (closes_or_not x z n t 0 (u ∷ r)) [
          | inl l ↦
              let m = l.1.0 in
              let c = l.1.1 in
              subst (Shown x z n (t ∷ u ∷ r)) (sym (k ∙ past_closed x z n t 0 (u ∷ r) m c))
              (skipped (e, f) g i (group_from (u ∷ r) m c) (below m (omega (arith, closed_shorter (u ∷ r) m c)) (nameable_past x (u ∷ r) m c h)))
          | inr l ↦ subst (Shown x z n (t ∷ u ∷ r)) (sym (k ∙ l.shows)) (unclosed (e, f) g i (λ m c. l.none m (m, closed_from (u ∷ r) m c, refl)))
        ]

    by_good : (v : List ℕ) → HasName x u v → Shown x z n (t ∷ u ∷ r) (shown_in x z n Showing (t ∷ u ∷ r))
    by_good v g = elim (cases_Bool (is_registered n v)) [
      | inl i ↦ subst (Shown x z n (t ∷ u ∷ r)) (sym (by_step x z n t (u ∷ r) Take (registered_step x n t u v true e f (named known.values x u v g) i))) (registered (e, f) g i)
      | inr i ↦ skips v g i
    ]

    by_bad : (v : _) → IsMisnamed x u v → Shown x z n (t ∷ u ∷ r) (shown_in x z n Showing (t ∷ u ∷ r))
    by_bad v g = subst (Shown x z n (t ∷ u ∷ r)) (sym (by_step x z n t (u ∷ r) _ (name_step x n t u (Some (Err v)) e f (misnamed_is known.values x u v g)))) (misnamed (e, f) g)

    by_name : u.kind ≡ Annotation → SomeName EmptyAnnotation (word_of x u) → Shown x z n (t ∷ u ∷ r) (shown_in x z n Showing (t ∷ u ∷ r))
    by_name a (good {name = v} p q s) = by_good v (record { kind = a; name = p; utf8 = q; some = s })
    by_name a (fault {e = v} p) = by_bad v (record { kind = a; fault = p })

one_more : Known → (x : List ℕ) (z : Option LexFault) (n : Names) (t : Token) (r : List Token) → Below x z n (length (t ∷ r)) → Nameable x r → Shown x z n (t ∷ r) (shown_in x z n Showing (t ∷ r))
one_more known x z n t r below h = elim (kind_sort t.kind) [
  | inl e ↦ elim (cases_Bool (is_marked x t)) [
    | inl f ↦ opened known x z n t r below h e f
    | inr f ↦ subst (Shown x z n (t ∷ r)) (sym (by_step x z n t r Take (mark_step x n t (first r) false e f))) (unmarked e f)
  ]
  | inr k ↦ elim k [
    | inl e ↦ subst (Shown x z n (t ∷ r)) (sym (by_step x z n t r Pass (blank_step x n t (first r) t.kind e))) (blank e (below r (omega arith) h))
    | inr e ↦ subst (Shown x z n (t ∷ r)) (sym (by_step x z n t r Take (other_step x n t (first r) t.kind e.0 e.1))) (other e.0 e.1)
  ]
]

below_all : Known → (x : List ℕ) (z : Option LexFault) (n : Names) (d : ℕ) → Below x z n d
unfolding shown_in
below_all known x z n zero ts l h = absurd (omega arith)
below_all known x z n (suc d) [] l h = none_left
below_all known x z n (suc d) (t ∷ r) l h = one_more known x z n t r (λ ts k g. below_all known x z n d ts (omega arith) g) h.1

shows_shown : Known → (x : List ℕ) (z : Option LexFault) (n : Names) (ts : List Token) → Nameable x ts → Shown x z n ts (shown_in x z n Showing ts)
shows_shown known x z n ts h = below_all known x z n (suc (length ts)) ts (omega arith) h

pub something_shown : Known → (s : Source) (n : Names) (p : ℕ) → IsUtf8 s.setting.text → IsCharBoundary s.setting.text 0 → IsRead s → Shown s.setting.text s.ending n (drop p s.tokens) (shown_in s.setting.text s.ending n Showing (drop p s.tokens))
something_shown known s n p u b h = shows_shown known s.setting.text s.ending n (drop p s.tokens) (nameable_drop s.setting.text p s.tokens (nameable known s.setting 0 h.to s.tokens u b h.tiling))
