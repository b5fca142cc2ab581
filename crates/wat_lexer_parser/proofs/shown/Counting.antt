-- The visible tokens of the significant tokens.
use Rattle.std.proofs.Common.{◌≡◌, ℕ, zero, suc, true, false, List, [], ◌∷◌, refl, sym, ap, subst, inl, inr, Some, None, Ok}
use Rattle.std.specs.Prelude.{Option, cond, not}
use Rattle.std.proofs.lemmas.Bool.{cases_Bool}
use Rattle.wat_lex.specs.declared.lexer.faults.LexFault.{LexFault}
use Rattle.wat_lex.specs.declared.lexer.kinds.Token.{Token}
use Rattle.wat_lex.specs.declared.lexer.kinds.TokenKind.{TokenKind}
use Rattle.wat_lex.specs.declared.lexer.kinds.TokenKind.TheVariants.{LineComment, BlockComment, Whitespace, LParen, RParen, String, Id, Keyword, Annotation, Reserved, Integer, Float}
use Rattle.wat_lexer_parser.specs.groups.Sorts.{Group, NoGroup}
use Rattle.wat_lex.specs.tokens.Blanks.{is_blank, is_marked}
use Rattle.wat_lexer_parser.specs.lemmas.Parts.{is_paren}
use Rattle.wat_lexer_parser.specs.names.RegisteredNames.{Names}
use Rattle.wat_lexer_parser.specs.laws.Counting.{counting, counting_after}
use Rattle.wat_lexer_parser.specs.shown.Shown.{Finding, Shown, ended, unclosed_ending, none_left, blank, other, unmarked, none_follows, no_annotation, misnamed, registered, skipped, unclosed}
use Rattle.wat_lexer_parser.proofs.groups.Closing.{Closed, Closings, close, beyond, nested, closed_from, group_from, kind_cases, at_nil, at_close, at_plain, at_open}

counting_blank : (t : Token) (r : List Token) → is_blank t.kind ≡ true → counting (t ∷ r) ≡ counting r
counting_blank t r e = ap (λ b. cond (not b) (t ∷ counting r) (counting r)) e

counting_other : (t : Token) (r : List Token) → is_blank t.kind ≡ false → counting (t ∷ r) ≡ t ∷ counting r
counting_other t r e = ap (λ b. cond (not b) (t ∷ counting r) (counting r)) e

ended_counts : (z : Option LexFault) → counting_after (ended z) ≡ ended z
ended_counts None = refl
ended_counts (Some f) = refl

left_counts : (z : Option LexFault) (t : Token) → counting_after (unclosed_ending z t) ≡ unclosed_ending z t
left_counts None t = refl
left_counts (Some f) t = refl

blank_plain : (k : TokenKind) → is_blank k ≡ true → is_paren k ≡ false
blank_plain Whitespace e = refl
blank_plain LineComment e = refl
blank_plain BlockComment e = refl
blank_plain LParen e = cc
blank_plain RParen e = cc
blank_plain String e = refl
blank_plain Id e = refl
blank_plain Keyword e = refl
blank_plain Annotation e = refl
blank_plain Reserved e = refl
blank_plain (Integer k) e = refl
blank_plain (Float k) e = refl

-- The ends of groups among the significant tokens are those among all tokens.
closed_counts : (s r : List Token) → Closed s r → Closed (counting s) (counting r)
closed_counts s r (close {t = t} e) = subst (λ x. Closed x (counting r)) (sym (counting_other t r (ap is_blank e))) (close e)
closed_counts s r (beyond {t = t} {s = u} e h) = elim (cases_Bool (is_blank t.kind)) [
  | inl b ↦ subst (λ x. Closed x (counting r)) (sym (counting_blank t u b)) (closed_counts u r h)
  | inr b ↦ subst (λ x. Closed x (counting r)) (sym (counting_other t u b)) (beyond e (closed_counts u r h))
]
closed_counts s r (nested {t = t} {s = u} {m = m} e g h) =
    subst (λ x. Closed x (counting r)) (sym (counting_other t u (ap is_blank e))) (nested e (closed_counts u m g) (closed_counts m r h))

some_close : (s : List Token) (d : ℕ) (q : List Token) → Closings (suc d) (counting s) q → (r : List Token) × Closings (suc d) s r
some_close [] d q h = absurd (at_nil h.0 h.1)
some_close (t ∷ s) d q h = elim (cases_Bool (is_blank t.kind)) [
  | inl b ↦
      let k = some_close s d q (subst (λ x. Closings (suc d) x q) (counting_blank t s b) h) in
      (k.0, (k.1.0, beyond (blank_plain t.kind b) k.1.1, k.1.2))
  | inr b ↦
      let g = subst (λ x. Closings (suc d) x q) (counting_other t s b) h in
      elim (kind_cases t.kind) [
        | inl e ↦
            let o = at_open t (counting s) g.0 e g.1 in
            let k = some_close s (suc d) q (o.0, o.1, (g.0, o.2, g.2)) in
            (k.0, (k.1.2.0, nested e k.1.1 k.1.2.1, k.1.2.2))
        | inr f ↦ elim f [
          | inl e ↦
              let same = at_close t (counting s) g.0 e g.1 in
              (elim d as (λ d. Closings d g.0 q → (r : List Token) × Closings (suc d) (t ∷ s) r) [
                | zero ↦ λ w. (s, (s, close e, refl))
                | suc c ↦ λ w. let k = some_close s c q (subst (λ x. Closings (suc c) x q) (sym same) w) in (k.0, (s, close e, k.1))
              ]) g.2
          | inr e ↦
              let k = some_close s d q (g.0, at_plain t (counting s) g.0 e g.1, g.2) in
              (k.0, (k.1.0, beyond e k.1.1, k.1.2))
        ]
      ]
]

group_counts : (s r : List Token) → Group s r → Group (counting s) (counting r)
group_counts s r g = group_from (counting s) (counting r) (closed_counts s r (closed_from s r g))

no_group_counts : (s : List Token) → NoGroup s → NoGroup (counting s)
no_group_counts s none q g =
    let k = some_close s 0 q (q, closed_from (counting s) q g, refl) in
    none k.1.0 (group_from s k.1.0 k.1.1)

-- Each `(` that is followed by `@` has a significant token directly after it.
abbrev pub IsFollowed : List ℕ → Token → List Token → Type 0
IsFollowed text t [] = Unit {0}
IsFollowed text t (u ∷ r) = t.kind ≡ LParen → is_marked text t ≡ true → is_blank u.kind ≡ false

abbrev pub AreFollowed : List ℕ → List Token → Type 0
AreFollowed text [] = Unit {0}
AreFollowed text (t ∷ r) = IsFollowed text t r × AreFollowed text r

followed_past : (text : List ℕ) (s r : List Token) → Closed s r → AreFollowed text s → AreFollowed text r
followed_past text s r (close e) f = f.1
followed_past text s r (beyond {s = u} e h) f = followed_past text u r h f.1
followed_past text s r (nested {s = u} {m = m} e g h) f = followed_past text m r h (followed_past text u m g f.1)

module _ (text : List ℕ) (z : Option LexFault) (n : Names) where
  -- A significant token at the start.
  of_one : (t : Token) (r : List Token) (a : Finding) → is_blank t.kind ≡ false → Shown text z n (t ∷ counting r) a → Shown text z n (counting (t ∷ r)) a
  of_one t r a e h = subst (λ x. Shown text z n x a) (sym (counting_other t r e)) h

  -- Two significant tokens at the start.
  of_two : (t u : Token) (r : List Token) (a : Finding) → t.kind ≡ LParen → is_blank u.kind ≡ false → Shown text z n (t ∷ u ∷ counting r) a → Shown text z n (counting (t ∷ u ∷ r)) a
  of_two t u r a e b h = of_one t (u ∷ r) a (ap is_blank e) (subst (λ x. Shown text z n (t ∷ x) a) (sym (counting_other u r b)) h)

  -- The first of two significant tokens is visible.
  shows_two : (t u : Token) (r : List Token) → t.kind ≡ LParen → is_blank u.kind ≡ false → Shown text z n (t ∷ u ∷ counting r) (Ok (Some (t, u ∷ counting r)))
      → Shown text z n (counting (t ∷ u ∷ r)) (Ok (Some (t, counting (u ∷ r))))
  shows_two t u r e b h =
      of_two t u r (Ok (Some (t, counting (u ∷ r)))) e b (subst (λ x. Shown text z n (t ∷ u ∷ counting r) (Ok (Some (t, x)))) (sym (counting_other u r b)) h)

  pub shown_counts : (ts : List Token) (a : Finding) → AreFollowed text ts → Shown text z n ts a → Shown text z n (counting ts) (counting_after a)
  shown_counts ts a f none_left = subst (Shown text z n []) (sym (ended_counts z)) none_left
  shown_counts ts a f (blank {t = t} {r = r} b h) = subst (λ x. Shown text z n x (counting_after a)) (sym (counting_blank t r b)) (shown_counts r a f.1 h)
  shown_counts ts a f (none_follows {t = t} m) = of_one t [] (counting_after (ended z)) (ap is_blank m.0) (subst (Shown text z n (t ∷ [])) (sym (ended_counts z)) (none_follows m))
  shown_counts ts a f (no_annotation {t = t} {u = u} {r = r} m k) = let b = f.0 m.0 m.1 in shows_two t u r m.0 b (no_annotation m k)
  shown_counts ts a f (misnamed {t = t} {u = u} {r = r} m w) = of_two t u r a m.0 (ap is_blank w.kind) (misnamed m w)
  shown_counts ts a f (registered {t = t} {u = u} {r = r} m w i) = shows_two t u r m.0 (ap is_blank w.kind) (registered m w i)
  shown_counts ts a f (skipped {t = t} {u = u} {r = r} {m = q} m w i g h) =
      let b = ap is_blank w.kind in
      let group = subst (λ x. Group x (counting q)) (counting_other u r b) (group_counts (u ∷ r) q g) in
      of_two t u r (counting_after a) m.0 b (skipped m w i group (shown_counts q a (followed_past text (u ∷ r) q (closed_from (u ∷ r) q g) f.1) h))
  shown_counts ts a f (unclosed {t = t} {u = u} {r = r} m w i g) =
      let b = ap is_blank w.kind in
      let none = subst NoGroup (counting_other u r b) (no_group_counts (u ∷ r) g) in
      of_two t u r (counting_after (unclosed_ending z t)) m.0 b (subst (Shown text z n (t ∷ u ∷ counting r)) (sym (left_counts z t)) (unclosed m w i none))
  shown_counts ts a f (unmarked {t = t} {r = r} e k) = of_one t r (Ok (Some (t, counting r))) (ap is_blank e) (unmarked e k)
  shown_counts ts a f (other {t = t} {r = r} b k) = of_one t r (Ok (Some (t, counting r))) b (other b k)
