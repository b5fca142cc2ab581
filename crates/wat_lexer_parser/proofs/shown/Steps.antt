-- The finding of the relation is the one of the function.
use Rattle.std.proofs.Common.{◌≡◌, ◌≢◌, ℕ, List, [], ◌∷◌, Bool, true, false, refl, ap, ◌∙◌, inl, inr, Some, None, Ok, Err}
use Rattle.std.specs.Prelude.{Option, Result, if◌then◌else◌}
use Rattle.wat_lex.specs.declared.lexer.faults.LexError.{LexError}
use Rattle.wat_lex.specs.declared.lexer.faults.LexError.TheVariants.{EmptyAnnotation}
use Rattle.wat_lex.specs.declared.lexer.faults.LexFault.{LexFault}
use Rattle.wat_lex.specs.declared.lexer.kinds.TokenKind.{TokenKind}
use Rattle.wat_lex.specs.declared.lexer.kinds.TokenKind.TheVariants.{LineComment, BlockComment, Whitespace, LParen, RParen, String, Id, Keyword, Annotation, Reserved, Integer, Float}
use Rattle.wat_lex.specs.declared.lexer.kinds.Token.{Token}
use Rattle.wat_lex.specs.tokens.ReadableTokens.{word_of}
use Rattle.wat_lexer_parser.specs.declared.parser.fault.Step.{Step}
use Rattle.wat_lexer_parser.specs.declared.parser.fault.Step.TheVariants.{Pass, Take, Finish, Skip}
use Rattle.wat_lexer_parser.specs.groups.Sorts.{Group}
use Rattle.wat_lexer_parser.specs.names.RegisteredNames.{Names, is_registered}
use Rattle.wat_lexer_parser.specs.shown.Shown.{Finding, HasName, IsMisnamed, Shown, none_left, blank, other, unmarked, none_follows, no_annotation, misnamed, registered, skipped, unclosed, unclosed_ending}
use Rattle.wat_lexer_parser.specs.inside.ShownIn.{Showing, Inside, shown_in, first, step_of, step_kind, step_next, step_named, name_by, name_at}
use Rattle.wat_lex.specs.tokens.Blanks.{is_blank, is_marked}
use Rattle.wat_lexer_parser.proofs.groups.Closing.{closed_from, group_from}
use Rattle.wat_lexer_parser.proofs.shown.Skipping.{past_closed, closes_or_not}
use Rattle.wat_lexer_parser.proofs.shown.Looks.{step_at}
use Rattle.wat_lexer_parser.specs.lemmas.After.{does}
use Rattle.wat_lexer_parser.proofs.shown.Annotations.{no_name}
use Rattle.wat_lex.specs.tokens.EverySetting.{NamesAreValues}

pub blank_step : (x : List ℕ) (n : Names) (t : Token) (u : Option Token) (k : TokenKind) → is_blank k ≡ true → step_kind x n t k u ≡ Pass
blank_step x n t u Whitespace e = refl
blank_step x n t u LineComment e = refl
blank_step x n t u BlockComment e = refl
blank_step x n t u LParen e = cc
blank_step x n t u RParen e = cc
blank_step x n t u String e = cc
blank_step x n t u Id e = cc
blank_step x n t u Keyword e = cc
blank_step x n t u Annotation e = cc
blank_step x n t u Reserved e = cc
blank_step x n t u (Integer k) e = cc
blank_step x n t u (Float k) e = cc

pub other_step : (x : List ℕ) (n : Names) (t : Token) (u : Option Token) (k : TokenKind) → is_blank k ≡ false → k ≢ LParen → step_kind x n t k u ≡ Take
other_step x n t u Whitespace e f = cc
other_step x n t u LineComment e f = cc
other_step x n t u BlockComment e f = cc
other_step x n t u LParen e f = absurd (f refl)
other_step x n t u RParen e f = refl
other_step x n t u String e f = refl
other_step x n t u Id e f = refl
other_step x n t u Keyword e f = refl
other_step x n t u Annotation e f = refl
other_step x n t u Reserved e f = refl
other_step x n t u (Integer k) e f = refl
other_step x n t u (Float k) e f = refl

-- The name of an annotation in the grammar is that of the function.
pub named : NamesAreValues → (x : List ℕ) (u : Token) (v : List ℕ) → HasName x u v → name_at x u ≡ Some (Ok v)
named laws x u v h = ap (λ k. name_by k x u) h.kind ∙ ap (λ r. Some r) (laws.good EmptyAnnotation (word_of x u) v h.name h.utf8 h.some)

pub misnamed_is : NamesAreValues → (x : List ℕ) (u : Token) (e : LexError) → IsMisnamed x u e → name_at x u ≡ Some (Err e)
misnamed_is laws x u e h = ap (λ k. name_by k x u) h.kind ∙ ap (λ r. Some r) (laws.fault EmptyAnnotation e (word_of x u) h.fault)

-- The finding after a step.
pub by_step : (x : List ℕ) (z : Option LexFault) (n : Names) (t : Token) (r : List Token) (k : Step) → step_of x n t (first r) ≡ k → shown_in x z n Showing (t ∷ r) ≡ does x z n t r k
by_step x z n t r k e = step_at x z n t r ∙ ap (does x z n t r) e

pub mark_step : (x : List ℕ) (n : Names) (t : Token) (u : Option Token) (b : Bool) → t.kind ≡ LParen → is_marked x t ≡ b → step_of x n t u ≡ (if b then step_next x n u else Take)
mark_step x n t u b e f = ap (λ k. step_kind x n t k u) e ∙ ap (λ y. if y then step_next x n u else Take) f

pub name_step : (x : List ℕ) (n : Names) (t u : Token) (v : Option (Result (List ℕ) LexError)) → t.kind ≡ LParen → is_marked x t ≡ true → name_at x u ≡ v → step_of x n t (Some u) ≡ step_named n u v
name_step x n t u v e f g = mark_step x n t (Some u) true e f ∙ ap (step_named n u) g

pub registered_step : (x : List ℕ) (n : Names) (t u : Token) (v : List ℕ) (b : Bool) → t.kind ≡ LParen → is_marked x t ≡ true → name_at x u ≡ Some (Ok v) → is_registered n v ≡ b → step_of x n t (Some u) ≡ (if b then Take else Skip)
registered_step x n t u v b e f g h = name_step x n t u (Some (Ok v)) e f g ∙ ap (λ y. if y then Take else Skip) h

no_group : (x : List ℕ) (z : Option LexFault) (n : Names) (t : Token) (ts : List Token) → ((m : List Token) → Group ts m → ⊥) → shown_in x z n (Inside t 0) ts ≡ unclosed_ending z t
no_group x z n t ts h = elim (closes_or_not x z n t 0 ts) [ inl g ↦ absurd (h g.1.0 (group_from ts g.1.0 g.1.1)) | inr g ↦ g.shows ]

pub shows_is : NamesAreValues → (x : List ℕ) (z : Option LexFault) (n : Names) (ts : List Token) (a : Finding) → Shown x z n ts a → shown_in x z n Showing ts ≡ a
unfolding shown_in
shows_is laws x z n ts a none_left = refl
shows_is laws x z n ts a (blank {t = t} {r = r} e h) = by_step x z n t r Pass (blank_step x n t (first r) t.kind e) ∙ shows_is laws x z n r a h
shows_is laws x z n ts a (none_follows {t = t} m) = by_step x z n t [] Finish (mark_step x n t None true m.0 m.1)
shows_is laws x z n ts a (no_annotation {t = t} {u = u} {r = r} m g) = by_step x z n t (u ∷ r) Take (name_step x n t u None m.0 m.1 (no_name x u u.kind g))
shows_is laws x z n ts a (misnamed {t = t} {u = u} {r = r} {e = v} m g) = by_step x z n t (u ∷ r) _ (name_step x n t u (Some (Err v)) m.0 m.1 (misnamed_is laws x u v g))
shows_is laws x z n ts a (registered {t = t} {u = u} {r = r} {x = v} m g h) = by_step x z n t (u ∷ r) Take (registered_step x n t u v true m.0 m.1 (named laws x u v g) h)
shows_is laws x z n ts a (skipped {t = t} {u = u} {r = r} {m = p} {x = v} m g h k l) =
    by_step x z n t (u ∷ r) Skip (registered_step x n t u v false m.0 m.1 (named laws x u v g) h) ∙ past_closed x z n t 0 (u ∷ r) p (closed_from (u ∷ r) p k) ∙ shows_is laws x z n p a l
shows_is laws x z n ts a (unclosed {t = t} {u = u} {r = r} {x = v} m g h k) =
    by_step x z n t (u ∷ r) Skip (registered_step x n t u v false m.0 m.1 (named laws x u v g) h) ∙ no_group x z n t (u ∷ r) k
shows_is laws x z n ts a (unmarked {t = t} {r = r} e f) = by_step x z n t r Take (mark_step x n t (first r) false e f)
shows_is laws x z n ts a (other {t = t} {r = r} e f) = by_step x z n t r Take (other_step x n t (first r) t.kind e f)
