-- The visible tokens of two lists of raw tokens that differ only in whitespace and comments, at one position.
use Rattle.std.proofs.Common.{◌≡◌, ◌≢◌, ℕ, List, [], ◌∷◌, ◌++◌, true, false, refl, sym, ap, ◌∙◌, subst, inl, inr, Some, None, Ok, Err}
use Rattle.std.specs.Prelude.{Option, IsTrue, if◌then◌else◌}
use Rattle.std.specs.Str.{chars}
use Rattle.wat_lex.specs.tokens.ReadableTokens.{token_text}
use Rattle.wat_lex.specs.values.WordValues.{name_value}
use Rattle.wat_lex.specs.declared.lexer.faults.LexError.TheVariants.{EmptyAnnotation}
use Rattle.wat_lex.specs.declared.lexer.faults.LexFault.{LexFault}
use Rattle.wat_lex.specs.declared.lexer.kinds.Token.{Token}
use Rattle.wat_lex.specs.declared.lexer.kinds.TokenKind.{TokenKind}
use Rattle.wat_lex.specs.declared.lexer.kinds.TokenKind.TheVariants.{LineComment, BlockComment, Whitespace, LParen, RParen, String, Id, Keyword, Annotation, Reserved, Integer, Float}
use Rattle.wat_lexer_parser.specs.declared.parser.fault.Fault.{Fault}
use Rattle.wat_lexer_parser.specs.declared.parser.fault.Step.{Step}
use Rattle.wat_lexer_parser.specs.declared.parser.fault.Step.TheVariants.{Pass, Take, Finish, Refuse, Skip}
use Rattle.wat_lex.specs.tokens.Blanks.{is_blank, is_marked}
use Rattle.wat_lexer_parser.specs.lemmas.Parts.{is_paren}
use Rattle.wat_lexer_parser.specs.lemmas.After.{does}
use Rattle.wat_lexer_parser.specs.names.RegisteredNames.{Names}
use Rattle.wat_lexer_parser.specs.shown.Shown.{Finding, ended, unclosed_ending}
use Rattle.wat_lexer_parser.specs.inside.ShownIn.{Mode, Showing, Inside, shown_in, first, step_of, step_kind, step_next, step_named, name_by, after}
use Rattle.wat_lexer_parser.proofs.shown.Annotations.{is_annotation, no_name}
use Rattle.wat_lexer_parser.proofs.shown.Skipping.{after_plain}
use Rattle.wat_lexer_parser.proofs.shown.Steps.{blank_step, by_step}

abbrev pub AreBlank : List Token → Type 0
AreBlank [] = Unit {0}
AreBlank (t ∷ ts) = IsTrue (is_blank t.kind) × AreBlank ts

blank_no_paren : (k : TokenKind) → is_blank k ≡ true → is_paren k ≡ false
blank_no_paren Whitespace e = refl
blank_no_paren LineComment e = refl
blank_no_paren BlockComment e = refl
blank_no_paren LParen e = cc
blank_no_paren RParen e = cc
blank_no_paren String e = refl
blank_no_paren Id e = refl
blank_no_paren Keyword e = refl
blank_no_paren Annotation e = refl
blank_no_paren Reserved e = refl
blank_no_paren (Integer k) e = refl
blank_no_paren (Float k) e = refl

blank_no_annotation : (k : TokenKind) → is_blank k ≡ true → k ≢ Annotation
blank_no_annotation k e f = let g : false ≡ true = sym (ap is_blank f) ∙ e in cc

-- Whitespace and comments are skipped, also inside a group.
passes : (x : List ℕ) (z : Option LexFault) (n : Names) (m : Mode) (b r : List Token) → AreBlank b → shown_in x z n m (b ++ r) ≡ shown_in x z n m r
unfolding shown_in
passes x z n m [] r h = refl
passes x z n Showing (t ∷ b) r h = by_step x z n t (b ++ r) Pass (blank_step x n t (first (b ++ r)) t.kind h.0) ∙ passes x z n Showing b r h.1
passes x z n (Inside o d) (t ∷ b) r h = ap (λ k. shown_in x z n k (b ++ r)) (after_plain t.kind o d (blank_no_paren t.kind h.0)) ∙ passes x z n (Inside o d) b r h.1

-- In both texts the tokens have the same bytes, and the same ones are followed by `@`.
abbrev pub SameAfter : List ℕ → List ℕ → List Token → Type 0
SameAfter x y [] = Unit {0}
SameAfter x y (t ∷ ts) = (token_text y t ≡ token_text x t) × (is_marked y t ≡ is_marked x t) × SameAfter x y ts

-- Like `SameAfter`, but the byte after a token that is not followed by an annotation may differ.
abbrev pub SameBefore : List ℕ → List ℕ → List Token → Type 0
SameBefore x y [] = Unit {0}
SameBefore x y (t ∷ []) = (token_text y t ≡ token_text x t) × Unit {0}
SameBefore x y (t ∷ u ∷ ts) = (token_text y t ≡ token_text x t) × (t.kind ≡ LParen → u.kind ≡ Annotation → is_marked y t ≡ is_marked x t) × SameBefore x y (u ∷ ts)

same_name : (x y : List ℕ) (u : Token) (k : TokenKind) → token_text y u ≡ token_text x u → name_by k x u ≡ name_by k y u
same_name x y u Annotation e = ap (λ w. Some (name_value EmptyAnnotation (chars w))) (sym e)
same_name x y u Whitespace e = refl
same_name x y u LineComment e = refl
same_name x y u BlockComment e = refl
same_name x y u LParen e = refl
same_name x y u RParen e = refl
same_name x y u String e = refl
same_name x y u Id e = refl
same_name x y u Keyword e = refl
same_name x y u Reserved e = refl
same_name x y u (Integer k) e = refl
same_name x y u (Float k) e = refl

-- Only the step of a parenthesis depends on the text.
steps_by : (x y : List ℕ) (n : Names) (t : Token) (u v : Option Token) (k : TokenKind) → (k ≡ LParen → step_kind x n t LParen u ≡ step_kind y n t LParen v) → step_kind x n t k u ≡ step_kind y n t k v
steps_by x y n t u v LParen h = h refl
steps_by x y n t u v Whitespace h = refl
steps_by x y n t u v LineComment h = refl
steps_by x y n t u v BlockComment h = refl
steps_by x y n t u v RParen h = refl
steps_by x y n t u v String h = refl
steps_by x y n t u v Id h = refl
steps_by x y n t u v Keyword h = refl
steps_by x y n t u v Annotation h = refl
steps_by x y n t u v Reserved h = refl
steps_by x y n t u v (Integer k) h = refl
steps_by x y n t u v (Float k) h = refl

-- A parenthesis that is not followed by an annotation is visible, regardless of the text after it.
unnamed_step : (x : List ℕ) (n : Names) (t v : Token) → v.kind ≢ Annotation → step_kind x n t LParen (Some v) ≡ Take
unnamed_step x n t v e = by_mark (is_marked x t)
  where
    named : step_next x n (Some v) ≡ Take
    named = ap (step_named n v) (no_name x v v.kind e)

    by_mark : (b : _) → (if b then step_next x n (Some v) else Take) ≡ Take
    by_mark true = named
    by_mark false = refl

unnamed_same : (x y : List ℕ) (n : Names) (t v w : Token) → v.kind ≢ Annotation → w.kind ≢ Annotation → step_of x n t (Some v) ≡ step_of y n t (Some w)
unnamed_same x y n t v w e f = steps_by x y n t (Some v) (Some w) t.kind (λ _. unnamed_step x n t v e ∙ sym (unnamed_step y n t w f))

next_same : (x y : List ℕ) (n : Names) (u : Token) → token_text y u ≡ token_text x u → step_next x n (Some u) ≡ step_next y n (Some u)
next_same x y n u e = ap (step_named n u) (same_name x y u u.kind e)

marked_same : (x y : List ℕ) (n : Names) (t : Token) (u : Option Token) → is_marked y t ≡ is_marked x t → step_next x n u ≡ step_next y n u → step_of x n t u ≡ step_of y n t u
marked_same x y n t u e f = steps_by x y n t u u t.kind (λ _. ap (λ b. if b then step_next x n u else Take) (sym e) ∙ ap (λ k. if is_marked y t then k else Take) f)

before_same : (x y : List ℕ) (n : Names) (t u : Token) → token_text y u ≡ token_text x u → (t.kind ≡ LParen → u.kind ≡ Annotation → is_marked y t ≡ is_marked x t) → step_of x n t (Some u) ≡ step_of y n t (Some u)
before_same x y n t u e f = elim (is_annotation u.kind) [
  | inl a ↦ steps_by x y n t (Some u) (Some u) t.kind (λ k.
      let g = f k a in
      ap (λ b. if b then step_next x n (Some u) else Take) (sym g) ∙ ap (λ s. if is_marked y t then s else Take) (next_same x y n u e))
  | inr a ↦ unnamed_same x y n t u u a a
]

module _ (x y : List ℕ) (z : Option LexFault) (n : Names) (v w : Token) (a b h : List Token) where
  -- Lists of the same tokens, except for whitespace and comments between the first ones and the last ones.
  pub data Twins : List Token → List Token → Type 0 where
    spaced : (ts : List Token) → SameBefore x y ts → Twins (ts ++ (v ∷ a ++ h)) (ts ++ (w ∷ b ++ h))
    later : (ts : List Token) → SameAfter x y ts → Twins ts ts

  -- The same is found, and twins remain.
  pub data Alike : Finding → Finding → Type 0 where
    none : Alike (Ok None) (Ok None)
    fault : (f : Fault) → Alike (Err f) (Err f)
    token : (t : Token) (r q : List Token) → token_text y t ≡ token_text x t → Twins r q → Alike (Ok (Some (t, r))) (Ok (Some (t, q)))

  -- The finding in the other text, for a finding in the one.
  abbrev pub Found : Finding → Finding → Type 0
  Found (Ok None) f = f ≡ Ok None
  Found (Ok (Some u)) f = (q : List Token) × (f ≡ Ok (Some (u.0, q))) × (token_text y u.0 ≡ token_text x u.0) × Twins u.1 q
  Found (Err e) f = f ≡ Err e

  found_alike : (e f : Finding) → Alike e f → Found e f
  found_alike e f none = refl
  found_alike e f (fault g) = refl
  found_alike e f (token t r q k g) = (q, refl, k, g)

  alike_ended : (e : Option LexFault) → Alike (ended e) (ended e)
  alike_ended None = none
  alike_ended (Some f) = fault _

  alike_open : (e : Option LexFault) (o : Token) → Alike (unclosed_ending e o) (unclosed_ending e o)
  alike_open None o = fault _
  alike_open (Some f) o = fault _

  -- The findings after one step.
  alike_does : (t : Token) (r q : List Token) → token_text y t ≡ token_text x t → Twins r q → ((m : Mode) → Alike (shown_in x z n m r) (shown_in y z n m q)) → (k : Step) → Alike (does x z n t r k) (does y z n t q k)
  alike_does t r q e g next Pass = next Showing
  alike_does t r q e g next Take = token t r q e g
  alike_does t r q e g next Finish = alike_ended z
  alike_does t r q e g next (Refuse f) = fault f
  alike_does t r q e g next Skip = next (Inside t 0)

  alike_step : (t : Token) (r q : List Token) → token_text y t ≡ token_text x t → Twins r q → step_of x n t (first r) ≡ step_of y n t (first q) → ((m : Mode) → Alike (shown_in x z n m r) (shown_in y z n m q)) → (m : Mode)
      → Alike (shown_in x z n m (t ∷ r)) (shown_in y z n m (t ∷ q))
  unfolding shown_in
  alike_step t r q e g s next Showing =
      let k = step_of y n t (first q) in
      subst (λ f. Alike (does x z n t r f) (does y z n t q k)) (sym s) (alike_does t r q e g next k)
  alike_step t r q e g s next (Inside o d) = next (after t.kind o d)

  alike_after : (ts : List Token) → SameAfter x y ts → (m : Mode) → Alike (shown_in x z n m ts) (shown_in y z n m ts)
  unfolding shown_in
  alike_after [] g Showing = alike_ended z
  alike_after [] g (Inside o d) = alike_open z o
  alike_after (t ∷ []) g m = alike_step t [] [] g.0 (later [] tt) (marked_same x y n t None g.1 refl) (alike_after [] tt) m
  alike_after (t ∷ u ∷ ts) g m = alike_step t (u ∷ ts) (u ∷ ts) g.0 (later (u ∷ ts) g.2) (marked_same x y n t (Some u) g.1 (next_same x y n u g.2.0)) (alike_after (u ∷ ts) g.2) m

  module _ (va : AreBlank (v ∷ a)) (wb : AreBlank (w ∷ b)) (same : SameAfter x y h) where
    alike_before : (ts : List Token) → SameBefore x y ts → (m : Mode) → Alike (shown_in x z n m (ts ++ (v ∷ a ++ h))) (shown_in y z n m (ts ++ (w ∷ b ++ h)))
    alike_before [] g m =
        subst (λ f. Alike f (shown_in y z n m (w ∷ b ++ h))) (sym (passes x z n m (v ∷ a) h va))
        (subst (Alike (shown_in x z n m h)) (sym (passes y z n m (w ∷ b) h wb)) (alike_after h same m))
    alike_before (t ∷ []) g m =
        alike_step t (v ∷ a ++ h) (w ∷ b ++ h) g.0 (spaced [] tt) (unnamed_same x y n t v w (blank_no_annotation v.kind va.0) (blank_no_annotation w.kind wb.0)) (alike_before [] tt) m
    alike_before (t ∷ u ∷ ts) g m =
        alike_step t (u ∷ ts ++ (v ∷ a ++ h)) (u ∷ ts ++ (w ∷ b ++ h)) g.0 (spaced (u ∷ ts) g.2) (before_same x y n t u (before_text u ts g.2) g.1) (alike_before (u ∷ ts) g.2) m
      where
        before_text : (u : Token) (ts : List Token) → SameBefore x y (u ∷ ts) → token_text y u ≡ token_text x u
        before_text u [] g = g.0
        before_text u (t ∷ ts) g = g.0

    alike_twins : (r q : List Token) → Twins r q → Alike (shown_in x z n Showing r) (shown_in y z n Showing q)
    alike_twins r q (spaced ts g) = alike_before ts g Showing
    alike_twins r q (later ts g) = alike_after ts g Showing

    pub found_twins : (r q : List Token) → Twins r q → Found (shown_in x z n Showing r) (shown_in y z n Showing q)
    found_twins r q g = found_alike (shown_in x z n Showing r) (shown_in y z n Showing q) (alike_twins r q g)
