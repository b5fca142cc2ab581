-- The results of peeks into tokens, and into the same tokens at other offsets. These are proofs, which a reader may
-- skip.
use Rattle.std.proofs.Common.{◌≡◌, ◌+◌, ◌-◌, ℕ, zero, suc, true, false, List, [], ◌∷◌, refl, sym, ap, ◌∙◌, subst, arith}
use Rattle.std.specs.Prelude.{Option, Some, None, Result, Ok, Err, if◌then◌else◌}
use Rattle.std.specs.Str.{chars}
use Rattle.wat_lex.specs.tokens.ReadableTokens.{token_text}
use Rattle.wat_lex.specs.values.WordValues.{name_value}
use Rattle.wat_lex.specs.declared.lexer.faults.LexError.{LexError}
use Rattle.wat_lex.specs.declared.lexer.faults.LexError.TheVariants.{EmptyAnnotation}
use Rattle.wat_lex.specs.declared.lexer.kinds.Token.{Token}
use Rattle.wat_lex.specs.declared.lexer.kinds.TokenKind.{TokenKind}
use Rattle.wat_lex.specs.declared.lexer.kinds.TokenKind.TheVariants.{LineComment, BlockComment, Whitespace, LParen, RParen, Annotation}
use Rattle.wat_lexer_parser.specs.declared.parser.fault.FaultKind.TheVariants.{Lex, Unclosed}
use Rattle.wat_lexer_parser.specs.declared.parser.fault.Step.{Step}
use Rattle.wat_lexer_parser.specs.declared.parser.fault.Step.TheVariants.{Pass, Take, Finish, Refuse, Skip}
use Rattle.wat_lex.specs.tokens.Blanks.{is_marked}
use Rattle.wat_lexer_parser.specs.lemmas.After.{does}
use Rattle.wat_lexer_parser.specs.names.RegisteredNames.{Names, is_registered}
use Rattle.wat_lexer_parser.specs.shown.Shown.{Finding, unclosed_ending}
use Rattle.wat_lexer_parser.specs.inside.ShownIn.{Mode, Showing, Inside, shown_in, name_by, name_at, step_named, step_next, step_kind, step_of, closed_one, after, first}
use Rattle.wat_format_theorems.specs.Moved.{token_moved, fault_moved}
use Rattle.wat_format_theorems.specs.Sides.{AllSame, Same}

module _ (x y : List ℕ) (move : ℕ → ℕ) where
  -- `Found a b`: `b` is the result for the same tokens if `a` is that for the tokens.
  abbrev pub Found : Finding → Finding → Type 0
  Found (Ok None) b = b ≡ Ok None
  Found (Ok (Some (t, r))) b = (u : Token) × (q : List Token) × (b ≡ Ok (Some (u, q))) × Same x y move t u × AllSame x y move r q
  Found (Err f) b = b ≡ Err (fault_moved move f)

  abbrev moved_step : Step → Step
  moved_step (Refuse f) = Refuse (fault_moved move f)
  moved_step Pass = Pass
  moved_step Take = Take
  moved_step Finish = Finish
  moved_step Skip = Skip

  abbrev moved_mode : Mode → Mode
  moved_mode Showing = Showing
  moved_mode (Inside o d) = Inside (token_moved move o) d

  module _ (n : Names) where
    name_same : (k : TokenKind) (t u : Token) → token_text y u ≡ token_text x t → name_by k y u ≡ name_by k x t
    name_same Annotation t u e = ap (λ w. Some (name_value EmptyAnnotation (chars w))) e
    name_same k t u e = refl

    named_same : (t u : Token) → Same x y move t u → (o : Option (Result (List ℕ) LexError)) → step_named n u o ≡ moved_step (step_named n t o)
    named_same t u h None = refl
    named_same t u h (Some (Err e)) = ap (λ (v : Token). Refuse (record { offset = v.offset; kind = Lex e })) h.is
    named_same t u h (Some (Ok w)) = elim (is_registered n w) as (λ b. (if b then Take else Skip) ≡ moved_step (if b then Take else Skip)) [ true ↦ refl | false ↦ refl ]

    next_same : (ts us : List Token) → AllSame x y move ts us → step_next y n (first us) ≡ moved_step (step_next x n (first ts))
    next_same [] [] h = refl
    next_same [] (u ∷ us) h = absurd h
    next_same (t ∷ ts) [] h = absurd h
    next_same (t ∷ ts) (u ∷ us) h =
        let name : name_at y u ≡ name_at x t = ap (λ (v : Token). name_by v.kind y u) h.0.is ∙ name_same t.kind t u h.0.text in
        ap (λ o. step_named n u o) name ∙ named_same t u h.0 (name_at x t)

    kind_same : (k : TokenKind) (t u : Token) (ts us : List Token) → t.kind ≡ k → Same x y move t u → AllSame x y move ts us → step_kind y n u k (first us) ≡ moved_step (step_kind x n t k (first ts))
    kind_same LParen t u ts us e h g =
        ap (λ b. if b then step_next y n (first us) else Take) (h.mark e)
        ∙ (elim (is_marked x t) as (λ b. (if b then step_next y n (first us) else Take) ≡ moved_step (if b then step_next x n (first ts) else Take)) [ true ↦ next_same ts us g | false ↦ refl ])
    kind_same Whitespace t u ts us e h g = refl
    kind_same LineComment t u ts us e h g = refl
    kind_same BlockComment t u ts us e h g = refl
    kind_same k t u ts us e h g = refl

    step_same : (t u : Token) (ts us : List Token) → Same x y move t u → AllSame x y move ts us → step_of y n u (first us) ≡ moved_step (step_of x n t (first ts))
    step_same t u ts us h g = ap (λ (v : Token). step_kind y n u v.kind (first us)) h.is ∙ kind_same t.kind t u ts us refl h g

    closed_same : (o : Token) (d : ℕ) → closed_one (token_moved move o) d ≡ moved_mode (closed_one o d)
    closed_same o zero = refl
    closed_same o (suc d) = refl

    after_same : (k : TokenKind) (o : Token) (d : ℕ) → after k (token_moved move o) d ≡ moved_mode (after k o d)
    after_same LParen o d = refl
    after_same RParen o d = closed_same o d
    after_same k o d = refl

    found_does : (t u : Token) (ts us : List Token) → Same x y move t u → AllSame x y move ts us → ((m : Mode) → Found (shown_in x None n m ts) (shown_in y None n (moved_mode m) us)) → (k : Step) → Found (does x None n t ts k) (does y None n u us (moved_step k))
    found_does t u ts us h g more Pass = more Showing
    found_does t u ts us h g more Take = (u, us, refl, h, g)
    found_does t u ts us h g more Finish = refl
    found_does t u ts us h g more (Refuse f) = refl
    found_does t u ts us h g more Skip = subst (λ v. Found (shown_in x None n (Inside t 0) ts) (shown_in y None n (Inside v 0) us)) (sym h.is) (more (Inside t 0))

    left_same : (o : Token) → Found (unclosed_ending None o) (unclosed_ending None (token_moved move o))
    left_same o =
        let e : o.offset ≡ o.offset + 1 - 1 = omega arith in
        ap (λ p. Err (record { offset = move p + 1; kind = Unclosed })) e

    pub found : (ts us : List Token) → AllSame x y move ts us → (m : Mode) → Found (shown_in x None n m ts) (shown_in y None n (moved_mode m) us)
    unfolding shown_in
    found [] [] h Showing = refl
    found [] [] h (Inside o d) = left_same o
    found [] (u ∷ us) h m = absurd h
    found (t ∷ ts) [] h m = absurd h
    found (t ∷ ts) (u ∷ us) h Showing =
        let k = step_of x n t (first ts) in
        subst (λ f. Found (does x None n t ts k) (does y None n u us f)) (sym (step_same t u ts us h.0 h.1)) (found_does t u ts us h.0 h.1 (found ts us h.1) k)
    found (t ∷ ts) (u ∷ us) h (Inside o d) =
        let e : after u.kind (token_moved move o) d ≡ moved_mode (after t.kind o d) = ap (λ (v : Token). after v.kind (token_moved move o) d) h.0.is ∙ after_same t.kind o d in
        subst (λ m. Found (shown_in x None n (after t.kind o d) ts) (shown_in y None n m us)) (sym e) (found ts us h.1 (after t.kind o d))
