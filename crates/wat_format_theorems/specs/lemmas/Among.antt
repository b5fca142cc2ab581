-- The token that a peek finds is one of the tokens, and an error is at one of them. These are proofs, which a reader
-- may skip.
use lib.Utf8.{encode}
use Rattle.std.proofs.Common.{◌≡◌, ◌⊎◌, ◌∙◌, ◌+◌, ℕ, zero, suc, List, [], ◌∷◌, drop, true, false, refl, ap, subst, inl, inr}
use Rattle.std.specs.Prelude.{Option, Some, None, Result, Ok, Err, cond, if◌then◌else◌, not}
use Rattle.wat_lex.specs.grammar.Classes.{size}
use Rattle.wat_lex.specs.grammar.Words.{Word}
use Rattle.wat_lex.specs.tokens.Setting.{Setting}
use Rattle.wat_lex.specs.tokens.Tiling.{TokenAt, Tiling}
use Rattle.wat_lex.specs.declared.lexer.faults.LexError.{LexError}
use Rattle.wat_lex.specs.declared.lexer.kinds.Token.{Token}
use Rattle.wat_lex.specs.declared.lexer.kinds.TokenKind.{TokenKind}
use Rattle.wat_lex.specs.declared.lexer.kinds.TokenKind.TheVariants.{LineComment, BlockComment, Whitespace, LParen, RParen}
use Rattle.wat_lexer_parser.specs.declared.parser.fault.FaultKind.{FaultKind}
use Rattle.wat_lexer_parser.specs.declared.parser.fault.FaultKind.TheVariants.{Lex, Unclosed}
use Rattle.wat_lexer_parser.specs.declared.parser.fault.Step.{Step}
use Rattle.wat_lexer_parser.specs.declared.parser.fault.Step.TheVariants.{Pass, Take, Finish, Refuse, Skip}
use Rattle.wat_lex.specs.tokens.Blanks.{is_blank, is_marked}
use Rattle.wat_lexer_parser.specs.lemmas.After.{does}
use Rattle.wat_lexer_parser.specs.names.RegisteredNames.{Names, is_registered}
use Rattle.wat_lexer_parser.specs.places.Source.{Source, IsRead}
use Rattle.wat_lexer_parser.specs.laws.Counting.{counting}
use Rattle.wat_lexer_parser.specs.shown.Shown.{Finding}
use Rattle.wat_lexer_parser.specs.inside.ShownIn.{Mode, Showing, Inside, shown_in, name_at, step_named, step_next, step_kind, step_of, after, first}
use Rattle.wat_format_theorems.specs.Sides.{Among}

-- `FaultIn ts kind p`: an error of this kind at byte `p` is at one of these tokens.
abbrev pub FaultIn : List Token → FaultKind → ℕ → Type 0
FaultIn ts (Lex e) p = (t : Token) × Among ts t × (p ≡ t.offset)
FaultIn ts Unclosed p = (t : Token) × Among ts t × (t.kind ≡ LParen) × (p ≡ t.offset + 1)

abbrev pub FoundIn : List Token → Finding → Type 0
FoundIn ts (Ok None) = Unit {0}
FoundIn ts (Ok (Some (t, r))) = Among ts t
FoundIn ts (Err f) = FaultIn ts f.kind f.offset

module _ (x : List ℕ) (n : Names) (all : List Token) where
  abbrev ModeIn : Mode → Type 0
  ModeIn Showing = Unit {0}
  ModeIn (Inside o d) = Among all o × (o.kind ≡ LParen)

  -- A step that returns an error does so at one of the tokens, and a step that skips a group is at a parenthesis.
  abbrev StepIn : TokenKind → Step → Type 0
  StepIn k Pass = Unit {0}
  StepIn k Take = Unit {0}
  StepIn k Finish = Unit {0}
  StepIn k (Refuse f) = FaultIn all f.kind f.offset
  StepIn k Skip = k ≡ LParen

  named_in : (u : Token) → Among all u → (o : Option (Result (List ℕ) LexError)) → StepIn LParen (step_named n u o)
  named_in u h None = tt
  named_in u h (Some (Err e)) = (u, h, refl)
  named_in u h (Some (Ok w)) = elim (is_registered n w) as (λ b. StepIn LParen (if b then Take else Skip)) [ true ↦ tt | false ↦ refl ]

  next_in : (r : List Token) → ((u : Token) → Among r u → Among all u) → StepIn LParen (step_next x n (first r))
  next_in [] h = tt
  next_in (u ∷ us) h = named_in u (h u (0, refl)) (name_at x u)

  kind_in : (t : Token) (k : TokenKind) (r : List Token) → ((u : Token) → Among r u → Among all u) → StepIn k (step_kind x n t k (first r))
  kind_in t LParen r h = elim (is_marked x t) as (λ b. StepIn LParen (if b then step_next x n (first r) else Take)) [ true ↦ next_in r h | false ↦ tt ]
  kind_in t Whitespace r h = tt
  kind_in t LineComment r h = tt
  kind_in t BlockComment r h = tt
  kind_in t k r h = tt

  does_in : (t : Token) (r : List Token) → Among all t → ((m : Mode) → ModeIn m → FoundIn all (shown_in x None n m r)) → (k : Step) → StepIn t.kind k → FoundIn all (does x None n t r k)
  does_in t r h more Pass k = more Showing tt
  does_in t r h more Take k = h
  does_in t r h more Finish k = tt
  does_in t r h more (Refuse f) k = k
  does_in t r h more Skip k = more (Inside t 0) (h, k)

  after_in : (k : TokenKind) (o : Token) (d : ℕ) → ModeIn (Inside o d) → ModeIn (after k o d)
  after_in LParen o d h = h
  after_in RParen o zero h = tt
  after_in RParen o (suc d) h = h
  after_in k o d h = h

  pub found_in : (ts : List Token) → ((t : Token) → Among ts t → Among all t) → (m : Mode) → ModeIn m → FoundIn all (shown_in x None n m ts)
  unfolding shown_in
  found_in [] h Showing g = tt
  found_in [] h (Inside o d) g = (o, g.0, g.1, refl)
  found_in (t ∷ ts) h Showing g =
      let rest : (u : Token) → Among ts u → Among all u = λ u k. h u (suc k.0, k.1) in
      does_in t ts (h t (0, refl)) (found_in ts rest) (step_of x n t (first ts)) (kind_in t t.kind ts rest)
  found_in (t ∷ ts) h (Inside o d) g =
      let rest : (u : Token) → Among ts u → Among all u = λ u k. h u (suc k.0, k.1) in
      found_in ts rest (after t.kind o d) (after_in t.kind o d g)

-- The significant tokens from a position on are among all significant tokens.
pub among_counting : (ts : List Token) (p : ℕ) (t : Token) → Among (counting (drop p ts)) t → Among (counting ts) t
among_counting ts zero t h = h
among_counting [] (suc p) t h = h
among_counting (u ∷ us) (suc p) t h =
    let ih = among_counting us p t h in
    elim (not (is_blank u.kind)) as (λ b. Among (cond b (u ∷ counting us) (counting us)) t) [ true ↦ (suc ih.0, ih.1) | false ↦ ih ]

first_or_rest : (u t : Token) (ts : List Token) → Among (u ∷ ts) t → (u ≡ t) ⊎ Among ts t
first_or_rest u t ts (zero, e) = inl cc
first_or_rest u t ts (suc n, e) = inr (n, e)

-- A parenthesis is 1 byte long.
pub paren_at : (s : Setting) (p : ℕ) (t : Token) → TokenAt s p t → t.kind ≡ LParen → t.len ≡ 1
unfolding encode
paren_at s p t h e =
    let w : h.word ≡ 40 ∷ [] = subst (λ k. Word k h.word s.flags) e h.is_at.word in
    h.len ∙ ap size w

paren_in : (s : Setting) (p to : ℕ) (ts : List Token) (t : Token) → Tiling s p to ts → Among (counting ts) t → t.kind ≡ LParen → t.len ≡ 1
paren_in s p to [] t h k e = absurd (not_there k)
  where
    not_there : Among [] t → ⊥
    not_there (n, e) = cc
paren_in s p to (u ∷ us) t h k e =
    elim (not (is_blank u.kind)) as (λ b. Among (cond b (u ∷ counting us) (counting us)) t → t.len ≡ 1) [
      | true ↦ λ k. (elim (first_or_rest u t (counting us) k) [
        | inl same ↦ paren_at s p t (subst (TokenAt s p) same h.0) e
        | inr i ↦ paren_in s (u.offset + u.len) to us t h.1 i e
      ])
      | false ↦ λ k. paren_in s (u.offset + u.len) to us t h.1 k e
    ] k

pub paren_of : (s : Source) → IsRead s → (t : Token) → Among (counting s.tokens) t → t.kind ≡ LParen → t.len ≡ 1
paren_of s read t h e = paren_in s.setting 0 read.to s.tokens t read.tiling h e
