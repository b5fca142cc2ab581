-- Groups of tokens are groups of their codes.
use Rattle.std.proofs.Common.{◌≡◌, ◌+◌, ℕ, suc, List, [], ◌∷◌, ◌++◌, true, false, refl, sym, ap, ◌∙◌, subst, inl, inr, arith, length, drop}
use Rattle.std.proofs.lemmas.Bool.{both_ways}
use Rattle.std.proofs.lemmas.List.{map-append, length-map}
use Rattle.wat_lex.specs.declared.lexer.kinds.Token.{Token}
use Rattle.wat_lex.specs.declared.lexer.kinds.TokenKind.TheVariants.{LParen, RParen}
use Rattle.wat_lexer_parser.specs.groups.Sorts.{Group}
use Rattle.wat_lexer_parser.specs.groups.Sorts.{Balanced as BalancedTokens, Balanced.nothing as no_tokens, Balanced.plain as plain_token}
use Rattle.wat_lexer_parser.specs.groups.Sorts.{Balanced.group as token_group}
use Rattle.wat_lexer_parser.specs.lemmas.Parts.{is_paren}
use Rattle.wat_c_records.specs.Links.{opens, closes, Balanced, Balanced.nothing, Balanced.plain, Balanced.group, ClosedWithin}
use Rattle.wat_c_records.proofs.Closing.{close_opens_none}
use Rattle.wat_c_records.proofs.Coding.{code_of, codes, sort, Neither}

module _ (x : List ℕ) where
  open_code : (t : Token) → t.kind ≡ LParen → opens (code_of x t) ≡ true
  open_code t e = elim (sort x t t.kind) [
    | inl o ↦ o.opening
    | inr f ↦ elim f [
      | inl k ↦ let g : LParen ≡ RParen = sym e ∙ k.kind in cc
      | inr n ↦ absurd (both_ways (is_paren t.kind) n.no_paren (ap is_paren e))
    ]
  ]

  close_code : (t : Token) → t.kind ≡ RParen → closes (code_of x t) ≡ true
  close_code t e = elim (sort x t t.kind) [
    | inl o ↦ let g : RParen ≡ LParen = sym e ∙ o.kind in cc
    | inr f ↦ elim f [
      | inl k ↦ k.closing
      | inr n ↦ absurd (both_ways (is_paren t.kind) n.no_paren (ap is_paren e))
    ]
  ]

  plain_code : (t : Token) → is_paren t.kind ≡ false → Neither t.kind (code_of x t)
  plain_code t e = elim (sort x t t.kind) [
    | inl o ↦ absurd (both_ways (is_paren t.kind) e (ap is_paren o.kind))
    | inr f ↦ elim f [
      | inl k ↦ absurd (both_ways (is_paren t.kind) e (ap is_paren k.kind))
      | inr n ↦ n
    ]
  ]

  code_open : (t : Token) → opens (code_of x t) ≡ true → t.kind ≡ LParen
  code_open t e = elim (sort x t t.kind) [
    | inl o ↦ o.kind
    | inr f ↦ elim f [
      | inl k ↦ absurd (both_ways (opens (code_of x t)) (close_opens_none (code_of x t) k.closing) e)
      | inr n ↦ absurd (both_ways (opens (code_of x t)) n.no_opening e)
    ]
  ]

  code_close : (t : Token) → closes (code_of x t) ≡ true → t.kind ≡ RParen
  code_close t e = elim (sort x t t.kind) [
    | inl o ↦ absurd (both_ways (opens (code_of x t)) (close_opens_none (code_of x t) e) o.opening)
    | inr f ↦ elim f [
      | inl k ↦ k.kind
      | inr n ↦ absurd (both_ways (closes (code_of x t)) n.no_closing e)
    ]
  ]

  code_plain : (t : Token) → opens (code_of x t) ≡ false → closes (code_of x t) ≡ false → is_paren t.kind ≡ false
  code_plain t e g = elim (sort x t t.kind) [
    | inl o ↦ absurd (both_ways (opens (code_of x t)) e o.opening)
    | inr f ↦ elim f [
      | inl k ↦ absurd (both_ways (closes (code_of x t)) g k.closing)
      | inr n ↦ n.no_paren
    ]
  ]

  codes_balanced : (ts : List Token) → BalancedTokens ts → Balanced (codes x ts)
  codes_balanced ts no_tokens = nothing
  codes_balanced ts (plain_token {t = t} {b = b} e g) = let n = plain_code t e in plain n.no_opening n.no_closing (codes_balanced b g)
  codes_balanced ts (token_group o c {a = a} {b = b} eo ga ec gb e) =
      group (code_of x o) (code_of x c) (open_code o eo) (codes_balanced a ga) (close_code c ec) (codes_balanced b gb) (ap (codes x) e
      ∙ map-append (code_of x) (o ∷ a) (c ∷ b))

  -- the tokens are cut where their codes are
  pub record Parted (ts : List Token) (a b : List ℕ) : Type 0 where
    pub front : List Token
    pub back : List Token
    pub both : ts ≡ front ++ back
    pub front_is : codes x front ≡ a
    pub back_is : codes x back ≡ b

  part : (a b : List ℕ) (ts : List Token) → codes x ts ≡ a ++ b → Parted ts a b
  part [] b ts e = record { front = []; back = ts; both = refl; front_is = refl; back_is = e }
  part (c ∷ a) b [] e = cc
  part (c ∷ a) b (t ∷ ts) e =
      let h : code_of x t ≡ c = cc in
      let k : codes x ts ≡ a ++ b = cc in
      let p = part a b ts k in
      record {
        front = t ∷ p.front;
        back = p.back;
        both = ap (λ r. t ∷ r) p.both;
        front_is = ap (λ d. d ∷ codes x p.front) h
            ∙ ap (λ r. c ∷ r) p.front_is;
        back_is = p.back_is;
      }

  -- the first of these
  pub record Begun (ts : List Token) (c : ℕ) (b : List ℕ) : Type 0 where
    pub first : Token
    pub after : List Token
    pub both : ts ≡ first ∷ after
    pub first_is : code_of x first ≡ c
    pub after_is : codes x after ≡ b

  begin : (c : ℕ) (b : List ℕ) (ts : List Token) → codes x ts ≡ c ∷ b → Begun ts c b
  begin c b [] e = cc
  begin c b (t ∷ ts) e =
      let h : code_of x t ≡ c = cc in
      let k : codes x ts ≡ b = cc in
      record { first = t; after = ts; both = refl; first_is = h; after_is = k }

  tokens_balanced : (s : List ℕ) → Balanced s → (ts : List Token) → codes x ts ≡ s → BalancedTokens ts
  tokens_balanced s nothing [] e = no_tokens
  tokens_balanced s nothing (t ∷ ts) e = cc
  tokens_balanced s (plain {c = c} {b = b} o k g) ts e =
      let p = begin c b ts e in
      subst BalancedTokens (sym p.both) (plain_token (code_plain p.first (ap opens p.first_is ∙ o) (ap closes p.first_is
      ∙ k)) (tokens_balanced b g p.after p.after_is))
  tokens_balanced s (group o c {a = a} {b = b} eo ga ec gb f) ts e =
      let p = begin o (a ++ (c ∷ b)) ts (e ∙ f) in
      let q = part a (c ∷ b) p.after p.after_is in
      let r = begin c b q.back q.back_is in
      let cut : ts ≡ (p.first ∷ q.front) ++ (r.first ∷ r.after) = p.both ∙ ap (λ y. p.first ∷ y) (q.both ∙ ap (λ y. q.front ++ y) r.both) in
      token_group p.first r.first (code_open p.first (ap opens p.first_is
      ∙ eo)) (tokens_balanced a ga q.front q.front_is) (code_close r.first (ap closes r.first_is
      ∙ ec)) (tokens_balanced b gb r.after r.after_is) cut

  -- A group ends in the tokens at the same index as in their codes.
  pub codes_closed : (ts r : List Token) → (g : Group ts r) → ClosedWithin (codes x ts) (length g.within + 1)
  codes_closed ts r g = record {
    within = codes x g.within;
    last = code_of x g.last;
    rest = codes x r;
    balanced = codes_balanced g.within g.balanced;
    closing = close_code g.last g.closes;
    cut = ap (codes x) g.cut ∙ map-append (code_of x) g.within (g.last ∷ r);
    count = omega (arith, length-map g.within (code_of x));
  }

  after_front : (front : List Token) (t : Token) (after : List Token) → drop (length front + 1) (front ++ (t ∷ after)) ≡ after
  after_front [] t after = refl
  after_front (u ∷ front) t after = let e : length (u ∷ front) + 1 ≡ suc (length front + 1) = omega arith in ap (λ n. drop n ((u ∷ front) ++
      (t ∷ after))) e ∙ after_front front t after

  pub tokens_closed : (ts : List Token) (n : ℕ) → ClosedWithin (codes x ts) n → Group ts (drop n ts)
  tokens_closed ts n h =
      let q = part h.within (h.last ∷ h.rest) ts h.cut in
      let r = begin h.last h.rest q.back q.back_is in
      let cut : ts ≡ q.front ++ (r.first ∷ r.after) = q.both ∙ ap (λ y. q.front ++ y) r.both in
      let long : n ≡ length q.front + 1 = omega (arith, h.count, ap length q.front_is, length-map q.front (code_of x)) in
      let rest : r.after ≡ drop n ts = sym (ap (drop n) cut ∙ ap (λ k. drop k (q.front ++ (r.first ∷ r.after))) long
      ∙ after_front q.front r.first r.after) in
      record {
        within = q.front;
        last = r.first;
        balanced = tokens_balanced h.within h.balanced q.front q.front_is;
        closes = code_close r.first (ap closes r.first_is ∙ h.closing);
        cut = cut ∙ ap (λ y. q.front ++ (r.first ∷ y)) rest;
      }
