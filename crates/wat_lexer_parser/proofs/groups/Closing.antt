-- Groups in parentheses, one token at a time.
use Rattle.std.proofs.Common.{◌≡◌, ◌⊎◌, ℕ, zero, suc, ◌<◌, List, [], ◌∷◌, ◌++◌, false, refl, length, arith, subst, sym, ap, ◌∙◌, inl, inr, append_assoc}
use Rattle.std.proofs.lemmas.Bool.{both_ways}
use Rattle.std.specs.Prelude.{IsFalse}
use Rattle.wat_lex.specs.declared.lexer.kinds.TokenKind.{TokenKind}
use Rattle.wat_lex.specs.declared.lexer.kinds.TokenKind.TheVariants.{LineComment, BlockComment, Whitespace, LParen, RParen, String, Id, Keyword, Annotation, Reserved, Integer, Float}
use Rattle.wat_lex.specs.declared.lexer.kinds.Token.{Token}
use Rattle.wat_lexer_parser.specs.lemmas.Parts.{is_paren}
use Rattle.wat_lexer_parser.specs.groups.Sorts.{Balanced, nothing, plain, group, Group}

-- A group ends in the tokens, and the rest follows: `Group`, one token at a time.
pub data Closed : List Token → List Token → Type 0 where
  close : {t : Token} {r : List Token} → t.kind ≡ RParen → Closed (t ∷ r) r
  beyond : {t : Token} {s r : List Token} → IsFalse (is_paren t.kind) → Closed s r → Closed (t ∷ s) r
  nested : {t : Token} {s m r : List Token} → t.kind ≡ LParen → Closed s m → Closed m r → Closed (t ∷ s) r

pub kind_cases : (k : TokenKind) → (k ≡ LParen) ⊎ ((k ≡ RParen) ⊎ (is_paren k ≡ false))
kind_cases LParen = inl refl
kind_cases RParen = inr (inl refl)
kind_cases LineComment = inr (inr refl)
kind_cases BlockComment = inr (inr refl)
kind_cases Whitespace = inr (inr refl)
kind_cases String = inr (inr refl)
kind_cases Id = inr (inr refl)
kind_cases Keyword = inr (inr refl)
kind_cases Annotation = inr (inr refl)
kind_cases Reserved = inr (inr refl)
kind_cases (Integer k) = inr (inr refl)
kind_cases (Float k) = inr (inr refl)

-- Inversion: one constructor applies to each list.
pub at_nil : (r : List Token) → Closed [] r → ⊥
at_nil r h = elim h [ ]

pub at_close : (t : Token) (s r : List Token) → t.kind ≡ RParen → Closed (t ∷ s) r → s ≡ r
at_close t s r e (close k) = refl
at_close t s r e (beyond k h) = absurd (both_ways (is_paren t.kind) k (ap is_paren e))
at_close t s r e (nested k g h) = cc

pub at_plain : (t : Token) (s r : List Token) → is_paren t.kind ≡ false → Closed (t ∷ s) r → Closed s r
at_plain t s r e (close k) = absurd (both_ways (is_paren t.kind) e (ap is_paren k))
at_plain t s r e (beyond k h) = h
at_plain t s r e (nested k g h) = absurd (both_ways (is_paren t.kind) e (ap is_paren k))

pub at_open : (t : Token) (s r : List Token) → t.kind ≡ LParen → Closed (t ∷ s) r → (m : List Token) × Closed s m × Closed m r
at_open t s r e (close k) = cc
at_open t s r e (beyond k h) = absurd (both_ways (is_paren t.kind) k (ap is_paren e))
at_open t s r e (nested {m = m} k g h) = (m, g, h)

pub closed_unique : (s r q : List Token) → Closed s r → Closed s q → r ≡ q
closed_unique s r q (close {t = t} e) k = at_close t r q e k
closed_unique s r q (beyond {t = t} {s = u} e h) k = closed_unique u r q h (at_plain t u q e k)
closed_unique s r q (nested {t = t} {s = u} {m = m} e g h) k =
    let n = at_open t u q e k in
    let f = closed_unique u m n.0 g n.1 in
    closed_unique m r q h (subst (λ x. Closed x q) (sym f) n.2)

-- The tokens close `n` open groups one after another, and the rest follows.
abbrev pub Closings : ℕ → List Token → List Token → Type 0
Closings zero s r = s ≡ r
Closings (suc n) s r = (m : List Token) × Closed s m × Closings n m r

-- `Group` and `Closed` are equivalent.
pub closed_past : (b x r : List Token) → Balanced b → Closed x r → Closed (b ++ x) r
closed_past b x r nothing h = h
closed_past b x r (plain {b = a} e g) h = beyond e (closed_past a x r g h)
closed_past s x r (group o c {a = a} {b = b} eo ga ec gb e) h =
    subst (λ y. Closed (y ++ x) r) (sym e)
    (nested eo
    (subst (λ y. Closed y (b ++ x)) (sym (append_assoc a (c ∷ b) x)) (closed_past a (c ∷ (b ++ x)) (b ++ x) ga (close ec)))
    (closed_past b x r gb h))

pub closed_from : (s r : List Token) → Group s r → Closed s r
closed_from s r g = subst (λ y. Closed y r) (sym g.cut) (closed_past g.within (g.last ∷ r) r g.balanced (close g.closes))

pub group_from : (s r : List Token) → Closed s r → Group s r
group_from s r (close {t = t} e) = record { within = []; last = t; balanced = nothing; closes = e; cut = refl }
group_from s r (beyond {t = t} {s = u} e h) =
    let g = group_from u r h in
    record { within = t ∷ g.within; last = g.last; balanced = plain e g.balanced; closes = g.closes; cut = ap (λ x. t ∷ x) g.cut }
group_from s r (nested {t = t} {s = u} {m = m} e g h) =
    let a = group_from u m g in
    let b = group_from m r h in
    record {
      within = (t ∷ a.within) ++ (a.last ∷ b.within);
      last = b.last;
      balanced = group t a.last e a.balanced a.closes b.balanced refl;
      closes = b.closes;
      cut = ap (λ x. t ∷ x) (a.cut ∙ ap (λ x. a.within ++ (a.last ∷ x)) b.cut ∙ sym (append_assoc a.within (a.last ∷ b.within) (b.last ∷ r)));
    }

pub group_unique : (s r q : List Token) → Group s r → Group s q → r ≡ q
group_unique s r q g h = closed_unique s r q (closed_from s r g) (closed_from s q h)

pub closed_shorter : (s r : List Token) → Closed s r → length r < length s
closed_shorter s r (close e) = omega arith
closed_shorter s r (beyond {s = u} e h) = omega (arith, closed_shorter u r h)
closed_shorter s r (nested {s = u} {m = m} e g h) = omega (arith, closed_shorter u m g, closed_shorter m r h)
