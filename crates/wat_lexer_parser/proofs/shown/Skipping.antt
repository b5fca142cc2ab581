-- The visible token after a group.
use Rattle.std.specs.Prelude.{Option}
use Rattle.std.proofs.Common.{◌≡◌, ◌⊎◌, ℕ, zero, suc, List, [], ◌∷◌, false, refl, sym, ap, ◌∙◌, inl, inr, subst}
use Rattle.wat_lex.specs.declared.lexer.kinds.TokenKind.{TokenKind}
use Rattle.wat_lex.specs.declared.lexer.kinds.TokenKind.TheVariants.{LineComment, BlockComment, Whitespace, LParen, RParen, String, Id, Keyword, Annotation, Reserved, Integer, Float}
use Rattle.wat_lex.specs.declared.lexer.kinds.Token.{Token}
use Rattle.wat_lex.specs.declared.lexer.faults.LexFault.{LexFault}
use Rattle.wat_lexer_parser.specs.names.RegisteredNames.{Names}
use Rattle.wat_lexer_parser.specs.lemmas.Parts.{is_paren}
use Rattle.wat_lexer_parser.proofs.groups.Closing.{Closed, close, beyond, nested}
use Rattle.wat_lexer_parser.specs.shown.Shown.{unclosed_ending}
use Rattle.wat_lexer_parser.specs.inside.ShownIn.{Inside, shown_in, after, closed_one}
use Rattle.wat_lexer_parser.proofs.groups.Closing.{Closings, kind_cases, at_nil, at_close, at_plain, at_open}

pub after_plain : (k : TokenKind) (o : Token) (d : ℕ) → is_paren k ≡ false → after k o d ≡ Inside o d
after_plain LParen o d e = cc
after_plain RParen o d e = cc
after_plain LineComment o d e = refl
after_plain BlockComment o d e = refl
after_plain Whitespace o d e = refl
after_plain String o d e = refl
after_plain Id o d e = refl
after_plain Keyword o d e = refl
after_plain Annotation o d e = refl
after_plain Reserved o d e = refl
after_plain (Integer k) o d e = refl
after_plain (Float k) o d e = refl

pub past_closed : (x : List ℕ) (z : Option LexFault) (n : Names) (o : Token) (d : ℕ) (ts r : List Token) → Closed ts r → shown_in x z n (Inside o d) ts ≡ shown_in x z n (closed_one o d) r
unfolding shown_in
past_closed x z n o d ts r (close {t = t} e) = ap (λ k. shown_in x z n (after k o d) r) e
past_closed x z n o d ts r (beyond {t = t} {s = u} e h) = ap (λ k. shown_in x z n k u) (after_plain t.kind o d e) ∙ past_closed x z n o d u r h
past_closed x z n o d ts r (nested {t = t} {s = u} {m = m} e g h) =
    ap (λ k. shown_in x z n (after k o d) u) e ∙ past_closed x z n o (suc d) u m g ∙ past_closed x z n o d m r h

-- The `d + 1` open groups are not closed in the tokens, so the finding inside the group of `o` is the ending.
pub record NeverCloses (x : List ℕ) (z : Option LexFault) (n : Names) (o : Token) (d : ℕ) (ts : List Token) : Type 0 where
  pub none : (r : List Token) → Closings (suc d) ts r → ⊥
  pub shows : shown_in x z n (Inside o d) ts ≡ unclosed_ending z o

pub closes_or_not : (x : List ℕ) (z : Option LexFault) (n : Names) (o : Token) (d : ℕ) (ts : List Token)
    → ((r : List Token) × Closings (suc d) ts r) ⊎ NeverCloses x z n o d ts
unfolding shown_in
closes_or_not x z n o d [] = inr (record { none = λ r g. at_nil g.0 g.1; shows = refl })
closes_or_not x z n o d (t ∷ ts) = elim (kind_cases t.kind) [
  | inl e ↦ elim (closes_or_not x z n o (suc d) ts) [
    | inl g ↦ inl (g.0, (g.1.2.0, nested e g.1.1 g.1.2.1, g.1.2.2))
    | inr g ↦ inr (record {
      none = λ r k. let l = at_open t ts k.0 e k.1 in g.none r (l.0, l.1, (k.0, l.2, k.2));
      shows = ap (λ k. shown_in x z n (after k o d) ts) e ∙ g.shows;
    })
  ]
  | inr f ↦ elim f [
    | inl e ↦ elim d as (λ d. ((r : List Token) × Closings (suc d) (t ∷ ts) r) ⊎ NeverCloses x z n o d (t ∷ ts)) [
      | zero ↦ inl (ts, (ts, close e, refl))
      | suc c ↦ elim (closes_or_not x z n o c ts) [
        | inl g ↦ inl (g.0, (ts, close e, g.1))
        | inr g ↦ inr (record {
          none = λ r k. g.none r (subst (λ x. Closings (suc c) x r) (sym (at_close t ts k.0 e k.1)) k.2);
          shows = ap (λ k. shown_in x z n (after k o (suc c)) ts) e ∙ g.shows;
        })
      ]
    ]
    | inr e ↦ elim (closes_or_not x z n o d ts) [
      | inl g ↦ inl (g.0, (g.1.0, beyond e g.1.1, g.1.2))
      | inr g ↦ inr (record {
        none = λ r k. g.none r (k.0, at_plain t ts k.0 e k.1, k.2);
        shows = ap (λ k. shown_in x z n k ts) (after_plain t.kind o d e) ∙ g.shows;
      })
    ]
  ]
]
