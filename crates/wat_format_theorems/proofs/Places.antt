-- The map from the offset of a token to the offset of the same token in the other text.
use Rattle.std.proofs.Common.{◌≡◌, ◌+◌, ◌≤◌, ℕ, zero, suc, true, false, eqb, List, [], ◌∷◌, refl, sym, ap, ◌∙◌, subst, arith}
use Rattle.std.proofs.lemmas.Bool.Decides.{nat_tests}
use Rattle.std.specs.Prelude.{if◌then◌else◌}
use Rattle.wat_lex.specs.declared.lexer.kinds.Token.{Token}
use Rattle.wat_lexer_parser.specs.laws.Counting.{counting}
use Rattle.wat_format_theorems.proofs.Alike.{AllTwins}
use Rattle.wat_format_theorems.specs.Reads.{MapsAreOne}
use Rattle.wat_format_theorems.specs.Sides.{AllSame, Among}
use Rattle.wat_format_theorems.proofs.Tokens.{Before, Rising}

-- The offset of the other token if a token begins here, otherwise the end of the other text.
abbrev pub moved : ℕ → List Token → List Token → ℕ → ℕ
moved e [] us p = e
moved e (t ∷ ts) [] p = e
moved e (t ∷ ts) (u ∷ us) p = if eqb t.offset p then u.offset else moved e ts us p

itself : (n : ℕ) → eqb n n ≡ true
itself n = grind (arith, nat_tests)

others : (n m : ℕ) → n + 1 ≤ m → eqb n m ≡ false
others n m h = grind (arith, nat_tests)

moved_here : (e : ℕ) (t u : Token) (ts us : List Token) → moved e (t ∷ ts) (u ∷ us) t.offset ≡ u.offset
moved_here e t u ts us = ap (λ b. if b then u.offset else moved e ts us t.offset) (itself t.offset)

moved_on : (e : ℕ) (t u : Token) (ts us : List Token) (p : ℕ) → t.offset + 1 ≤ p → moved e (t ∷ ts) (u ∷ us) p ≡ moved e ts us p
moved_on e t u ts us p h = ap (λ b. if b then u.offset else moved e ts us p) (others t.offset p h)

-- after all tokens that is the end
pub moved_end : (e p : ℕ) (ts us : List Token) → Before p ts → moved e ts us p ≡ e
moved_end e p [] us h = refl
moved_end e p (t ∷ ts) [] h = refl
moved_end e p (t ∷ ts) (u ∷ us) h = moved_on e t u ts us p h.0 ∙ moved_end e p ts us h.1

token_is : (t u : Token) (o : ℕ) → u.offset ≡ o → u.len ≡ t.len → u.kind ≡ t.kind → u ≡ record t { offset = o }
token_is t u o a b c = ap (λ v. record u { offset = v }) a ∙ ap (λ v. record { offset = o; len = v; kind = u.kind }) b ∙ ap (λ v. record { offset = o; len = t.len; kind = v }) c

module _ (x y : List ℕ) (e : ℕ) (move : ℕ → ℕ) where
  pub same_by : (p : ℕ) (ts us : List Token) → ((q : ℕ) → p ≤ q → move q ≡ moved e ts us q) → Rising p ts → AllTwins x y ts us → AllSame x y move ts us
  same_by p [] [] f r h = tt
  same_by p [] (u ∷ us) f r h = absurd h
  same_by p (t ∷ ts) [] f r h = absurd h
  same_by p (t ∷ ts) (u ∷ us) f r h =
      let at : u.offset ≡ move t.offset = sym (moved_here e t u ts us) ∙ sym (f t.offset r.0) in (
        record { is = token_is t u (move t.offset) at h.0.len h.0.kind; text = h.0.text; mark = h.0.mark },
        same_by (t.offset + 1) ts us (λ q le. f q (omega (arith, le, r.0)) ∙ moved_on e t u ts us q le) r.1 h.1,
      )

module _ (x y : List ℕ) (move other : ℕ → ℕ) where
  one_map : (ts us : List Token) (t : Token) → AllSame x y move ts us → AllSame x y other ts us → Among ts t → move t.offset ≡ other t.offset
  one_map [] us t h g (n, e) = cc
  one_map (u ∷ ts) [] t h g k = absurd h
  one_map (u ∷ ts) (v ∷ us) t h g (zero, e) =
      let is : u ≡ t = cc in
      subst (λ (w : Token). move w.offset ≡ other w.offset) is (sym (ap (λ (w : Token). w.offset) h.0.is) ∙ ap (λ (w : Token). w.offset) g.0.is)
  one_map (u ∷ ts) (v ∷ us) t h g (suc n, e) = one_map ts us t h.1 g.1 (n, e)

pub maps_are_one : MapsAreOne
maps_are_one s r move other t h g k = one_map s.setting.text r.setting.text move other (counting s.tokens) (counting r.tokens) t h.tokens g.tokens k
