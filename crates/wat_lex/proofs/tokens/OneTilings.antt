-- There is exactly one thing at an offset, and so there is one maximal tiling from it.
use Rattle.std.proofs.Common.{◌≡◌, ◌+◌, ℕ, List, [], ◌∷◌, ◌++◌, length, drop, refl, arith, ap, sym, ◌∙◌, subst}
use Rattle.std.specs.Prelude.{Option, Some, None, Result, Ok, Err}
use Rattle.std.proofs.lemmas.List.{drop_all}
use Rattle.std.proofs.lemmas.Str.{chars-nil}
use Rattle.std.specs.Str.{chars}
use Rattle.wat_lex.specs.grammar.Classes.{size}
use Rattle.wat_lex.specs.tokens.Faults.{FaultAt}
use Rattle.wat_lex.specs.tokens.Setting.{Setting}
use Rattle.wat_lex.specs.tokens.Tiling.{TokenAt, Tiling, EndsAt}
use Rattle.wat_lex.specs.tokens.UniqueTilings.{ResultAt, OneTiling}
use Rattle.wat_lex.specs.declared.lexer.kinds.Token.{Token}
use Rattle.wat_lex.specs.declared.lexer.faults.LexFault.{LexFault}
use Rattle.wat_lex.proofs.tokens.Scans.{word_some}
use Rattle.wat_lex.proofs.grammar.OneWord.{is_at_unique}
use Rattle.wat_lex.proofs.tokens.OneFault.{fault_unique, fault_some, no_word_at_fault}

pub token_one : (s : Setting) (p : ℕ) (t u : Token) → TokenAt s p t → TokenAt s p u → t ≡ u
token_one s p t u h g =
    let o = is_at_unique s.flags (chars (drop p s.text)) t.kind u.kind h.word g.word h.rest g.rest h.is_at g.is_at in
    let k : t.kind ≡ u.kind = o.0 in
    let l : t.len ≡ u.len = h.len ∙ ap size o.1 ∙ sym g.len in
    let f : t.offset ≡ u.offset = h.offset ∙ sym g.offset in
    λ i. record { kind = k i; offset = f i; len = l i }

pub fault_one : (s : Setting) (p : ℕ) (f g : LexFault) → FaultAt s p f → FaultAt s p g → f ≡ g
fault_one s p f g h k =
    let o = fault_unique s.flags (chars (drop p s.text)) f.error g.error h.at k.at h.fault k.fault in
    let e : f.error ≡ g.error = o.0 in
    let l : f.offset ≡ g.offset = let q = ap size o.1 in let a = h.place in let b = k.place in omega arith in
    λ i. record { offset = l i; error = e i }

pub nothing_left : (text : List ℕ) (p : ℕ) → p ≡ length text → chars (drop p text) ≡ []
nothing_left text p e = ap chars (drop_all p text (omega arith)) ∙ chars-nil

pub no_token_left : (s : Setting) (p : ℕ) (t : Token) → chars (drop p s.text) ≡ [] → TokenAt s p t → ⊥
no_token_left s p t e h = word_some t.kind h.word s.flags h.is_at.word (prefix h.word h.rest (sym e ∙ h.is_at.cut))
  where
    prefix : (w r : List ℕ) → [] ≡ w ++ r → w ≡ []
    prefix [] r e = refl
    prefix (c ∷ w) r e = cc

pub no_fault_left : (s : Setting) (p : ℕ) (f : LexFault) → chars (drop p s.text) ≡ [] → FaultAt s p f → ⊥
no_fault_left s p f e h = fault_some s.flags f.error h.at (chars (drop p s.text)) e h.fault

pub token_no_fault : (s : Setting) (p : ℕ) (t : Token) (f : LexFault) → TokenAt s p t → FaultAt s p f → ⊥
token_no_fault s p t f h k = no_word_at_fault s.flags (chars (drop p s.text)) t.kind h.word h.rest f.error k.at h.is_at k.fault

pub is_at_one : (s : Setting) (p : ℕ) (q r : Result (Option Token) LexFault) → ResultAt s p q → ResultAt s p r → q ≡ r
is_at_one s p (Ok None) (Ok None) h g = refl
is_at_one s p (Ok None) (Ok (Some u)) h g = absurd (no_token_left s p u (nothing_left s.text p h) g)
is_at_one s p (Ok None) (Err f) h g = absurd (no_fault_left s p f (nothing_left s.text p h) g)
is_at_one s p (Ok (Some t)) (Ok None) h g = absurd (no_token_left s p t (nothing_left s.text p g) h)
is_at_one s p (Ok (Some t)) (Ok (Some u)) h g = ap (λ x. Ok (Some x)) (token_one s p t u h g)
is_at_one s p (Ok (Some t)) (Err f) h g = absurd (token_no_fault s p t f h g)
is_at_one s p (Err e) (Ok None) h g = absurd (no_fault_left s p e (nothing_left s.text p g) h)
is_at_one s p (Err e) (Ok (Some u)) h g = absurd (token_no_fault s p u e g h)
is_at_one s p (Err e) (Err f) h g = ap Err (fault_one s p e f h g)

-- At the end of a maximal tiling there is not a token.
pub ending_no_token : (s : Setting) (p : ℕ) (e : Option LexFault) (t : Token) → EndsAt s p e → TokenAt s p t → ⊥
ending_no_token s p None t h g = no_token_left s p t (nothing_left s.text p h) g
ending_no_token s p (Some f) t h g = token_no_fault s p t f g h

ending_one : (s : Setting) (p : ℕ) (e f : Option LexFault) → EndsAt s p e → EndsAt s p f → e ≡ f
ending_one s p None None h g = refl
ending_one s p None (Some f) h g = absurd (no_fault_left s p f (nothing_left s.text p h) g)
ending_one s p (Some e) None h g = absurd (no_fault_left s p e (nothing_left s.text p g) h)
ending_one s p (Some e) (Some f) h g = ap Some (fault_one s p e f h g)

tiling_one : (s : Setting) (p a b : ℕ) (ts us : List Token) (e f : Option LexFault) → Tiling s p a ts → EndsAt s a e → Tiling s p b us → EndsAt s b f → (ts ≡ us) × (e ≡ f)
tiling_one s p a b [] [] e f h x g y = (refl, ending_one s p e f (subst (λ q. EndsAt s q e) (sym h) x) (subst (λ q. EndsAt s q f) (sym g) y))
tiling_one s p a b [] (u ∷ us) e f h x g y = absurd (ending_no_token s p e u (subst (λ q. EndsAt s q e) (sym h) x) g.0)
tiling_one s p a b (t ∷ ts) [] e f h x g y = absurd (ending_no_token s p f t (subst (λ q. EndsAt s q f) (sym g) y) h.0)
tiling_one s p a b (t ∷ ts) (u ∷ us) e f h x g y =
    let k = token_one s p t u h.0 g.0 in
    let r = tiling_one s (t.offset + t.len) a b ts us e f h.1 x (subst (λ (z : Token). Tiling s (z.offset + z.len) b us) (sym k) g.1) y in
    let l = r.0 in
    let q : t ∷ ts ≡ u ∷ us = cc in
    (q, r.1)

pub one_tiling : (s : Setting) (p : ℕ) → OneTiling s p
one_tiling s p ts us e f h g = tiling_one s p h.to g.to ts us e f h.tiling h.ends g.tiling g.ends
