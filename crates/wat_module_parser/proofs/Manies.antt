-- Parser and grammar agree on items one after another.
use Rattle.std.proofs.Common.{◌≡◌, ◌<◌, ◌≤◌, ℕ, zero, suc, List, [], ◌++◌, length, Some, None, Ok, Err, refl, sym, ap, subst, ◌∙◌, arith, append_assoc, append-nil}
use Rattle.wat_module_ast.specs.declared.error.ParseFailure.{ParseFailure}
use Rattle.wat_module_ast.specs.declared.error.ParseFailure.TheVariants as refusal
use Rattle.wat_module_instructions.specs.Parts.{Faults, fault_of}
use Rattle.wat_module_ast.specs.Grammar.{Fault}
use Rattle.wat_module_instructions.specs.Law.{past}
use Rattle.wat_module_tokens.specs.Terminals.{Terminal}
use Rattle.wat_module_ast.specs.Fields.{Many, by_none, by_more}
use Rattle.wat_module_parser.specs.Views.{ItemFaults}
use Rattle.wat_module_parser.specs.Reading.{Read, Item, and_then, many, many_by, all}

-- what a reading gives
abbrev pub Gives : {V : Type 0} → Read V → V → List Terminal → Type 0
Gives (Ok (v, ts)) w r = (v ≡ w) × (ts ≡ r)
Gives (Err f) w r = ⊥

pub gives_of : {V : Type 0} (q : Read V) (w : V) (r : List Terminal) → q ≡ Ok (w, r) → Gives q w r
gives_of {V} q w r e = let G : Read V → Type 0 = λ x. Gives x w r in subst G (sym e) (refl, refl)

pub of_gives : {V : Type 0} (q : Read V) (w : V) (r : List Terminal) → Gives q w r → q ≡ Ok (w, r)
of_gives (Ok (v, ts)) w r h = ap (λ x. Ok (x, ts)) h.0 ∙ ap (λ x. Ok (w, x)) h.1
of_gives (Err f) w r h = absurd h

pub and_then_inv : {V W : Type 0} (q : Read V) (next : V → List Terminal → Read W) (w : W) (r : List Terminal) → Gives (and_then q next) w r → (v : V) × (us : List Terminal) × (q ≡ Ok (v, us)) × Gives (next v us) w r
and_then_inv (Ok (v, us)) next w r h = (v, us, refl, h)
and_then_inv (Err f) next w r h = absurd h

-- what an item gives
abbrev pub Brings : {V : Type 0} → Item V → List V → List Terminal → Type 0
Brings None ws r = ⊥
Brings (Some q) ws r = Gives q ws r

pub brings_of : {V : Type 0} (q : Item V) (ws : List V) (r : List Terminal) → q ≡ Some (Ok (ws, r)) → Brings q ws r
brings_of {V} q ws r e = let G : Item V → Type 0 = λ x. Brings x ws r in subst G (sym e) (refl, refl)

pub of_brings : {V : Type 0} (q : Item V) (ws : List V) (r : List Terminal) → Brings q ws r → q ≡ Some (Ok (ws, r))
of_brings (Some q) ws r h = ap (λ x. Some x) (of_gives q ws r h)
of_brings None ws r h = absurd h

abbrev pub One : Type 0 → Type 1
One V = List Terminal → List V → List Terminal → Type 0

-- The parser of an item and its rule in the grammar agree.
pub record Reads {V : Type 0} (item : List Terminal → Item V) (R : One V) : Type 0 where
  pub sound : (ts : List Terminal) (vs : List V) (us : List Terminal) → Brings (item ts) vs us → R ts vs us
  pub complete : (ts : List Terminal) (vs : List V) (us : List Terminal) → R ts vs us → Brings (item ts) vs us
  pub takes : (ts : List Terminal) (vs : List V) (us : List Terminal) → R ts vs us → length us < length ts

pub record ReadMany {V : Type 0} (item : List Terminal → Item V) (R : One V) (vs ws : List V) (ts r : List Terminal) : Type 0 where
  pub more : List V
  pub are : vs ++ more ≡ ws
  pub spelled : Many R ts more r
  pub over : item r ≡ None

sound_by : {V : Type 0} (item : List Terminal → Item V) (R : One V) → Reads item R → (n : ℕ) (vs ws : List V) (ts r : List Terminal) (q : Item V) → item ts ≡ q → ((xs : List V) (us : List Terminal) → Gives (many item n (vs ++ xs) us) ws r → ReadMany item R (vs ++ xs) ws us r) → Gives (many_by (many item n) vs ts q) ws r → ReadMany item R vs ws ts r
sound_by item R k n vs ws ts r None e more (a, b) = record {
  more = [];
  are = append-nil vs ∙ a;
  spelled = subst (λ x. Many R ts [] x) b by_none;
  over = subst (λ x. item x ≡ None) b e;
}
sound_by item R k n vs ws ts r (Some (Ok (xs, us))) e more g = let m = more xs us g in record {
  more = xs ++ m.more;
  are = sym (append_assoc vs xs m.more) ∙ m.are;
  spelled = by_more (k.sound ts xs us (brings_of (item ts) xs us e)) m.spelled;
  over = m.over;
}
sound_by item R k n vs ws ts r (Some (Err f)) e more g = absurd g

many_sound : {V : Type 0} (item : List Terminal → Item V) (R : One V) → Reads item R → (n : ℕ) (vs ws : List V) (ts r : List Terminal) → Gives (many item n vs ts) ws r → ReadMany item R vs ws ts r
unfolding many
many_sound item R k zero vs ws ts r h = absurd h
many_sound item R k (suc n) vs ws ts r h = sound_by item R k n vs ws ts r (item ts) refl (λ xs us g. many_sound item R k n (vs ++ xs) ws us r g) h

many_complete : {V : Type 0} (item : List Terminal → Item V) (R : One V) → Reads item R → (n : ℕ) (vs xs : List V) (ts r : List Terminal) → Many R ts xs r → item r ≡ None → length ts < n → many item n vs ts ≡ Ok (vs ++ xs, r)
unfolding many
many_complete item R k zero vs xs ts r m o l = absurd (omega arith)
many_complete item R k (suc n) vs _ _ r by_none o l = ap (many_by (many item n) vs r) o ∙ ap (λ x. Ok (x, r)) (sym (append-nil vs))
many_complete item R k (suc n) vs _ _ r (by_more {ts = ts} {us = us} {vs = ys} {ws = zs} one rest) o l =
    ap (many_by (many item n) vs ts) (of_brings (item ts) ys us (k.complete ts ys us one))
    ∙ many_complete item R k n (vs ++ ys) zs us r rest o (let t = k.takes ts ys us one in omega arith) ∙ ap (λ x. Ok (x, r)) (append_assoc vs ys zs)

pub all_sound : {V : Type 0} (item : List Terminal → Item V) (R : One V) → Reads item R → (ws : List V) (ts r : List Terminal) → all item ts ≡ Ok (ws, r) → Many R ts ws r × (item r ≡ None)
unfolding all
all_sound item R k ws ts r e = let m = many_sound item R k (suc (length ts)) [] ws ts r (gives_of _ ws r e) in (subst (λ x. Many R ts x r) m.are m.spelled, m.over)

pub all_complete : {V : Type 0} (item : List Terminal → Item V) (R : One V) → Reads item R → (xs : List V) (ts r : List Terminal) → Many R ts xs r → item r ≡ None → all item ts ≡ Ok (xs, r)
unfolding all
all_complete item R k xs ts r m o = many_complete item R k (suc (length ts)) [] xs ts r m o (omega arith)

pub many_takes : {V : Type 0} (R : One V) → ((ts : List Terminal) (vs : List V) (us : List Terminal) → R ts vs us → length us < length ts) → (ts : List Terminal) (vs : List V) (r : List Terminal) → Many R ts vs r → length r ≤ length ts
many_takes R k _ _ r by_none = omega arith
many_takes R k _ _ r (by_more {ts = ts} {us = us} {vs = ys} {ws = zs} one rest) = let a = k ts ys us one in let b = many_takes R k us zs r rest in omega arith

pub many_past : {V : Type 0} (R : One V) (d : ℕ) → ((ts : List Terminal) (vs : List V) (us : List Terminal) → R ts vs us → past d ts ≡ past d us) → (ts : List Terminal) (vs : List V) (r : List Terminal) → Many R ts vs r → past d ts ≡ past d r
many_past R d k _ _ r by_none = refl
many_past R d k _ _ r (by_more {ts = ts} {us = us} {vs = ys} {ws = zs} one rest) = k ts ys us one ∙ many_past R d k us zs r rest

-- A loop over items.

-- From these items and tokens on, the result is `q`.
abbrev pub Leads : {V : Type 0} → (List Terminal → Item V) → List V → List Terminal → Read (List V) → Type 0
Leads item vs ts q = (n : ℕ) → length ts < n → many item n vs ts ≡ q

pub leads_on : {V : Type 0} (item : List Terminal → Item V) (vs ws xs : List V) (ts us : List Terminal) (q : Read (List V)) → item ts ≡ Some (Ok (xs, us)) → ws ≡ vs ++ xs → length us < length ts → Leads item ws us q → Leads item vs ts q
unfolding many
leads_on item vs ws xs ts us q e w l h zero k = absurd (omega arith)
leads_on item vs ws xs ts us q e w l h (suc n) k = ap (many_by (many item n) vs ts) e ∙ ap (λ x. many item n x us) (sym w) ∙ h n (omega arith)

pub leads_out : {V : Type 0} (item : List Terminal → Item V) (vs ws : List V) (ts : List Terminal) → item ts ≡ None → ws ≡ vs → Leads item vs ts (Ok (ws, ts))
unfolding many
leads_out item vs ws ts e w zero k = absurd (omega arith)
leads_out item vs ws ts e w (suc n) k = ap (many_by (many item n) vs ts) e ∙ ap (λ x. Ok (x, ts)) (sym w)

pub leads_into : {V : Type 0} (item : List Terminal → Item V) (vs : List V) (ts : List Terminal) (f : Fault) → item ts ≡ Some (Err f) → Leads item vs ts (Err f)
unfolding many
leads_into item vs ts f e zero k = absurd (omega arith)
leads_into item vs ts f e (suc n) k = ap (many_by (many item n) vs ts) e

pub leads_all : {V : Type 0} (item : List Terminal → Item V) (ts : List Terminal) (q : Read (List V)) → Leads item [] ts q → all item ts ≡ q
unfolding all
leads_all item ts q h = h (suc (length ts)) (omega arith)

pub leads_from : {V : Type 0} (item : List Terminal → Item V) (vs : List V) (ts : List Terminal) (q : Read (List V)) → vs ≡ [] → Leads item vs ts q → all item ts ≡ q
leads_from item vs ts q e h = leads_all item ts q (subst (λ x. Leads item x ts q) e h)

pub faulted : {V : Type 0} (item : List Terminal → Item V) (vs ws : List V) (ts us : List Terminal) (r : ParseFailure) → vs ≡ [] → ((q : Read (List V)) → Leads item ws us q → Leads item vs ts q) → ItemFaults (item us) r → Faults (all item ts) r
faulted item vs ws ts us (refusal.Text f) e inv h = leads_from item vs ts (Err (fault_of f)) e (inv (Err (fault_of f)) (leads_into item ws us (fault_of f) h))
faulted item vs ws ts us (refusal.Memory m) e inv h = tt

pub smaller : {V : Type 0} (item : List Terminal → Item V) (R : One V) → Reads item R → (ts us : List Terminal) (vs : List V) → item ts ≡ Some (Ok (vs, us)) → length us < length ts
smaller item R k ts us vs e = k.takes ts vs us (k.sound ts vs us (brings_of (item ts) vs us e))
