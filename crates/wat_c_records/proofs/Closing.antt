-- Groups in parentheses, over the codes of rows: a code at a time.
use Rattle.std.proofs.Common.{◌≡◌, ◌++◌, ℕ, List, [], ◌∷◌, true, false, refl, ap, sym, ◌∙◌, subst, append_assoc}
use Rattle.std.proofs.lemmas.Bool.{both_ways, eqb-true}
use Rattle.wat_c_records.specs.Links.{opens, closes, Balanced, Balanced.nothing, Balanced.plain, Balanced.group}

-- a group ends in the codes, and then comes the rest
pub data Closed : List ℕ → List ℕ → Type 0 where
  close : {c : ℕ} {r : List ℕ} → closes c ≡ true → Closed (c ∷ r) r
  beyond : {c : ℕ} {s r : List ℕ} → opens c ≡ false → closes c ≡ false → Closed s r → Closed (c ∷ s) r
  nested : {c : ℕ} {s m r : List ℕ} → opens c ≡ true → Closed s m → Closed m r → Closed (c ∷ s) r

pub close_opens_none : (c : ℕ) → closes c ≡ true → opens c ≡ false
close_opens_none c e = ap opens (eqb-true c 5 e)

-- one constructor fits each list
pub at_nil : (r : List ℕ) → Closed [] r → ⊥
at_nil r h = elim h [ ]

pub at_close : (c : ℕ) (s r : List ℕ) → closes c ≡ true → Closed (c ∷ s) r → s ≡ r
at_close c s r e (close k) = refl
at_close c s r e (beyond k l h) = absurd (both_ways (closes c) l e)
at_close c s r e (nested k g h) = absurd (both_ways (opens c) (close_opens_none c e) k)

pub at_plain : (c : ℕ) (s r : List ℕ) → opens c ≡ false → closes c ≡ false → Closed (c ∷ s) r → Closed s r
at_plain c s r e f (close k) = absurd (both_ways (closes c) f k)
at_plain c s r e f (beyond k l h) = h
at_plain c s r e f (nested k g h) = absurd (both_ways (opens c) e k)

pub at_open : (c : ℕ) (s r : List ℕ) → opens c ≡ true → Closed (c ∷ s) r → (m : List ℕ) × Closed s m × Closed m r
at_open c s r e (close k) = absurd (both_ways (opens c) (close_opens_none c k) e)
at_open c s r e (beyond k l h) = absurd (both_ways (opens c) k e)
at_open c s r e (nested {m = m} k g h) = (m, g, h)

pub closed_unique : (s r q : List ℕ) → Closed s r → Closed s q → r ≡ q
closed_unique s r q (close {c = c} e) k = at_close c r q e k
closed_unique s r q (beyond {c = c} {s = u} e f h) k = closed_unique u r q h (at_plain c u q e f k)
closed_unique s r q (nested {c = c} {s = u} {m = m} e g h) k =
    let n = at_open c u q e k in
    let f = closed_unique u m n.0 g n.1 in
    closed_unique m r q h (subst (λ x. Closed x q) (sym f) n.2)

-- the two ways of saying it
closed_past : (b x r : List ℕ) → Balanced b → Closed x r → Closed (b ++ x) r
closed_past b x r nothing h = h
closed_past b x r (plain {b = a} e f g) h = beyond e f (closed_past a x r g h)
closed_past s x r (group o c {a = a} {b = b} eo ga ec gb e) h =
    subst (λ y. Closed (y ++ x) r) (sym e)
    (nested eo
    (subst (λ y. Closed y (b ++ x)) (sym (append_assoc a (c ∷ b) x)) (closed_past a (c ∷ (b ++ x)) (b ++ x) ga (close ec)))
    (closed_past b x r gb h))

pub record Cut (s r : List ℕ) : Type 0 where
  pub within : List ℕ
  pub last : ℕ
  pub balanced : Balanced within
  pub closing : closes last ≡ true
  pub cut : s ≡ within ++ (last ∷ r)

pub cut_from : (s r : List ℕ) → Closed s r → Cut s r
cut_from s r (close {c = c} e) = record { within = []; last = c; balanced = nothing; closing = e; cut = refl }
cut_from s r (beyond {c = c} {s = u} e f h) =
    let g = cut_from u r h in
    record { within = c ∷ g.within; last = g.last; balanced = plain e f g.balanced; closing = g.closing; cut = ap (λ x. c ∷ x) g.cut }
cut_from s r (nested {c = c} {s = u} {m = m} e g h) =
    let a = cut_from u m g in
    let b = cut_from m r h in
    record {
      within = (c ∷ a.within) ++ (a.last ∷ b.within);
      last = b.last;
      balanced = group c a.last e a.balanced a.closing b.balanced refl;
      closing = b.closing;
      cut = ap (λ x. c ∷ x) (a.cut ∙ ap (λ x. a.within ++ (a.last ∷ x)) b.cut ∙ sym (append_assoc a.within (a.last ∷ b.within) (b.last ∷ r)));
    }

pub closed_from : (s r : List ℕ) → Cut s r → Closed s r
closed_from s r g = subst (λ y. Closed y r) (sym g.cut) (closed_past g.within (g.last ∷ r) r g.balanced (close g.closing))
