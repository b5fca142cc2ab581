use Rattle.std.proofs.Common.{◌≡◌, ◌≢◌, ℕ, zero, suc, ◌+◌, ◌-◌, ◌<◌, List, [], ◌∷◌, refl, length, drop, get_or, arith, add-one, add-zero, subst, sym, ap, ◌∙◌, inl, inr, length-drop, get_or-drop}
use Rattle.std.proofs.lemmas.List.{drop_more}
use Rattle.std.proofs.lemmas.Bool.{cases_eq}
use Rattle.wat_lex.specs.inside.Nesting.{Closings, Reaches}
use Rattle.wat_lex.specs.grammar.Comments.{Closes, close, plain, lone_semicolon, lone_paren, nested}

pub reaches_start : (s : List ℕ) → Reaches s 1 s
reaches_start s = record { into = λ r h. subst (λ x. Closes s x) h.2 h.1; from = λ r h. (r, h, refl) }

-- one constructor fits each text
pub at_nil : (r : List ℕ) → Closes [] r → {A : Type 0} → A
at_nil r h = elim h [ ]

pub at_close : (t r : List ℕ) → Closes (59 ∷ 41 ∷ t) r → t ≡ r
at_close t r close = refl
at_close t r (plain a b h) = absurd (a refl)
at_close t r (lone_semicolon a h) = absurd (a refl)

pub at_plain : (c : ℕ) (t r : List ℕ) → Closes (c ∷ t) r → c ≢ 59 → c ≢ 40 → Closes t r
at_plain c t r close a b = absurd (a refl)
at_plain c t r (plain x y h) a b = h
at_plain c t r (lone_semicolon x h) a b = absurd (a refl)
at_plain c t r (lone_paren x h) a b = absurd (b refl)
at_plain c t r (nested g h) a b = absurd (b refl)

pub at_lone_semicolon : (d : ℕ) (t r : List ℕ) → Closes (59 ∷ d ∷ t) r → d ≢ 41 → Closes (d ∷ t) r
at_lone_semicolon d t r close a = absurd (a refl)
at_lone_semicolon d t r (plain x y h) a = absurd (x refl)
at_lone_semicolon d t r (lone_semicolon x h) a = h

pub at_lone_paren : (d : ℕ) (t r : List ℕ) → Closes (40 ∷ d ∷ t) r → d ≢ 59 → Closes (d ∷ t) r
at_lone_paren d t r (plain x y h) a = absurd (y refl)
at_lone_paren d t r (lone_paren x h) a = h
at_lone_paren d t r (nested g h) a = absurd (a refl)

pub at_nested : (t r : List ℕ) → Closes (40 ∷ 59 ∷ t) r → (m : List ℕ) × Closes t m × Closes m r
at_nested t r (plain x y h) = absurd (y refl)
at_nested t r (lone_paren x h) = absurd (x refl)
at_nested t r (nested {m = m} g h) = (m, g, h)

pub at_last : (c : ℕ) (r : List ℕ) → {A : Type 0} → Closes (c ∷ []) r → A
at_last c r (plain x y h) = at_nil r h

-- one step of a reader that counts
pub step_plain : (s t : List ℕ) (c n : ℕ) → 0 < n → c ≢ 59 → c ≢ 40 → Reaches s n (c ∷ t) → Reaches s n t
step_plain s t c zero p a b h = absurd (omega arith)
step_plain s t c (suc n) p a b h = record {
  into = λ r g. h.into r (g.0, plain a b g.1, g.2);
  from = λ r g. let k = h.from r g in (k.0, at_plain c t k.0 k.1 a b, k.2);
}

pub step_semicolon : (s t : List ℕ) (d n : ℕ) → 0 < n → d ≢ 41 → Reaches s n (59 ∷ d ∷ t) → Reaches s n (d ∷ t)
step_semicolon s t d zero p a h = absurd (omega arith)
step_semicolon s t d (suc n) p a h = record {
  into = λ r g. h.into r (g.0, lone_semicolon a g.1, g.2);
  from = λ r g. let k = h.from r g in (k.0, at_lone_semicolon d t k.0 k.1 a, k.2);
}

pub step_paren : (s t : List ℕ) (d n : ℕ) → 0 < n → d ≢ 59 → Reaches s n (40 ∷ d ∷ t) → Reaches s n (d ∷ t)
step_paren s t d zero p a h = absurd (omega arith)
step_paren s t d (suc n) p a h = record {
  into = λ r g. h.into r (g.0, lone_paren a g.1, g.2);
  from = λ r g. let k = h.from r g in (k.0, at_lone_paren d t k.0 k.1 a, k.2);
}

pub step_open : (s t : List ℕ) (n : ℕ) → 0 < n → Reaches s n (40 ∷ 59 ∷ t) → Reaches s (n + 1) t
step_open s t zero p h = absurd (omega arith)
step_open s t (suc n) p h = rw add-one (let made : Reaches s (suc (suc n)) t = record {
  into = λ r g. h.into r (g.2.0, nested g.1 g.2.1, g.2.2);
  from = λ r g. let k = h.from r g in let l = at_nested t k.0 k.1 in (l.0, l.1, (k.0, l.2, k.2));
} in made)

pub step_close : (s t : List ℕ) (n : ℕ) → Reaches s (n + 1) (59 ∷ 41 ∷ t) → Reaches s n t
step_close s t n h = let g : Reaches s (suc n) (59 ∷ 41 ∷ t) = rw (← add-one) h in record {
  into = λ r k. g.into r (t, close, k);
  from = λ r k. let l = g.from r k in subst (λ x. Closings n x r) (sym (at_close t l.0 l.1)) l.2;
}

-- a last character closes nothing
pub step_last : (s : List ℕ) (c n : ℕ) → 0 < n → Reaches s n (c ∷ []) → Reaches s n []
step_last s c zero p h = absurd (omega arith)
step_last s c (suc n) p h = record {
  into = λ r g. at_nil g.0 g.1;
  from = λ r g. at_last c (h.from r g).0 (h.from r g).1;
}

-- at the end an open comment stays open
pub none_closes : (s : List ℕ) (n : ℕ) → 0 < n → Reaches s n [] → (r : List ℕ) → Closes s r → ⊥
none_closes s zero p h r g = absurd (omega arith)
none_closes s (suc n) p h r g = let k = h.from r g in at_nil k.0 k.1

-- ---- the steps, by offsets in the whole text
drop_two : (s : List ℕ) (i : ℕ) → i + 1 < length s → drop i s ≡ get_or s i 0 ∷ get_or s (i + 1) 0 ∷ drop (i + 2) s
drop_two s i h =
    let e : drop i s ≡ get_or s i 0 ∷ drop (i + 1) s = drop_more s i 0 (omega arith) in
    let f : drop (i + 1) s ≡ get_or s (i + 1) 0 ∷ drop (i + 1 + 1) s = drop_more s (i + 1) 0 h in
    let k : i + 1 + 1 ≡ i + 2 = omega arith in
    e ∙ ap (λ x. get_or s i 0 ∷ x) (f ∙ ap (λ x. get_or s (i + 1) 0 ∷ drop x s) k)

pub open_at : (s : List ℕ) (i n : ℕ) → i + 1 < length s → get_or s i 0 ≡ 40 → get_or s (i + 1) 0 ≡ 59 → 0 < n → Reaches s n (drop i s) → Reaches s (n + 1) (drop (i + 2) s)
open_at s i n h a b p g =
    let e : drop i s ≡ 40 ∷ 59 ∷ drop (i + 2) s = drop_two s i h ∙ ap (λ x. x ∷ get_or s (i + 1) 0 ∷ drop (i + 2) s) a ∙ ap (λ x. 40 ∷ x ∷ drop (i + 2) s) b in
    step_open s (drop (i + 2) s) n p (subst (λ x. Reaches s n x) e g)

pub close_at : (s : List ℕ) (i n : ℕ) → i + 1 < length s → get_or s i 0 ≡ 59 → get_or s (i + 1) 0 ≡ 41 → 0 < n → Reaches s n (drop i s) → Reaches s (n - 1) (drop (i + 2) s)
close_at s i n h a b p g =
    let e : drop i s ≡ 59 ∷ 41 ∷ drop (i + 2) s = drop_two s i h ∙ ap (λ x. x ∷ get_or s (i + 1) 0 ∷ drop (i + 2) s) a ∙ ap (λ x. 59 ∷ x ∷ drop (i + 2) s) b in
    let k : n ≡ (n - 1) + 1 = omega arith in
    step_close s (drop (i + 2) s) (n - 1) (subst (λ x. Reaches s x (59 ∷ 41 ∷ drop (i + 2) s)) k (subst (λ x. Reaches s n x) e g))

step_other : (s t : List ℕ) (c n : ℕ) → 0 < n → Reaches s n (c ∷ t) → (c ≡ 40 → 0 < length t → get_or t 0 0 ≡ 59 → ⊥) → (c ≡ 59 → 0 < length t → get_or t 0 0 ≡ 41 → ⊥) → Reaches s n t
step_other s [] c n p h a b = step_last s c n p h
step_other s (d ∷ t) c n p h a b =
    elim (cases_eq c 40) [
      | inl e ↦ step_paren s t d n p (a e (omega arith)) (subst (λ x. Reaches s n (x ∷ d ∷ t)) e h)
      | inr ne ↦ elim (cases_eq c 59) [
        | inl e ↦ step_semicolon s t d n p (b e (omega arith)) (subst (λ x. Reaches s n (x ∷ d ∷ t)) e h)
        | inr nf ↦ step_plain s (d ∷ t) c n p nf ne h
      ]
    ]

pub other_at : (s : List ℕ) (i n : ℕ) → i < length s → 0 < n → Reaches s n (drop i s)
    → (get_or s i 0 ≡ 40 → i + 1 < length s → get_or s (i + 1) 0 ≡ 59 → ⊥)
    → (get_or s i 0 ≡ 59 → i + 1 < length s → get_or s (i + 1) 0 ≡ 41 → ⊥)
    → Reaches s n (drop (i + 1) s)
other_at s i n h p g a b =
    let e = drop_more s i 0 h in
    let l = length-drop (i + 1) s in
    let f : get_or (drop (i + 1) s) 0 0 ≡ get_or s (i + 1) 0 = get_or-drop (i + 1) s 0 0 ∙ ap (λ x. get_or s x 0) (add-zero (i + 1)) in
    step_other s (drop (i + 1) s) (get_or s i 0) n p (subst (λ x. Reaches s n x) e g)
    (λ x y z. a x (omega (arith, l)) (sym f ∙ z)) (λ x y z. b x (omega (arith, l)) (sym f ∙ z))

-- where no comment is open any more, the text is closed
pub all_closed : (s : List ℕ) (n : ℕ) (t : List ℕ) → n ≡ 0 → Reaches s n t → Closes s t
all_closed s n t e h = let g : Reaches s 0 t = subst (λ x. Reaches s x t) e h in g.into t refl
