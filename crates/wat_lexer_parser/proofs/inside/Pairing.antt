-- Matching parentheses, one token at a time.
use Rattle.std.proofs.Common.{◌≡◌, ◌⊎◌, ℕ, zero, suc, ◌+◌, ◌-◌, ◌<◌, ◌≤◌, List, [], ◌∷◌, ◌++◌, false, refl, sym, ap, ◌∙◌, inl, inr, subst, length, drop, get_or, set, arith, add-one, Some, None, Option}
use Rattle.std.specs.Prelude.{replicate, slice_get}
use Rattle.std.proofs.lemmas.Option.{slice_get_within, get_or_from_slice_get}
use Rattle.std.proofs.lemmas.List.{drop_more, drop_all, get_or_append_left, get_or_push, length_push, get_or-set_same, get_or-set_other, length-set, length-append, length-replicate, get_or-replicate, get_or_default}
use Rattle.std.proofs.lemmas.Bool.{cases_eq, cases_lt, both_ways}
use Rattle.wat_lex.specs.declared.lexer.kinds.TokenKind.{TokenKind}
use Rattle.wat_lex.specs.declared.lexer.kinds.TokenKind.TheVariants.{LParen, RParen}
use Rattle.wat_lex.specs.declared.lexer.kinds.Token.{Token}
use Rattle.wat_lexer_parser.specs.lemmas.Parts.{is_paren}
use Rattle.wat_lexer_parser.proofs.groups.Closing.{Closed, close, beyond, nested}
use Rattle.wat_lexer_parser.specs.inside.Table.{Pair, HasGroupEnds, Opening, FirstFrom, Sorted}
use Rattle.wat_lexer_parser.proofs.groups.Closing.{Closings, at_nil, at_close, at_plain, at_open, kind_cases, closed_from, group_from}

-- The end of the group open before `s` is the end of `n` groups open before `t`.
pub record Reaches (s : List Token) (n : ℕ) (t : List Token) : Type 0 where
  pub into : (r : List Token) → Closings n t r → Closed s r
  pub from : (r : List Token) → Closed s r → Closings n t r

pub reaches_start : (s : List Token) → Reaches s 1 s
reaches_start s = record { into = λ r h. subst (λ x. Closed s x) h.2 h.1; from = λ r h. (r, h, refl) }

pub step_plain : (s r : List Token) (t : Token) (n : ℕ) → 0 < n → is_paren t.kind ≡ false → Reaches s n (t ∷ r) → Reaches s n r
step_plain s r t zero p e h = absurd (omega arith)
step_plain s r t (suc n) p e h = record {
  into = λ q g. h.into q (g.0, beyond e g.1, g.2);
  from = λ q g. let k = h.from q g in (k.0, at_plain t r k.0 e k.1, k.2);
}

pub step_open : (s r : List Token) (t : Token) (n : ℕ) → 0 < n → t.kind ≡ LParen → Reaches s n (t ∷ r) → Reaches s (n + 1) r
step_open s r t zero p e h = absurd (omega arith)
step_open s r t (suc n) p e h = rw add-one (let made : Reaches s (suc (suc n)) r = record {
  into = λ q g. h.into q (g.2.0, nested e g.1 g.2.1, g.2.2);
  from = λ q g. let k = h.from q g in let l = at_open t r k.0 e k.1 in (l.0, l.1, (k.0, l.2, k.2));
} in made)

pub step_close : (s r : List Token) (t : Token) (n : ℕ) → t.kind ≡ RParen → Reaches s (n + 1) (t ∷ r) → Reaches s n r
step_close s r t n e h = let g : Reaches s (suc n) (t ∷ r) = rw (← add-one) h in record {
  into = λ q k. g.into q (r, close e, k);
  from = λ q k. let l = g.from q k in subst (λ x. Closings n x q) (sym (at_close t r l.0 e l.1)) l.2;
}

pub none_closes : (s : List Token) (n : ℕ) → 0 < n → Reaches s n [] → (r : List Token) → Closed s r → ⊥
none_closes s zero p h r g = absurd (omega arith)
none_closes s (suc n) p h r g = let k = h.from r g in at_nil k.0 k.1

-- An opening parenthesis that was passed is on the stack, or the end of its group is recorded.
abbrev pub Passed : List Token → List ℕ → ℕ → Option ℕ → Type 0
Passed ts ks m x = ((x ≡ None) × ((q : ℕ) × (q < length ks) × (get_or ks q 0 ≡ m))) ⊎ ((j : ℕ) × (x ≡ Some j) × (m < j) × (j < length ts) × Closed (drop (m + 1) ts) (drop (j + 1) ts))

-- After `i` tokens: the positions of the open parentheses, innermost last, and the recorded ends of the groups of
-- `opens`.
pub record Walked (ts : List Token) (i : ℕ) (ks opens : List ℕ) (ps : List (Option ℕ)) : Type 0 where
  pub long : length ps ≡ length opens
  pub below : (q : ℕ) → q < length ks → get_or ks q 0 < i
  pub reaches : (q : ℕ) → q < length ks → Reaches (drop (get_or ks q 0 + 1) ts) (length ks - q) (drop i ts)
  pub fresh : (g : ℕ) → g < length opens → i ≤ get_or opens g 0 → get_or ps g None ≡ None
  pub passed : (g : ℕ) → g < length opens → get_or opens g 0 < i → Passed ts ks (get_or opens g 0) (get_or ps g None)

-- The token at position `i` is `t`.
pub record At (ts : List Token) (i : ℕ) (t : Token) : Type 0 where
  pub within : i < length ts
  pub is : t ≡ get_or ts i t

cut : (ts : List Token) (i : ℕ) (t : Token) → At ts i t → drop i ts ≡ t ∷ drop (i + 1) ts
cut ts i t a = drop_more ts i t a.within ∙ ap (λ x. x ∷ drop (i + 1) ts) (sym a.is)

-- The token at the position of one of the parentheses is an opening parenthesis.
pub opens_at : (ts : List Token) (opens : List ℕ) (i g : ℕ) (t : Token) → Opening ts opens → At ts i t → g < length opens → get_or opens g 0 ≡ i → t.kind ≡ LParen
opens_at ts opens i g t o a l e =
    let h = o g l in
    let f : get_or ts i t ≡ h.0 = get_or_from_slice_get ts i h.0 t (ap (slice_get ts) (sym e) ∙ h.1) in
    ap (λ x. x.kind) (a.is ∙ f) ∙ h.2

pub walk_start : (ts : List Token) (i : ℕ) (opens : List ℕ) (ps : List (Option ℕ)) → FirstFrom opens 0 i → ps ≡ replicate (length opens) None → Walked ts i [] opens ps
walk_start ts i opens ps n e = record {
  long = ap length e ∙ length-replicate (length opens) None;
  below = λ q h. absurd (omega arith);
  reaches = λ q h. absurd (omega arith);
  fresh = λ g l h. ap (λ x. get_or x g None) e ∙ get_or-replicate (length opens) g None None l;
  passed = λ g l h. absurd (omega (arith, n g l (omega arith)));
}

-- If no parenthesis is open, the tokens before the next of the positions are skipped.
pub walk_on : (ts : List Token) (i j : ℕ) (ks opens : List ℕ) (ps : List (Option ℕ)) → length ks ≡ 0 → i ≤ j → FirstFrom opens i j → Walked ts i ks opens ps → Walked ts j ks opens ps
walk_on ts i j ks opens ps z h n w = record {
  long = w.long;
  below = λ q l. absurd (omega arith);
  reaches = λ q l. absurd (omega arith);
  fresh = λ g l k. w.fresh g l (omega arith);
  passed = λ g l k. elim (cases_lt (get_or opens g 0) i) [
    | inl b ↦ w.passed g l b
    | inr b ↦ absurd (omega (arith, n g l b))
  ];
}

passed_more : (ts : List Token) (ks js : List ℕ) (m : ℕ) (x : Option ℕ) → Passed ts ks m x → Passed ts (ks ++ js) m x
passed_more ts ks js m x (inl h) = inl (h.0, (h.1.0, omega (arith, h.1.1, length-append ks js), get_or_append_left ks js 0 h.1.0 h.1.1 ∙ h.1.2))
passed_more ts ks js m x (inr h) = inr h

pub walk_plain : (ts : List Token) (i : ℕ) (ks opens : List ℕ) (ps : List (Option ℕ)) (t : Token) → Opening ts opens → At ts i t → is_paren t.kind ≡ false → Walked ts i ks opens ps → Walked ts (i + 1) ks opens ps
walk_plain ts i ks opens ps t o a e w = record {
  long = w.long;
  below = λ q h. omega (arith, w.below q h);
  reaches = λ q h. step_plain (drop (get_or ks q 0 + 1) ts) (drop (i + 1) ts) t (length ks - q) (omega arith) e (subst (λ x. Reaches (drop (get_or ks q 0 + 1) ts) (length ks - q) x) (cut ts i t a) (w.reaches q h));
  fresh = λ g l h. w.fresh g l (omega arith);
  passed = λ g l h. elim (cases_lt (get_or opens g 0) i) [
    | inl k ↦ w.passed g l k
    | inr k ↦ absurd (both_ways (is_paren t.kind) e (ap is_paren (opens_at ts opens i g t o a l (omega arith))))
  ];
}

pub walk_open : (ts : List Token) (i : ℕ) (ks opens : List ℕ) (ps : List (Option ℕ)) (t : Token) → At ts i t → t.kind ≡ LParen → Walked ts i ks opens ps → Walked ts (i + 1) (ks ++ (i ∷ [])) opens ps
walk_open ts i ks opens ps t a e w =
    let l : length (ks ++ (i ∷ [])) ≡ length ks + 1 = length_push ks i in
    record {
      long = w.long;
      below = λ q h. elim (cases_lt q (length ks)) [
        | inl k ↦ omega (arith, w.below q k, get_or_append_left ks (i ∷ []) 0 q k)
        | inr k ↦ omega (arith, get_or_push ks i 0 q (omega arith))
      ];
      reaches = λ q h. elim (cases_lt q (length ks)) [
        | inl k ↦
            let n : length (ks ++ (i ∷ [])) - q ≡ (length ks - q) + 1 = omega arith in
            let g = step_open (drop (get_or ks q 0 + 1) ts) (drop (i + 1) ts) t (length ks - q) (omega arith) e (subst (λ x. Reaches (drop (get_or ks q 0 + 1) ts) (length ks - q) x) (cut ts i t a) (w.reaches q k)) in
            let g' = subst (λ x. Reaches (drop (get_or ks q 0 + 1) ts) x (drop (i + 1) ts)) (sym n) g in
            subst (λ x. Reaches (drop (x + 1) ts) (length (ks ++ (i ∷ [])) - q) (drop (i + 1) ts)) (sym (get_or_append_left ks (i ∷ []) 0 q k)) g'
        | inr k ↦
            let n : length (ks ++ (i ∷ [])) - q ≡ 1 = omega arith in
            let g' = subst (λ x. Reaches (drop (i + 1) ts) x (drop (i + 1) ts)) (sym n) (reaches_start (drop (i + 1) ts)) in
            subst (λ x. Reaches (drop (x + 1) ts) (length (ks ++ (i ∷ [])) - q) (drop (i + 1) ts)) (sym (get_or_push ks i 0 q (omega arith))) g'
      ];
      fresh = λ g m h. w.fresh g m (omega arith);
      passed = λ g m h. elim (cases_lt (get_or opens g 0) i) [
        | inl k ↦ passed_more ts ks (i ∷ []) (get_or opens g 0) (get_or ps g None) (w.passed g m k)
        | inr k ↦ inl (w.fresh g m k, (length ks, omega arith, get_or_push ks i 0 (length ks) refl ∙ omega arith))
      ];
    }

-- The position of the innermost open parenthesis.
pub walk_top : (ts : List Token) (i k : ℕ) (ks opens : List ℕ) (ps : List (Option ℕ)) → Walked ts i (ks ++ (k ∷ [])) opens ps → k < i
walk_top ts i k ks opens ps w = omega (arith, w.below (length ks) (omega (arith, length_push ks k)), get_or_push ks k 0 (length ks) refl)

walk_closes : (ts : List Token) (i k : ℕ) (ks opens : List ℕ) (ps : List (Option ℕ)) (t : Token) → At ts i t → t.kind ≡ RParen → Walked ts i (ks ++ (k ∷ [])) opens ps → Closed (drop (k + 1) ts) (drop (i + 1) ts)
walk_closes ts i k ks opens ps t a e w =
    let l : length (ks ++ (k ∷ [])) ≡ length ks + 1 = length_push ks k in
    let g = w.reaches (length ks) (omega arith) in
    let n : length (ks ++ (k ∷ [])) - length ks ≡ 1 = omega arith in
    let g' = subst (λ x. Reaches (drop (get_or (ks ++ (k ∷ [])) (length ks) 0 + 1) ts) x (drop i ts)) n g in
    let g'' = subst (λ x. Reaches (drop (x + 1) ts) 1 (drop i ts)) (get_or_push ks k 0 (length ks) refl) g' in
    let h = subst (λ x. Reaches (drop (k + 1) ts) 1 x) (cut ts i t a) g'' in
    h.into (drop (i + 1) ts) (drop (i + 1) ts, close e, refl)

-- If `k` is one of the positions, the end of its group is recorded as `i`.
abbrev pub ClosesOne : List ℕ → List (Option ℕ) → ℕ → ℕ → List (Option ℕ) → Type 0
ClosesOne opens old k i new =
    (((g : ℕ) → g < length opens → get_or opens g 0 ≡ k → ⊥) × (new ≡ old))
    ⊎ ((g : ℕ) × (g < length opens) × (get_or opens g 0 ≡ k) × (new ≡ set old g (Some i)))

-- A position of the stack other than its last one.
still : (ks : List ℕ) (k q m : ℕ) → q < length (ks ++ (k ∷ [])) → get_or (ks ++ (k ∷ [])) q 0 ≡ m → (m ≡ k → ⊥) → q < length ks
still ks k q m h f other = elim (cases_lt q (length ks)) [
  | inl b ↦ b
  | inr b ↦ absurd (other (sym f ∙ get_or_push ks k 0 q (omega (arith, length_push ks k))))
]

passed_less : (ts : List Token) (ks : List ℕ) (k m : ℕ) (x : Option ℕ) → (m ≡ k → ⊥) → Passed ts (ks ++ (k ∷ [])) m x → Passed ts ks m x
passed_less ts ks k m x other (inl h) =
    let l = still ks k h.1.0 m h.1.1 h.1.2 other in
    inl (h.0, (h.1.0, l, sym (get_or_append_left ks (k ∷ []) 0 h.1.0 l) ∙ h.1.2))
passed_less ts ks k m x other (inr h) = inr h

-- The positions are distinct.
apart : (opens : List ℕ) (g h : ℕ) → Sorted opens → g < length opens → h < length opens → get_or opens g 0 ≡ get_or opens h 0 → g ≡ h
apart opens g h s a b e = elim (cases_lt g h) [
  | inl l ↦ absurd (omega (arith, s g h l b))
  | inr l ↦ elim (cases_lt h g) [ inl k ↦ absurd (omega (arith, s h g k a)) | inr k ↦ omega arith ]
]

pub walk_close : (ts : List Token) (i k : ℕ) (ks opens : List ℕ) (ps qs : List (Option ℕ)) (t : Token) → Opening ts opens → Sorted opens → At ts i t → t.kind ≡ RParen → Walked ts i (ks ++ (k ∷ [])) opens ps → ClosesOne opens ps k i qs → Walked ts (i + 1) ks opens qs
walk_close ts i k ks opens ps qs t o s a e w d =
    let l : length (ks ++ (k ∷ [])) ≡ length ks + 1 = length_push ks k in
    let top : k < i = walk_top ts i k ks opens ps w in
    let c = walk_closes ts i k ks opens ps t a e w in
    let reach : (q : ℕ) → q < length ks → Reaches (drop (get_or ks q 0 + 1) ts) (length ks - q) (drop (i + 1) ts) = λ q h.
    let n : length (ks ++ (k ∷ [])) - q ≡ (length ks - q) + 1 = omega arith in
    let g = w.reaches q (omega arith) in
    let g1 = subst (λ x. Reaches (drop (get_or (ks ++ (k ∷ [])) q 0 + 1) ts) x (drop i ts)) n g in
    let g2 = subst (λ x. Reaches (drop (x + 1) ts) ((length ks - q) + 1) (drop i ts)) (get_or_append_left ks (k ∷ []) 0 q h) g1 in
    step_close (drop (get_or ks q 0 + 1) ts) (drop (i + 1) ts) t (length ks - q) e (subst (λ x. Reaches (drop (get_or ks q 0 + 1) ts) ((length ks - q) + 1) x) (cut ts i t a) g2) in
    let low : (q : ℕ) → q < length ks → get_or ks q 0 < i + 1 = λ q h. omega (arith, w.below q (omega arith), get_or_append_left ks (k ∷ []) 0 q h) in
    let earlier : (g : ℕ) → g < length opens → get_or opens g 0 < i + 1 → get_or opens g 0 < i = λ g m h. elim (cases_lt (get_or opens g 0) i) [
      | inl b ↦ b
      | inr b ↦ let f : RParen ≡ LParen = sym e ∙ opens_at ts opens i g t o a m (omega arith) in cc
    ] in
    elim d [
      | inl n ↦ record {
        long = ap length n.1 ∙ w.long;
        below = low;
        reaches = reach;
        fresh = λ g m h. ap (λ x. get_or x g None) n.1 ∙ w.fresh g m (omega arith);
        passed = λ g m h. subst (λ x. Passed ts ks (get_or opens g 0) (get_or x g None)) (sym n.1) (passed_less ts ks k (get_or opens g 0) (get_or ps g None) (n.0 g m) (w.passed g m (earlier g m h)));
      }
      | inr n ↦ record {
        long = ap length n.3 ∙ length-set ps n.0 (Some i) ∙ w.long;
        below = low;
        reaches = reach;
        fresh = λ g m h. ap (λ x. get_or x g None) n.3 ∙ get_or-set_other ps n.0 g (Some i) None (λ x. absurd (omega (arith, ap (λ y. get_or opens y 0) x, n.2))) ∙ w.fresh g m (omega arith);
        passed = λ g m h. elim (cases_eq g n.0) [
          | inl same ↦
              let at : get_or opens g 0 ≡ k = ap (λ y. get_or opens y 0) same ∙ n.2 in
              inr (
                i,
                ap (λ x. get_or x g None) n.3 ∙ ap (λ y. get_or (set ps n.0 (Some i)) y None) same ∙ get_or-set_same ps n.0 (Some i) None (omega (arith, w.long, n.1)),
                omega arith,
                a.within,
                subst (λ x. Closed (drop (x + 1) ts) (drop (i + 1) ts)) (sym at) c,
              )
          | inr other ↦
              subst (Passed ts ks (get_or opens g 0)) (sym (ap (λ x. get_or x g None) n.3 ∙ get_or-set_other ps n.0 g (Some i) None other))
              (passed_less ts ks k (get_or opens g 0) (get_or ps g None) (λ x. other (apart opens g n.0 s m n.1 (x ∙ sym n.2))) (w.passed g m (earlier g m h)))
        ];
      }
    ]

pub walk_stray : (ts : List Token) (i : ℕ) (ks opens : List ℕ) (ps : List (Option ℕ)) (t : Token) → Opening ts opens → At ts i t → t.kind ≡ RParen → length ks ≡ 0 → Walked ts i ks opens ps → Walked ts (i + 1) ks opens ps
walk_stray ts i ks opens ps t o a e z w = record {
  long = w.long;
  below = λ q h. absurd (omega arith);
  reaches = λ q h. absurd (omega arith);
  fresh = λ g m h. w.fresh g m (omega arith);
  passed = λ g m h. elim (cases_lt (get_or opens g 0) i) [
    | inl k ↦ w.passed g m k
    | inr b ↦ let f : RParen ≡ LParen = sym e ∙ opens_at ts opens i g t o a m (omega arith) in cc
  ];
}

pub walk_end : (ts : List Token) (i : ℕ) (ks opens : List ℕ) (ps : List (Option ℕ)) → Opening ts opens → length ts ≤ i → Walked ts i ks opens ps → HasGroupEnds ts opens ps
walk_end ts i ks opens ps o h w = record {
  long = w.long;
  pair = λ g l. elim (w.passed g l (let k = o g l in omega (arith, slice_get_within ts (get_or opens g 0) k.0 k.1))) [
    | inl f ↦
        let m = get_or opens g 0 in
        let r = w.reaches f.1.0 f.1.1 in
        let r1 = subst (λ x. Reaches (drop (x + 1) ts) (length ks - f.1.0) (drop i ts)) f.1.2 r in
        let r2 = subst (λ x. Reaches (drop (m + 1) ts) (length ks - f.1.0) x) (drop_all i ts h) r1 in
        let p : Pair ts m None = λ x y. none_closes (drop (m + 1) ts) (length ks - f.1.0) (omega (arith, f.1.1)) r2 x (closed_from (drop (m + 1) ts) x y) in
        subst (λ x. Pair ts m x) (sym f.0) p
    | inr f ↦
        let m = get_or opens g 0 in
        let p : Pair ts m (Some f.0) = (f.2, f.3, group_from (drop (m + 1) ts) (drop (f.0 + 1) ts) f.4) in subst (λ x. Pair ts m x) (sym f.1) p
  ];
}

pub at_default : (ts : List Token) (i : ℕ) (d : Token) → i < length ts → At ts i (get_or ts i d)
at_default ts i d h = record { within = h; is = get_or_default ts i d (get_or ts i d) h }

pub neither : (k : TokenKind) → (k ≡ LParen → ⊥) → (k ≡ RParen → ⊥) → is_paren k ≡ false
neither k a b = elim (kind_cases k) [ inl e ↦ absurd (a e) | inr f ↦ elim f [ inl e ↦ absurd (b e) | inr e ↦ e ] ]
