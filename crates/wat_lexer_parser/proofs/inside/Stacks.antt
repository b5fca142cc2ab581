-- The stack of a traversal of the tokens: for each open parenthesis, its index in `opens`, if it has one.
use Rattle.std.proofs.Common.{◌≡◌, ℕ, ◌+◌, ◌<◌, ◌≤◌, List, [], ◌∷◌, ◌++◌, Bool, true, false, refl, sym, ◌∙◌, inl, inr, subst, length, take, get_or, arith, Some, None, Option}
use Rattle.std.specs.Prelude.{replicate, IfSome}
use Rattle.std.proofs.lemmas.List.{get_or_append_left, get_or_push, get_or-take, length_push, length-take-le, take_all, take_more}
use Rattle.std.proofs.lemmas.Bool.{cases_lt}
use Rattle.wat_lex.specs.declared.lexer.kinds.TokenKind.TheVariants.{LParen, RParen}
use Rattle.wat_lex.specs.declared.lexer.kinds.Token.{Token}
use Rattle.wat_lexer_parser.specs.lemmas.Parts.{is_paren}
use Rattle.wat_lexer_parser.specs.inside.Table.{closed_at, Counted, FirstFrom, Found, Opening, HasGroupEnds, Sorted}
use Rattle.wat_lexer_parser.proofs.inside.Pairing.{At, ClosesOne, Walked, opens_at, walk_close, walk_end, walk_on, walk_open, walk_plain, walk_start, walk_stray}

-- `ms` are the indices of the parentheses at the positions `ks`.
pub record Marked (opens ks : List ℕ) (ms : List (Option ℕ)) : Type 0 where
  pub long : length ms ≡ length ks
  pub each : (q : ℕ) → q < length ks → Found opens (get_or ks q 0) (get_or ms q None)

marked_push : (opens ks : List ℕ) (ms : List (Option ℕ)) (i : ℕ) (m : Option ℕ) → Marked opens ks ms → Found opens i m → Marked opens (ks ++ i ∷ []) (ms ++ m ∷ [])
marked_push opens ks ms i m h f =
    let a = length_push ks i in
    let b = length_push ms m in
    record {
      long = omega (arith, a, b, h.long);
      each = λ q l. elim (cases_lt q (length ks)) [
        | inl k ↦
            subst (λ x. Found opens x (get_or (ms ++ m ∷ []) q None)) (sym (get_or_append_left ks (i ∷ []) 0 q k))
            (subst (λ x. Found opens (get_or ks q 0) x) (sym (get_or_append_left ms (m ∷ []) None q (omega (arith, h.long)))) (h.each q k))
        | inr k ↦
            subst (λ x. Found opens x (get_or (ms ++ m ∷ []) q None)) (sym (get_or_push ks i 0 q (omega (arith, a))))
            (subst (λ x. Found opens i x) (sym (get_or_push ms m None q (omega (arith, a, h.long)))) f)
      ];
    }

-- The parentheses below the last one of the stack, with their indices.
marked_pop : (opens ks : List ℕ) (ms : List (Option ℕ)) (m : Option ℕ) → Marked opens ks (ms ++ m ∷ []) → (js : List ℕ) × (k : ℕ) × (ks ≡ js ++ k ∷ []) × Marked opens js ms × Found opens k m
marked_pop opens ks ms m h =
    let n = length ms in
    let a = length_push ms m in
    let l : n < length ks = omega (arith, a, h.long) in
    let e : n + 1 ≡ length ks = omega (arith, a, h.long) in
    let t : length (take n ks) ≡ n = length-take-le n ks (omega arith) in
    let cut : ks ≡ take n ks ++ get_or ks n 0 ∷ [] = sym (take_all (n + 1) ks (omega arith)) ∙ take_more ks n 0 l in
    let below : Marked opens (take n ks) ms = record {
      long = sym t;
      each = λ q b.
          let c : q < n = omega (arith, t) in
          subst (λ x. Found opens x (get_or ms q None)) (sym (get_or-take n ks q 0 c))
          (subst (λ x. Found opens (get_or ks q 0) x) (get_or_append_left ms (m ∷ []) None q c) (h.each q (omega arith)));
    } in
    let last : Found opens (get_or ks n 0) m = subst (λ x. Found opens (get_or ks n 0) x) (get_or_push ms m None n refl) (h.each n l) in
    (take n ks, get_or ks n 0, cut, below, last)

closes_one : (opens : List ℕ) (ps : List (Option ℕ)) (k i : ℕ) (m : Option ℕ) → Found opens k m → ClosesOne opens ps k i (closed_at ps m i)
closes_one opens ps k i None f = inl (f, refl)
closes_one opens ps k i (Some g) f = inr (g, f.0, f.1, refl)

-- After a token that opens no group.
counted_on : (ts : List Token) (opens : List ℕ) (n i : ℕ) (t : Token) → Opening ts opens → At ts i t → (t.kind ≡ LParen → ⊥) → Counted opens n i → Counted opens n (i + 1)
counted_on ts opens n i t o a e c = record {
  before = λ g l h. omega (arith, c.before g l h);
  after = λ g l h. elim (cases_lt i (get_or opens g 0)) [
    | inl k ↦ omega arith
    | inr k ↦ absurd (e (opens_at ts opens i g t o a l (omega (arith, c.after g l h))))
  ];
}

-- After a closing parenthesis.
pub counted_close : (ts : List Token) (opens : List ℕ) (n i : ℕ) (t : Token) → Opening ts opens → At ts i t → t.kind ≡ RParen → Counted opens n i → Counted opens n (i + 1)
counted_close ts opens n i t o a e c = counted_on ts opens n i t o a (λ x. let f : RParen ≡ LParen = sym e ∙ x in cc) c

-- After `i` tokens: the stack, the number of positions of `opens` that were passed, and the recorded ends of their
-- groups.
pub record Walking (ts : List Token) (i passed : ℕ) (ms : List (Option ℕ)) (opens : List ℕ) (ps : List (Option ℕ)) : Type 0 where
  pub ks : List ℕ
  pub walked : Walked ts i ks opens ps
  pub marked : Marked opens ks ms
  pub counted : Counted opens passed i

pub start : (ts : List Token) (i n : ℕ) (opens : List ℕ) (ps : List (Option ℕ)) → FirstFrom opens 0 i → Counted opens n i → ps ≡ replicate (length opens) None → Walking ts i n [] opens ps
start ts i n opens ps f c e = record {
  ks = [];
  walked = walk_start ts i opens ps f e;
  marked = record { long = refl; each = λ q l. absurd (omega arith) };
  counted = c;
}

pub on_open : (ts : List Token) (i n k : ℕ) (ms : List (Option ℕ)) (m : Option ℕ) (opens : List ℕ) (ps : List (Option ℕ)) (t : Token) → At ts i t → t.kind ≡ LParen → Found opens i m → Counted opens k (i + 1) → Walking ts i n ms opens ps → Walking ts (i + 1) k (ms ++ m ∷ []) opens ps
on_open ts i n k ms m opens ps t a e f c w = record {
  ks = w.ks ++ i ∷ [];
  walked = walk_open ts i w.ks opens ps t a e w.walked;
  marked = marked_push opens w.ks ms i m w.marked f;
  counted = c;
}

pub on_plain : (ts : List Token) (i n : ℕ) (ms : List (Option ℕ)) (opens : List ℕ) (ps : List (Option ℕ)) (t : Token) → Opening ts opens → At ts i t → is_paren t.kind ≡ false → (t.kind ≡ LParen → ⊥) → Walking ts i n ms opens ps → Walking ts (i + 1) n ms opens ps
on_plain ts i n ms opens ps t o a e d w = record {
  ks = w.ks;
  walked = walk_plain ts i w.ks opens ps t o a e w.walked;
  marked = w.marked;
  counted = counted_on ts opens n i t o a d w.counted;
}

pub on_stray : (ts : List Token) (i n : ℕ) (ms : List (Option ℕ)) (opens : List ℕ) (ps : List (Option ℕ)) (t : Token) → Opening ts opens → At ts i t → t.kind ≡ RParen → length ms ≡ 0 → Walking ts i n ms opens ps → Walking ts (i + 1) n ms opens ps
on_stray ts i n ms opens ps t o a e z w = record {
  ks = w.ks;
  walked = walk_stray ts i w.ks opens ps t o a e (omega (arith, w.marked.long)) w.walked;
  marked = w.marked;
  counted = counted_close ts opens n i t o a e w.counted;
}

-- The index of the last parenthesis of the stack.
pub top : (ts : List Token) (i n : ℕ) (old ms : List (Option ℕ)) (m : Option ℕ) (opens : List ℕ) (ps : List (Option ℕ)) → old ≡ ms ++ m ∷ [] → Walking ts i n old opens ps → IfSome m (λ g. g < length ps)
top ts i n old ms None opens ps e w = tt
top ts i n old ms (Some g) opens ps e w =
    let p = marked_pop opens w.ks ms (Some g) (subst (Marked opens w.ks) e w.marked) in
    omega (arith, p.4.0, w.walked.long)

-- The last parenthesis of the stack is closed.
pub on_close : (ts : List Token) (i n : ℕ) (old ms : List (Option ℕ)) (m : Option ℕ) (opens : List ℕ) (ps : List (Option ℕ)) (t : Token) → Opening ts opens → Sorted opens → At ts i t → t.kind ≡ RParen → old ≡ ms ++ m ∷ [] → Walking ts i n old opens ps → Walking ts (i + 1) n ms opens (closed_at ps m i)
on_close ts i n old ms m opens ps t o s a e f w =
    let p = marked_pop opens w.ks ms m (subst (Marked opens w.ks) f w.marked) in
    record {
      ks = p.0;
      walked = walk_close ts i p.1 p.0 opens ps (closed_at ps m i) t o s a e (subst (λ x. Walked ts i x opens ps) p.2 w.walked) (closes_one opens ps p.1 i m p.4);
      marked = p.3;
      counted = counted_close ts opens n i t o a e w.counted;
    }

-- If no parenthesis is open, the tokens before the next of the positions are skipped.
on_gap : (ts : List Token) (i j n : ℕ) (ms : List (Option ℕ)) (opens : List ℕ) (ps : List (Option ℕ)) → length ms ≡ 0 → i ≤ j → FirstFrom opens i j → Counted opens n j → Walking ts i n ms opens ps → Walking ts j n ms opens ps
on_gap ts i j n ms opens ps z h f c w = record {
  ks = w.ks;
  walked = walk_on ts i j w.ks opens ps (omega (arith, w.marked.long)) h f w.walked;
  marked = w.marked;
  counted = c;
}

-- After a group that was closed, if another one is open or not.
pub on_after : (ts : List Token) (i j n : ℕ) (outermost : Bool) (ms : List (Option ℕ)) (opens : List ℕ) (ps : List (Option ℕ)) → (outermost ≡ true → length ms ≡ 0) → (outermost ≡ false → j ≡ i) → i ≤ j → FirstFrom opens i j → Counted opens n j → Walking ts i n ms opens ps → Walking ts j n ms opens ps
on_after ts i j n true ms opens ps z s h f c w = on_gap ts i j n ms opens ps (z refl) h f c w
on_after ts i j n false ms opens ps z s h f c w = subst (λ x. Walking ts x n ms opens ps) (sym (s refl)) w

pub end : (ts : List Token) (i n : ℕ) (ms : List (Option ℕ)) (opens : List ℕ) (ps : List (Option ℕ)) → Opening ts opens → length ts ≤ i → Walking ts i n ms opens ps → HasGroupEnds ts opens ps
end ts i n ms opens ps o h w = walk_end ts i w.ks opens ps o h w.walked
