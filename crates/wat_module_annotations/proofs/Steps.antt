-- The names of the fields among items, one item at a time; and those of a list of fields.
use Rattle.std.proofs.Common.{◌≡◌, ◌∙◌, ◌≤◌, ◌+◌, arith, length, map, ℕ, suc, zero, List, [], ◌∷◌, ◌++◌, refl, sym, ap, append_assoc, append-nil, Some, None, Result, Ok, Err}
use Rattle.std.specs.Prelude.{◌==◌, true, false, Bool, if◌then◌else◌}
use Rattle.std.proofs.lemmas.Bool.{eqb-true, false≢true}
use Rattle.wat_module_tokens.specs.Terminals.{Label}
use Rattle.wat_module_annotations.specs.Items.{Block, Close, Field, FoldedBlock, FoldedIf, Header, Import, Item, Module, Open, Other, Stray, Then, Variable, Variables}
use Rattle.wat_module_annotations.specs.Names.{Context, FieldNames, after, begun, declaring, deeper, ended, ends_field, entered, fields_from, misplaced, outside, past_header, preceded_by, shallower, unless, with_variables}

pub all_none : (r : Result (List FieldNames) ℕ) → r ≡ preceded_by [] r
all_none (Ok fs) = refl
all_none (Err at) = refl

preceded_twice : (fs gs : List FieldNames) (r : Result (List FieldNames) ℕ) → preceded_by fs (preceded_by gs r) ≡ preceded_by (fs ++ gs) r
preceded_twice fs gs (Ok hs) = ap Ok (sym (append_assoc fs gs hs))
preceded_twice fs gs (Err at) = refl

outside_after : (i : Item) (c : Context) → ends_field i c.depth ≡ true → after i c ≡ outside
unfolding after
outside_after Close c e = closed c.depth e
  where
    closed : (d : ℕ) → (d == 1) ≡ true → shallower d c ≡ outside
    closed zero e = refl
    closed (suc zero) e = refl
    closed (suc (suc d)) e = absurd (omega (arith, eqb-true (suc (suc d)) 1 e))
outside_after (Stray at) c e = absurd (false≢true e)
outside_after Open c e = absurd (false≢true e)
outside_after Header c e = absurd (false≢true e)
outside_after (Module o) c e = absurd (false≢true e)
outside_after (Field o) c e = absurd (false≢true e)
outside_after (Import o) c e = absurd (false≢true e)
outside_after (Variables b ls) c e = absurd (false≢true e)
outside_after (Variable b o) c e = absurd (false≢true e)
outside_after (Block o) c e = absurd (false≢true e)
outside_after (FoldedBlock o) c e = absurd (false≢true e)
outside_after (FoldedIf o) c e = absurd (false≢true e)
outside_after Then c e = absurd (false≢true e)
outside_after Other c e = absurd (false≢true e)

-- The invariant after one more item: `whole` is the result for all items, and `is` are those that are left.
module _ (whole : Result (List FieldNames) ℕ) (fs : List FieldNames) (c : Context) (is rest : List Item) (i : Item) where
  first : whole ≡ preceded_by fs (fields_from c is) → is ≡ i ∷ rest → whole ≡ preceded_by fs (unless (misplaced i c) (preceded_by (ended i c) (fields_from (after i c) rest)))
  unfolding fields_from
  first h e = h ∙ ap (λ x. preceded_by fs (fields_from c x)) e

  pub step_misplaced : (at : ℕ) → whole ≡ preceded_by fs (fields_from c is) → is ≡ i ∷ rest → misplaced i c ≡ Some at → whole ≡ Err at
  step_misplaced at h e k = first h e ∙ ap (λ m. preceded_by fs (unless m (preceded_by (ended i c) (fields_from (after i c) rest)))) k

  placed : whole ≡ preceded_by fs (fields_from c is) → is ≡ i ∷ rest → misplaced i c ≡ None → whole ≡ preceded_by fs (preceded_by (ended i c) (fields_from (after i c) rest))
  placed h e k = first h e ∙ ap (λ m. preceded_by fs (unless m (preceded_by (ended i c) (fields_from (after i c) rest)))) k

  pub step_within : whole ≡ preceded_by fs (fields_from c is) → is ≡ i ∷ rest → misplaced i c ≡ None → ends_field i c.depth ≡ false → whole ≡ preceded_by fs (fields_from (after i c) rest)
  step_within h e k n =
      placed h e k ∙ ap (λ b. preceded_by fs (preceded_by (if b then c.field ∷ [] else []) (fields_from (after i c) rest))) n ∙ ap (preceded_by fs) (sym (all_none (fields_from (after i c) rest)))

  pub step_end : whole ≡ preceded_by fs (fields_from c is) → is ≡ i ∷ rest → misplaced i c ≡ None → ends_field i c.depth ≡ true → whole ≡ preceded_by (fs ++ c.field ∷ []) (fields_from outside rest)
  step_end h e k n =
      placed h e k ∙ ap (λ b. preceded_by fs (preceded_by (if b then c.field ∷ [] else []) (fields_from (after i c) rest))) n ∙ ap (λ d. preceded_by fs (preceded_by (c.field ∷ []) (fields_from d rest))) (outside_after i c n) ∙ preceded_twice fs (c.field ∷ []) (fields_from outside rest)

pub no_more : (fs : List FieldNames) (c : Context) (is : List Item) (whole : Result (List FieldNames) ℕ) → whole ≡ preceded_by fs (fields_from c is) → is ≡ [] → whole ≡ Ok fs
unfolding fields_from
no_more fs c is whole h e = h ∙ ap (λ x. preceded_by fs (fields_from c x)) e ∙ ap Ok (append-nil fs)

entered_deep : (l : Label) (c : Context) → (entered l c).depth ≤ 2 + c.depth
entered_deep l c = by_test (c.depth == 0)
  where
    by_test : (b : Bool) → (if b then begun 1 l else deeper 1 c).depth ≤ 2 + c.depth
    by_test true = omega arith
    by_test false = omega arith

shallower_deep : (d : ℕ) (c : Context) → (shallower d c).depth ≤ d
shallower_deep zero c = omega arith
shallower_deep (suc zero) c = omega arith
shallower_deep (suc (suc d)) c = omega arith

declaring_deep : (is_param : Bool) (ls : List Label) (c : Context) → (declaring is_param ls c).depth ≤ 2 + c.depth
declaring_deep is_param ls c = by_test c.in_header
  where
    by_test : (b : Bool) → (if b then record c { field = with_variables is_param ls c.field } else c).depth ≤ 2 + c.depth
    by_test true = omega arith
    by_test false = omega arith

-- An item opens at most two groups.
pub after_deep : (i : Item) (c : Context) → (after i c).depth ≤ 2 + c.depth
unfolding after
after_deep (Stray at) c = omega arith
after_deep Open c = entered_deep None (past_header c)
after_deep Close c = omega (arith, shallower_deep c.depth c)
after_deep Header c = entered_deep None c
after_deep (Module o) c = omega arith
after_deep (Field o) c = entered_deep o.name c
after_deep (Import o) c = omega arith
after_deep (Variables b ls) c = declaring_deep b ls c
after_deep (Variable b o) c = declaring_deep b (o.name ∷ []) c
after_deep (Block o) c = omega arith
after_deep (FoldedBlock o) c = omega arith
after_deep (FoldedIf o) c = omega arith
after_deep Then c = omega arith
after_deep Other c = omega arith

pub map_push : {A B : Type 0} (f : A → B) (xs : List A) (x : A) → map f (xs ++ (x ∷ [])) ≡ map f xs ++ (f x ∷ [])
map_push f [] x = refl
map_push f (y ∷ xs) x = ap (λ z. f y ∷ z) (map_push f xs x)

pub nothing_left : {A : Type 0} (xs : List A) → length xs ≡ 0 → xs ≡ []
nothing_left [] h = refl
nothing_left (x ∷ xs) h = absurd (omega arith)
