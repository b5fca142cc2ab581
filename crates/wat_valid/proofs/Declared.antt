-- Membership in the indices at which a list is true.
use Rattle.std.proofs.Common.{◌≡◌, ◌<◌, ◌≤◌, ◌++◌, length, get_or, ◌+◌, ℕ, zero, suc, Bool, true, false, List, [], ◌∷◌, Option, Some, None, refl, sym, ◌∙◌, ap, arith}
use Rattle.std.specs.Prelude.{slice_get, slice_set, ◌||◌, ◌==◌, if◌then◌else◌}
use Rattle.std.proofs.lemmas.Bool.Decides.{Decides-eqb}
use Rattle.std.proofs.lemmas.Option.{slice_get-get_or, slice_get_past}
use Rattle.std.specs.List.{flat_map}
use Rattle.std.proofs.Common.{map, drop, take, subst, replicate, zero-add}
use Rattle.std.specs.Prelude.{Vec}
use Rattle.std.proofs.lemmas.List.{drop_more, get_or-set_other, length-replicate, map-append, take_more}
use Rattle.std.proofs.lemmas.Grind.{flat_map-append, get_or-set_at}
use Rattle.wat_module_ast.specs.declared.instruction.Instruction.{Instruction}
use Rattle.wat_module_ast.specs.Views.{expression_of, field_of}
use Rattle.wat_module_ast.specs.Fields.{Binding, Field, binding_of, bindings_of, is_space, names_in, ref_func}
use Rattle.wat_module_ast.specs.declared.fields.Field as declared
use Rattle.wat_module_ast.specs.declared.fields.IndexSpace.{IndexSpace}
use Rattle.wat_module_ast.specs.declared.fields.IndexSpace.TheVariants as space
use Rattle.wat_valid.specs.Modules.{expression_refs, field_refs, function_count, refs_after}
use Rattle.wat_valid.specs.Algorithm.{has_index}
use Rattle.wat_valid.specs.ContextViews.{marked, true_indices}

abbrev pub or_false : Option Bool → Bool
or_false None = false
or_false (Some b) = b

differ : (n x : ℕ) → x < n → (n == x) ≡ false
differ n x l = by (n == x) refl
  where
    by : (b : Bool) → (n == x) ≡ b → b ≡ false
    by true e = absurd (omega (arith, (Decides-eqb n x).0 e, l))
    by false e = refl

not_before : (n x : ℕ) (bs : List Bool) → x < n → has_index x (true_indices n bs) ≡ false
not_before n x [] l = refl
not_before n x (true ∷ bs) l = ap (λ (b : Bool). if b then true else has_index x (true_indices (suc n) bs)) (differ n x l) ∙ not_before (suc n) x bs (omega (arith, l))
not_before n x (false ∷ bs) l = not_before (suc n) x bs (omega (arith, l))

from : (n x k : ℕ) (bs : List Bool) → x ≡ n + k → has_index x (true_indices n bs) ≡ or_false (slice_get bs k)
from n x k [] e = refl
from n x zero (true ∷ bs) e = ap (λ (b : Bool). if b then true else has_index x (true_indices (suc n) bs)) ((Decides-eqb n x).1 (omega (arith, e)))
from n x zero (false ∷ bs) e = not_before (suc n) x bs (omega (arith, e))
from n x (suc k) (true ∷ bs) e = ap (λ (b : Bool). if b then true else has_index x (true_indices (suc n) bs)) (differ_after n x k e) ∙ from (suc n) x k bs (omega (arith, e))
  where
    differ_after : (n x k : ℕ) → x ≡ n + suc k → (n == x) ≡ false
    differ_after n x k e = by (n == x) refl
      where
        by : (b : Bool) → (n == x) ≡ b → b ≡ false
        by true f = absurd (omega (arith, (Decides-eqb n x).0 f, e))
        by false f = refl
from n x (suc k) (false ∷ bs) e = from (suc n) x k bs (omega (arith, e))

pub is_there : (x : ℕ) (bs : List Bool) (d : Bool) → x < length bs → has_index x (true_indices 0 bs) ≡ get_or bs x d
is_there x bs d l = from 0 x x bs (omega arith) ∙ ap or_false (slice_get-get_or bs x d l)

pub is_not_there : (x : ℕ) (bs : List Bool) → length bs ≤ x → has_index x (true_indices 0 bs) ≡ false
is_not_there x bs l = from 0 x x bs (omega arith) ∙ ap or_false (slice_get_past bs x l)

-- the index `x` is in the first list or in the second
joined : (x : ℕ) (xs ys : List ℕ) → has_index x (xs ++ ys) ≡ has_index x xs || has_index x ys
joined x [] ys = refl
joined x (z ∷ xs) ys = by (z == x) (joined x xs ys)
  where
    by : (b : Bool) → has_index x (xs ++ ys) ≡ has_index x xs || has_index x ys → (if b then true else has_index x (xs ++ ys)) ≡ (if b then true else has_index x xs) || has_index x ys
    by true h = refl
    by false h = h

pub marked_more : (xs ys : List ℕ) (bs : List Bool) → marked (xs ++ ys) bs ≡ marked ys (marked xs bs)
marked_more [] ys bs = refl
marked_more (x ∷ xs) ys bs = marked_more xs ys (slice_set bs x true)

-- setting an element keeps the length
set_keeps : (bs : List Bool) (x : ℕ) → length (slice_set bs x true) ≡ length bs
set_keeps [] x = refl
set_keeps (b ∷ bs) zero = refl
set_keeps (b ∷ bs) (suc x) = ap suc (set_keeps bs x)

pub marked_keeps : (xs : List ℕ) (bs : List Bool) → length (marked xs bs) ≡ length bs
marked_keeps [] bs = refl
marked_keeps (x ∷ xs) bs = marked_keeps xs (slice_set bs x true) ∙ set_keeps bs x

set_is : (bs : List Bool) (x y : ℕ) → y < length bs → get_or (slice_set bs x true) y false ≡ (x == y) || get_or bs y false
set_is bs x y l = by (x == y) refl
  where
    by : (b : Bool) → (x == y) ≡ b → get_or (slice_set bs x true) y false ≡ b || get_or bs y false
    by true e =
        let xy = (Decides-eqb x y).0 e in
        get_or-set_at bs x y true false (sym xy) (subst (λ z. z < length bs) (sym xy) l)
    by false e = get_or-set_other bs x y true false (λ h. absurd (no (sym e ∙ (Decides-eqb x y).1 (sym h))))
      where
        no : false ≡ true → ⊥
        no f = cc

pub marked_is : (xs : List ℕ) (bs : List Bool) (y : ℕ) → y < length bs → get_or (marked xs bs) y false ≡ has_index y xs || get_or bs y false
marked_is [] bs y l = refl
marked_is (x ∷ xs) bs y l =
    marked_is xs (slice_set bs x true) y (subst (λ n. y < n) (sym (set_keeps bs x)) l)
    ∙ ap (λ b. has_index y xs || b) (set_is bs x y l)
    ∙ by (x == y) (has_index y xs) (get_or bs y false)
  where
    by : (a b d : Bool) → b || (a || d) ≡ (if a then true else b) || d
    by true true d = refl
    by true false d = refl
    by false b d = refl

pub functions_refer : (xs : List ℕ) → flat_map expression_refs (map ref_func xs) ≡ xs
functions_refer [] = refl
functions_refer (x ∷ xs) = ap (λ ys. x ∷ ys) (functions_refer xs)

-- one expression on
pub expression_marked : {G : Type 0} (all : List (Vec Instruction G)) (e d : Vec Instruction G) (i : ℕ) (bits before after : List Bool) → bits ≡ marked (flat_map expression_refs (map expression_of (drop i all))) before → i < length all → e ≡ get_or all i d → after ≡ marked (expression_refs (expression_of e)) before → bits ≡ marked (flat_map expression_refs (map expression_of (drop (i + 1) all))) after
expression_marked all e d i bits before after h l k a =
    let rest = flat_map expression_refs (map expression_of (drop (i + 1) all)) in
    h ∙ ap (λ xs. marked (flat_map expression_refs (map expression_of xs)) before) (drop_more all i d l) ∙ ap (λ x. marked (expression_refs (expression_of x) ++ rest) before) (sym k) ∙ marked_more (expression_refs (expression_of e)) rest before ∙ ap (λ x. marked rest x) (sym a)

names_more : (s : IndexSpace) (hs ks : List Binding) → length (names_in s (hs ++ ks)) ≡ length (names_in s hs) + length (names_in s ks)
names_more s [] ks = sym (zero-add (length (names_in s ks)))
names_more s (h ∷ hs) ks = by (is_space s h.space) (names_more s hs ks)
  where
    by : (b : Bool) → length (names_in s (hs ++ ks)) ≡ length (names_in s hs) + length (names_in s ks) → length (if b then h.name ∷ names_in s (hs ++ ks) else names_in s (hs ++ ks)) ≡ length (if b then h.name ∷ names_in s hs else names_in s hs) + length (names_in s ks)
    by true e = omega (arith, e)
    by false e = e

count_joined : (fs gs : List Field) → function_count (fs ++ gs) ≡ function_count fs + function_count gs
count_joined fs gs = ap (λ hs. length (names_in space.Func hs)) (flat_map-append binding_of fs gs) ∙ names_more space.Func (bindings_of fs) (bindings_of gs)

taken_more : (fields : List declared.Field) (f d : declared.Field) (i : ℕ) → i < length fields → f ≡ get_or fields i d → map field_of (take (i + 1) fields) ≡ map field_of (take i fields) ++ field_of f ∷ []
taken_more fields f d i l e = ap (λ xs. map field_of xs) (take_more fields i d l) ∙ map-append field_of (take i fields) (get_or fields i d ∷ []) ∙ ap (λ x. map field_of (take i fields) ++ field_of x ∷ []) (sym e)

-- the count of functions, one field on
pub function_counted : (fields : List declared.Field) (f d : declared.Field) (i n m : ℕ) → i < length fields → f ≡ get_or fields i d → n ≡ function_count (map field_of (take i fields)) → m ≡ n + function_count (field_of f ∷ []) → m ≡ function_count (map field_of (take (i + 1) fields))
function_counted fields f d i n m l e h k =
    let more = ap (λ fs. function_count fs) (taken_more fields f d i l e) ∙ count_joined (map field_of (take i fields)) (field_of f ∷ []) in
    omega (arith, more, h, k)

-- one field on
pub field_marked : (fields : List declared.Field) (f d : declared.Field) (i n : ℕ) (bits before after : List Bool) → bits ≡ marked (refs_after (map field_of (take i fields)) (map field_of (drop i fields))) before → i < length fields → f ≡ get_or fields i d → n ≡ function_count (map field_of (take i fields)) → after ≡ marked (field_refs n (field_of f)) before → bits ≡ marked (refs_after (map field_of (take (i + 1) fields)) (map field_of (drop (i + 1) fields))) after
field_marked fields f d i n bits before after h l e c k =
    let past = map field_of (take i fields) in
    let rest = map field_of (drop (i + 1) fields) in
    h ∙ ap (λ xs. marked (refs_after past (map field_of xs)) before) (drop_more fields i d l)
    ∙ ap (λ x. marked (refs_after past (field_of x ∷ rest)) before) (sym e)
    ∙ ap (λ m. marked (field_refs m (field_of f) ++ refs_after (past ++ field_of f ∷ []) rest) before) (sym c)
    ∙ marked_more (field_refs n (field_of f)) (refs_after (past ++ field_of f ∷ []) rest) before
    ∙ ap (λ fs. marked (refs_after fs rest) (marked (field_refs n (field_of f)) before)) (sym (taken_more fields f d i l e))
    ∙ ap (λ x. marked (refs_after (map field_of (take (i + 1) fields)) rest) x) (sym k)

false_at : (n y : ℕ) → get_or (replicate n false) y false ≡ false
false_at zero y = refl
false_at (suc n) zero = refl
false_at (suc n) (suc y) = false_at n y

-- the elements that are true are those at the indices of the list
pub marked_are : (xs : List ℕ) (n x : ℕ) → x < n → has_index x (true_indices 0 (marked xs (replicate n false))) ≡ has_index x xs
marked_are xs n x l =
    let bs = replicate n false in
    let len = length-replicate n false in
    is_there x (marked xs bs) false (subst (λ m. x < m) (sym (marked_keeps xs bs ∙ len)) l) ∙ marked_is xs bs x (subst (λ m. x < m) (sym len) l) ∙ ap (λ b. has_index x xs || b) (false_at n x) ∙ by (has_index x xs)
  where
    by : (b : Bool) → b || false ≡ b
    by true = refl
    by false = refl
