-- A map with string keys, and its view as a finite map.
use Rattle.std.proofs.Common.{◌≡◌, ℕ, List, [], ◌∷◌, length, map, cond, refl, sym, ap, subst, ◌∙◌, ◌+◌, ◌-◌, ◌<◌, ◌≤◌, IsSome, arith, zero, suc, ◌≢◌, nat_lt, Bool, true, false, ◌||◌}
use Rattle.std.specs.Prelude.{is_some}
use Rattle.std.specs.List.{list_any}
use Rattle.std.specs.Option.{unwrap_or}
use Rattle.std.proofs.lemmas.Bool.{lt-ltb, le-ltb}
use Rattle.std.specs.FinMap as finmap
use Rattle.std.specs.FinMap.{get-empty, get-from_entries, get-insert, get-remove, get_tied, same_map, slice_cmp-IsAntisymmetric, nat_cmp-IsAntisymmetric}
use Rattle.std.specs.Cmp.Lexicographic.{slice_cmp, nat_list_cmp_total}
use Rattle.std.specs.Cmp.{eq_by_cmp_equiv}
use Rattle.std.specs.Ordering.{nat_cmp, is_eq, eq_by_cmp}
use Rattle.std.specs.declared.cmp.Ordering.{Ordering}
use Rattle.std.specs.declared.cmp.Ordering.TheVariants.{Less, Equal, Greater}
use Rattle.std.specs.declared.option.Option.{Option}
use Rattle.std.specs.declared.option.Option.TheVariants.{Some, None}
use Rattle.std.specs.declared.string.String.{String}
use Rattle.std.specs.String.{string_bytes, string_cmp}
use Rattle.std.specs.Str.{bytes_eq}
use Rattle.std.specs.BTreeMap.{BTreeMap, UpdatesBy, get_by_text, is_at}
use Rattle.std.specs.Map.{keys_of, lookup}
use Rattle.std.proofs.lemmas.Map.Text.{btree_map_updates_text, is_eq-slice_cmp}
use Rattle.wat_lexer_parser.specs.names.RegisteredNames.{Names}
use Rattle.wat_lexer_parser.specs.inside.MapEntries.{names_of}
use Rattle.wat_lexer_parser.specs.names.RegisteredNames.{count, fewer, is_registered, IsPositive}

find_pairs : {Z : Type 0} (es : List (String Z × ℕ)) (q : List ℕ) → finmap.find (slice_cmp nat_cmp) q (map (λ e. (string_bytes e.0, e.1)) es) ≡ lookup (is_at (λ k. slice_cmp nat_cmp q (string_bytes k))) es
find_pairs [] q = refl
find_pairs (e ∷ es) q = ap (cond (is_eq (slice_cmp nat_cmp q (string_bytes e.0))) (Some e.1)) (find_pairs es q)

-- The value of a key.
pub get-names : {Z : Type 0} (m : BTreeMap (String Z) ℕ) (q : List ℕ) → finmap.get (names_of m.entries) q ≡ get_by_text m q
get-names m q = get-from_entries nat_list_cmp_total (map (λ e. (string_bytes e.0, e.1)) m.entries) q ∙ find_pairs m.entries q

pub names-none : {Z : Type 0} (m : BTreeMap (String Z) ℕ) → length m.entries ≡ 0 → names_of m.entries ≡ finmap.empty
names-none m e = by m.entries e
  where
    by : {Z : Type 0} (es : List (String Z × ℕ)) → length es ≡ 0 → names_of es ≡ finmap.empty
    by [] e = refl
    by (e ∷ es) f = absurd (omega (arith, f))

same_text : (x y : List ℕ) → bytes_eq y x ≡ eq_by_cmp (slice_cmp nat_cmp) x y
same_text x y = sym (is_eq-slice_cmp y x) ∙ (eq_by_cmp_equiv nat_list_cmp_total).symm y x

same_names : (m n : Names) → ((q : List ℕ) → finmap.get m q ≡ finmap.get n q) → m ≡ n
same_names = same_map nat_list_cmp_total (slice_cmp-IsAntisymmetric nat_cmp-IsAntisymmetric)

pub names-set : {Z : Type 0} (m n : BTreeMap (String Z) ℕ) (x : List ℕ) (v : ℕ) → UpdatesBy string_cmp (λ k. slice_cmp nat_cmp x (string_bytes k)) m n (Some v) → names_of n.entries ≡ finmap.insert (names_of m.entries) x v
names-set m n x v u = same_names _ _ (λ q.
    get-names n q ∙ btree_map_updates_text x m n (Some v) u q
    ∙ ap (λ b. cond b (Some v) (get_by_text m q)) (same_text q x)
    ∙ ap (λ o. cond (eq_by_cmp (slice_cmp nat_cmp) q x) (Some v) o) (sym (get-names m q))
    ∙ sym (get-insert nat_list_cmp_total (names_of m.entries) x v q))

pub names-removed : {Z : Type 0} (m n : BTreeMap (String Z) ℕ) (x : List ℕ) → UpdatesBy string_cmp (λ k. slice_cmp nat_cmp x (string_bytes k)) m n None → names_of n.entries ≡ finmap.remove (names_of m.entries) x
names-removed m n x u = same_names _ _ (λ q.
    get-names n q ∙ btree_map_updates_text x m n None u q
    ∙ ap (λ b. cond b None (get_by_text m q)) (same_text q x)
    ∙ ap (λ o. cond (eq_by_cmp (slice_cmp nat_cmp) q x) None o) (sym (get-names m q))
    ∙ sym (get-remove nat_list_cmp_total (names_of m.entries) x q))

is_some-from_count : (o : Option ℕ) → 0 < unwrap_or o 0 → IsSome o
is_some-from_count None h = absurd (omega arith)
is_some-from_count (Some x) h = refl

pub is_there : {Z : Type 0} (m : BTreeMap (String Z) ℕ) (s : Names) (x : List ℕ) → names_of m.entries ≡ s → 0 < count s x → IsSome (get_by_text m x)
is_there m s x is h = subst IsSome (ap (λ n. finmap.get n x) (sym is) ∙ get-names m x) (is_some-from_count (finmap.get s x) h)

pub set-count : {Z : Type 0} (m n : BTreeMap (String Z) ℕ) (s : Names) (x : List ℕ) (v : ℕ) → names_of m.entries ≡ s → UpdatesBy string_cmp (λ k. slice_cmp nat_cmp x (string_bytes k)) m n (Some v) → names_of n.entries ≡ finmap.insert s x v
set-count m n s x v is u = names-set m n x v u ∙ ap (λ t. finmap.insert t x v) is

pub taken-last : {Z : Type 0} (m n : BTreeMap (String Z) ℕ) (s : Names) (x : List ℕ) (k : ℕ) → names_of m.entries ≡ s → k ≡ count s x → k ≤ 1 → UpdatesBy string_cmp (λ k. slice_cmp nat_cmp x (string_bytes k)) m n None → names_of n.entries ≡ fewer s x
taken-last m n s x k is e h u =
    names-removed m n x u ∙ ap (λ t. finmap.remove t x) is
    ∙ sym (ap (λ b. cond b (finmap.insert s x (count s x - 1)) (finmap.remove s x)) (le-ltb 1 (count s x) (rw (← e) h)))

bool_differs : false ≡ true → ⊥
bool_differs e = cc

is_equal : (r : Ordering) → is_eq r ≡ true → r ≡ Equal
is_equal Less e = absurd (bool_differs e)
is_equal Equal e = refl
is_equal Greater e = absurd (bool_differs e)

-- The value of a key after it was inserted.
get-same : (n : Names) (x : List ℕ) (v : ℕ) → finmap.get (finmap.insert n x v) x ≡ Some v
get-same n x v = get-insert nat_list_cmp_total n x v x ∙ ap (λ b. cond b (Some v) (finmap.get n x)) ((eq_by_cmp_equiv nat_list_cmp_total).refl x)

tied : (n : Names) (x q : List ℕ) → (b : Bool) → eq_by_cmp (slice_cmp nat_cmp) q x ≡ b → finmap.get n x ≡ None → cond b None (cond b (Some 1) (finmap.get n q)) ≡ finmap.get n q
tied n x q true e none = sym (get_tied nat_list_cmp_total n x q (is_equal (slice_cmp nat_cmp x q) ((eq_by_cmp_equiv nat_list_cmp_total).symm x q ∙ e)) ∙ none)
tied n x q false e none = refl

pub removed-again : (n : Names) (x : List ℕ) → finmap.get n x ≡ None → finmap.remove (finmap.insert n x 1) x ≡ n
removed-again n x none = same_names _ _ (λ q.
    get-remove nat_list_cmp_total (finmap.insert n x 1) x q
    ∙ ap (λ o. cond (eq_by_cmp (slice_cmp nat_cmp) q x) None o) (get-insert nat_list_cmp_total n x 1 q)
    ∙ tied n x q (eq_by_cmp (slice_cmp nat_cmp) q x) refl none)

tied-set : (n : Names) (x q : List ℕ) (v w : ℕ) → (b : Bool) → eq_by_cmp (slice_cmp nat_cmp) q x ≡ b → finmap.get n x ≡ Some v → cond b (Some v) (cond b (Some w) (finmap.get n q)) ≡ finmap.get n q
tied-set n x q v w true e is = sym (get_tied nat_list_cmp_total n x q (is_equal (slice_cmp nat_cmp x q) ((eq_by_cmp_equiv nat_list_cmp_total).symm x q ∙ e)) ∙ is)
tied-set n x q v w false e is = refl

pub set-again : (n : Names) (x : List ℕ) (v w : ℕ) → finmap.get n x ≡ Some v → finmap.insert (finmap.insert n x w) x v ≡ n
set-again n x v w is = same_names _ _ (λ q.
    get-insert nat_list_cmp_total (finmap.insert n x w) x v q
    ∙ ap (λ o. cond (eq_by_cmp (slice_cmp nat_cmp) q x) (Some v) o) (get-insert nat_list_cmp_total n x w q)
    ∙ tied-set n x q v w (eq_by_cmp (slice_cmp nat_cmp) q x) refl is)

undo_at : (n : Names) (x : List ℕ) (o : Option ℕ) → finmap.get n x ≡ o → o ≢ Some 0 → fewer (finmap.insert n x (unwrap_or o 0 + 1)) x ≡ n
undo_at n x None e h =
    ap (λ k. cond (nat_lt 1 k) (finmap.insert (finmap.insert n x 1) x (k - 1)) (finmap.remove (finmap.insert n x 1) x)) (ap (λ o. unwrap_or o 0) (get-same n x 1))
    ∙ removed-again n x e
undo_at n x (Some zero) e h = absurd (h refl)
undo_at n x (Some (suc k)) e h =
    ap (λ j. cond (nat_lt 1 j) (finmap.insert (finmap.insert n x (suc k + 1)) x (j - 1)) (finmap.remove (finmap.insert n x (suc k + 1)) x)) (ap (λ o. unwrap_or o 0) (get-same n x (suc k + 1)))
    ∙ ap (λ b. cond b (finmap.insert (finmap.insert n x (suc k + 1)) x (suc k + 1 - 1)) (finmap.remove (finmap.insert n x (suc k + 1)) x)) (lt-ltb 1 (suc k + 1) (omega arith))
    ∙ ap (λ j. finmap.insert (finmap.insert n x (suc k + 1)) x j) (omega arith)
    ∙ set-again n x (suc k) (suc k + 1) e

-- Removing a registration that was just added.
pub undo : (n : Names) (x : List ℕ) → IsPositive n → fewer (finmap.insert n x (count n x + 1)) x ≡ n
undo n x h = undo_at n x (finmap.get n x) refl (h x)

some_is : (v w : ℕ) → Some v ≡ Some w → v ≡ w
some_is v w e = ap (λ o. unwrap_or o 0) e

zero_not : (v : ℕ) → 0 < v → v ≡ 0 → ⊥
zero_not v h e = omega arith

positive_cond : (b : Bool) (v : ℕ) (o : Option ℕ) → 0 < v → o ≢ Some 0 → cond b (Some v) o ≢ Some 0
positive_cond true v o h n = λ e. zero_not v h (some_is v 0 e)
positive_cond false v o h n = n

positive_none : (b : Bool) (o : Option ℕ) → o ≢ Some 0 → cond b None o ≢ Some 0
positive_none true o n = λ e. cc
positive_none false o n = n

pub positive-insert : (n : Names) (x : List ℕ) (v : ℕ) → 0 < v → IsPositive n → IsPositive (finmap.insert n x v)
positive-insert n x v h p q = λ e. positive_cond (eq_by_cmp (slice_cmp nat_cmp) q x) v (finmap.get n q) h (p q) (sym (get-insert nat_list_cmp_total n x v q) ∙ e)

pub positive-remove : (n : Names) (x : List ℕ) → IsPositive n → IsPositive (finmap.remove n x)
positive-remove n x p q = λ e. positive_none (eq_by_cmp (slice_cmp nat_cmp) q x) (finmap.get n q) (p q) (sym (get-remove nat_list_cmp_total n x q) ∙ e)

pub positive-empty : IsPositive finmap.empty
positive-empty q = λ e. positive_none true None (λ f. cc) (sym (get-empty (slice_cmp nat_cmp) q) ∙ e)

pub counted : (n : Names) (x : List ℕ) (v : ℕ) → 0 < v → 0 < count (finmap.insert n x v) x
counted n x v h = subst (λ o. 0 < unwrap_or o 0) (sym (get-same n x v)) h

either : (b : Bool) (v : ℕ) (o : Option ℕ) → (b || is_some o) ≡ is_some (cond b (Some v) o)
either true v o = refl
either false v o = refl

-- A key is found if one of the keys is equal to it.
found_key : {Z : Type 0} (es : List (String Z × ℕ)) (x : List ℕ) → list_any (λ k. bytes_eq x (string_bytes k)) (keys_of es) ≡ is_some (lookup (is_at (λ k. slice_cmp nat_cmp x (string_bytes k))) es)
found_key [] x = refl
found_key (e ∷ es) x =
    ap (λ o. bytes_eq x (string_bytes e.0) || o) (found_key es x)
    ∙ ap (λ b. b || is_some (lookup (is_at (λ k. slice_cmp nat_cmp x (string_bytes k))) es)) (sym (is_eq-slice_cmp x (string_bytes e.0)))
    ∙ either (is_eq (slice_cmp nat_cmp x (string_bytes e.0))) e.1 (lookup (is_at (λ k. slice_cmp nat_cmp x (string_bytes k))) es)

counted_once : (o : Option ℕ) → o ≢ Some 0 → is_some o ≡ nat_lt 0 (unwrap_or o 0)
counted_once None h = refl
counted_once (Some zero) h = absurd (h refl)
counted_once (Some (suc k)) h = sym (lt-ltb 0 (suc k) (omega arith))

-- A name is registered if it is one of the keys.
pub registered_key : {Z : Type 0} (m : BTreeMap (String Z) ℕ) (s : Names) (x : List ℕ) → names_of m.entries ≡ s → IsPositive (names_of m.entries) → list_any (λ k. bytes_eq x (string_bytes k)) (keys_of m.entries) ≡ is_registered s x
registered_key m s x is positive =
    found_key m.entries x ∙ ap is_some (sym (get-names m x)) ∙ counted_once (finmap.get (names_of m.entries) x) (positive x) ∙ ap (λ n. is_registered n x) is
