-- Labels by their heights: what opening, closing and looking up a label come to.
use denote.Ref.{Bor}
use Rattle.std.proofs.Common.{◌≡◌, ◌≤◌, ◌<◌, ℕ, Bool, true, false, cond, List, [], ◌∷◌, ◌++◌, length, map, take, drop, Option, Some, None, IsSome, refl, sym, ap, subst, ◌∙◌, arith, bytes_eq}
use Rattle.std.specs.Prelude.{if◌then◌else◌, reverse}
use Rattle.std.proofs.lemmas.Bool.{le-leb, lt-leb}
use Rattle.std.proofs.lemmas.List.{length-append, length-reverse, length-take-le, reverse-append, take-append-drop}
use Rattle.std.proofs.lemmas.Map.Text.{btree_map_updates_str}
use Rattle.std.proofs.lemmas.Slice.Eq.{bytes_eq-Decides}
use Rattle.std.specs.BTreeMap.{BTreeMap, UpdatesBy, get_by}
use Rattle.std.specs.Cmp.Lexicographic.{slice_cmp}
use Rattle.std.specs.Ordering.{nat_cmp}
use Rattle.wat_module_instructions.specs.Heights.{AreHeights, AreShadowed, deep_height, entry, height_of, seen}
use Rattle.wat_module_instructions.specs.declared.open_labels.OpenLabel.{OpenLabel}

-- a label that is opened comes first
reverse_push : (ls : List OpenLabel) (l : OpenLabel) → reverse (ls ++ l ∷ []) ≡ l ∷ reverse ls
reverse_push ls l = reverse-append ls (l ∷ [])

few_deep : (x : List ℕ) (l : OpenLabel) (ls : List OpenLabel) → length ls < 16 → deep_height x (l ∷ ls) ≡ None
few_deep x l ls h = ap (λ (b : Bool). if b then (if bytes_eq l.name.now x then Some l.height else deep_height x ls) else None) (lt-leb 16 (length ls) h)

none_deep : (x : List ℕ) (ls : List OpenLabel) → length ls ≤ 16 → deep_height x ls ≡ None
none_deep x [] h = refl
none_deep x (l ∷ ls) h = few_deep x l ls (omega arith)

deep_more : (x : List ℕ) (l : OpenLabel) (ls : List OpenLabel) → 16 ≤ length ls → deep_height x (l ∷ ls) ≡ (if bytes_eq l.name.now x then Some l.height else deep_height x ls)
deep_more x l ls h = ap (λ (b : Bool). if b then (if bytes_eq l.name.now x then Some l.height else deep_height x ls) else None) (le-leb 16 (length ls) h)

abbrev pub AreKept : BTreeMap (Bor (List ℕ)) ℕ → List OpenLabel → Type 0
AreKept m ls = AreHeights m ls × AreShadowed ls

-- one of the 16 outermost labels is opened
pub opened_few : (m : BTreeMap (Bor (List ℕ)) ℕ) (ls new : List OpenLabel) (l : OpenLabel) → new ≡ ls ++ l ∷ [] → length ls < 16 → l.shadowed ≡ None → AreKept m (reverse ls) → AreKept m (reverse new)
opened_few m ls new l e h s was =
    let few : length (reverse ls) < 16 = omega (arith, length-reverse ls) in
    subst (AreKept m) (sym (ap reverse e ∙ reverse_push ls l))
    ((λ x. was.0 x ∙ none_deep x (reverse ls) (omega arith) ∙ sym (few_deep x l (reverse ls) few)), (s ∙ sym (none_deep l.name.now (reverse ls) (omega arith)), was.1))

-- a label after those is opened
pub opened_deep : (m n : BTreeMap (Bor (List ℕ)) ℕ) (ls new : List OpenLabel) (l : OpenLabel) → new ≡ ls ++ l ∷ [] → 16 ≤ length ls → l.shadowed ≡ get_by (λ k. slice_cmp nat_cmp l.name.now k.now) m
    → UpdatesBy (λ (x y : Bor (List ℕ)). slice_cmp nat_cmp x.now y.now) (λ k. slice_cmp nat_cmp l.name.now k.now) m n (Some l.height) → AreKept m (reverse ls) → AreKept n (reverse new)
opened_deep m n ls new l e h s u was =
    let deep : 16 ≤ length (reverse ls) = omega (arith, length-reverse ls) in
    subst (AreKept n) (sym (ap reverse e ∙ reverse_push ls l))
    ((λ x. btree_map_updates_str l.name.now m n (Some l.height) u x ∙ ap (λ o. cond (bytes_eq l.name.now x) (Some l.height) o) (was.0 x) ∙ sym (deep_more x l (reverse ls) deep)), (s ∙ was.0 l.name.now, was.1))

before_close : (m : BTreeMap (Bor (List ℕ)) ℕ) (ls old : List OpenLabel) (l : OpenLabel) → old ≡ ls ++ l ∷ [] → AreKept m (reverse old) → AreKept m (l ∷ reverse ls)
before_close m ls old l e was = subst (AreKept m) (ap reverse e ∙ reverse_push ls l) was

-- one of the 16 outermost labels is closed
pub closed_few : (m : BTreeMap (Bor (List ℕ)) ℕ) (ls old : List OpenLabel) (l : OpenLabel) → old ≡ ls ++ l ∷ [] → length ls < 16 → AreKept m (reverse old) → AreKept m (reverse ls)
closed_few m ls old l e h was =
    let few : length (reverse ls) < 16 = omega (arith, length-reverse ls) in
    let kept = before_close m ls old l e was in
    ((λ x. kept.0 x ∙ few_deep x l (reverse ls) few ∙ sym (none_deep x (reverse ls) (omega arith))), kept.1.1)

-- a label after those is in the map
pub is_there : (m : BTreeMap (Bor (List ℕ)) ℕ) (ls old : List OpenLabel) (l : OpenLabel) → old ≡ ls ++ l ∷ [] → 16 ≤ length ls → AreKept m (reverse old) → IsSome (get_by (λ k. slice_cmp nat_cmp l.name.now k.now) m)
is_there m ls old l e h was =
    let deep : 16 ≤ length (reverse ls) = omega (arith, length-reverse ls) in
    let kept = before_close m ls old l e was in
    let there : get_by (λ k. slice_cmp nat_cmp l.name.now k.now) m ≡ Some l.height = kept.0 l.name.now ∙ deep_more l.name.now l (reverse ls) deep ∙ ap (λ (b : Bool). if b then Some l.height else deep_height l.name.now (reverse ls)) ((bytes_eq-Decides l.name.now l.name.now).1 refl) in
    subst IsSome (sym there) refl

restored : (x : List ℕ) (l : OpenLabel) (ls : List OpenLabel) (b : Bool) → bytes_eq l.name.now x ≡ b → l.shadowed ≡ deep_height l.name.now ls → cond b l.shadowed (if b then Some l.height else deep_height x ls) ≡ deep_height x ls
restored x l ls true e s = s ∙ ap (λ y. deep_height y ls) ((bytes_eq-Decides l.name.now x).0 e)
restored x l ls false e s = refl

-- it is closed, and the label that it has shadowed is found again
pub closed_deep : (m n : BTreeMap (Bor (List ℕ)) ℕ) (ls old : List OpenLabel) (l : OpenLabel) → old ≡ ls ++ l ∷ [] → 16 ≤ length ls
    → UpdatesBy (λ (x y : Bor (List ℕ)). slice_cmp nat_cmp x.now y.now) (λ k. slice_cmp nat_cmp l.name.now k.now) m n l.shadowed → AreKept m (reverse old) → AreKept n (reverse ls)
closed_deep m n ls old l e h u was =
    let deep : 16 ≤ length (reverse ls) = omega (arith, length-reverse ls) in
    let kept = before_close m ls old l e was in
    ((λ x. btree_map_updates_str l.name.now m n l.shadowed u x ∙ ap (λ o. cond (bytes_eq l.name.now x) l.shadowed o) (kept.0 x ∙ deep_more x l (reverse ls) deep) ∙ restored x l (reverse ls) (bytes_eq l.name.now x) refl kept.1.0), kept.1.1)

abbrev pub or_else : Option ℕ → Option ℕ → Option ℕ
or_else (Some h) o = Some h
or_else None o = o

else_here : (b : Bool) (h : ℕ) (o p : Option ℕ) → (if b then Some h else or_else o p) ≡ or_else (if b then Some h else o) p
else_here true h o p = refl
else_here false h o p = refl

-- a label is after the 16 outermost ones, or among them
deep_or_few : (x : List ℕ) (ds ss : List OpenLabel) → length ss ≡ 16 → height_of x (map entry (ds ++ ss)) ≡ or_else (deep_height x (ds ++ ss)) (height_of x (map entry ss))
deep_or_few x [] ss h = ap (λ o. or_else o (height_of x (map entry ss))) (sym (none_deep x ss (omega arith)))
deep_or_few x (d ∷ ds) ss h =
    let deep : 16 ≤ length (ds ++ ss) = omega (arith, length-append ds ss) in
    ap (λ o. if bytes_eq d.name.now x then Some d.height else o) (deep_or_few x ds ss h)
    ∙ else_here (bytes_eq d.name.now x) d.height (deep_height x (ds ++ ss)) (height_of x (map entry ss))
    ∙ ap (λ o. or_else o (height_of x (map entry ss))) (sym (deep_more x d (ds ++ ss) deep))

parted : (ls : List OpenLabel) → reverse ls ≡ reverse (drop 16 ls) ++ reverse (take 16 ls)
parted ls = ap reverse (sym (take-append-drop 16 ls)) ∙ reverse-append (take 16 ls) (drop 16 ls)

-- the height that the map returns, or else that among the 16 outermost labels
pub found : (m : BTreeMap (Bor (List ℕ)) ℕ) (ls : List OpenLabel) (x : List ℕ) (o : Option ℕ) → 16 < length ls → AreKept m (reverse ls) → o ≡ get_by (λ k. slice_cmp nat_cmp x k.now) m → height_of x (seen ls) ≡ or_else o (height_of x (seen (take 16 ls)))
found m ls x o h was e =
    let sixteen : length (reverse (take 16 ls)) ≡ 16 = length-reverse (take 16 ls) ∙ length-take-le 16 ls (omega arith) in
    ap (λ ks. height_of x (map entry ks)) (parted ls)
    ∙ deep_or_few x (reverse (drop 16 ls)) (reverse (take 16 ls)) sixteen
    ∙ ap (λ ks. or_else (deep_height x ks) (height_of x (seen (take 16 ls)))) (sym (parted ls))
    ∙ ap (λ p. or_else p (height_of x (seen (take 16 ls)))) (sym (e ∙ was.0 x))
