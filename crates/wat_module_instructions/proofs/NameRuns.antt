-- Identifiers by runs of items: one run more, and one run less.
use Rattle.std.proofs.Common.{◌≡◌, ◌∙◌, ◌+◌, ◌<◌, ◌≤◌, ℕ, zero, suc, Bool, true, false, List, [], ◌∷◌, ◌++◌, Some, None, length, take, drop, get_or, is_some, refl, sym, ap, append-nil, append_assoc, length-append, bytes_eq, arith}
use Rattle.std.specs.Prelude.{if◌then◌else◌, replicate, cond}
use Rattle.std.proofs.lemmas.List.{drop_more, length-replicate, take-append-drop, take_more}
use Rattle.std.proofs.lemmas.List.Folds.{length-flat_map-take}
use Rattle.std.specs.BTreeMap.{BTreeMap, UpdatesBy, get_by}
use Rattle.std.specs.Cmp.Lexicographic.{slice_cmp}
use Rattle.std.specs.Ordering.{nat_cmp}
use Rattle.std.proofs.lemmas.Map.Text.{btree_map_updates_str}
use Rattle.wat_module_instructions.specs.Indices.{AreIndices}
use Rattle.wat_module_instructions.proofs.Distinct.{has_is_found, named_more, position_named, position_unnamed, repeated, unnamed_more}
use denote.Ref.{Bor}
use Rattle.std.proofs.lemmas.Grind.{flat_map-append}
use Rattle.wat_module_ast.specs.Grammar.{position}
use Rattle.wat_module_ast.specs.Names.{are_distinct, has_name}
use Rattle.wat_module_instructions.specs.Indices.{labels_of, run_labels}
use Rattle.wat_module_instructions.specs.declared.names.NameRun.{NameRun}
use Rattle.wat_module_instructions.specs.declared.names.NameRun.TheVariants.{Given, Absent}
use Rattle.wat_module_tokens.specs.Terminals.{Label}

-- The runs from one on are this run and those after it.
pub from_run : (runs : List NameRun) (i : ℕ) (d r : NameRun) → i < length runs → get_or runs i d ≡ r → labels_of (drop i runs) ≡ run_labels r ++ labels_of (drop (i + 1) runs)
from_run runs i d r h e = ap labels_of (drop_more runs i d h) ∙ ap (λ r. run_labels r ++ labels_of (drop (i + 1) runs)) e

-- The runs up to one are those before it, and this run.
pub to_run : (runs : List NameRun) (i : ℕ) (d r : NameRun) → i < length runs → get_or runs i d ≡ r → labels_of (take (i + 1) runs) ≡ labels_of (take i runs) ++ run_labels r
to_run runs i d r h e =
    ap labels_of (take_more runs i d h) ∙ flat_map-append run_labels (take i runs) (get_or runs i d ∷ [])
    ∙ ap (λ ls. labels_of (take i runs) ++ ls) (append-nil (run_labels (get_or runs i d))) ∙ ap (λ r. labels_of (take i runs) ++ run_labels r) e

pub pushed : (runs : List NameRun) (r : NameRun) → labels_of (runs ++ r ∷ []) ≡ labels_of runs ++ run_labels r
pushed runs r = flat_map-append run_labels runs (r ∷ []) ∙ ap (λ ls. labels_of runs ++ ls) (append-nil (run_labels r))

-- Items without identifiers have no name.
pub has_none : (n : ℕ) (x : List ℕ) (ls : List Label) → has_name x (replicate n None ++ ls) ≡ has_name x ls
has_none zero x ls = refl
has_none (suc n) x ls = has_none n x ls

-- Items without identifiers do not count.
pub distinct_none : (n : ℕ) (ls : List Label) → are_distinct (replicate n None ++ ls) ≡ are_distinct ls
distinct_none zero ls = refl
distinct_none (suc n) ls = distinct_none n ls

-- The items after some without identifiers.
pub position_none : (n k : ℕ) (x : List ℕ) (ls : List Label) → position k x (replicate n None ++ ls) ≡ position (k + n) x ls
position_none zero k x ls = ap (λ i. position i x ls) (omega arith)
position_none (suc n) k x ls = position_none n (suc k) x ls ∙ ap (λ i. position i x ls) (omega arith)

-- The count of the items up to a run, one run on.
pub count_next : (runs : List NameRun) (i : ℕ) (d r : NameRun) (n index all : ℕ) → i < length runs → get_or runs i d ≡ r → length (run_labels r) ≡ n
    → index + length (labels_of (drop i runs)) ≡ all → (index + n) + length (labels_of (drop (i + 1) runs)) ≡ all
count_next runs i d r n index all h e k f =
    let l : length (labels_of (drop i runs)) ≡ length (run_labels r) + length (labels_of (drop (i + 1) runs)) = ap length (from_run runs i d r h e) ∙ length-append (run_labels r) (labels_of (drop (i + 1) runs)) in
    omega (arith, l, k, f)

-- The count of the items up to a run, with those of the run.
pub count_to : (runs : List NameRun) (i : ℕ) (d r : NameRun) (n : ℕ) → i < length runs → get_or runs i d ≡ r → length (run_labels r) ≡ n → length (labels_of (take (i + 1) runs)) ≡ length (labels_of (take i runs)) + n
count_to runs i d r n h e k = ap length (to_run runs i d r h e) ∙ length-append (labels_of (take i runs)) (run_labels r) ∙ ap (λ n. length (labels_of (take i runs)) + n) k

-- The items up to a run and those of the run are not more than all.
pub count_below : (runs : List NameRun) (i : ℕ) (d r : NameRun) (n : ℕ) → i < length runs → get_or runs i d ≡ r → length (run_labels r) ≡ n → length (labels_of (take i runs)) + n ≤ length (labels_of runs)
count_below runs i d r n h e k =
    let l = length-flat_map-take run_labels runs i d h in
    let m : length (run_labels (get_or runs i d)) ≡ n = ap (λ r. length (run_labels r)) e ∙ k in
    omega (arith, l, m)

pub count_none : (n : ℕ) → length (run_labels (Absent n)) ≡ n
count_none n = length-replicate n None

-- An identifier that an earlier item has.
pub repeated_run : (runs : List NameRun) (i : ℕ) (d : NameRun) (y : Bor (List ℕ)) → i < length runs → get_or runs i d ≡ Given y → is_some (position 0 y.now (labels_of (take i runs))) ≡ true → are_distinct (labels_of runs) ≡ false
repeated_run runs i d y h e f =
    ap (λ rs. are_distinct (labels_of rs)) (sym (take-append-drop i runs))
    ∙ ap are_distinct (flat_map-append run_labels (take i runs) (drop i runs))
    ∙ ap (λ ls. are_distinct (labels_of (take i runs) ++ ls)) (from_run runs i d (Given y) h e)
    ∙ repeated y.now (labels_of (take i runs)) (labels_of (drop (i + 1) runs)) (has_is_found 0 y.now (labels_of (take i runs)) ∙ f)

position_nones : (n : ℕ) (x : List ℕ) (ls : List Label) → position 0 x (ls ++ replicate n None) ≡ position 0 x ls
position_nones zero x ls = ap (position 0 x) (append-nil ls)
position_nones (suc n) x ls = ap (position 0 x) (sym (append_assoc ls (None ∷ []) (replicate n None))) ∙ position_nones n x (ls ++ None ∷ []) ∙ position_unnamed x ls

distinct_nones : (n : ℕ) (ls : List Label) → are_distinct (ls ++ replicate n None) ≡ are_distinct ls
distinct_nones zero ls = ap are_distinct (append-nil ls)
distinct_nones (suc n) ls = ap are_distinct (sym (append_assoc ls (None ∷ []) (replicate n None))) ∙ distinct_nones n (ls ++ None ∷ []) ∙ unnamed_more ls

-- A run of items without identifiers is skipped.
pub passed_run : (runs : List NameRun) (i : ℕ) (d : NameRun) (n : ℕ) (m o : BTreeMap (Bor (List ℕ)) ℕ) → o ≡ m → i < length runs → get_or runs i d ≡ Absent n
    → AreIndices m (labels_of (take i runs)) → are_distinct (labels_of (take i runs)) ≡ true
    → AreIndices o (labels_of (take (i + 1) runs)) × (are_distinct (labels_of (take (i + 1) runs)) ≡ true)
passed_run runs i d n m o g h e are distinct = (where_each, ap are_distinct (to_run runs i d (Absent n) h e) ∙ distinct_nones n (labels_of (take i runs)) ∙ distinct)
  where
    where_each : AreIndices o (labels_of (take (i + 1) runs))
    where_each x = ap (get_by (λ k. slice_cmp nat_cmp x k.now)) g ∙ are x ∙ sym (position_nones n x (labels_of (take i runs))) ∙ ap (position 0 x) (sym (to_run runs i d (Absent n) h e))

-- An identifier that no earlier item has gets its index.
pub inserted_run : (runs : List NameRun) (i : ℕ) (d : NameRun) (y : Bor (List ℕ)) (k : ℕ) (m n o : BTreeMap (Bor (List ℕ)) ℕ) → o ≡ n → i < length runs → get_or runs i d ≡ Given y
    → is_some (position 0 y.now (labels_of (take i runs))) ≡ false → k ≡ length (labels_of (take i runs))
    → UpdatesBy (λ (x y : Bor (List ℕ)). slice_cmp nat_cmp x.now y.now) (λ k. slice_cmp nat_cmp y.now k.now) m n (Some k)
    → AreIndices m (labels_of (take i runs)) → are_distinct (labels_of (take i runs)) ≡ true
    → AreIndices o (labels_of (take (i + 1) runs)) × (are_distinct (labels_of (take (i + 1) runs)) ≡ true)
inserted_run runs i d y k m n o g h e f l u are distinct = (where_each, ap are_distinct (to_run runs i d (Given y) h e) ∙ named_more y.now (labels_of (take i runs)) new distinct)
  where
    new : has_name y.now (labels_of (take i runs)) ≡ false
    new = has_is_found 0 y.now (labels_of (take i runs)) ∙ f

    where_each : AreIndices o (labels_of (take (i + 1) runs))
    where_each x = ap (get_by (λ k. slice_cmp nat_cmp x k.now)) g ∙ btree_map_updates_str y.now m n (Some k) u x ∙ ap (λ o. cond (bytes_eq y.now x) (Some k) o) (are x)
        ∙ ap (λ j. if bytes_eq y.now x then Some j else position 0 x (labels_of (take i runs))) l
        ∙ sym (position_named x y.now (labels_of (take i runs)) new) ∙ ap (position 0 x) (sym (to_run runs i d (Given y) h e))

-- An identifier that is not `x`.
pub has_other : (x y : List ℕ) (ls : List Label) → bytes_eq y x ≡ false → has_name x (Some y ∷ ls) ≡ has_name x ls
has_other x y ls e = ap (λ (b : Bool). if b then true else has_name x ls) e

pub position_other : (k : ℕ) (x y : List ℕ) (ls : List Label) → bytes_eq y x ≡ false → position k x (Some y ∷ ls) ≡ position (k + 1) x ls
position_other k x y ls e = ap (λ (b : Bool). if b then Some k else position (suc k) x ls) e ∙ ap (λ i. position i x ls) (omega arith)

pub distinct_other : (y : List ℕ) (ls : List Label) → has_name y ls ≡ false → are_distinct (Some y ∷ ls) ≡ are_distinct ls
distinct_other y ls e = ap (λ (b : Bool). if b then false else are_distinct ls) e
