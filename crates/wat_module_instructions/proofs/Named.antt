-- The index of a label by its height, and the labels of a stack of which a part is opened or closed.
use Rattle.std.proofs.Common.{◌≡◌, ◌≤◌, ◌<◌, ◌+◌, ◌-◌, ℕ, suc, Bool, true, false, List, [], ◌∷◌, ◌++◌, length, drop, Option, Some, None, refl, sym, ap, ◌∙◌, arith, bytes_eq}
use Rattle.std.specs.Prelude.{if◌then◌else◌}
use Rattle.wat_module_ast.specs.Grammar.{position}
use Rattle.wat_module_instructions.specs.Heights.{height_of}
use Rattle.wat_module_instructions.specs.Named.{named}
use Rattle.wat_module_instructions.specs.Stack.{part, stack, stack_on}
use Rattle.wat_module_instructions.specs.Machine.{Part, Body, Block, Group, Operands, Condition, Then, Else, bound, labels_in}
use Rattle.wat_module_instructions.specs.declared.frame.Frame.{Frame}
use Rattle.wat_module_instructions.proofs.Stacks.{stack_push}
use Rattle.wat_module_tokens.specs.Terminals.{Label}

below_here : (b : Bool) (n h : ℕ) (o : Option ℕ) → (o ≡ Some h → h < n) → (if b then Some n else o) ≡ Some h → h < suc n
below_here true n h o f e = let k : n ≡ h = cc in omega arith
below_here false n h o f e = let k : h < n = f e in omega arith

-- the height of a label is below the number of labels
pub height_below : (x : List ℕ) (ls : List Label) (h : ℕ) → height_of x (named ls) ≡ Some h → h < length ls
height_below x [] h e = cc
height_below x (None ∷ ls) h e = let k : h < length ls = height_below x ls h e in omega arith
height_below x (Some y ∷ ls) h e = below_here (bytes_eq y x) (length ls) h (height_of x (named ls)) (height_below x ls h) e

-- the index of the label with the height `h` among `n` labels, if `k` is the index of the first
abbrev pub at_height : ℕ → ℕ → Option ℕ → Option ℕ
at_height k n None = None
at_height k n (Some h) = Some (k + (n - 1 - h))

further : (k n : ℕ) (o : Option ℕ) → ((h : ℕ) → o ≡ Some h → h < n) → at_height (suc k) n o ≡ at_height k (suc n) o
further k n None f = refl
further k n (Some h) f = let lt : h < n = f h refl in ap (λ m. Some m) (omega arith)

index_here : (b : Bool) (k n : ℕ) (p o : Option ℕ) → p ≡ at_height (suc k) n o → ((h : ℕ) → o ≡ Some h → h < n) → (if b then Some k else p) ≡ at_height k (suc n) (if b then Some n else o)
index_here true k n p o e f = ap (λ m. Some m) (omega arith)
index_here false k n p o e f = e ∙ further k n o f

pub index_of : (k : ℕ) (x : List ℕ) (ls : List Label) → position k x ls ≡ at_height k (length ls) (height_of x (named ls))
index_of k x [] = refl
index_of k x (None ∷ ls) = index_of (suc k) x ls ∙ further k (length ls) (height_of x (named ls)) (height_below x ls)
index_of k x (Some y ∷ ls) = index_here (bytes_eq y x) k (length ls) (position (suc k) x ls) (height_of x (named ls)) (index_of (suc k) x ls) (height_below x ls)

-- the index by the code's height and labels
index_is : (x : List ℕ) (ls : List Label) (n : ℕ) (ns : List (List ℕ × ℕ)) (o : Option ℕ) → n ≡ length ls → ns ≡ named ls → o ≡ height_of x ns → position 0 x ls ≡ at_height 0 n o
index_is x ls n ns o e f g = index_of 0 x ls ∙ ap (λ p. at_height 0 (length ls) p) (sym (g ∙ ap (height_of x) f)) ∙ ap (λ m. at_height 0 m o) (sym e)

pub index_some : (x : List ℕ) (ls : List Label) (n h : ℕ) (ns : List (List ℕ × ℕ)) → n ≡ length ls → ns ≡ named ls → Some h ≡ height_of x ns → position 0 x ls ≡ Some (n - 1 - h)
index_some x ls n h ns e f g = index_is x ls n ns (Some h) e f g ∙ ap (λ m. Some m) (omega arith)

pub index_none : (x : List ℕ) (ls : List Label) (n : ℕ) (ns : List (List ℕ × ℕ)) → n ≡ length ls → ns ≡ named ls → None ≡ height_of x ns → position 0 x ls ≡ None
index_none x ls n ns e f g = index_is x ls n ns None e f g

pub index_below : (x : List ℕ) (ls : List Label) (n h : ℕ) (ns : List (List ℕ × ℕ)) → n ≡ length ls → ns ≡ named ls → Some h ≡ height_of x ns → h ≤ n - 1
index_below x ls n h ns e f g = let k : h < length ls = height_below x ls h (sym (g ∙ ap (height_of x) f)) in omega arith

abbrev pub AreNamed : ℕ → List (List ℕ × ℕ) → List Label → Type 0
AreNamed n ns ls = (n ≡ length ls) × (ns ≡ named ls)

pub none_open : (fs : List Frame) (ns : List (List ℕ × ℕ)) → fs ≡ [] → ns ≡ [] → AreNamed 0 ns (labels_in (stack fs))
unfolding stack
none_open fs ns e k = (ap (λ gs. length (labels_in (stack gs))) (sym e), k ∙ ap (λ gs. named (labels_in (stack gs))) (sym e))

-- the labels after a part is opened
labels_more : (fs new : List Frame) (f : Frame) (ls : List Label) → new ≡ fs ++ f ∷ [] → bound (part f) ≡ ls → labels_in (stack new) ≡ ls ++ labels_in (stack fs)
labels_more fs new f ls e k = ap (λ gs. labels_in (stack gs)) e ∙ ap labels_in (stack_push fs f) ∙ ap (λ ms. ms ++ labels_in (stack fs)) k

pub opened_none : (fs new : List Frame) (f : Frame) (n : ℕ) (ns : List (List ℕ × ℕ)) → new ≡ fs ++ f ∷ [] → bound (part f) ≡ [] → AreNamed n ns (labels_in (stack fs)) → AreNamed n ns (labels_in (stack new))
opened_none fs new f n ns e k was = let more = labels_more fs new f [] e k in (was.0 ∙ ap length (sym more), was.1 ∙ ap named (sym more))

pub opened_absent : (fs new : List Frame) (f : Frame) (n : ℕ) (ns : List (List ℕ × ℕ)) → new ≡ fs ++ f ∷ [] → bound (part f) ≡ None ∷ [] → AreNamed n ns (labels_in (stack fs)) → AreNamed (n + 1) ns (labels_in (stack new))
opened_absent fs new f n ns e k was =
    let more = labels_more fs new f (None ∷ []) e k in
    let one : n + 1 ≡ suc (length (labels_in (stack fs))) = omega (arith, was.0) in
    (one ∙ ap length (sym more), was.1 ∙ ap named (sym more))

pub opened_given : (fs new : List Frame) (f : Frame) (x : List ℕ) (n : ℕ) (ns ms : List (List ℕ × ℕ)) → new ≡ fs ++ f ∷ [] → bound (part f) ≡ Some x ∷ [] → ms ≡ (x, n) ∷ ns → AreNamed n ns (labels_in (stack fs)) → AreNamed (n + 1) ms (labels_in (stack new))
opened_given fs new f x n ns ms e k m was =
    let more = labels_more fs new f (Some x ∷ []) e k in
    let one : n + 1 ≡ suc (length (labels_in (stack fs))) = omega (arith, was.0) in
    (one ∙ ap length (sym more), m ∙ ap (λ j. (x, j) ∷ ns) was.0 ∙ ap (λ js. (x, length (labels_in (stack fs))) ∷ js) was.1 ∙ ap named (sym more))

pub closed_none : (fs old : List Frame) (f : Frame) (n : ℕ) (ns : List (List ℕ × ℕ)) → old ≡ fs ++ f ∷ [] → bound (part f) ≡ [] → AreNamed n ns (labels_in (stack old)) → AreNamed n ns (labels_in (stack fs))
closed_none fs old f n ns e k was = let more = labels_more fs old f [] e k in (was.0 ∙ ap length more, was.1 ∙ ap named more)

-- a part that binds a label is open, so some label is
pub is_open : (fs old : List Frame) (f : Frame) (l : Label) (n : ℕ) (ns : List (List ℕ × ℕ)) → old ≡ fs ++ f ∷ [] → bound (part f) ≡ l ∷ [] → AreNamed n ns (labels_in (stack old)) → 1 ≤ n
is_open fs old f l n ns e k was = let one : n ≡ suc (length (labels_in (stack fs))) = was.0 ∙ ap length (labels_more fs old f (l ∷ []) e k) in omega arith

pub closed_absent : (fs old : List Frame) (f : Frame) (n : ℕ) (ns : List (List ℕ × ℕ)) → old ≡ fs ++ f ∷ [] → bound (part f) ≡ None ∷ [] → AreNamed n ns (labels_in (stack old)) → AreNamed (n - 1) ns (labels_in (stack fs))
closed_absent fs old f n ns e k was =
    let more = labels_more fs old f (None ∷ []) e k in
    let one : n ≡ suc (length (labels_in (stack fs))) = was.0 ∙ ap length more in
    (omega arith, was.1 ∙ ap named more)

pub closed_given : (fs old : List Frame) (f : Frame) (x : List ℕ) (n : ℕ) (ns ms : List (List ℕ × ℕ)) → old ≡ fs ++ f ∷ [] → bound (part f) ≡ Some x ∷ [] → ms ≡ drop 1 ns → AreNamed n ns (labels_in (stack old)) → AreNamed (n - 1) ms (labels_in (stack fs))
closed_given fs old f x n ns ms e k m was =
    let more = labels_more fs old f (Some x ∷ []) e k in
    let one : n ≡ suc (length (labels_in (stack fs))) = was.0 ∙ ap length more in
    (omega arith, m ∙ ap (drop 1) (was.1 ∙ ap named more))

bound_one : (p : Part) (ls : List Label) (n : ℕ) → length ls ≤ n → length (bound p ++ ls) ≤ suc n
bound_one Body ls n h = omega arith
bound_one (Block b l) ls n h = omega arith
bound_one (Group l) ls n h = omega arith
bound_one (Operands i) ls n h = omega arith
bound_one (Condition i l) ls n h = omega arith
bound_one (Then l) ls n h = omega arith
bound_one (Else l) ls n h = omega arith

few_labels : (fs : List Frame) (ps : List Part) (n : ℕ) → length (labels_in ps) ≤ n → length (labels_in (stack_on fs ps)) ≤ n + length fs
few_labels [] ps n h = omega arith
few_labels (f ∷ fs) ps n h = let k = few_labels fs (part f ∷ ps) (suc n) (bound_one (part f) (labels_in ps) n h) in omega arith

-- no more labels than parts
pub at_most : (fs : List Frame) → length (labels_in (stack fs)) ≤ length fs
unfolding stack
at_most fs = let k = few_labels fs [] 0 (omega arith) in omega arith
