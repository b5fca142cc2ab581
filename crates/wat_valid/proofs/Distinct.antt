-- Names of exports: one more, and whether all are distinct.
use denote.Ref.{Bor}
use Rattle.std.proofs.Common.{◌≡◌, ◌∙◌, ◌<◌, ◌+◌, ℕ, Bool, true, false, not, List, [], ◌∷◌, ◌++◌, Option, Some, None, length, take, drop, get_or, map, is_some, refl, sym, ap, append_assoc, append-nil, bytes_eq, subst}
use Rattle.std.specs.Prelude.{if◌then◌else◌, ◌||◌, cond}
use Rattle.std.specs.BTreeMap.{BTreeMap, UpdatesBy, get_by}
use Rattle.std.specs.Cmp.Lexicographic.{slice_cmp}
use Rattle.std.specs.Ordering.{nat_cmp}
use Rattle.std.proofs.lemmas.Map.Text.{btree_map_updates_str}
use Rattle.std.proofs.lemmas.Slice.Eq.{bytes_eq-Decides}
use Rattle.std.proofs.lemmas.List.{take_more, take-append-drop, map-append}
use Rattle.wat_module_ast.specs.Grammar.{is_name}
use Rattle.wat_module_ast.specs.Names.{are_distinct, has_name}
use Rattle.wat_module_ast.specs.Views.{text_of}
use Rattle.wat_module_tokens.specs.Terminals.{Label}
use Rattle.wat_valid.specs.ExportNames.{Adds, HasNames}
use Rattle.wat_valid.specs.Modules.{names_of}

-- an item with the name in one of two lists
has_either : (x : List ℕ) (ls ms : List Label) → has_name x (ls ++ ms) ≡ (has_name x ls || has_name x ms)
has_either x [] ms = refl
has_either x (l ∷ ls) ms = by (is_name x l) (has_either x ls ms)
  where
    by : (b : Bool) → has_name x (ls ++ ms) ≡ (has_name x ls || has_name x ms) → (if b then true else has_name x (ls ++ ms)) ≡ ((if b then true else has_name x ls) || has_name x ms)
    by true e = refl
    by false e = e

-- a list with names that are not distinct
pub not_distinct : (ls ms : List Label) → are_distinct ls ≡ false → are_distinct (ls ++ ms) ≡ false
not_distinct [] ms e = cc
not_distinct (None ∷ ls) ms e = not_distinct ls ms e
not_distinct (Some x ∷ ls) ms e = by (has_name x ls) (has_name x (ls ++ ms)) refl (has_either x ls ms) e (λ h. not_distinct ls ms h)
  where
    none : (b : Bool) → (if b then false else false) ≡ false
    none true = refl
    none false = refl

    by : (b c : Bool) → has_name x ls ≡ b → c ≡ (has_name x ls || has_name x ms) → (if b then false else are_distinct ls) ≡ false → (are_distinct ls ≡ false → are_distinct (ls ++ ms) ≡ false) → (if c then false else are_distinct (ls ++ ms)) ≡ false
    by true c f g h k = ap (λ (d : Bool). if d then false else are_distinct (ls ++ ms)) (g ∙ ap (λ d. d || has_name x ms) f)
    by false c f g h k = ap (λ d. if c then false else d) (k h) ∙ none c

same_back : (x y : List ℕ) → bytes_eq x y ≡ bytes_eq y x
same_back x y = by (bytes_eq x y) (bytes_eq y x) refl refl
  where
    by : (b c : Bool) → bytes_eq x y ≡ b → bytes_eq y x ≡ c → b ≡ c
    by true true e f = refl
    by false false e f = refl
    by true false e f = let g : bytes_eq y x ≡ true = (bytes_eq-Decides y x).1 (sym ((bytes_eq-Decides x y).0 e)) in cc
    by false true e f = let g : bytes_eq x y ≡ true = (bytes_eq-Decides x y).1 (sym ((bytes_eq-Decides y x).0 f)) in cc

-- one more name
pub one_more : (y : List ℕ) (ls : List Label) → are_distinct ls ≡ true → are_distinct (ls ++ Some y ∷ []) ≡ not (has_name y ls)
one_more y [] e = refl
one_more y (None ∷ ls) e = one_more y ls e
one_more y (Some x ∷ ls) e =
    ap (λ (b : Bool). if b then false else are_distinct (ls ++ Some y ∷ [])) (has_either x ls (Some y ∷ []) ∙ ap (λ (c : Bool). has_name x ls || (if c then true else false)) (same_back y x))
    ∙ by (has_name x ls) (bytes_eq x y) e (λ d. one_more y ls d)
  where
    by : (b c : Bool) → (if b then false else are_distinct ls) ≡ true → (are_distinct ls ≡ true → are_distinct (ls ++ Some y ∷ []) ≡ not (has_name y ls)) → (if b || (if c then true else false) then false else are_distinct (ls ++ Some y ∷ [])) ≡ not (if c then true else has_name y ls)
    by true c f g = cc
    by false true f g = refl
    by false false f g = g f

has_more : (c : Bool) {X : Type 0} (w : X) (o : Option X) → is_some (cond c (Some w) o) ≡ (is_some o || (if c then true else false))
has_more true w o = by (is_some o)
  where
    by : (b : Bool) → true ≡ (b || true)
    by true = refl
    by false = refl
has_more false w o = by (is_some o)
  where
    by : (b : Bool) → b ≡ (b || false)
    by true = refl
    by false = refl

-- a map has the names that it had, and the one that it gets
pub gained : {X : Type 0} (y : List ℕ) (m n : BTreeMap (Bor (List ℕ)) X) (w : X) (before : List Label) → HasNames m before → UpdatesBy (λ (x y : Bor (List ℕ)). slice_cmp nat_cmp x.now y.now) (λ k. slice_cmp nat_cmp y k.now) m n (Some w) → HasNames n (before ++ Some y ∷ [])
gained y m n w before h u x =
    ap is_some (btree_map_updates_str y m n (Some w) u x) ∙ has_more (bytes_eq y x) w (get_by (λ k. slice_cmp nat_cmp x k.now) m)
    ∙ ap (λ b. b || (if bytes_eq y x then true else false)) (h x) ∙ sym (has_either x before (Some y ∷ []))

pub nothing : {X : Type 0} (m : BTreeMap (Bor (List ℕ)) X) → Adds m m [] true
nothing m before h d = record { distinct = sym (ap are_distinct (append-nil before) ∙ d); has = λ e. subst (HasNames m) (sym (append-nil before)) h }

pub composed : {X : Type 0} (old mid new : BTreeMap (Bor (List ℕ)) X) (xs ys : List Label) (b : Bool) → Adds old mid xs true → Adds mid new ys b → Adds old new (xs ++ ys) b
composed old mid new xs ys b f g before h d =
    let one = f before h d in
    let two = g (before ++ xs) (one.has refl) (sym one.distinct) in
    record {
      distinct = two.distinct ∙ ap are_distinct (append_assoc before xs ys);
      has = λ e. subst (HasNames new) (append_assoc before xs ys) (two.has e);
    }

pub stopped : {X : Type 0} (old new : BTreeMap (Bor (List ℕ)) X) (xs ys : List Label) → Adds old new xs false → Adds old new (xs ++ ys) false
stopped old new xs ys f before h d =
    let one = f before h d in
    record {
      distinct = sym (ap are_distinct (sym (append_assoc before xs ys)) ∙ not_distinct (before ++ xs) ys (sym one.distinct));
      has = λ e. cc;
    }

-- the names up to one, and this one
pub taken : (names : List (Bor (List ℕ))) (i : ℕ) (d : Bor (List ℕ)) → i < length names → names_of (map text_of (take (i + 1) names)) ≡ names_of (map text_of (take i names)) ++ Some (text_of (get_or names i d)) ∷ []
taken names i d l = ap (λ xs. names_of (map text_of xs)) (take_more names i d l) ∙ ap names_of (map-append text_of (take i names) (get_or names i d ∷ [])) ∙ map-append Some (map text_of (take i names)) (text_of (get_or names i d) ∷ [])

-- all names are those up to one, and those after it
pub parted : (names : List (Bor (List ℕ))) (i : ℕ) → names_of (map text_of names) ≡ names_of (map text_of (take i names)) ++ names_of (map text_of (drop i names))
parted names i = ap (λ xs. names_of (map text_of xs)) (sym (take-append-drop i names)) ∙ ap names_of (map-append text_of (take i names) (drop i names)) ∙ map-append Some (map text_of (take i names)) (map text_of (drop i names))

pub turned : (a b : Bool) → b ≡ not a → a ≡ not b
turned true b e = sym (ap not e)
turned false b e = sym (ap not e)

-- one name on
pub stepped : {X : Type 0} (old mid new : BTreeMap (Bor (List ℕ)) X) (names : List (Bor (List ℕ))) (i : ℕ) (d : Bor (List ℕ)) (b : Bool) → i < length names → b ≡ true → Adds old mid (names_of (map text_of (take i names))) true → Adds mid new (Some (text_of (get_or names i d)) ∷ []) b → Adds old new (names_of (map text_of (take (i + 1) names))) true
stepped old mid new names i d b l e f g =
    subst (λ ls. Adds old new ls true) (sym (taken names i d l)) (composed old mid new (names_of (map text_of (take i names))) (Some (text_of (get_or names i d)) ∷ []) true f (subst (λ c. Adds mid new (Some (text_of (get_or names i d)) ∷ []) c) e g))

-- a name that repeats
pub repeats : {X : Type 0} (old mid new : BTreeMap (Bor (List ℕ)) X) (names : List (Bor (List ℕ))) (i : ℕ) (d : Bor (List ℕ)) (b : Bool) → i < length names → b ≡ false → Adds old mid (names_of (map text_of (take i names))) true → Adds mid new (Some (text_of (get_or names i d)) ∷ []) b → Adds old new (names_of (map text_of names)) false
repeats old mid new names i d b l e f g =
    let one = composed old mid new (names_of (map text_of (take i names))) (Some (text_of (get_or names i d)) ∷ []) false f (subst (λ c. Adds mid new (Some (text_of (get_or names i d)) ∷ []) c) e g) in
    let next = subst (λ ls. Adds old new ls false) (sym (taken names i d l)) one in
    subst (λ ls. Adds old new ls false) (sym (parted names (i + 1))) (stopped old new (names_of (map text_of (take (i + 1) names))) (names_of (map text_of (drop (i + 1) names))) next)
