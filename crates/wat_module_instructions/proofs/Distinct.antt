-- Names one more: whether they are distinct, and where each is.
use Rattle.std.proofs.Common.{◌≡◌, ◌∙◌, ◌+◌, ◌<◌, ℕ, suc, Bool, true, false, List, [], ◌∷◌, ◌++◌, Option, Some, None, length, map, take, get_or, is_some, refl, sym, ap, bytes_eq, arith}
use Rattle.std.specs.Prelude.{if◌then◌else◌, ◌||◌, cond}
use Rattle.std.proofs.lemmas.List.{map-append, take_more}
use Rattle.std.proofs.lemmas.Slice.Eq.{bytes_eq-Decides}
use Rattle.wat_module_ast.specs.Grammar.{is_name, position}
use Rattle.wat_module_ast.specs.Names.{are_distinct, has_name}
use Rattle.wat_module_tokens.specs.Terminals.{Label, label}
use Rattle.wat_module_tokens.specs.declared.token.Name.{Name}
use Rattle.wat_module_tokens.specs.declared.token.Name.TheVariants.{Given, Absent}
use Rattle.std.specs.BTreeMap.{BTreeMap, UpdatesBy, get_by}
use Rattle.std.specs.Cmp.Lexicographic.{slice_cmp}
use Rattle.std.specs.Ordering.{nat_cmp}
use Rattle.std.proofs.lemmas.Map.Text.{btree_map_updates_str}
use Rattle.wat_module_instructions.specs.Indices.{AreIndices}
use denote.Ref.{Bor}

same : (x : List ℕ) → bytes_eq x x ≡ true
same x = (bytes_eq-Decides x x).1 refl

differs_back : (x y : List ℕ) (b : Bool) → bytes_eq x y ≡ false → bytes_eq y x ≡ b → b ≡ false
differs_back x y true e f = let k : bytes_eq x y ≡ true = (bytes_eq-Decides x y).1 (sym ((bytes_eq-Decides y x).0 f)) in cc
differs_back x y false e f = refl

or_true : (b : Bool) → (b || true) ≡ true
or_true true = refl
or_true false = refl

or_false : (b : Bool) → (b || false) ≡ b
or_false true = refl
or_false false = refl

none : (b : Bool) → (if b then false else false) ≡ false
none true = refl
none false = refl

found_here : (b : Bool) (k : ℕ) (h : Bool) (o : Option ℕ) → h ≡ is_some o → (if b then true else h) ≡ is_some (if b then Some k else o)
found_here true k h o e = refl
found_here false k h o e = e

-- one of these has the name where its index is found
pub has_is_found : (k : ℕ) (x : List ℕ) (ls : List Label) → has_name x ls ≡ is_some (position k x ls)
has_is_found k x [] = refl
has_is_found k x (l ∷ ls) = found_here (is_name x l) k (has_name x ls) (position (suc k) x ls) (has_is_found (suc k) x ls)

either_here : (b h i j : Bool) → h ≡ (i || j) → (if b then true else h) ≡ ((if b then true else i) || j)
either_here true h i j e = refl
either_here false h i j e = e

has_either : (x : List ℕ) (ls ms : List Label) → has_name x (ls ++ ms) ≡ (has_name x ls || has_name x ms)
has_either x [] ms = refl
has_either x (l ∷ ls) ms = either_here (is_name x l) (has_name x (ls ++ ms)) (has_name x ls) (has_name x ms) (has_either x ls ms)

there : (x y : List ℕ) (ls rest : List Label) → bytes_eq x y ≡ true → has_name x (ls ++ Some y ∷ rest) ≡ true
there x y ls rest e = has_either x ls (Some y ∷ rest) ∙ ap (λ z. has_name x ls || (if bytes_eq z x then true else has_name x rest)) (sym ((bytes_eq-Decides x y).0 e)) ∙ ap (λ (b : Bool). has_name x ls || (if b then true else has_name x rest)) (same x) ∙ or_true (has_name x ls)

repeated_after : (b h t d : Bool) → (b ≡ true → t ≡ true) → (h ≡ true → d ≡ false) → (if b then true else h) ≡ true → (if t then false else d) ≡ false
repeated_after true h t d f g e = ap (λ (b : Bool). if b then false else d) (f refl)
repeated_after false h t d f g e = ap (λ (d : Bool). if t then false else d) (g e) ∙ none t

-- a name that is there already
pub repeated : (y : List ℕ) (ls rest : List Label) → has_name y ls ≡ true → are_distinct (ls ++ Some y ∷ rest) ≡ false
repeated y [] rest h = cc
repeated y (None ∷ ls) rest h = repeated y ls rest h
repeated y (Some x ∷ ls) rest h = repeated_after (bytes_eq x y) (has_name y ls) (has_name x (ls ++ Some y ∷ rest)) (are_distinct (ls ++ Some y ∷ rest)) (there x y ls rest) (repeated y ls rest) h

-- an item without a name
pub unnamed_more : (ls : List Label) → are_distinct (ls ++ None ∷ []) ≡ are_distinct ls
unnamed_more [] = refl
unnamed_more (None ∷ ls) = unnamed_more ls
unnamed_more (Some x ∷ ls) = ap (λ (b : Bool). if b then false else are_distinct (ls ++ None ∷ [])) (has_either x ls (None ∷ []) ∙ or_false (has_name x ls)) ∙ ap (λ (d : Bool). if has_name x ls then false else d) (unnamed_more ls)

named_after : (x y : List ℕ) (ls : List Label) (b c : Bool) → bytes_eq x y ≡ b → has_name x ls ≡ c → (has_name y ls ≡ false → are_distinct ls ≡ true → are_distinct (ls ++ Some y ∷ []) ≡ true) → (if c then false else are_distinct ls) ≡ true → (if b then true else has_name y ls) ≡ false → (if has_name x (ls ++ Some y ∷ []) then false else are_distinct (ls ++ Some y ∷ [])) ≡ true
named_after x y ls true c e f g d h = cc
named_after x y ls false true e f g d h = cc
named_after x y ls false false e f g d h =
    ap (λ (b : Bool). if b then false else are_distinct (ls ++ Some y ∷ [])) (has_either x ls (Some y ∷ []) ∙ ap (λ (b : Bool). b || (if bytes_eq y x then true else false)) f ∙ ap (λ (b : Bool). if b then true else false) (differs_back x y (bytes_eq y x) e refl))
    ∙ g h d

-- a name that is not there
pub named_more : (y : List ℕ) (ls : List Label) → has_name y ls ≡ false → are_distinct ls ≡ true → are_distinct (ls ++ Some y ∷ []) ≡ true
named_more y [] h d = refl
named_more y (None ∷ ls) h d = named_more y ls h d
named_more y (Some x ∷ ls) h d = named_after x y ls (bytes_eq x y) (has_name x ls) refl refl (named_more y ls) d h

abbrev found_or : Option ℕ → Option ℕ → Option ℕ
found_or (Some n) o = Some n
found_or None o = o

or_none : (o : Option ℕ) → found_or o None ≡ o
or_none (Some n) = refl
or_none None = refl

more_here : (b c : Bool) (k m n : ℕ) (o p : Option ℕ) → m ≡ n → o ≡ found_or p (if c then Some m else None) → (if b then Some k else o) ≡ found_or (if b then Some k else p) (if c then Some n else None)
more_here true c k m n o p e f = refl
more_here false c k m n o p e f = f ∙ ap (λ n. found_or p (if c then Some n else None)) e

position_more : (k : ℕ) (x : List ℕ) (ls : List Label) (l : Label) → position k x (ls ++ l ∷ []) ≡ found_or (position k x ls) (if is_name x l then Some (k + length ls) else None)
position_more k x [] l = ap (λ n. if is_name x l then Some n else None) (omega arith)
position_more k x (m ∷ ls) l = more_here (is_name x m) (is_name x l) k (suc k + length ls) (k + suc (length ls)) (position (suc k) x (ls ++ l ∷ [])) (position (suc k) x ls) (omega arith) (position_more (suc k) x ls l)

pub position_unnamed : (x : List ℕ) (ls : List Label) → position 0 x (ls ++ None ∷ []) ≡ position 0 x ls
position_unnamed x ls = position_more 0 x ls None ∙ or_none (position 0 x ls)

pub absent : (o : Option ℕ) → is_some o ≡ false → o ≡ None
absent (Some n) e = cc
absent None e = refl

-- where a name is that is not there: the last
last_found : (x y : List ℕ) (ls : List Label) (b : Bool) → bytes_eq y x ≡ b → has_name y ls ≡ false → found_or (position 0 x ls) (if b then Some (0 + length ls) else None) ≡ (if b then Some (length ls) else position 0 x ls)
last_found x y ls true e h = ap (λ o. found_or o (Some (0 + length ls))) (absent (position 0 x ls) (sym (has_is_found 0 x ls) ∙ ap (λ z. has_name z ls) (sym ((bytes_eq-Decides y x).0 e)) ∙ h)) ∙ ap (λ n. Some n) (omega arith)
last_found x y ls false e h = or_none (position 0 x ls)

pub position_named : (x y : List ℕ) (ls : List Label) → has_name y ls ≡ false → position 0 x (ls ++ Some y ∷ []) ≡ (if bytes_eq y x then Some (length ls) else position 0 x ls)
position_named x y ls h = position_more 0 x ls (Some y) ∙ last_found x y ls (bytes_eq y x) refl h

pub taken : (names : List Name) (i : ℕ) (d n : Name) → i < length names → get_or names i d ≡ n → map label (take (i + 1) names) ≡ map label (take i names) ++ label n ∷ []
taken names i d n h e = ap (map label) (take_more names i d h) ∙ map-append label (take i names) (get_or names i d ∷ []) ∙ ap (λ m. map label (take i names) ++ label m ∷ []) e

-- An item without an identifier is skipped.
pub passed : (names : List Name) (i : ℕ) (d : Name) (m n : BTreeMap (Bor (List ℕ)) ℕ) → n ≡ m → i < length names → get_or names i d ≡ Absent
    → AreIndices m (map label (take i names)) × (are_distinct (map label (take i names)) ≡ true)
    → AreIndices n (map label (take (i + 1) names)) × (are_distinct (map label (take (i + 1) names)) ≡ true)
passed names i d m n g h e was = (where_each, ap are_distinct (taken names i d Absent h e) ∙ unnamed_more (map label (take i names)) ∙ was.1)
  where
    where_each : AreIndices n (map label (take (i + 1) names))
    where_each x = ap (get_by (λ k. slice_cmp nat_cmp x k.now)) g ∙ was.0 x ∙ sym (position_unnamed x (map label (take i names))) ∙ ap (position 0 x) (sym (taken names i d Absent h e))

-- a name that is not found before it gets its index
pub inserted : (names : List Name) (i : ℕ) (d : Name) (y : Bor (List ℕ)) (m n o : BTreeMap (Bor (List ℕ)) ℕ) → o ≡ n → i < length names → get_or names i d ≡ Given y
    → is_some (position 0 y.now (map label (take i names))) ≡ false → length (map label (take i names)) ≡ i
    → UpdatesBy (λ (x y : Bor (List ℕ)). slice_cmp nat_cmp x.now y.now) (λ k. slice_cmp nat_cmp y.now k.now) m n (Some i)
    → AreIndices m (map label (take i names)) × (are_distinct (map label (take i names)) ≡ true)
    → AreIndices o (map label (take (i + 1) names)) × (are_distinct (map label (take (i + 1) names)) ≡ true)
inserted names i d y m n o g h e f k u was = (where_each, ap are_distinct (taken names i d (Given y) h e) ∙ named_more y.now (map label (take i names)) new was.1)
  where
    new : has_name y.now (map label (take i names)) ≡ false
    new = has_is_found 0 y.now (map label (take i names)) ∙ f

    where_each : AreIndices o (map label (take (i + 1) names))
    where_each x = ap (get_by (λ k. slice_cmp nat_cmp x k.now)) g ∙ btree_map_updates_str y.now m n (Some i) u x ∙ ap (λ o. cond (bytes_eq y.now x) (Some i) o) (was.0 x)
        ∙ ap (λ j. if bytes_eq y.now x then Some j else position 0 x (map label (take i names))) (sym k)
        ∙ sym (position_named x y.now (map label (take i names)) new) ∙ ap (position 0 x) (sym (taken names i d (Given y) h e))
