-- The first repetition of an identifier is found.
use Rattle.std.proofs.Common.{◌≡◌, ◌∙◌, ◌<◌, ℕ, zero, suc, Bool, true, false, List, [], ◌∷◌, ◌++◌, Some, None, length, take, drop, refl, sym, ap, bytes_eq, append-nil, append_assoc, arith}
use Rattle.std.proofs.lemmas.List.{length-take-le}
use Rattle.std.proofs.lemmas.Option.{slice_get_within}
use Rattle.std.proofs.lemmas.Slice.Eq.{bytes_eq-Decides}
use Rattle.std.specs.Prelude.{if◌then◌else◌, slice_get}
use Rattle.wat_module_ast.specs.Grammar.{is_name, position}
use Rattle.wat_module_ast.specs.Names.{Repeats, are_distinct, earlier, has_name, pair_or, repeated, repeated_after}
use Rattle.wat_module_names_theorems.specs.Repetitions.{FirstIsRepeated}
use Rattle.wat_module_tokens.specs.Terminals.{Label}

test_false : (b c : Bool) → (if b then false else c) ≡ true → b ≡ false
test_false true c e = sym e
test_false false c e = refl

rest_true : (b c : Bool) → (if b then false else c) ≡ true → c ≡ true
rest_true true c e = cc
rest_true false c e = e

either_false : (b c : Bool) → (if b then true else c) ≡ false → b ≡ false
either_false true c e = e
either_false false c e = refl

rest_false : (b c : Bool) → (if b then true else c) ≡ false → c ≡ false
rest_false true c e = cc
rest_false false c e = e

-- a name that is not among items with the name `x`
differs : (y x : List ℕ) (before ls : List Label) → has_name y (before ++ Some x ∷ ls) ≡ false → bytes_eq x y ≡ false
differs y x [] ls e = either_false (bytes_eq x y) (has_name y ls) e
differs y x (l ∷ before) ls e = differs y x before ls (rest_false (is_name y l) (has_name y (before ++ Some x ∷ ls)) e)

differs_back : (x y : List ℕ) (b : Bool) → bytes_eq x y ≡ false → bytes_eq y x ≡ b → b ≡ false
differs_back x y true e f = let k : bytes_eq x y ≡ true = (bytes_eq-Decides x y).1 (sym ((bytes_eq-Decides y x).0 f)) in cc
differs_back x y false e f = refl

-- a distinct name has no earlier item
absent : (k : ℕ) (x : List ℕ) (before ls : List Label) → are_distinct (before ++ Some x ∷ ls) ≡ true → position k x before ≡ None
absent k x [] ls d = refl
absent k x (None ∷ before) ls d = absent (suc k) x before ls d
absent k x (Some y ∷ before) ls d =
    let all : List Label = before ++ Some x ∷ ls in
    ap (λ (b : Bool). if b then Some k else position (suc k) x before) (differs_back x y (bytes_eq y x) (differs y x before ls (test_false (has_name y all) (are_distinct all) d)) refl)
    ∙ absent (suc k) x before ls (rest_true (has_name y all) (are_distinct all) d)

not_earlier : (before : List Label) (l : Label) (ls : List Label) → are_distinct (before ++ l ∷ ls) ≡ true → earlier l before ≡ None
not_earlier before None ls d = refl
not_earlier before (Some x) ls d = absent 0 x before ls d

-- items with distinct names are passed over
passed : (before ms ls : List Label) → are_distinct (before ++ ms) ≡ true → repeated_after before (ms ++ ls) ≡ repeated_after (before ++ ms) ls
passed before [] ls d = ap (λ ns. repeated_after ns ls) (sym (append-nil before))
passed before (l ∷ ms) ls d =
    ap (λ o. pair_or o (length before) (repeated_after (before ++ l ∷ []) (ms ++ ls))) (not_earlier before l ms d)
    ∙ passed (before ++ l ∷ []) ms ls (ap are_distinct (append_assoc before (l ∷ []) ms) ∙ d) ∙ ap (λ ns. repeated_after ns ls) (append_assoc before (l ∷ []) ms)

split_at : (ls : List Label) (j : ℕ) (l : Label) → slice_get ls j ≡ Some l → ls ≡ take j ls ++ l ∷ drop (suc j) ls
split_at [] j l e = cc
split_at (m ∷ ls) zero l e = let f : m ≡ l = cc in ap (λ k. k ∷ ls) f
split_at (m ∷ ls) (suc j) l e = ap (λ ns. m ∷ ns) (split_at ls j l e)

found : (labels : List Label) (i j : ℕ) → Repeats labels i j → repeated labels ≡ Some (i, j)
unfolding repeated
found labels i j h =
    let rest : List Label = drop (suc j) labels in
    let before : List Label = take j labels in
    let short : j < length labels = slice_get_within labels j (Some h.name) h.second in
    ap (λ ls. repeated_after [] ls) (split_at labels j (Some h.name) h.second) ∙ passed [] before (Some h.name ∷ rest) h.distinct
    ∙ ap (λ o. pair_or o (length before) (repeated_after (before ++ Some h.name ∷ []) rest)) h.first ∙ ap (λ n. Some (i, n)) (length-take-le j labels (omega (arith, short)))

none : (labels : List Label) → are_distinct labels ≡ true → repeated labels ≡ None
unfolding repeated
none labels d = ap (λ ls. repeated_after [] ls) (sym (append-nil labels)) ∙ passed [] labels [] d

pub first_is_repeated : (labels : List Label) → FirstIsRepeated labels
first_is_repeated labels = record { found = found labels; none = none labels }
