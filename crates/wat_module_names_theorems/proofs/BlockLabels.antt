-- The labels of structured control instructions, token by token.
use Rattle.std.proofs.Common.{◌≡◌, ◌∙◌, ℕ, zero, suc, Bool, true, false, List, [], ◌∷◌, ◌++◌, map, take, drop, Option, Some, None, refl, sym, ap, subst, append-nil, append_assoc}
use Rattle.std.proofs.lemmas.List.{map-append}
use Rattle.std.specs.Prelude.{if◌then◌else◌, bytes_eq, codes, is_some}
use Rattle.wat_module_ast.specs.Grammar.{is_then, label_of, structured}
use Rattle.wat_module_ast.specs.Names.{block_labels, inside}
use Rattle.wat_module_names_theorems.specs.BlockLabels as blocks
use Rattle.wat_module_names_theorems.specs.BlockLabels.{LabelsAreListed, Structure, Structured, is_opaque, is_structural, label_in, labelled}
use Rattle.wat_module_names_theorems.proofs.Keywords.{else_if, else_structured, else_then, end_structured, if_word, not_if_word, not_structured, not_then, not_true, structured_then, then_if, unstructured_if}
use Rattle.wat_module_tokens.specs.Terminals.{Terminal, Open, Close, Word, Id, Integer, Float, Text, Other, Label}

skips_label : (ls : List Label) (ts : List Terminal) → block_labels ls ts ≡ block_labels ls (label_of ts).1
unfolding block_labels
skips_label ls [] = refl
skips_label ls (Open ∷ ts) = refl
skips_label ls (Close ∷ ts) = refl
skips_label ls (Word w ∷ ts) = refl
skips_label ls (Id x ∷ ts) = refl
skips_label ls (Integer s n ∷ ts) = refl
skips_label ls (Float narrow wide ∷ ts) = refl
skips_label ls (Text v ∷ ts) = refl
skips_label ls (Other ∷ ts) = refl

at_close : (ls : List Label) (ts : List Terminal) → block_labels ls (Close ∷ ts) ≡ block_labels ls ts
unfolding block_labels
at_close ls ts = refl

at_block : (ls : List Label) (w : List ℕ) (o : ℕ) (ts : List Terminal) → structured w ≡ Some o → block_labels ls (Word w ∷ ts) ≡ (label_of ts).0 ∷ block_labels ls (label_of ts).1
unfolding block_labels
at_block ls w o ts e = ap (λ (x : Option ℕ). if is_some x then (label_of ts).0 ∷ block_labels ls ts else block_labels ls ts) e ∙ ap (λ ms. (label_of ts).0 ∷ ms) (skips_label ls ts)

at_word : (ls : List Label) (w : List ℕ) (ts : List Terminal) → structured w ≡ None → block_labels ls (Word w ∷ ts) ≡ block_labels ls ts
unfolding block_labels
at_word ls w ts e = ap (λ (x : Option ℕ). if is_some x then (label_of ts).0 ∷ block_labels ls ts else block_labels ls ts) e

abbrev group : Bool → Bool → List Label → List ℕ → List Terminal → List Label
group b c ls w ts = if b then block_labels ((label_of ts).0 ∷ ls) ts else if c then take 1 ls ++ block_labels (drop 1 ls) ts else block_labels ls (Word w ∷ ts)

group_is : (ls : List Label) (w : List ℕ) (ts : List Terminal) → block_labels ls (Open ∷ Word w ∷ ts) ≡ group (bytes_eq w (codes "if")) (is_then w) ls w ts
unfolding block_labels
group_is ls w ts = refl

at_group : (ls : List Label) (w : List ℕ) (ts : List Terminal) → bytes_eq w (codes "if") ≡ false → is_then w ≡ false → block_labels ls (Open ∷ Word w ∷ ts) ≡ block_labels ls (Word w ∷ ts)
at_group ls w ts b c = group_is ls w ts ∙ ap (λ x. group x (is_then w) ls w ts) b ∙ ap (λ x. group false x ls w ts) c

at_if : (ls : List Label) (w : List ℕ) (ts : List Terminal) → bytes_eq w (codes "if") ≡ true → block_labels ls (Open ∷ Word w ∷ ts) ≡ block_labels ((label_of ts).0 ∷ ls) (label_of ts).1
at_if ls w ts b = group_is ls w ts ∙ ap (λ x. group x (is_then w) ls w ts) b ∙ skips_label ((label_of ts).0 ∷ ls) ts

at_then : (l : Label) (ls : List Label) (w : List ℕ) (ts : List Terminal) → is_then w ≡ true → block_labels (l ∷ ls) (Open ∷ Word w ∷ ts) ≡ l ∷ block_labels ls ts
at_then l ls w ts c = group_is (l ∷ ls) w ts ∙ ap (λ x. group x (is_then w) (l ∷ ls) w ts) (then_if w c) ∙ ap (λ x. group false x (l ∷ ls) w ts) c

at_token : (ls : List Label) (t : Terminal) (ts : List Terminal) → is_opaque t ≡ true → block_labels ls (t ∷ ts) ≡ block_labels ls ts
unfolding block_labels
at_token ls Open ts e = cc
at_token ls Close ts e = cc
at_token ls (Word w) ts e = at_word ls w ts (not_structured w (not_true (is_structural w) e))
at_token ls (Id x) ts e = refl
at_token ls (Integer s n) ts e = refl
at_token ls (Float narrow wide) ts e = refl
at_token ls (Text v) ts e = refl
at_token ls Other ts e = refl

-- one sequence of instructions after another
joined : (xs ys : List Structured) (all rest last : List Label) → all ≡ map label_in xs ++ rest → rest ≡ map label_in ys ++ last → all ≡ map label_in (xs ++ ys) ++ last
joined xs ys all rest last e f = e ∙ ap (λ ms. map label_in xs ++ ms) f ∙ sym (append_assoc (map label_in xs) (map label_in ys) last) ∙ ap (λ ms. ms ++ last) (sym (map-append label_in xs ys))

-- the labels of the tokens up to a rest, before those of the rest, with any labels waiting for their `(then`
lists : (ts : List Terminal) (xs : List Structured) (r : List Terminal) → Structure ts xs r → (ls : List Label) → block_labels ls ts ≡ map label_in xs ++ block_labels ls r
lists _ _ r blocks.by_none ls = refl
lists _ _ r (blocks.by_token {t = t} {ts = ts} {xs = xs} o more) ls = at_token ls t ts o ∙ lists ts xs r more ls
lists _ _ r (blocks.by_group {w = w} {ts = ts} {us = us} {inner = inner} {xs = xs} s h more) ls =
    joined inner xs _ _ _
    (at_group ls w ts (unstructured_if w (not_structured w s)) (not_then w s) ∙ at_word ls w ts (not_structured w s) ∙ lists ts inner (Close ∷ us) h ls)
    (at_close ls us ∙ lists us xs r more ls)
lists _ _ r (blocks.by_block {w = w} {v = v} {o = o} {ts = ts} {us = us} {body = body} {xs = xs} s h e more) ls =
    at_block ls w o ts s ∙ ap (λ ms. (label_of ts).0 ∷ ms) (joined body xs _ _ _ (lists (label_of ts).1 body (Word v ∷ us) h ls) (at_word ls v us (end_structured v e) ∙ skips_label ls us ∙ lists (label_of us).1 xs r more ls))
lists _ _ r (blocks.by_if_else {w = w} {v = v} {x = x} {o = o} {ts = ts} {us = us} {ys = ys} {body = body} {other = other} {xs = xs} s i h e k f more) ls =
    at_block ls w o ts s ∙ ap (λ ms. (label_of ts).0 ∷ ms)
    (joined body (other ++ xs) _ _ _ (lists (label_of ts).1 body (Word v ∷ us) h ls)
    (at_word ls v us (else_structured v e) ∙ skips_label ls us ∙ joined other xs _ _ _ (lists (label_of us).1 other (Word x ∷ ys) k ls) (at_word ls x ys (end_structured x f) ∙ skips_label ls ys ∙ lists (label_of ys).1 xs r more ls)))
lists _ _ r (blocks.by_folded_block {w = w} {o = o} {ts = ts} {us = us} {body = body} {xs = xs} s i h more) ls =
    at_group ls w ts (not_if_word w o s i) (structured_then w o s) ∙ at_block ls w o ts s
    ∙ ap (λ ms. (label_of ts).0 ∷ ms) (joined body xs _ _ _ (lists (label_of ts).1 body (Close ∷ us) h ls) (at_close ls us ∙ lists us xs r more ls))
lists _ _ r (blocks.by_folded_if {w = w} {t = t} {o = o} {ts = ts} {us = us} {vs = vs} {condition = condition} {body = body} {xs = xs} s i h e k more) ls =
    joined condition (labelled o (label_of ts).0 ∷ (body ++ xs)) _ _ _
    (at_if ls w ts (if_word w o s i) ∙ lists (label_of ts).1 condition (Open ∷ Word t ∷ us) h ((label_of ts).0 ∷ ls))
    (at_then (label_of ts).0 ls t us e ∙ ap (λ ms. (label_of ts).0 ∷ ms) (joined body xs _ _ _ (lists us body (Close ∷ Close ∷ vs) k ls) (at_close ls (Close ∷ vs) ∙ at_close ls vs ∙ lists vs xs r more ls)))
lists _ _ r (blocks.by_folded_if_else {w = w} {t = t} {e = e} {o = o} {ts = ts} {us = us} {vs = vs} {ys = ys} {condition = condition} {body = body} {other = other} {xs = xs} s i h f k g m more) ls =
    joined condition (labelled o (label_of ts).0 ∷ (body ++ (other ++ xs))) _ _ _
    (at_if ls w ts (if_word w o s i) ∙ lists (label_of ts).1 condition (Open ∷ Word t ∷ us) h ((label_of ts).0 ∷ ls))
    (at_then (label_of ts).0 ls t us f ∙ ap (λ ms. (label_of ts).0 ∷ ms)
    (joined body (other ++ xs) _ _ _ (lists us body (Close ∷ Open ∷ Word e ∷ vs) k ls)
    (at_close ls (Open ∷ Word e ∷ vs) ∙ at_group ls e vs (else_if e g) (else_then e g) ∙ at_word ls e vs (else_structured e g)
    ∙ joined other xs _ _ _ (lists vs other (Close ∷ Close ∷ ys) m ls) (at_close ls (Close ∷ ys) ∙ at_close ls ys ∙ lists ys xs r more ls))))

-- The tokens of a group, without those after its `)`.

label_inside : (d : ℕ) (ts : List Terminal) → (label_of (inside d ts)).0 ≡ (label_of ts).0
label_inside d [] = refl
label_inside d (Open ∷ ts) = refl
label_inside zero (Close ∷ ts) = refl
label_inside (suc d) (Close ∷ ts) = refl
label_inside d (Word w ∷ ts) = refl
label_inside d (Id x ∷ ts) = refl
label_inside d (Integer s n ∷ ts) = refl
label_inside d (Float narrow wide ∷ ts) = refl
label_inside d (Text v ∷ ts) = refl
label_inside d (Other ∷ ts) = refl

after_label : (d : ℕ) (ts : List Terminal) → inside d (label_of ts).1 ≡ (label_of (inside d ts)).1
after_label d [] = refl
after_label d (Open ∷ ts) = refl
after_label zero (Close ∷ ts) = refl
after_label (suc d) (Close ∷ ts) = refl
after_label d (Word w ∷ ts) = refl
after_label d (Id x ∷ ts) = refl
after_label d (Integer s n ∷ ts) = refl
after_label d (Float narrow wide ∷ ts) = refl
after_label d (Text v ∷ ts) = refl
after_label d (Other ∷ ts) = refl

inside_token : (d : ℕ) (t : Terminal) (ts : List Terminal) → is_opaque t ≡ true → t ∷ inside d ts ≡ inside d (t ∷ ts)
inside_token d Open ts e = cc
inside_token d Close ts e = cc
inside_token d (Word w) ts e = refl
inside_token d (Id x) ts e = refl
inside_token d (Integer s n) ts e = refl
inside_token d (Float narrow wide) ts e = refl
inside_token d (Text v) ts e = refl
inside_token d Other ts e = refl

labelled_inside : (d : ℕ) (ts : List Terminal) (o : ℕ) → labelled o (label_of (inside d ts)).0 ≡ labelled o (label_of ts).0
labelled_inside d ts o = ap (λ l. labelled o l) (label_inside d ts)

moved : (d : ℕ) (ts : List Terminal) (xs : List Structured) (r : List Terminal) → Structure (inside d (label_of ts).1) xs r → Structure (label_of (inside d ts)).1 xs r
moved d ts xs r h = subst (λ us. Structure us xs r) (after_label d ts) h

within : (ts : List Terminal) (xs : List Structured) (r : List Terminal) → Structure ts xs r → (d : ℕ) → Structure (inside d ts) xs (inside d r)
within _ _ r blocks.by_none d = blocks.by_none
within _ _ r (blocks.by_token {t = t} {ts = ts} {xs = xs} o more) d = subst (λ us. Structure us xs (inside d r)) (inside_token d t ts o) (blocks.by_token o (within ts xs r more d))
within _ _ r (blocks.by_group {w = w} {ts = ts} {us = us} {inner = inner} {xs = xs} s h more) d = blocks.by_group s (within ts inner (Close ∷ us) h (suc d)) (within us xs r more d)
within _ _ r (blocks.by_block {w = w} {v = v} {o = o} {ts = ts} {us = us} {body = body} {xs = xs} s h e more) d =
    subst (λ x. Structure (Word w ∷ inside d ts) (x ∷ (body ++ xs)) (inside d r)) (labelled_inside d ts o)
    (blocks.by_block s (moved d ts body (Word v ∷ inside d us) (within (label_of ts).1 body (Word v ∷ us) h d)) e (moved d us xs (inside d r) (within (label_of us).1 xs r more d)))
within _ _ r (blocks.by_if_else {w = w} {v = v} {x = x} {o = o} {ts = ts} {us = us} {ys = ys} {body = body} {other = other} {xs = xs} s i h e k f more) d =
    subst (λ y. Structure (Word w ∷ inside d ts) (y ∷ (body ++ (other ++ xs))) (inside d r)) (labelled_inside d ts o)
    (blocks.by_if_else s i (moved d ts body (Word v ∷ inside d us) (within (label_of ts).1 body (Word v ∷ us) h d)) e (moved d us other (Word x ∷ inside d ys) (within (label_of us).1 other (Word x ∷ ys) k d)) f
    (moved d ys xs (inside d r) (within (label_of ys).1 xs r more d)))
within _ _ r (blocks.by_folded_block {w = w} {o = o} {ts = ts} {us = us} {body = body} {xs = xs} s i h more) d =
    subst (λ x. Structure (Open ∷ Word w ∷ inside (suc d) ts) (x ∷ (body ++ xs)) (inside d r)) (labelled_inside (suc d) ts o)
    (blocks.by_folded_block s i (moved (suc d) ts body (Close ∷ inside d us) (within (label_of ts).1 body (Close ∷ us) h (suc d))) (within us xs r more d))
within _ _ r (blocks.by_folded_if {w = w} {t = t} {o = o} {ts = ts} {us = us} {vs = vs} {condition = condition} {body = body} {xs = xs} s i h e k more) d =
    subst (λ x. Structure (Open ∷ Word w ∷ inside (suc d) ts) (condition ++ (x ∷ (body ++ xs))) (inside d r)) (labelled_inside (suc d) ts o)
    (blocks.by_folded_if s i (moved (suc d) ts condition (Open ∷ Word t ∷ inside (suc (suc d)) us) (within (label_of ts).1 condition (Open ∷ Word t ∷ us) h (suc d))) e (within us body (Close ∷ Close ∷ vs) k (suc (suc d))) (within vs xs r more d))
within _ _ r (blocks.by_folded_if_else {w = w} {t = t} {e = e} {o = o} {ts = ts} {us = us} {vs = vs} {ys = ys} {condition = condition} {body = body} {other = other} {xs = xs} s i h f k g m more) d =
    subst (λ x. Structure (Open ∷ Word w ∷ inside (suc d) ts) (condition ++ (x ∷ (body ++ (other ++ xs)))) (inside d r)) (labelled_inside (suc d) ts o)
    (blocks.by_folded_if_else s i (moved (suc d) ts condition (Open ∷ Word t ∷ inside (suc (suc d)) us) (within (label_of ts).1 condition (Open ∷ Word t ∷ us) h (suc d))) f
    (within us body (Close ∷ Open ∷ Word e ∷ vs) k (suc (suc d))) g (within vs other (Close ∷ Close ∷ ys) m (suc (suc d))) (within ys xs r more d))

no_rest : (ts : List Terminal) (xs : List Structured) → Structure ts xs [] → block_labels [] ts ≡ map label_in xs
unfolding block_labels
no_rest ts xs h = lists ts xs [] h [] ∙ append-nil (map label_in xs)

pub labels_are_listed : LabelsAreListed
labels_are_listed = record { all = no_rest; body = λ ts r xs h. no_rest (inside 0 ts) xs (within ts xs (Close ∷ r) h 0) }
