-- The names of the items of a module are those of their places.
use Rattle.std.proofs.Common.{◌≡◌, ◌∙◌, ◌+◌, arith, ℕ, zero, suc, List, [], ◌∷◌, ◌++◌, refl, sym, ap, ap₂, subst, append_assoc, append-nil, Bool, true, false, Option, Some, None, Result, Ok, Err}
use Rattle.std.specs.Prelude.{◌==◌, ◌&&◌, ◌||◌, not, is_some, if◌then◌else◌}
use Rattle.std.proofs.lemmas.Bool.Decides.{nat_tests}
use Rattle.wat_lex.specs.errors.Errors.{Report}
use Rattle.wat_module_tokens.specs.Terminals.{Label}
use Rattle.wat_module_annotations.specs.Items.{Block, Close, Field, FoldedBlock, FoldedIf, Header, Import, Item, Module, Occurrence, Open, Other, Stray, Then, Variable, Variables}
use Rattle.wat_module_annotations.specs.Names.{Context, FieldNames, ModuleNames, after, annotated, begun, declares, ended, fields_by, fields_from, misplaced, module_of, names_by, names_in, outside, preceded_by, unless}
use Rattle.wat_module_annotations.specs.Placed.{FieldIs, FieldsAre, HeaderIs, InstructionsAre, ModuleIs, NamesArePlaced, by_block, by_export, by_field, by_fields, by_folded_block, by_folded_if, by_group, by_header_group, by_header_token, by_import, by_item, by_module, by_named_param, by_no_field, by_no_header, by_no_instruction, by_params, by_start, by_token, by_variable, by_variables, ends_header, field_names, opens, opens_header, without_strays}
use Rattle.wat_module_annotations.proofs.Steps.{all_none}

abbrev Names : Type 0
Names = Result (List FieldNames) ℕ

-- A context in a field, by the number of open groups.
abbrev at_depth : ℕ → Bool → List Label → Label → Bool → List Label → List Label → Context
at_depth n header held l p vs ls = record { depth = n; in_header = header; held = held; field = field_names l p vs ls }

-- A context in a field: `suc d` groups are open.
abbrev in_field : ℕ → Bool → List Label → Label → Bool → List Label → List Label → Context
in_field d header held l p vs ls = at_depth (suc d) header held l p vs ls

more_than_none : (d : ℕ) → (suc d == 0) ≡ false
more_than_none d = grind (arith, nat_tests)

more_than_one : (d : ℕ) → (suc (suc d) == 1) ≡ false
more_than_one d = grind (arith, nat_tests)

not_true : (b : Bool) → not b ≡ true → b ≡ false
not_true true e = cc
not_true false e = refl

and_true : (b : Bool) → (b && true) ≡ b
and_true true = refl
and_true false = refl

or_false : (b : Bool) → (b || false) ≡ b
or_false true = refl
or_false false = refl

or_assoc : (a b c : Bool) → ((a || b) || c) ≡ (a || (b || c))
or_assoc true b c = refl
or_assoc false b c = refl

-- The number of open groups besides that of a field, in its header, or in a group of it.
abbrev level : Bool → ℕ → ℕ
level true d = suc d
level false d = zero

-- ---- one item

module _ (d : ℕ) (held : List Label) (l : Label) (p : Bool) (vs ls : List Label) (is : List Item) where
  one_deeper : 1 + suc d ≡ suc (suc d)
  one_deeper = omega arith

  -- One more open group.
  moved : (header : Bool) → fields_from (at_depth (1 + suc d) header held l p vs ls) is ≡ fields_from (in_field (suc d) header held l p vs ls) is
  moved header = ap (λ n. fields_from (at_depth n header held l p vs ls) is) one_deeper

  -- A token in instructions.
  token_step : fields_from (in_field d false held l p vs ls) (Other ∷ is) ≡ fields_from (in_field d false held l p vs ls) is
  unfolding fields_from after misplaced
  token_step = sym (all_none (fields_from (in_field d false held l p vs ls) is))

  -- A token in a group of a header.
  inner_token : fields_from (in_field (suc d) true held l p vs ls) (Other ∷ is) ≡ fields_from (in_field (suc d) true held l p vs ls) is
  unfolding fields_from after misplaced
  inner_token =
      sym (all_none (fields_from (after Other (in_field (suc d) true held l p vs ls)) is))
      ∙ ap (λ b. fields_from (in_field (suc d) (not b) held l p vs ls) is) (more_than_one d)

  params_step : (b : Bool) (ns : List Label) → fields_from (in_field d false held l p vs ls) (Variables b ns ∷ is) ≡ fields_from (in_field d false held l p vs ls) is
  unfolding fields_from after misplaced
  params_step b ns = sym (all_none (fields_from (in_field d false held l p vs ls) is))

  variables_step : (b : Bool) (ns : List Label) → fields_from (in_field d true held l p vs ls) (Variables b ns ∷ is) ≡ fields_from (in_field d true held l (p || (b && declares ns)) (vs ++ ns) ls) is
  unfolding fields_from after misplaced
  variables_step b ns = sym (all_none (fields_from (in_field d true held l (p || (b && declares ns)) (vs ++ ns) ls) is))

  variable_step : (b : Bool) (o : Occurrence) → fields_from (in_field d true held l p vs ls) (Variable b o ∷ is) ≡ fields_from (in_field d true held l (p || (b && true)) (vs ++ o.name ∷ []) ls) is
  unfolding fields_from after misplaced
  variable_step b o = sym (all_none (fields_from (in_field d true held l (p || (b && true)) (vs ++ o.name ∷ []) ls) is))

  block_step : (o : Occurrence) → fields_from (in_field d false held l p vs ls) (Block o ∷ is) ≡ fields_from (in_field d false held l p vs (ls ++ o.name ∷ [])) is
  unfolding fields_from after misplaced
  block_step o = sym (all_none (fields_from (in_field d false held l p vs (ls ++ o.name ∷ [])) is))

  folded_block_step : (o : Occurrence) → fields_from (in_field d false held l p vs ls) (FoldedBlock o ∷ is) ≡ fields_from (in_field (suc d) false held l p vs (ls ++ o.name ∷ [])) is
  unfolding fields_from after misplaced
  folded_block_step o = sym (all_none (fields_from (at_depth (1 + suc d) false held l p vs (ls ++ o.name ∷ [])) is)) ∙ ap (λ n. fields_from (at_depth n false held l p vs (ls ++ o.name ∷ [])) is) one_deeper

  folded_if_step : (o : Occurrence) → fields_from (in_field d false held l p vs ls) (FoldedIf o ∷ is) ≡ fields_from (in_field (suc d) false (o.name ∷ held) l p vs ls) is
  unfolding fields_from after misplaced
  folded_if_step o = sym (all_none (fields_from (at_depth (1 + suc d) false (o.name ∷ held) l p vs ls) is)) ∙ ap (λ n. fields_from (at_depth n false (o.name ∷ held) l p vs ls) is) one_deeper

  then_step : (k : Label) → fields_from (in_field d false (k ∷ held) l p vs ls) (Then ∷ is) ≡ fields_from (in_field (suc d) false held l p vs (ls ++ k ∷ [])) is
  unfolding fields_from after misplaced
  then_step k = sym (all_none (fields_from (at_depth (1 + suc d) false held l p vs (ls ++ k ∷ [])) is)) ∙ ap (λ n. fields_from (at_depth n false held l p vs (ls ++ k ∷ [])) is) one_deeper

  named_param : (b : Bool) (o : Occurrence) → fields_from (in_field d false held l p vs ls) (Variable b o ∷ is) ≡ Err o.offset
  unfolding fields_from after misplaced
  named_param b o = refl

  -- An annotation of a reference.
  refused : (header : Bool) (o : Occurrence) → is_some o.name ≡ true → fields_from (in_field d header held l p vs ls) (Field o ∷ is) ≡ Err o.offset
  unfolding fields_from after misplaced
  refused header o e =
      ap (λ (b : Bool). unless (if b then None else annotated o) (preceded_by [] (fields_from (if b then begun 1 o.name else at_depth (1 + suc d) header held l p vs ls) is))) (more_than_none d)
      ∙ ap (λ (b : Bool). unless (if b then Some o.offset else None) (preceded_by [] (fields_from (at_depth (1 + suc d) header held l p vs ls) is))) e

  -- `)` of a group in a field.
  close_step : (header : Bool) → fields_from (in_field (suc d) header held l p vs ls) (Close ∷ is) ≡ fields_from (in_field d header held l p vs ls) is
  unfolding fields_from after misplaced
  close_step header =
      ap (λ (b : Bool). preceded_by (if b then field_names l p vs ls ∷ [] else []) (fields_from (in_field d header held l p vs ls) is)) (more_than_one d)
      ∙ sym (all_none (fields_from (in_field d header held l p vs ls) is))

  -- `)` of a field.
  end_step : (header : Bool) → fields_from (in_field zero header held l p vs ls) (Close ∷ is) ≡ preceded_by (field_names l p vs ls ∷ []) (fields_from outside is)
  unfolding fields_from after misplaced
  end_step header = refl

  -- A group without an annotation.
  group_step : (i : Item) → opens false i ≡ true → fields_from (in_field d false held l p vs ls) (i ∷ is) ≡ fields_from (in_field (suc d) false held l p vs ls) is
  unfolding fields_from after misplaced
  group_step Open e = ap (λ (b : Bool). preceded_by [] (fields_from (if b then begun 1 None else at_depth (1 + suc d) false held l p vs ls) is)) (more_than_none d) ∙ sym (all_none (fields_from (at_depth (1 + suc d) false held l p vs ls) is)) ∙ moved false
  group_step Header e = ap (λ (b : Bool). preceded_by [] (fields_from (if b then begun 1 None else at_depth (1 + suc d) false held l p vs ls) is)) (more_than_none d) ∙ sym (all_none (fields_from (at_depth (1 + suc d) false held l p vs ls) is)) ∙ moved false
  group_step (Field o) e =
      ap (λ (b : Bool). unless (if b then None else annotated o) (preceded_by [] (fields_from (if b then begun 1 o.name else at_depth (1 + suc d) false held l p vs ls) is))) (more_than_none d)
      ∙ ap (λ (b : Bool). unless (if b then Some o.offset else None) (preceded_by [] (fields_from (at_depth (1 + suc d) false held l p vs ls) is))) (not_true (is_some o.name) e)
      ∙ sym (all_none (fields_from (at_depth (1 + suc d) false held l p vs ls) is)) ∙ moved false
  group_step (Stray at) e = cc
  group_step Close e = cc
  group_step (Module o) e = cc
  group_step (Import o) e = cc
  group_step (Variables b ns) e = cc
  group_step (Variable b o) e = cc
  group_step (Block o) e = cc
  group_step (FoldedBlock o) e = cc
  group_step (FoldedIf o) e = cc
  group_step Then e = cc
  group_step Other e = cc

  deeper_header : (n : ℕ) → fields_from (at_depth (1 + suc n) true held l p vs ls) is ≡ fields_from (in_field (suc n) true held l p vs ls) is
  deeper_header n = ap (λ m. fields_from (at_depth m true held l p vs ls) is) (let e : 1 + suc n ≡ suc (suc n) = omega arith in e)

  -- A group of a header, without an annotation.
  header_step : (inner : Bool) (i : Item) → opens_header false inner i ≡ true → fields_from (in_field (level inner d) true held l p vs ls) (i ∷ is) ≡ fields_from (in_field (suc (level inner d)) true held l p vs ls) is
  unfolding fields_from after misplaced
  header_step true Open e =
      ap (λ (b : Bool). preceded_by [] (fields_from (if b then begun 1 None else at_depth (1 + suc (suc d)) (true && not (suc (suc d) == 1)) held l p vs ls) is)) (more_than_none (suc d))
      ∙ ap (λ b. preceded_by [] (fields_from (at_depth (1 + suc (suc d)) (not b) held l p vs ls) is)) (more_than_one d)
      ∙ sym (all_none (fields_from (at_depth (1 + suc (suc d)) true held l p vs ls) is))
      ∙ deeper_header (suc d)
  header_step false Open e = cc
  header_step inner Header e =
      ap (λ (b : Bool). preceded_by [] (fields_from (if b then begun 1 None else at_depth (1 + suc (level inner d)) true held l p vs ls) is)) (more_than_none (level inner d))
      ∙ sym (all_none (fields_from (at_depth (1 + suc (level inner d)) true held l p vs ls) is))
      ∙ deeper_header (level inner d)
  header_step inner (Field o) e =
      ap (λ (b : Bool). unless (if b then None else annotated o) (preceded_by [] (fields_from (if b then begun 1 o.name else at_depth (1 + suc (level inner d)) true held l p vs ls) is))) (more_than_none (level inner d))
      ∙ ap (λ (b : Bool). unless (if b then Some o.offset else None) (preceded_by [] (fields_from (at_depth (1 + suc (level inner d)) true held l p vs ls) is))) (not_true (is_some o.name) e)
      ∙ sym (all_none (fields_from (at_depth (1 + suc (level inner d)) true held l p vs ls) is))
      ∙ deeper_header (level inner d)
  header_step inner (Stray at) e = cc
  header_step inner Close e = cc
  header_step inner (Module o) e = cc
  header_step inner (Import o) e = cc
  header_step inner (Variables b ns) e = cc
  header_step inner (Variable b o) e = cc
  header_step inner (Block o) e = cc
  header_step inner (FoldedBlock o) e = cc
  header_step inner (FoldedIf o) e = cc
  header_step inner Then e = cc
  header_step inner Other e = cc

  -- What ends a header.
  header_end : (bs : List Item) → ends_header bs ≡ true → fields_from (in_field zero true held l p vs ls) bs ≡ fields_from (in_field zero false held l p vs ls) bs
  unfolding fields_from after misplaced
  header_end [] e = cc
  header_end (Close ∷ bs) e = refl
  header_end (Other ∷ bs) e = refl
  header_end (Open ∷ bs) e = refl
  header_end (Block o ∷ bs) e = refl
  header_end (FoldedBlock o ∷ bs) e = refl
  header_end (FoldedIf o ∷ bs) e = refl
  header_end (Stray at ∷ bs) e = cc
  header_end (Header ∷ bs) e = cc
  header_end (Module o ∷ bs) e = cc
  header_end (Field o ∷ bs) e = cc
  header_end (Import o ∷ bs) e = cc
  header_end (Variables b ns ∷ bs) e = cc
  header_end (Variable b o ∷ bs) e = cc
  header_end (Then ∷ bs) e = cc

-- ---- instructions

-- Labels after the labels `ls`.
module _ (d : ℕ) (held : List Label) (l : Label) (p : Bool) (vs : List Label) (r : List Item) where
  same_labels : (ls ks : List Label) → ls ≡ ks → fields_from (in_field d false held l p vs ls) r ≡ fields_from (in_field d false held l p vs ks) r
  same_labels ls ks e = ap (λ x. fields_from (in_field d false held l p vs x) r) e

one_more : (ls ks : List Label) (k : Label) → (ls ++ k ∷ []) ++ ks ≡ ls ++ (k ∷ ks)
one_more ls ks k = append_assoc ls (k ∷ []) ks

instructions : (is : List Item) (ks : List Label) (r : List Item) → InstructionsAre false is ks r → (d : ℕ) (held : List Label) (l : Label) (p : Bool) (vs ls : List Label)
    → fields_from (in_field d false held l p vs ls) is ≡ fields_from (in_field d false held l p vs (ls ++ ks)) r
instructions is _ r by_no_instruction d held l p vs ls = same_labels d held l p vs r ls (ls ++ []) (sym (append-nil ls))
instructions _ ks r (by_token {is = is} h) d held l p vs ls = token_step d held l p vs ls is ∙ instructions is ks r h d held l p vs ls
instructions _ ks r (by_params {b = b} {ns = ns} {is = is} h) d held l p vs ls = params_step d held l p vs ls is b ns ∙ instructions is ks r h d held l p vs ls
instructions _ _ r (by_named_param e h) d held l p vs ls = cc
instructions _ _ r (by_group {i = i} {is = is} {us = us} {ls = ks} {ms = ms} o h k) d held l p vs ls =
    group_step d held l p vs ls is i o
    ∙ instructions is ks (Close ∷ us) h (suc d) held l p vs ls
    ∙ close_step d held l p vs (ls ++ ks) us false
    ∙ instructions us ms r k d held l p vs (ls ++ ks)
    ∙ same_labels d held l p vs r ((ls ++ ks) ++ ms) (ls ++ (ks ++ ms)) (append_assoc ls ks ms)
instructions _ _ r (by_block {o = o} {is = is} {ls = ks} h) d held l p vs ls =
    block_step d held l p vs ls is o ∙ instructions is ks r h d held l p vs (ls ++ o.name ∷ []) ∙ same_labels d held l p vs r ((ls ++ o.name ∷ []) ++ ks) (ls ++ (o.name ∷ ks)) (one_more ls ks o.name)
instructions _ _ r (by_folded_block {o = o} {is = is} {us = us} {ls = ks} {ms = ms} h k) d held l p vs ls =
    let own = ls ++ o.name ∷ [] in
    folded_block_step d held l p vs ls is o
    ∙ instructions is ks (Close ∷ us) h (suc d) held l p vs own
    ∙ close_step d held l p vs (own ++ ks) us false
    ∙ instructions us ms r k d held l p vs (own ++ ks)
    ∙ same_labels d held l p vs r ((own ++ ks) ++ ms) (ls ++ (o.name ∷ (ks ++ ms))) (append_assoc own ks ms ∙ one_more ls (ks ++ ms) o.name)
instructions _ _ r (by_folded_if {o = o} {is = is} {ts = ts} {es = es} {us = us} {cs = cs} {ls = ks} {ks = js} {ms = ms} c h e k) d held l p vs ls =
    let own = (ls ++ cs) ++ o.name ∷ [] in
    folded_if_step d held l p vs ls is o
    ∙ instructions is cs (Then ∷ ts) c (suc d) (o.name ∷ held) l p vs ls
    ∙ then_step (suc d) held l p vs (ls ++ cs) ts o.name
    ∙ instructions ts ks (Close ∷ es) h (suc (suc d)) held l p vs own
    ∙ close_step (suc d) held l p vs (own ++ ks) es false
    ∙ instructions es js (Close ∷ us) e (suc d) held l p vs (own ++ ks)
    ∙ close_step d held l p vs ((own ++ ks) ++ js) us false
    ∙ instructions us ms r k d held l p vs ((own ++ ks) ++ js)
    ∙ same_labels d held l p vs r (((own ++ ks) ++ js) ++ ms) (ls ++ (cs ++ (o.name ∷ (ks ++ (js ++ ms)))))
    (append_assoc (own ++ ks) js ms ∙ append_assoc own ks (js ++ ms) ∙ one_more (ls ++ cs) (ks ++ (js ++ ms)) o.name ∙ append_assoc ls cs (o.name ∷ (ks ++ (js ++ ms))))

-- ---- headers

module _ (d : ℕ) (held : List Label) (l : Label) (ls : List Label) (r : List Item) where
  same_variables : (p q : Bool) (vs ws : List Label) → p ≡ q → vs ≡ ws → fields_from (in_field d true held l p vs ls) r ≡ fields_from (in_field d true held l q ws ls) r
  same_variables p q vs ws e f = ap₂ (λ x y. fields_from (in_field d true held l x y ls) r) e f

headers : (inner : Bool) (is : List Item) (q : Bool) (ws : List Label) (r : List Item) → HeaderIs false inner is q ws r → (d : ℕ) (held : List Label) (l : Label) (p : Bool) (vs ls : List Label)
    → fields_from (in_field (level inner d) true held l p vs ls) is ≡ fields_from (in_field (level inner d) true held l (p || q) (vs ++ ws) ls) r
headers inner is _ _ r by_no_header d held l p vs ls = same_variables (level inner d) held l ls r p (p || false) vs (vs ++ []) (sym (or_false p)) (sym (append-nil vs))
headers _ _ q ws r (by_header_token {is = is} h) d held l p vs ls = inner_token d held l p vs ls is ∙ headers true is q ws r h d held l p vs ls
headers inner _ _ _ r (by_header_group {i = i} {is = is} {us = us} {p = a} {q = b} {vs = xs} {ws = ys} o h k) d held l p vs ls =
    header_step d held l p vs ls is inner i o
    ∙ headers true is a xs (Close ∷ us) h (level inner d) held l p vs ls
    ∙ close_step (level inner d) held l (p || a) (vs ++ xs) ls us true
    ∙ headers inner us b ys r k d held l (p || a) (vs ++ xs) ls
    ∙ same_variables (level inner d) held l ls r ((p || a) || b) (p || (a || b)) ((vs ++ xs) ++ ys) (vs ++ (xs ++ ys)) (or_assoc p a b) (append_assoc vs xs ys)
headers inner _ _ _ r (by_variables {b = b} {q = q} {is = is} {vs = xs} {ws = ys} h) d held l p vs ls =
    let a = b && declares xs in
    variables_step (level inner d) held l p vs ls is b xs
    ∙ headers inner is q ys r h d held l (p || a) (vs ++ xs) ls
    ∙ same_variables (level inner d) held l ls r ((p || a) || q) (p || (a || q)) ((vs ++ xs) ++ ys) (vs ++ (xs ++ ys)) (or_assoc p a q) (append_assoc vs xs ys)
headers inner _ _ _ r (by_variable {b = b} {q = q} {o = o} {is = is} {ws = ys} h) d held l p vs ls =
    variable_step (level inner d) held l p vs ls is b o
    ∙ headers inner is q ys r h d held l (p || (b && true)) (vs ++ o.name ∷ []) ls
    ∙ same_variables (level inner d) held l ls r ((p || (b && true)) || q) (p || (b || q)) ((vs ++ o.name ∷ []) ++ ys) (vs ++ (o.name ∷ ys)) (ap (λ x. (p || x) || q) (and_true b) ∙ or_assoc p b q) (one_more vs ys o.name)

-- ---- fields

-- The rest of a field after its header.
bodies : (bs : List Item) (ks : List Label) (r : List Item) → ends_header bs ≡ true → InstructionsAre false bs ks (Close ∷ r) → (l : Label) (p : Bool) (vs : List Label) → fields_from (in_field zero true [] l p vs []) bs ≡ preceded_by (field_names l p vs ks ∷ []) (fields_from outside r)
bodies bs ks r e h l p vs = header_end zero [] l p vs [] [] bs e ∙ instructions bs ks (Close ∷ r) h zero [] l p vs [] ∙ end_step zero [] l p vs ks r false

field_is : (is : List Item) (f : FieldNames) (r : List Item) → FieldIs false is f r → fields_from outside is ≡ preceded_by (f ∷ []) (fields_from outside r)
unfolding fields_from after misplaced
field_is _ _ r (by_item {o = o} {is = is} {bs = bs} {p = p} {vs = vs} {ls = ks} h e k) =
    sym (all_none (fields_from (in_field zero true [] o.name false [] []) is)) ∙ headers false is p vs bs h zero [] o.name false [] [] ∙ bodies bs ks r e k o.name p vs
field_is _ _ r (by_import {o = o} {is = is} {p = p} {vs = vs} h) =
    sym (all_none (fields_from (in_field (suc zero) true [] o.name false [] []) is)) ∙ headers true is p vs (Close ∷ Close ∷ r) h zero [] o.name false [] [] ∙ close_step zero [] o.name p vs [] (Close ∷ r) true ∙ end_step zero [] o.name p vs [] r true
field_is _ _ r (by_export {is = is} {ls = ks} e k) = sym (all_none (fields_from (in_field zero true [] None false [] []) is)) ∙ bodies is ks r e k None false []
field_is _ _ r (by_start {is = is} {ls = ks} e k) = sym (all_none (fields_from (in_field zero true [] None false [] []) is)) ∙ bodies is ks r e k None false []

first_of_all : (f : FieldNames) (fs : List FieldNames) (r : Names) → preceded_by (f ∷ []) (preceded_by fs r) ≡ preceded_by (f ∷ fs) r
first_of_all f fs (Ok gs) = refl
first_of_all f fs (Err at) = refl

fields : (is : List Item) (fs : List FieldNames) (r : List Item) → FieldsAre false is fs r → fields_from outside is ≡ preceded_by fs (fields_from outside r)
fields is _ r by_no_field = all_none (fields_from outside is)
fields is _ r (by_field {us = us} {f = f} {fs = fs} h k) = field_is is f us h ∙ ap (preceded_by (f ∷ [])) (fields us fs r k) ∙ first_of_all f fs (fields_from outside r)

-- ---- modules

no_module : (is : List Item) (fs : List FieldNames) → FieldsAre false is fs [] → module_of is ≡ None
no_module _ _ by_no_field = refl
no_module _ _ (by_field (by_item h e k) fs) = refl
no_module _ _ (by_field (by_import h) fs) = refl
no_module _ _ (by_field (by_export e k) fs) = refl
no_module _ _ (by_field (by_start e k) fs) = refl

-- The end of a module without and with its `)`.
all_fields : (is : List Item) (fs : List FieldNames) → FieldsAre false is fs [] → fields_from outside is ≡ Ok fs
unfolding fields_from
all_fields is fs h = fields is fs [] h ∙ ap Ok (append-nil fs)

closed_fields : (is : List Item) (fs : List FieldNames) → FieldsAre false is fs (Close ∷ []) → fields_from outside is ≡ Ok fs
unfolding fields_from after misplaced
closed_fields is fs h = fields is fs (Close ∷ []) h ∙ ap Ok (append-nil fs)

pub computed : (text : List ℕ) (is : List Item) (ns : ModuleNames) → ModuleIs false is ns → names_in text is ≡ Ok ns
unfolding names_in fields_from after misplaced
computed text _ _ (by_module {o = o} {is = is} {fs = fs} h) = ap (λ r. names_by o.name (fields_by text r)) (sym (all_none (fields_from outside is)) ∙ closed_fields is fs h)
computed text is _ (by_fields {fs = fs} h) = ap₂ (λ l r. names_by l (fields_by text r)) (no_module is fs h) (all_fields is fs h)

one : (is : List Item) (ns ms : ModuleNames) → ModuleIs false is ns → ModuleIs false is ms → ns ≡ ms
one is ns ms h k = let e : ◌≡◌ {A = Result ModuleNames Report} (Ok ns) (Ok ms) = sym (computed [] is ns h) ∙ computed [] is ms k in cc

-- ---- names that are computed

no_error : {A : Type 0} (fs : List FieldNames) (at : ℕ) (r : Names) → r ≡ Ok fs → r ≡ Err at → A
no_error fs at r e f = let is : ◌≡◌ {A = Names} (Ok fs) (Err at) = sym e ∙ f in cc

-- A group that the function enters has no annotation.
module _ (d : ℕ) (held : List Label) (l : Label) (p : Bool) (vs ls : List Label) (is : List Item) (fs : List FieldNames) where
  unnamed : (header : Bool) (o : Occurrence) (b : Bool) → is_some o.name ≡ b → fields_from (in_field d header held l p vs ls) (Field o ∷ is) ≡ Ok fs → not (is_some o.name) ≡ true
  unnamed header o true k e = no_error fs o.offset _ e (refused d held l p vs ls is header o k)
  unnamed header o false k e = ap not k

  entered_group : (i : Item) → opens true i ≡ true → fields_from (in_field d false held l p vs ls) (i ∷ is) ≡ Ok fs → opens false i ≡ true
  entered_group Open k e = refl
  entered_group Header k e = refl
  entered_group (Field o) k e = unnamed false o (is_some o.name) refl e
  entered_group (Stray at) k e = cc
  entered_group Close k e = cc
  entered_group (Module o) k e = cc
  entered_group (Import o) k e = cc
  entered_group (Variables b ns) k e = cc
  entered_group (Variable b o) k e = cc
  entered_group (Block o) k e = cc
  entered_group (FoldedBlock o) k e = cc
  entered_group (FoldedIf o) k e = cc
  entered_group Then k e = cc
  entered_group Other k e = cc

  entered_header : (inner : Bool) (i : Item) → opens_header true inner i ≡ true → fields_from (in_field d true held l p vs ls) (i ∷ is) ≡ Ok fs → opens_header false inner i ≡ true
  entered_header inner Open k e = k
  entered_header inner Header k e = refl
  entered_header inner (Field o) k e = unnamed true o (is_some o.name) refl e
  entered_header inner (Stray at) k e = cc
  entered_header inner Close k e = cc
  entered_header inner (Module o) k e = cc
  entered_header inner (Import o) k e = cc
  entered_header inner (Variables b ns) k e = cc
  entered_header inner (Variable b o) k e = cc
  entered_header inner (Block o) k e = cc
  entered_header inner (FoldedBlock o) k e = cc
  entered_header inner (FoldedIf o) k e = cc
  entered_header inner Then k e = cc
  entered_header inner Other k e = cc

placed_instructions : (is : List Item) (ks : List Label) (r : List Item) → InstructionsAre true is ks r → (d : ℕ) (held : List Label) (l : Label) (p : Bool) (vs ls : List Label) (fs : List FieldNames)
    → fields_from (in_field d false held l p vs ls) is ≡ Ok fs → InstructionsAre false is ks r
placed_instructions is _ r by_no_instruction d held l p vs ls fs e = by_no_instruction
placed_instructions _ ks r (by_token {is = is} h) d held l p vs ls fs e = by_token (placed_instructions is ks r h d held l p vs ls fs (sym (token_step d held l p vs ls is) ∙ e))
placed_instructions _ ks r (by_params {b = b} {ns = ns} {is = is} h) d held l p vs ls fs e = by_params (placed_instructions is ks r h d held l p vs ls fs (sym (params_step d held l p vs ls is b ns) ∙ e))
placed_instructions _ ks r (by_named_param {b = b} {o = o} {is = is} x h) d held l p vs ls fs e = no_error fs o.offset _ e (named_param d held l p vs ls is b o)
placed_instructions _ _ r (by_group {i = i} {is = is} {us = us} {ls = ks} {ms = ms} x h k) d held l p vs ls fs e =
    let o = entered_group d held l p vs ls is fs i x e in
    let inside = sym (group_step d held l p vs ls is i o) ∙ e in
    let first = placed_instructions is ks (Close ∷ us) h (suc d) held l p vs ls fs inside in
    let rest = sym (close_step d held l p vs (ls ++ ks) us false) ∙ sym (instructions is ks (Close ∷ us) first (suc d) held l p vs ls) ∙ inside in
    by_group o first (placed_instructions us ms r k d held l p vs (ls ++ ks) fs rest)
placed_instructions _ _ r (by_block {o = o} {is = is} {ls = ks} h) d held l p vs ls fs e = by_block (placed_instructions is ks r h d held l p vs (ls ++ o.name ∷ []) fs (sym (block_step d held l p vs ls is o) ∙ e))
placed_instructions _ _ r (by_folded_block {o = o} {is = is} {us = us} {ls = ks} {ms = ms} h k) d held l p vs ls fs e =
    let own = ls ++ o.name ∷ [] in
    let inside = sym (folded_block_step d held l p vs ls is o) ∙ e in
    let first = placed_instructions is ks (Close ∷ us) h (suc d) held l p vs own fs inside in
    let rest = sym (close_step d held l p vs (own ++ ks) us false) ∙ sym (instructions is ks (Close ∷ us) first (suc d) held l p vs own) ∙ inside in
    by_folded_block first (placed_instructions us ms r k d held l p vs (own ++ ks) fs rest)
placed_instructions _ _ r (by_folded_if {o = o} {is = is} {ts = ts} {es = es} {us = us} {cs = cs} {ls = ks} {ks = js} {ms = ms} c h x k) d held l p vs ls fs e =
    let own = (ls ++ cs) ++ o.name ∷ [] in
    let inside = sym (folded_if_step d held l p vs ls is o) ∙ e in
    let condition = placed_instructions is cs (Then ∷ ts) c (suc d) (o.name ∷ held) l p vs ls fs inside in
    let inner = sym (then_step (suc d) held l p vs (ls ++ cs) ts o.name) ∙ sym (instructions is cs (Then ∷ ts) condition (suc d) (o.name ∷ held) l p vs ls) ∙ inside in
    let body = placed_instructions ts ks (Close ∷ es) h (suc (suc d)) held l p vs own fs inner in
    let more = sym (close_step (suc d) held l p vs (own ++ ks) es false) ∙ sym (instructions ts ks (Close ∷ es) body (suc (suc d)) held l p vs own) ∙ inner in
    let other = placed_instructions es js (Close ∷ us) x (suc d) held l p vs (own ++ ks) fs more in
    let rest = sym (close_step d held l p vs ((own ++ ks) ++ js) us false) ∙ sym (instructions es js (Close ∷ us) other (suc d) held l p vs (own ++ ks)) ∙ more in
    by_folded_if condition body other (placed_instructions us ms r k d held l p vs ((own ++ ks) ++ js) fs rest)

placed_headers : (inner : Bool) (is : List Item) (q : Bool) (ws : List Label) (r : List Item) → HeaderIs true inner is q ws r → (d : ℕ) (held : List Label) (l : Label) (p : Bool) (vs ls : List Label) (fs : List FieldNames)
    → fields_from (in_field (level inner d) true held l p vs ls) is ≡ Ok fs → HeaderIs false inner is q ws r
placed_headers inner is _ _ r by_no_header d held l p vs ls fs e = by_no_header
placed_headers _ _ q ws r (by_header_token {is = is} h) d held l p vs ls fs e = by_header_token (placed_headers true is q ws r h d held l p vs ls fs (sym (inner_token d held l p vs ls is) ∙ e))
placed_headers inner _ _ _ r (by_header_group {i = i} {is = is} {us = us} {p = a} {q = b} {vs = xs} {ws = ys} x h k) d held l p vs ls fs e =
    let o = entered_header (level inner d) held l p vs ls is fs inner i x e in
    let inside = sym (header_step d held l p vs ls is inner i o) ∙ e in
    let first = placed_headers true is a xs (Close ∷ us) h (level inner d) held l p vs ls fs inside in
    let rest = sym (close_step (level inner d) held l (p || a) (vs ++ xs) ls us true) ∙ sym (headers true is a xs (Close ∷ us) first (level inner d) held l p vs ls) ∙ inside in
    by_header_group o first (placed_headers inner us b ys r k d held l (p || a) (vs ++ xs) ls fs rest)
placed_headers inner _ _ _ r (by_variables {b = b} {q = q} {is = is} {vs = xs} {ws = ys} h) d held l p vs ls fs e =
    by_variables (placed_headers inner is q ys r h d held l (p || (b && declares xs)) (vs ++ xs) ls fs (sym (variables_step (level inner d) held l p vs ls is b xs) ∙ e))
placed_headers inner _ _ _ r (by_variable {b = b} {q = q} {o = o} {is = is} {ws = ys} h) d held l p vs ls fs e =
    by_variable (placed_headers inner is q ys r h d held l (p || (b && true)) (vs ++ o.name ∷ []) ls fs (sym (variable_step (level inner d) held l p vs ls is b o) ∙ e))

-- The rest of a field after its header.
placed_bodies : (bs : List Item) (ks : List Label) (r : List Item) → ends_header bs ≡ true → InstructionsAre true bs ks (Close ∷ r) → (l : Label) (p : Bool) (vs : List Label) (fs : List FieldNames) → fields_from (in_field zero true [] l p vs []) bs ≡ Ok fs → InstructionsAre false bs ks (Close ∷ r)
placed_bodies bs ks r x h l p vs fs e = placed_instructions bs ks (Close ∷ r) h zero [] l p vs [] fs (sym (header_end zero [] l p vs [] [] bs x) ∙ e)

placed_field : (is : List Item) (f : FieldNames) (r : List Item) → FieldIs true is f r → (fs : List FieldNames) → fields_from outside is ≡ Ok fs → FieldIs false is f r
unfolding fields_from after misplaced
placed_field _ _ r (by_item {o = o} {is = is} {bs = bs} {p = p} {vs = vs} {ls = ks} h x k) fs e =
    let begun = all_none (fields_from (in_field zero true [] o.name false [] []) is) ∙ e in
    let first = placed_headers false is p vs bs h zero [] o.name false [] [] fs begun in
    by_item first x (placed_bodies bs ks r x k o.name p vs fs (sym (headers false is p vs bs first zero [] o.name false [] []) ∙ begun))
placed_field _ _ r (by_import {o = o} {is = is} {p = p} {vs = vs} h) fs e =
    by_import (placed_headers true is p vs (Close ∷ Close ∷ r) h zero [] o.name false [] [] fs (all_none (fields_from (in_field (suc zero) true [] o.name false [] []) is) ∙ e))
placed_field _ _ r (by_export {is = is} {ls = ks} x k) fs e = by_export x (placed_bodies is ks r x k None false [] fs (all_none (fields_from (in_field zero true [] None false [] []) is) ∙ e))
placed_field _ _ r (by_start {is = is} {ls = ks} x k) fs e = by_start x (placed_bodies is ks r x k None false [] fs (all_none (fields_from (in_field zero true [] None false [] []) is) ∙ e))

preceded_got : (fs gs : List FieldNames) (r : Names) → preceded_by fs r ≡ Ok gs → (hs : List FieldNames) × (r ≡ Ok hs)
preceded_got fs gs (Ok hs) e = (hs, refl)
preceded_got fs gs (Err at) e = cc

placed_fields : (is : List Item) (gs : List FieldNames) (r : List Item) → FieldsAre true is gs r → (fs : List FieldNames) → fields_from outside is ≡ Ok fs → FieldsAre false is gs r
placed_fields is _ r by_no_field fs e = by_no_field
placed_fields is _ r (by_field {us = us} {f = f} {fs = gs} h k) fs e =
    let first = placed_field is f us h fs e in
    let rest = preceded_got (f ∷ []) fs (fields_from outside us) (sym (field_is is f us first) ∙ e) in
    by_field first (placed_fields us gs r k rest.0 rest.1)

unless_got : (m : Option ℕ) (gs : List FieldNames) (r : Names) → unless m r ≡ Ok gs → r ≡ Ok gs
unless_got None gs r e = e
unless_got (Some at) gs r e = cc

next_got : (c : Context) (i : Item) (is : List Item) (fs : List FieldNames) → fields_from c (i ∷ is) ≡ Ok fs → (gs : List FieldNames) × (fields_from (after i c) is ≡ Ok gs)
unfolding fields_from
next_got c i is fs e = preceded_got (ended i c) fs (fields_from (after i c) is) (unless_got (misplaced i c) fs (preceded_by (ended i c) (fields_from (after i c) is)) e)

stray_refused : (c : Context) (at : ℕ) (is : List Item) → fields_from c (Stray at ∷ is) ≡ Err at
unfolding fields_from misplaced
stray_refused c at is = refl

-- Items for which names are computed have no annotations that are not at an occurrence.
no_strays : (c : Context) (is : List Item) (fs : List FieldNames) → fields_from c is ≡ Ok fs → without_strays is ≡ is
no_strays c [] fs e = refl
no_strays c (Stray at ∷ is) fs e = no_error fs at _ e (stray_refused c at is)
no_strays c (Open ∷ is) fs e = let n = next_got c Open is fs e in ap (λ x. Open ∷ x) (no_strays (after Open c) is n.0 n.1)
no_strays c (Close ∷ is) fs e = let n = next_got c Close is fs e in ap (λ x. Close ∷ x) (no_strays (after Close c) is n.0 n.1)
no_strays c (Header ∷ is) fs e = let n = next_got c Header is fs e in ap (λ x. Header ∷ x) (no_strays (after Header c) is n.0 n.1)
no_strays c (Module o ∷ is) fs e = let n = next_got c (Module o) is fs e in ap (λ x. Module o ∷ x) (no_strays (after (Module o) c) is n.0 n.1)
no_strays c (Field o ∷ is) fs e = let n = next_got c (Field o) is fs e in ap (λ x. Field o ∷ x) (no_strays (after (Field o) c) is n.0 n.1)
no_strays c (Import o ∷ is) fs e = let n = next_got c (Import o) is fs e in ap (λ x. Import o ∷ x) (no_strays (after (Import o) c) is n.0 n.1)
no_strays c (Variables b ns ∷ is) fs e = let n = next_got c (Variables b ns) is fs e in ap (λ x. Variables b ns ∷ x) (no_strays (after (Variables b ns) c) is n.0 n.1)
no_strays c (Variable b o ∷ is) fs e = let n = next_got c (Variable b o) is fs e in ap (λ x. Variable b o ∷ x) (no_strays (after (Variable b o) c) is n.0 n.1)
no_strays c (Block o ∷ is) fs e = let n = next_got c (Block o) is fs e in ap (λ x. Block o ∷ x) (no_strays (after (Block o) c) is n.0 n.1)
no_strays c (FoldedBlock o ∷ is) fs e = let n = next_got c (FoldedBlock o) is fs e in ap (λ x. FoldedBlock o ∷ x) (no_strays (after (FoldedBlock o) c) is n.0 n.1)
no_strays c (FoldedIf o ∷ is) fs e = let n = next_got c (FoldedIf o) is fs e in ap (λ x. FoldedIf o ∷ x) (no_strays (after (FoldedIf o) c) is n.0 n.1)
no_strays c (Then ∷ is) fs e = let n = next_got c Then is fs e in ap (λ x. Then ∷ x) (no_strays (after Then c) is n.0 n.1)
no_strays c (Other ∷ is) fs e = let n = next_got c Other is fs e in ap (λ x. Other ∷ x) (no_strays (after Other c) is n.0 n.1)

-- The names of the fields, if names are computed.
names_got : (text : List ℕ) (l : Label) (r : Names) (ns : ModuleNames) → names_by l (fields_by text r) ≡ Ok ns → (fs : List FieldNames) × (r ≡ Ok fs)
names_got text l (Ok fs) ns e = (fs, refl)
names_got text l (Err at) ns e = cc

all_got : (text : List ℕ) (is : List Item) (ns : ModuleNames) → names_in text is ≡ Ok ns → (fs : List FieldNames) × (fields_from outside is ≡ Ok fs)
unfolding names_in
all_got text is ns e = names_got text (module_of is) (fields_from outside is) ns e

placed_module : (is : List Item) (ms : ModuleNames) → ModuleIs true is ms → (fs : List FieldNames) → fields_from outside is ≡ Ok fs → ModuleIs false is ms
unfolding fields_from after misplaced
placed_module _ _ (by_module {o = o} {is = is} {fs = gs} h) fs e = by_module (placed_fields is gs (Close ∷ []) h fs (all_none (fields_from outside is) ∙ e))
placed_module is _ (by_fields {fs = gs} h) fs e = by_fields (placed_fields is gs [] h fs e)

placed : (text : List ℕ) (is : List Item) (ns ms : ModuleNames) → ModuleIs true (without_strays is) ms → names_in text is ≡ Ok ns → ModuleIs false is ns
placed text is ns ms h e =
    let got = all_got text is ns e in
    let strict = placed_module is ms (subst (λ x. ModuleIs true x ms) (no_strays outside is got.0 got.1) h) got.0 got.1 in
    let same : ◌≡◌ {A = Result ModuleNames Report} (Ok ms) (Ok ns) = sym (computed text is ms strict) ∙ e in
    subst (λ x. ModuleIs false is x) (let k : ms ≡ ns = cc in k) strict

pub names_are_placed : NamesArePlaced
names_are_placed = record { computed = computed; one = one; placed = placed }
