-- Items without annotations that are a module keep its form if they get annotations.
use Rattle.std.proofs.Common.{◌≡◌, ◌∙◌, Bool, true, false, ◌&&◌, ◌||◌, List, [], ◌∷◌, ◌++◌, None, refl, ap, subst}
use Rattle.std.specs.List.{AllZip}
use Rattle.wat_module_annotations.specs.Items as item
use Rattle.wat_module_annotations.specs.Items.{Item}
use Rattle.wat_module_annotations.specs.Names.{FieldNames, ModuleNames, declares, module_names}
use Rattle.wat_module_annotations.specs.Placed as placed
use Rattle.wat_module_annotations.specs.Placed.{FieldIs, FieldsAre, HeaderIs, InstructionsAre, ModuleIs, ends_header, field_names, opens, opens_header}
use Rattle.wat_module_names_theorems.specs.TokenForms.{IsSame}
use Rattle.wat_module_tokens.specs.Terminals.{Label}

abbrev pub Same : List Item → List Item → Type 0
Same is js = AllZip IsSame is js

-- Items that open a group.

opens_same : (i j : Item) → opens false i ≡ true → IsSame i j → opens true j ≡ true
opens_same item.Open item.Open o h = refl
opens_same item.Header item.Header o h = refl
opens_same (item.Field p) (item.Field q) o h = refl
opens_same item.Open j o h = absurd h
opens_same item.Header j o h = absurd h
opens_same (item.Field p) j o h = absurd h
opens_same i j o h = cc

header_same : (inner : Bool) (i j : Item) → opens_header false inner i ≡ true → IsSame i j → opens_header true inner j ≡ true
header_same inner item.Open item.Open o h = o
header_same inner item.Header item.Header o h = refl
header_same inner (item.Field p) (item.Field q) o h = refl
header_same inner item.Open j o h = absurd h
header_same inner item.Header j o h = absurd h
header_same inner (item.Field p) j o h = absurd h
header_same inner i j o h = cc

ends_same : (is js : List Item) → ends_header is ≡ true → Same is js → ends_header js ≡ true
ends_same (item.Close ∷ is) (item.Close ∷ js) e h = refl
ends_same (item.Other ∷ is) (item.Other ∷ js) e h = refl
ends_same (item.Open ∷ is) (item.Open ∷ js) e h = refl
ends_same (item.Block o ∷ is) (item.Block p ∷ js) e h = refl
ends_same (item.FoldedBlock o ∷ is) (item.FoldedBlock p ∷ js) e h = refl
ends_same (item.FoldedIf o ∷ is) (item.FoldedIf p ∷ js) e h = refl
ends_same (item.Close ∷ is) [] e h = absurd h
ends_same (item.Other ∷ is) [] e h = absurd h
ends_same (item.Open ∷ is) [] e h = absurd h
ends_same (item.Block o ∷ is) [] e h = absurd h
ends_same (item.FoldedBlock o ∷ is) [] e h = absurd h
ends_same (item.FoldedIf o ∷ is) [] e h = absurd h
ends_same (item.Close ∷ is) (j ∷ js) e h = absurd h.0
ends_same (item.Other ∷ is) (j ∷ js) e h = absurd h.0
ends_same (item.Open ∷ is) (j ∷ js) e h = absurd h.0
ends_same (item.Block o ∷ is) (j ∷ js) e h = absurd h.0
ends_same (item.FoldedBlock o ∷ is) (j ∷ js) e h = absurd h.0
ends_same (item.FoldedIf o ∷ is) (j ∷ js) e h = absurd h.0
ends_same is js e h = cc

-- The same items, up to the rest `q` of them.

record KeptInstructions (js r : List Item) : Type 0 where
  labels : List Label
  rest : List Item
  are : InstructionsAre true js labels rest
  same : Same r rest

-- after the item `)`
record KeptClose (us q : List Item) : Type 0 where
  rest : List Item
  is : q ≡ item.Close ∷ rest
  same : Same us rest

close_kept : (us q : List Item) → Same (item.Close ∷ us) q → KeptClose us q
close_kept us (item.Close ∷ q) h = record { rest = q; is = refl; same = h.1 }
close_kept us [] h = absurd h
close_kept us (j ∷ q) h = absurd h.0

record KeptThen (us q : List Item) : Type 0 where
  rest : List Item
  is : q ≡ item.Then ∷ rest
  same : Same us rest

then_kept : (us q : List Item) → Same (item.Then ∷ us) q → KeptThen us q
then_kept us (item.Then ∷ q) h = record { rest = q; is = refl; same = h.1 }
then_kept us [] h = absurd h
then_kept us (j ∷ q) h = absurd h.0

instructions_kept : (is : List Item) (ls : List Label) (r : List Item) → InstructionsAre false is ls r → (js : List Item) → Same is js → KeptInstructions js r
instructions_kept _ _ r placed.by_no_instruction js h = record { labels = []; rest = js; are = placed.by_no_instruction; same = h }
instructions_kept _ _ r (placed.by_token {is = is} {ls = ls} d) (item.Other ∷ js) h = let k = instructions_kept is ls r d js h.1 in record { labels = k.labels; rest = k.rest; are = placed.by_token k.are; same = k.same }
instructions_kept _ _ r (placed.by_token d) [] h = absurd h
instructions_kept _ _ r (placed.by_token d) (j ∷ js) h = absurd h.0
instructions_kept _ _ r (placed.by_params {ns = ns} {ls = ls} {is = is} d) (item.Variables c ms ∷ js) h = let k = instructions_kept is ls r d js h.1 in record { labels = k.labels; rest = k.rest; are = placed.by_params k.are; same = k.same }
instructions_kept _ _ r (placed.by_params {ns = n ∷ []} {ls = ls} {is = is} d) (item.Variable c p ∷ js) h = let k = instructions_kept is ls r d js h.1 in record { labels = k.labels; rest = k.rest; are = placed.by_named_param refl k.are; same = k.same }
instructions_kept _ _ r (placed.by_params {ns = []} d) (item.Variable c p ∷ js) h = absurd h.0
instructions_kept _ _ r (placed.by_params {ns = n ∷ m ∷ ns} d) (item.Variable c p ∷ js) h = absurd h.0
instructions_kept _ _ r (placed.by_params d) [] h = absurd h
instructions_kept _ _ r (placed.by_params {ns = []} d) (j ∷ js) h = absurd h.0
instructions_kept _ _ r (placed.by_params {ns = n ∷ []} d) (j ∷ js) h = absurd h.0
instructions_kept _ _ r (placed.by_params {ns = n ∷ m ∷ ns} d) (j ∷ js) h = absurd h.0
instructions_kept _ _ r (placed.by_named_param e d) js h = cc
instructions_kept _ _ r (placed.by_group {i = i} {is = is} {us = us} {ls = ls} {ms = ms} o d e) (j ∷ js) h =
    let k = instructions_kept is ls (item.Close ∷ us) d js h.1 in
    let c = close_kept us k.rest k.same in
    let m = instructions_kept us ms r e c.rest c.same in
    record { labels = k.labels ++ m.labels; rest = m.rest; are = placed.by_group (opens_same i j o h.0) (subst (InstructionsAre true js k.labels) c.is k.are) m.are; same = m.same }
instructions_kept _ _ r (placed.by_group o d e) [] h = absurd h
instructions_kept _ _ r (placed.by_block {is = is} {ls = ls} d) (item.Block p ∷ js) h = let k = instructions_kept is ls r d js h.1 in record { labels = p.name ∷ k.labels; rest = k.rest; are = placed.by_block k.are; same = k.same }
instructions_kept _ _ r (placed.by_block d) [] h = absurd h
instructions_kept _ _ r (placed.by_block d) (j ∷ js) h = absurd h.0
instructions_kept _ _ r (placed.by_folded_block {is = is} {us = us} {ls = ls} {ms = ms} d e) (item.FoldedBlock p ∷ js) h =
    let k = instructions_kept is ls (item.Close ∷ us) d js h.1 in
    let c = close_kept us k.rest k.same in
    let m = instructions_kept us ms r e c.rest c.same in
    record { labels = p.name ∷ (k.labels ++ m.labels); rest = m.rest; are = placed.by_folded_block (subst (InstructionsAre true js k.labels) c.is k.are) m.are; same = m.same }
instructions_kept _ _ r (placed.by_folded_block d e) [] h = absurd h
instructions_kept _ _ r (placed.by_folded_block d e) (j ∷ js) h = absurd h.0
instructions_kept _ _ r (placed.by_folded_if {is = is} {ts = ts} {es = es} {us = us} {cs = cs} {ls = ls} {ks = ks} {ms = ms} d e f g) (item.FoldedIf p ∷ js) h =
    let k = instructions_kept is cs (item.Then ∷ ts) d js h.1 in
    let t = then_kept ts k.rest k.same in
    let l = instructions_kept ts ls (item.Close ∷ es) e t.rest t.same in
    let c = close_kept es l.rest l.same in
    let m = instructions_kept es ks (item.Close ∷ us) f c.rest c.same in
    let q = close_kept us m.rest m.same in
    let n = instructions_kept us ms r g q.rest q.same in
    record {
      labels = k.labels ++ (p.name ∷ (l.labels ++ (m.labels ++ n.labels)));
      rest = n.rest;
      are = placed.by_folded_if (subst (InstructionsAre true js k.labels) t.is k.are) (subst (InstructionsAre true t.rest l.labels) c.is l.are) (subst (InstructionsAre true c.rest m.labels) q.is m.are) n.are;
      same = n.same;
    }
instructions_kept _ _ r (placed.by_folded_if d e f g) [] h = absurd h
instructions_kept _ _ r (placed.by_folded_if d e f g) (j ∷ js) h = absurd h.0

record KeptHeader (inner : Bool) (js r : List Item) : Type 0 where
  has_params : Bool
  variables : List Label
  rest : List Item
  are : HeaderIs true inner js has_params variables rest
  same : Same r rest

header_kept : (inner : Bool) (is : List Item) (p : Bool) (vs : List Label) (r : List Item) → HeaderIs false inner is p vs r → (js : List Item) → Same is js → KeptHeader inner js r
header_kept inner _ _ _ r placed.by_no_header js h = record { has_params = false; variables = []; rest = js; are = placed.by_no_header; same = h }
header_kept _ _ p vs r (placed.by_header_token {is = is} d) (item.Other ∷ js) h = let k = header_kept true is p vs r d js h.1 in record { has_params = k.has_params; variables = k.variables; rest = k.rest; are = placed.by_header_token k.are; same = k.same }
header_kept _ _ p vs r (placed.by_header_token d) [] h = absurd h
header_kept _ _ p vs r (placed.by_header_token d) (j ∷ js) h = absurd h.0
header_kept inner _ _ _ r (placed.by_header_group {i = i} {is = is} {us = us} {p = p} {q = q} {vs = vs} {ws = ws} o d e) (j ∷ js) h =
    let k = header_kept true is p vs (item.Close ∷ us) d js h.1 in
    let c = close_kept us k.rest k.same in
    let m = header_kept inner us q ws r e c.rest c.same in
    record {
      has_params = k.has_params || m.has_params;
      variables = k.variables ++ m.variables;
      rest = m.rest;
      are = placed.by_header_group (header_same inner i j o h.0) (subst (HeaderIs true true js k.has_params k.variables) c.is k.are) m.are;
      same = m.same;
    }
header_kept inner _ _ _ r (placed.by_header_group o d e) [] h = absurd h
header_kept inner _ _ _ r (placed.by_variables {q = q} {is = is} {ws = ws} d) (item.Variables c ms ∷ js) h =
    let k = header_kept inner is q ws r d js h.1 in record { has_params = (c && declares ms) || k.has_params; variables = ms ++ k.variables; rest = k.rest; are = placed.by_variables k.are; same = k.same }
header_kept inner _ _ _ r (placed.by_variables {q = q} {is = is} {vs = n ∷ []} {ws = ws} d) (item.Variable c p ∷ js) h =
    let k = header_kept inner is q ws r d js h.1 in record { has_params = c || k.has_params; variables = p.name ∷ k.variables; rest = k.rest; are = placed.by_variable k.are; same = k.same }
header_kept inner _ _ _ r (placed.by_variables {vs = []} d) (item.Variable c p ∷ js) h = absurd h.0
header_kept inner _ _ _ r (placed.by_variables {vs = n ∷ m ∷ vs} d) (item.Variable c p ∷ js) h = absurd h.0
header_kept inner _ _ _ r (placed.by_variables d) [] h = absurd h
header_kept inner _ _ _ r (placed.by_variables {vs = []} d) (j ∷ js) h = absurd h.0
header_kept inner _ _ _ r (placed.by_variables {vs = n ∷ []} d) (j ∷ js) h = absurd h.0
header_kept inner _ _ _ r (placed.by_variables {vs = n ∷ m ∷ vs} d) (j ∷ js) h = absurd h.0
header_kept inner _ _ _ r (placed.by_variable d) [] h = absurd h
header_kept inner _ _ _ r (placed.by_variable d) (j ∷ js) h = absurd h.0

-- Fields.

record KeptField (js r : List Item) : Type 0 where
  names : FieldNames
  rest : List Item
  is : FieldIs true js names rest
  same : Same r rest

field_kept : (is : List Item) (f : FieldNames) (r : List Item) → FieldIs false is f r → (js : List Item) → Same is js → KeptField js r
field_kept _ _ r (placed.by_item {is = is} {bs = bs} {p = p} {vs = vs} {ls = ls} d e b) (item.Field q ∷ js) h =
    let k = header_kept false is p vs bs d js h.1 in
    let m = instructions_kept bs ls (item.Close ∷ r) b k.rest k.same in
    let c = close_kept r m.rest m.same in
    record {
      names = field_names q.name k.has_params k.variables m.labels;
      rest = c.rest;
      is = placed.by_item k.are (ends_same bs k.rest e k.same) (subst (InstructionsAre true k.rest m.labels) c.is m.are);
      same = c.same;
    }
field_kept _ _ r (placed.by_item d e b) [] h = absurd h
field_kept _ _ r (placed.by_item d e b) (j ∷ js) h = absurd h.0
field_kept _ _ r (placed.by_import {is = is} {p = p} {vs = vs} d) (item.Import q ∷ js) h =
    let k = header_kept true is p vs (item.Close ∷ item.Close ∷ r) d js h.1 in
    let c = close_kept (item.Close ∷ r) k.rest k.same in
    let e = close_kept r c.rest c.same in
    record { names = field_names q.name k.has_params k.variables []; rest = e.rest; is = placed.by_import (subst (HeaderIs true true js k.has_params k.variables) (c.is ∙ ap (λ x. item.Close ∷ x) e.is) k.are); same = e.same }
field_kept _ _ r (placed.by_import d) [] h = absurd h
field_kept _ _ r (placed.by_import d) (j ∷ js) h = absurd h.0
field_kept _ _ r (placed.by_export {is = is} {ls = ls} e b) (item.Header ∷ js) h =
    let m = instructions_kept is ls (item.Close ∷ r) b js h.1 in
    let c = close_kept r m.rest m.same in
    record { names = field_names None false [] m.labels; rest = c.rest; is = placed.by_export (ends_same is js e h.1) (subst (InstructionsAre true js m.labels) c.is m.are); same = c.same }
field_kept _ _ r (placed.by_export e b) [] h = absurd h
field_kept _ _ r (placed.by_export e b) (j ∷ js) h = absurd h.0
field_kept _ _ r (placed.by_start {is = is} {ls = ls} e b) (item.Open ∷ js) h =
    let m = instructions_kept is ls (item.Close ∷ r) b js h.1 in
    let c = close_kept r m.rest m.same in
    record { names = field_names None false [] m.labels; rest = c.rest; is = placed.by_start (ends_same is js e h.1) (subst (InstructionsAre true js m.labels) c.is m.are); same = c.same }
field_kept _ _ r (placed.by_start e b) [] h = absurd h
field_kept _ _ r (placed.by_start e b) (j ∷ js) h = absurd h.0

record KeptFields (js r : List Item) : Type 0 where
  names : List FieldNames
  rest : List Item
  are : FieldsAre true js names rest
  same : Same r rest

fields_kept : (is : List Item) (fs : List FieldNames) (r : List Item) → FieldsAre false is fs r → (js : List Item) → Same is js → KeptFields js r
fields_kept _ _ r placed.by_no_field js h = record { names = []; rest = js; are = placed.by_no_field; same = h }
fields_kept is _ r (placed.by_field {us = us} {f = f} {fs = fs} one more) js h =
    let k = field_kept is f us one js h in
    let m = fields_kept us fs r more k.rest k.same in
    record { names = k.names ∷ m.names; rest = m.rest; are = placed.by_field k.is m.are; same = m.same }

nil_kept : (q : List Item) → Same [] q → q ≡ []
nil_kept [] h = refl
nil_kept (j ∷ q) h = absurd h

pub module_kept : (is : List Item) (ns : ModuleNames) → ModuleIs false is ns → (js : List Item) → Same is js → (ms : ModuleNames) × ModuleIs true js ms
module_kept _ _ (placed.by_module {is = is} {fs = fs} d) (item.Module p ∷ js) h =
    let k = fields_kept is fs (item.Close ∷ []) d js h.1 in
    let c = close_kept [] k.rest k.same in
    (module_names p.name k.names, placed.by_module (subst (FieldsAre true js k.names) (c.is ∙ ap (λ x. item.Close ∷ x) (nil_kept c.rest c.same)) k.are))
module_kept _ _ (placed.by_module d) [] h = absurd h
module_kept _ _ (placed.by_module d) (j ∷ js) h = absurd h.0
module_kept is _ (placed.by_fields {fs = fs} d) js h = let k = fields_kept is fs [] d js h in (module_names None k.names, placed.by_fields (subst (FieldsAre true js k.names) (nil_kept k.rest k.same) k.are))
