-- The identifiers of an index space, field by field.
use Rattle.std.proofs.Common.{◌≡◌, ◌∙◌, ◌<◌, ◌≤◌, ◌+◌, ℕ, suc, Bool, true, false, List, [], ◌∷◌, ◌++◌, length, map, drop, Result, Ok, Err, refl, ap, sym, append-nil, append_assoc, subst, arith}
use Rattle.std.proofs.lemmas.List.{drop_all}
use Rattle.std.specs.Prelude.{if◌then◌else◌, OnOk}
use Rattle.std.specs.List.{flat_map}
use Rattle.wat_module_ast.specs.declared.fields.Field as declared
use Rattle.wat_module_ast.specs.declared.fields.IndexSpace.{IndexSpace}
use Rattle.wat_module_ast.specs.Views.{association_of, field_of}
use Rattle.wat_module_ast.specs.declared.fields.NameAssociation as declared_association
use Rattle.wat_module_ast.specs.Fields.{Binding, Definition, Field, binding_of, bindings_of, definition_name, definition_of, definitions_of, is_space, names_in}
use Rattle.wat_module_ast.specs.Names.{NameAssociation, associations}
use Rattle.wat_module_encoder.specs.NameSection.{association_bytes, indirect_association, indirect_associations, indirect_bytes, indirect_subsection, map_subsection}
use Rattle.wat_module_encoder.specs.declared.names.FunctionNames.{FunctionNames}
use Rattle.wat_module_encoder.specs.declared.names.NameSpace.{NameSpace}
use Rattle.wat_module_encoder.specs.declared.names.NameSpace.TheVariants as names
use Rattle.wat_module_encoder.specs.Views.{counted_section, labels_in, labels_of, maps_in}
use Rattle.wat_module_encoder.proofs.SectionBytes.{section_is}

zero_more : (n : ℕ) → n + 0 ≡ n
zero_more n = omega arith

names_append : (s : IndexSpace) (hs ks : List Binding) → names_in s (hs ++ ks) ≡ names_in s hs ++ names_in s ks
names_append s [] ks = refl
names_append s (h ∷ hs) ks = by (is_space s h.space) (names_append s hs ks)
  where
    by : (b : Bool) → names_in s (hs ++ ks) ≡ names_in s hs ++ names_in s ks → (if b then h.name ∷ names_in s (hs ++ ks) else names_in s (hs ++ ks)) ≡ (if b then h.name ∷ names_in s hs else names_in s hs) ++ names_in s ks
    by true e = ap (λ ls. h.name ∷ ls) e
    by false e = e

names_by : (s : IndexSpace) (fs : List Field) → flat_map (labels_in (names.Items s)) fs ≡ names_in s (bindings_of fs)
names_by s [] = refl
names_by s (f ∷ fs) = ap (λ ls. names_in s (binding_of f) ++ ls) (names_by s fs) ∙ sym (names_append s (binding_of f) (bindings_of fs))

map_append : (ds es : List Definition) → map definition_name (ds ++ es) ≡ map definition_name ds ++ map definition_name es
map_append [] es = refl
map_append (d ∷ ds) es = ap (λ ls. definition_name d ∷ ls) (map_append ds es)

types_by : (fs : List Field) → flat_map (labels_in names.Types) fs ≡ map definition_name (definitions_of fs)
types_by [] = refl
types_by (f ∷ fs) = ap (λ ls. map definition_name (definition_of f) ++ ls) (types_by fs) ∙ sym (map_append (definition_of f) (definitions_of fs))

pub labels_by : (s : NameSpace) (fs : List Field) → flat_map (labels_in s) fs ≡ labels_of s fs
labels_by (names.Items s) fs = names_by s fs
labels_by names.Types fs = types_by fs
labels_by names.Elements fs = refl
labels_by names.Data fs = refl

-- A name map after a loop over all fields, which has come to `i`.
pub all_names : {T E : Type 0} (r : Result T E) (number count index i : ℕ) (old new items : List ℕ) (s : NameSpace) (xs : List declared.Field)
    → flat_map association_bytes (associations 0 (flat_map (labels_in s) (map field_of xs))) ≡ items ++ flat_map association_bytes (associations index (flat_map (labels_in s) (map field_of (drop i xs))))
    → length (associations 0 (flat_map (labels_in s) (map field_of xs))) ≡ count + length (associations index (flat_map (labels_in s) (map field_of (drop i xs))))
    → length xs ≤ i → OnOk r (new ≡ old ++ counted_section number count items) → OnOk r (new ≡ old ++ map_subsection number (labels_of s (map field_of xs)))
all_names (Ok t) number count index i old new items s xs e k l h =
    let names = associations 0 (flat_map (labels_in s) (map field_of xs)) in
    let none : drop i xs ≡ [] = drop_all i xs l in
    let bytes : flat_map association_bytes names ≡ items = e ∙ ap (λ ys. items ++ flat_map association_bytes (associations index (flat_map (labels_in s) (map field_of ys)))) none ∙ append-nil items in
    let counted : length names ≡ count = k ∙ ap (λ ys. count + length (associations index (flat_map (labels_in s) (map field_of ys)))) none ∙ zero_more count in
    h ∙ ap (λ n. old ++ counted_section number n items) (sym counted) ∙ ap (λ b. old ++ counted_section number (length names) b) (sym bytes) ∙ ap (λ b. old ++ b) (section_is number association_bytes names) ∙ ap (λ ls. old ++ map_subsection number ls) (labels_by s (map field_of xs))
all_names (Err f) number count index i old new items s xs e k l h = h

pub empty_map : (n : ℕ) (xs : List declared_association.NameAssociation) → length xs ≡ 0 → indirect_associations n (map association_of xs ∷ []) ≡ []
empty_map n [] e = refl
empty_map n (x ∷ xs) e = absurd (omega (arith, e))

pub full_map : (n : ℕ) (xs : List declared_association.NameAssociation) → 0 < length xs → indirect_associations n (map association_of xs ∷ []) ≡ indirect_association n (map association_of xs) ∷ []
full_map n [] l = absurd (omega (arith, l))
full_map n (x ∷ xs) l = refl

-- An indirect name map with the map of one more function.
pub map_step : (n : ℕ) (m : List NameAssociation) (ms : List (List NameAssociation)) (items new : List ℕ) → new ≡ items ++ flat_map indirect_bytes (indirect_associations n (m ∷ []))
    → items ++ flat_map indirect_bytes (indirect_associations n (m ∷ ms)) ≡ new ++ flat_map indirect_bytes (indirect_associations (suc n) ms)
map_step n [] ms items new e = ap (λ b. b ++ flat_map indirect_bytes (indirect_associations (suc n) ms)) (sym (e ∙ append-nil items))
map_step n (a ∷ names) ms items new e =
    let entry = indirect_bytes (indirect_association n (a ∷ names)) in
    let others = flat_map indirect_bytes (indirect_associations (suc n) ms) in
    sym (ap (λ b. b ++ others) (e ∙ ap (λ b. items ++ b) (append-nil entry)) ∙ append_assoc items entry others)

pub count_step : (n : ℕ) (m : List NameAssociation) (ms : List (List NameAssociation)) (k : ℕ) → k ≡ length (indirect_associations n (m ∷ [])) → length (indirect_associations n (m ∷ ms)) ≡ k + length (indirect_associations (suc n) ms)
count_step n [] ms k e = omega (arith, e)
count_step n (a ∷ names) ms k e = omega (arith, e)

-- An indirect name map after one more field, which is the first of `ys` and has the name maps `ms`.
after_field : (s : FunctionNames) (x : declared.Field) (ys zs : List declared.Field) (ms : List (List NameAssociation)) → ys ≡ x ∷ zs → maps_in s (field_of x) ≡ ms → flat_map (maps_in s) (map field_of ys) ≡ ms ++ flat_map (maps_in s) (map field_of zs)
after_field s x ys zs ms e f = ap (λ y. flat_map (maps_in s) (map field_of y)) e ∙ ap (λ m. m ++ flat_map (maps_in s) (map field_of zs)) f

pub with_function : (s : FunctionNames) (x : declared.Field) (ys zs : List declared.Field) (m : List NameAssociation) (n count more : ℕ) (items new bytes : List ℕ) (len : ℕ) → ys ≡ x ∷ zs → maps_in s (field_of x) ≡ m ∷ []
    → new ≡ items ++ flat_map indirect_bytes (indirect_associations n (m ∷ [])) → more ≡ length (indirect_associations n (m ∷ []))
    → bytes ≡ items ++ flat_map indirect_bytes (indirect_associations n (flat_map (maps_in s) (map field_of ys))) → len ≡ count + length (indirect_associations n (flat_map (maps_in s) (map field_of ys)))
    → (bytes ≡ new ++ flat_map indirect_bytes (indirect_associations (suc n) (flat_map (maps_in s) (map field_of zs)))) × (len ≡ (count + more) + length (indirect_associations (suc n) (flat_map (maps_in s) (map field_of zs))))
with_function s x ys zs m n count more items new bytes len e f g h k l =
    let ms = flat_map (maps_in s) (map field_of zs) in
    let all : flat_map (maps_in s) (map field_of ys) ≡ m ∷ ms = after_field s x ys zs (m ∷ []) e f in
    let step : length (indirect_associations n (m ∷ ms)) ≡ more + length (indirect_associations (suc n) ms) = count_step n m ms more h in
    let total : len ≡ count + length (indirect_associations n (m ∷ ms)) = l ∙ ap (λ y. count + length (indirect_associations n y)) all in
    (k ∙ ap (λ y. items ++ flat_map indirect_bytes (indirect_associations n y)) all ∙ map_step n m ms items new g, omega (arith, step, total))

pub without_function : (s : FunctionNames) (x : declared.Field) (ys zs : List declared.Field) (n count : ℕ) (items bytes : List ℕ) (len : ℕ) → ys ≡ x ∷ zs → maps_in s (field_of x) ≡ []
    → bytes ≡ items ++ flat_map indirect_bytes (indirect_associations n (flat_map (maps_in s) (map field_of ys))) → len ≡ count + length (indirect_associations n (flat_map (maps_in s) (map field_of ys)))
    → (bytes ≡ items ++ flat_map indirect_bytes (indirect_associations n (flat_map (maps_in s) (map field_of zs)))) × (len ≡ count + length (indirect_associations n (flat_map (maps_in s) (map field_of zs))))
without_function s x ys zs n count items bytes len e f k l =
    let all : flat_map (maps_in s) (map field_of ys) ≡ flat_map (maps_in s) (map field_of zs) = after_field s x ys zs [] e f in
    (k ∙ ap (λ y. items ++ flat_map indirect_bytes (indirect_associations n y)) all, l ∙ ap (λ y. count + length (indirect_associations n y)) all)

-- An indirect name map after a loop over all fields, which has come to `i`.
pub all_maps : {T E : Type 0} (r : Result T E) (number count index i : ℕ) (old new items : List ℕ) (s : FunctionNames) (xs : List declared.Field)
    → flat_map indirect_bytes (indirect_associations 0 (flat_map (maps_in s) (map field_of xs))) ≡ items ++ flat_map indirect_bytes (indirect_associations index (flat_map (maps_in s) (map field_of (drop i xs))))
    → length (indirect_associations 0 (flat_map (maps_in s) (map field_of xs))) ≡ count + length (indirect_associations index (flat_map (maps_in s) (map field_of (drop i xs))))
    → length xs ≤ i → OnOk r (new ≡ old ++ counted_section number count items) → OnOk r (new ≡ old ++ indirect_subsection number (flat_map (maps_in s) (map field_of xs)))
all_maps (Ok t) number count index i old new items s xs e k l h =
    let maps = indirect_associations 0 (flat_map (maps_in s) (map field_of xs)) in
    let none : drop i xs ≡ [] = drop_all i xs l in
    let bytes : flat_map indirect_bytes maps ≡ items = e ∙ ap (λ ys. items ++ flat_map indirect_bytes (indirect_associations index (flat_map (maps_in s) (map field_of ys)))) none ∙ append-nil items in
    let counted : length maps ≡ count = k ∙ ap (λ ys. count + length (indirect_associations index (flat_map (maps_in s) (map field_of ys)))) none ∙ zero_more count in
    h ∙ ap (λ n. old ++ counted_section number n items) (sym counted) ∙ ap (λ b. old ++ counted_section number (length maps) b) (sym bytes) ∙ ap (λ b. old ++ b) (section_is number indirect_bytes maps)
all_maps (Err f) number count index i old new items s xs e k l h = h
