-- The exports that the code counts are those of the definition.
use Rattle.std.proofs.Common.{◌≡◌, ◌∙◌, ℕ, suc, List, [], ◌∷◌, ◌++◌, ◌≤◌, drop, Bool, true, false, Option, Some, None, append_assoc, length, map, refl, sym, ap, append-nil}
use Rattle.std.specs.Prelude.{if◌then◌else◌}
use Rattle.std.proofs.lemmas.Grind.{flat_map-append}
use Rattle.std.proofs.lemmas.List.{drop_all}
use Rattle.wat_module_tokens.specs.Terminals.{Label}
use Rattle.wat_module_ast.specs.declared.fields.IndexSpace.{IndexSpace}
use Rattle.wat_module_ast.specs.declared.fields.IndexSpace.TheVariants as space
use Rattle.wat_module_encoder.specs.Binary.{ElementSegment, before_some, elements_after, elements_of, field_elements, DataSegment, data_after, data_of, field_data, Export, export, exports_after, exports_of, field_exports, next_index}
use Rattle.wat_module_ast.specs.Fields.{Field, Func, Table, Memory, Global, Start, Binding, binding_of, bindings_of, is_space, names_in}
use Rattle.wat_module_ast.specs.Fields as field
use Rattle.wat_module_ast.specs.declared.fields.Field as declared
use Rattle.wat_module_ast.specs.Views.{field_of}
use Rattle.wat_module_encoder.specs.Views.{Counts, count, counted, more, counts_after, data_by, data_from, elements_by, elements_from, put_before, exports_by, exports_from}

abbrev pub none : Counts
none = record { funcs = 0; tables = 0; memories = 0; globals = 0 }

more_names : (s : IndexSpace) (hs : List Binding) (h : Binding) → length (names_in s (hs ++ h ∷ [])) ≡ (if is_space s h.space then suc (length (names_in s hs)) else length (names_in s hs))
more_names s [] h = by (is_space s h.space)
  where
    by : (b : Bool) → length (if b then h.name ∷ [] else []) ≡ (if b then 1 else 0)
    by true = refl
    by false = refl
more_names s (k ∷ hs) h = by (is_space s k.space) (is_space s h.space) (more_names s hs h)
  where
    by : (a b : Bool) → length (names_in s (hs ++ h ∷ [])) ≡ (if b then suc (length (names_in s hs)) else length (names_in s hs))
        → length (if a then k.name ∷ names_in s (hs ++ h ∷ []) else names_in s (hs ++ h ∷ [])) ≡ (if b then suc (length (if a then k.name ∷ names_in s hs else names_in s hs)) else length (if a then k.name ∷ names_in s hs else names_in s hs))
    by true true e = ap suc e
    by true false e = ap suc e
    by false true e = e
    by false false e = e

more_heads : (fs : List Field) (f : Field) → bindings_of (fs ++ f ∷ []) ≡ bindings_of fs ++ bindings_of (f ∷ [])
more_heads fs f = flat_map-append binding_of fs (f ∷ [])

-- one item more
one_more : (s : IndexSpace) (fs : List Field) (f : Field) (h : Binding) → bindings_of (f ∷ []) ≡ h ∷ [] → next_index s (fs ++ f ∷ []) ≡ (if is_space s h.space then suc (next_index s fs) else next_index s fs)
one_more s fs f h e = ap (λ hs. length (names_in s hs)) (more_heads fs f ∙ ap (λ x. bindings_of fs ++ x) e) ∙ more_names s (bindings_of fs) h

no_more : (s : IndexSpace) (fs : List Field) (f : Field) → bindings_of (f ∷ []) ≡ [] → next_index s (fs ++ f ∷ []) ≡ next_index s fs
no_more s fs f e = ap (λ hs. length (names_in s hs)) (more_heads fs f ∙ ap (λ x. bindings_of fs ++ x) e ∙ append-nil (bindings_of fs))

abbrev counts : ℕ → ℕ → ℕ → ℕ → Counts
counts a b c d = record { funcs = a; tables = b; memories = c; globals = d }

counts_by : (a b c d w x y z : ℕ) → a ≡ w → b ≡ x → c ≡ y → d ≡ z → counts a b c d ≡ counts w x y z
counts_by a b c d w x y z e f g h = ap (λ k. counts k b c d) e ∙ ap (λ k. counts w k c d) f ∙ ap (λ k. counts w x k d) g ∙ ap (λ k. counts w x y k) h

by_binding : (fs : List Field) (f : Field) (s : IndexSpace) (l : Label) → bindings_of (f ∷ []) ≡ field.binding s l ∷ [] → counts_after (fs ++ f ∷ []) ≡ more s (counts_after fs)
by_binding fs f space.Func l e = counts_by _ _ _ _ _ _ _ _ (one_more space.Func fs f (field.binding space.Func l) e) (one_more space.Table fs f (field.binding space.Func l) e) (one_more space.Mem fs f (field.binding space.Func l) e) (one_more space.Global fs f (field.binding space.Func l) e)
by_binding fs f space.Table l e = counts_by _ _ _ _ _ _ _ _ (one_more space.Func fs f (field.binding space.Table l) e) (one_more space.Table fs f (field.binding space.Table l) e) (one_more space.Mem fs f (field.binding space.Table l) e) (one_more space.Global fs f (field.binding space.Table l) e)
by_binding fs f space.Mem l e = counts_by _ _ _ _ _ _ _ _ (one_more space.Func fs f (field.binding space.Mem l) e) (one_more space.Table fs f (field.binding space.Mem l) e) (one_more space.Mem fs f (field.binding space.Mem l) e) (one_more space.Global fs f (field.binding space.Mem l) e)
by_binding fs f space.Global l e = counts_by _ _ _ _ _ _ _ _ (one_more space.Func fs f (field.binding space.Global l) e) (one_more space.Table fs f (field.binding space.Global l) e) (one_more space.Mem fs f (field.binding space.Global l) e) (one_more space.Global fs f (field.binding space.Global l) e)

by_nothing : (fs : List Field) (f : Field) → bindings_of (f ∷ []) ≡ [] → counts_after (fs ++ f ∷ []) ≡ counts_after fs
by_nothing fs f e = counts_by _ _ _ _ _ _ _ _ (no_more space.Func fs f e) (no_more space.Table fs f e) (no_more space.Mem fs f e) (no_more space.Global fs f e)

counts_more : (fs : List Field) (f : Field) → counts_after (fs ++ f ∷ []) ≡ counted f (counts_after fs)
counts_more fs (Func f) = by_binding fs (Func f) space.Func f.name refl
counts_more fs (Table l ns t es) = by_binding fs (Table l ns t es) space.Table l refl
counts_more fs (Memory l ns t bytes) = by_binding fs (Memory l ns t bytes) space.Mem l refl
counts_more fs (Global l ns t is) = by_binding fs (Global l ns t is) space.Global l refl
counts_more fs (field.Import m n l ns t) = by_binding fs (field.Import m n l ns t) (field.extern_space t) l refl
counts_more fs (field.TypeField l t) = by_nothing fs (field.TypeField l t) refl
counts_more fs (field.Export n s i) = by_nothing fs (field.Export n s i) refl
counts_more fs (Start i) = by_nothing fs (Start i) refl
counts_more fs (field.Data l t bytes) = by_nothing fs (field.Data l t bytes) refl
counts_more fs (field.Elem l m t es) = by_nothing fs (field.Elem l m t es) refl

count_is : (s : IndexSpace) (fs : List Field) → next_index s fs ≡ count s (counts_after fs)
count_is space.Func fs = refl
count_is space.Table fs = refl
count_is space.Mem fs = refl
count_is space.Global fs = refl

same_exports : (before : List Field) (f : Field) → field_exports before f ≡ exports_by (counts_after before) f
same_exports before (Func f) = refl
same_exports before (Table l ns t es) = refl
same_exports before (Memory l ns t bytes) = refl
same_exports before (Global l ns t is) = refl
same_exports before (field.Import m n l ns t) = ap (λ k. map (export (field.extern_space t) k) ns) (count_is (field.extern_space t) before)
same_exports before (field.TypeField l t) = refl
same_exports before (field.Export n s i) = refl
same_exports before (Start i) = refl
same_exports before (field.Data l t bytes) = refl
same_exports before (field.Elem l m t es) = refl

after_is_from : (before fs : List Field) → exports_after before fs ≡ exports_from (counts_after before) fs
after_is_from before [] = refl
after_is_from before (f ∷ fs) = ap (λ x. x ++ exports_after (before ++ f ∷ []) fs) (same_exports before f) ∙ ap (λ x. exports_by (counts_after before) f ++ x) (after_is_from (before ++ f ∷ []) fs ∙ ap (λ c. exports_from c fs) (counts_more before f))

-- the exports by their counts
pub exports_are : (fs : List Field) → exports_from none fs ≡ exports_of fs
unfolding exports_of
exports_are fs = sym (after_is_from [] fs)

-- when all are counted
pub all_exports : (xs : List declared.Field) (es : List Export) (c : Counts) (i : ℕ) → exports_from none (map field_of xs) ≡ es ++ exports_from c (map field_of (drop i xs)) → length xs ≤ i → es ≡ exports_of (map field_of xs)
all_exports xs es c i h k = sym (h ∙ ap (λ ys. es ++ exports_from c (map field_of ys)) (drop_all i xs k) ∙ append-nil es) ∙ exports_are (map field_of xs)

-- Data segments.

same_data : (before : List Field) (f : Field) → field_data before f ≡ data_by (counts_after before) f
same_data before (Func f) = refl
same_data before (Table l ns t es) = refl
same_data before (Memory l ns t (Some bytes)) = refl
same_data before (Memory l ns t None) = refl
same_data before (Global l ns t is) = refl
same_data before (field.Import m n l ns t) = refl
same_data before (field.TypeField l t) = refl
same_data before (field.Export n s i) = refl
same_data before (Start i) = refl
same_data before (field.Data l t bytes) = refl
same_data before (field.Elem l m t es) = refl

data_after_is_from : (before fs : List Field) → data_after before fs ≡ data_from (counts_after before) fs
data_after_is_from before [] = refl
data_after_is_from before (f ∷ fs) = ap (λ x. x ++ data_after (before ++ f ∷ []) fs) (same_data before f) ∙ ap (λ x. data_by (counts_after before) f ++ x) (data_after_is_from (before ++ f ∷ []) fs ∙ ap (λ c. data_from c fs) (counts_more before f))

pub data_are : (fs : List Field) → data_from none fs ≡ data_of fs
unfolding data_of
data_are fs = sym (data_after_is_from [] fs)

pub all_data : (xs : List declared.Field) (es : List DataSegment) (c : Counts) (i : ℕ) → data_from none (map field_of xs) ≡ es ++ data_from c (map field_of (drop i xs)) → length xs ≤ i → es ≡ data_of (map field_of xs)
all_data xs es c i h k = sym (h ∙ ap (λ ys. es ++ data_from c (map field_of ys)) (drop_all i xs k) ∙ append-nil es) ∙ data_are (map field_of xs)

-- Element segments.

same_elements : (before : List Field) (f : Field) → field_elements before f ≡ elements_by (counts_after before) f
same_elements before (Func f) = refl
same_elements before (Table l ns t (Some es)) = refl
same_elements before (Table l ns t None) = refl
same_elements before (Memory l ns t bytes) = refl
same_elements before (Global l ns t is) = refl
same_elements before (field.Import m n l ns t) = refl
same_elements before (field.TypeField l t) = refl
same_elements before (field.Export n s i) = refl
same_elements before (Start i) = refl
same_elements before (field.Data l t bytes) = refl
same_elements before (field.Elem l m t es) = refl

elements_after_is_from : (before fs : List Field) → elements_after before fs ≡ elements_from (counts_after before) fs
elements_after_is_from before [] = refl
elements_after_is_from before (f ∷ fs) = ap (λ x. x ++ elements_after (before ++ f ∷ []) fs) (same_elements before f) ∙ ap (λ x. elements_by (counts_after before) f ++ x) (elements_after_is_from (before ++ f ∷ []) fs ∙ ap (λ c. elements_from c fs) (counts_more before f))

pub elements_are : (fs : List Field) → elements_from none fs ≡ elements_of fs
unfolding elements_of
elements_are fs = sym (elements_after_is_from [] fs)

pub all_elements : (xs : List declared.Field) (es : List ElementSegment) (c : Counts) (i : ℕ) → elements_from none (map field_of xs) ≡ es ++ elements_from c (map field_of (drop i xs)) → length xs ≤ i → es ≡ elements_of (map field_of xs)
all_elements xs es c i h k = sym (h ∙ ap (λ ys. es ++ elements_from c (map field_of ys)) (drop_all i xs k) ∙ append-nil es) ∙ elements_are (map field_of xs)

-- one function more
pub more_functions : (xs : List ℕ) (x : ℕ) (q : Option (List ℕ)) → put_before xs (before_some (Some x) q) ≡ put_before (xs ++ x ∷ []) q
more_functions xs x (Some ys) = ap (λ z. Some z) (sym (append_assoc xs (x ∷ []) ys))
more_functions xs x None = refl

pub no_function : (xs : List ℕ) (q : Option (List ℕ)) → put_before xs (before_some None q) ≡ None
no_function xs (Some ys) = refl
no_function xs None = refl
