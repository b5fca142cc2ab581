-- The number of functions that fields define.
use Rattle.std.proofs.Common.{◌≡◌, ◌<◌, ◌++◌, ◌+◌, ◌∙◌, ℕ, Bool, true, false, List, [], ◌∷◌, length, get_or, refl, sym, ap, arith, map, take, zero-add}
use Rattle.std.specs.Prelude.{if◌then◌else◌}
use Rattle.std.proofs.lemmas.List.{map-append, take-map, take_more}
use Rattle.std.proofs.lemmas.Grind.{flat_map-append}
use Rattle.wat_module_ast.specs.Views.{field_of}
use Rattle.wat_module_ast.specs.Fields.{Binding, Field, binding_of, bindings_of, is_space, names_in}
use Rattle.wat_module_ast.specs.declared.fields.Field as declared
use Rattle.wat_module_ast.specs.declared.fields.IndexSpace.{IndexSpace}
use Rattle.wat_module_ast.specs.declared.fields.IndexSpace.TheVariants as space
use Rattle.wat_valid.specs.Modules.{function_count}

names_more : (s : IndexSpace) (hs ks : List Binding) → length (names_in s (hs ++ ks)) ≡ length (names_in s hs) + length (names_in s ks)
names_more s [] ks = sym (zero-add (length (names_in s ks)))
names_more s (h ∷ hs) ks = by (is_space s h.space) (names_more s hs ks)
  where
    by : (b : Bool) → length (names_in s (hs ++ ks)) ≡ length (names_in s hs) + length (names_in s ks) → length (if b then h.name ∷ names_in s (hs ++ ks) else names_in s (hs ++ ks)) ≡ length (if b then h.name ∷ names_in s hs else names_in s hs) + length (names_in s ks)
    by true e = omega (arith, e)
    by false e = e

count_joined : (fs gs : List Field) → function_count (fs ++ gs) ≡ function_count fs + function_count gs
count_joined fs gs = ap (λ hs. length (names_in space.Func hs)) (flat_map-append binding_of fs gs) ∙ names_more space.Func (bindings_of fs) (bindings_of gs)

taken_more : (fields : List declared.Field) (f d : declared.Field) (i : ℕ) → i < length fields → f ≡ get_or fields i d → map field_of (take (i + 1) fields) ≡ map field_of (take i fields) ++ field_of f ∷ []
taken_more fields f d i l e = ap (λ xs. map field_of xs) (take_more fields i d l) ∙ map-append field_of (take i fields) (get_or fields i d ∷ []) ∙ ap (λ x. map field_of (take i fields) ++ field_of x ∷ []) (sym e)

-- The count of functions, one field on.
pub function_counted : (fields : List declared.Field) (f d : declared.Field) (i n m : ℕ) → i < length fields → f ≡ get_or fields i d → n ≡ function_count (map field_of (take i fields)) → m ≡ n + function_count (field_of f ∷ []) → m ≡ function_count (map field_of (take (i + 1) fields))
function_counted fields f d i n m l e h k =
    let more = ap (λ fs. function_count fs) (taken_more fields f d i l e) ∙ count_joined (map field_of (take i fields)) (field_of f ∷ []) in
    omega (arith, more, h, k)

-- The count of the functions before a field.
pub counted_before : (fields before : List declared.Field) (k n : ℕ) → n ≡ function_count (map field_of before) → before ≡ take k fields → n ≡ function_count (take k (map field_of fields))
counted_before fields before k n h e = h ∙ ap (λ fs. function_count (map field_of fs)) e ∙ ap (λ fs. function_count fs) (sym (take-map field_of k fields))
