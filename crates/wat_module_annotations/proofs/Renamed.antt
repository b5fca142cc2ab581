-- Name maps with the names of annotations, and lists of renamed fields, one element at a time.
use Rattle.std.proofs.Common.{◌≡◌, ◌∙◌, ◌+◌, arith, ℕ, suc, zero, List, [], ◌∷◌, ◌++◌, refl, sym, ap, append_assoc, append-nil}
use Rattle.std.specs.Prelude.{drop, slice_get}
use Rattle.wat_module_tokens.specs.Terminals.{Label}
use Rattle.wat_module_ast.specs.Fields.{Field}
use Rattle.wat_module_ast.specs.Names.{NameAssociation}
use Rattle.wat_module_ast.specs.Types.{FunctionType}
use Rattle.wat_module_annotations.specs.Names.{FieldNames}
use Rattle.wat_module_annotations.specs.Renaming.{entry, here, later, renamed_by, renamed_with, with_names}

-- The invariant of a name map after one more name.
pub one_name : (whole done : List NameAssociation) (n : ℕ) (names : List Label) (l : Label) (ls : List Label) (old : List NameAssociation) → whole ≡ done ++ with_names n names old → names ≡ l ∷ ls → whole ≡ (done ++ entry n l (here n old)) ++ with_names (suc n) ls (later n old)
unfolding with_names
one_name whole done n names l ls old h e = h ∙ ap (λ x. done ++ with_names n x old) e ∙ sym (append_assoc done (entry n l (here n old)) (with_names (suc n) ls (later n old)))

pub no_name : (whole done : List NameAssociation) (n : ℕ) (names : List Label) (old : List NameAssociation) → whole ≡ done ++ with_names n names old → names ≡ [] → whole ≡ done ++ old
unfolding with_names
no_name whole done n names old h e = h ∙ ap (λ x. done ++ with_names n x old) e

pub no_field : (whole done : List Field) (types : List FunctionType) (names : List FieldNames) (gs : List Field) → whole ≡ done ++ renamed_by types names gs → gs ≡ [] → whole ≡ done
no_field whole done types names gs h e = h ∙ ap (λ x. done ++ renamed_by types names x) e ∙ ap (λ x. done ++ x) (none names) ∙ append-nil done
  where
    none : (names : List FieldNames) → renamed_by types names [] ≡ []
    none [] = refl
    none (ns ∷ names) = refl

-- One more field: the names at an index are its own.
renamed_none : (types : List FunctionType) (i : ℕ) (f : Field) (fs : List Field) → renamed_by types (drop i []) (f ∷ fs) ≡ renamed_with types (slice_get [] i) f ∷ renamed_by types (drop (suc i) []) fs
renamed_none types zero f fs = refl
renamed_none types (suc i) f fs = refl

pub renamed_one : (types : List FunctionType) (names : List FieldNames) (i : ℕ) (f : Field) (fs : List Field) → renamed_by types (drop i names) (f ∷ fs) ≡ renamed_with types (slice_get names i) f ∷ renamed_by types (drop (suc i) names) fs
renamed_one types [] i f fs = renamed_none types i f fs
renamed_one types (ns ∷ names) zero f fs = refl
renamed_one types (ns ∷ names) (suc i) f fs = renamed_one types names i f fs

pub one_field : (whole done : List Field) (types : List FunctionType) (names : List FieldNames) (i : ℕ) (f : Field) (fs gs : List Field) → whole ≡ done ++ renamed_by types (drop i names) gs → gs ≡ f ∷ fs → whole ≡ (done ++ (renamed_with types (slice_get names i) f ∷ [])) ++ renamed_by types (drop (i + 1) names) fs
one_field whole done types names i f fs gs h e =
    let next : suc i ≡ i + 1 = omega arith in
    h ∙ ap (λ x. done ++ renamed_by types (drop i names) x) e ∙ ap (λ x. done ++ x) (renamed_one types names i f fs) ∙ sym (append_assoc done (renamed_with types (slice_get names i) f ∷ []) (renamed_by types (drop (suc i) names) fs)) ∙ ap (λ n. (done ++ (renamed_with types (slice_get names i) f ∷ [])) ++ renamed_by types (drop n names) fs) next
