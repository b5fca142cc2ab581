-- The search for a field with a property.
use Rattle.std.proofs.Common.{◌≡◌, ◌∙◌, ◌+◌, ◌<◌, ◌≤◌, ℕ, suc, Bool, true, false, List, [], ◌∷◌, Option, Some, None, length, map, drop, get_or, sym, ap, refl, arith}
use Rattle.std.specs.Prelude.{if◌then◌else◌}
use Rattle.std.proofs.lemmas.List.{drop-map, drop_more}
use Rattle.wat_module_ast.specs.Fields.{Field}
use Rattle.wat_module_ast.specs.Views.{field_of}
use Rattle.wat_module_ast.specs.declared.fields.Field as declared
use Rattle.wat_module_parser.specs.Places.{index_by}

at_field : (p : Field → Bool) (fields : List declared.Field) (i : ℕ) (d : declared.Field) → i < length fields
    → index_by p i (drop i (map field_of fields)) ≡ (if p (field_of (get_or fields i d)) then Some i else index_by p (suc i) (map field_of (drop (i + 1) fields)))
at_field p fields i d h = ap (index_by p i) (drop-map field_of i fields ∙ ap (map field_of) (drop_more fields i d h))

by_field : (p : Field → Bool) (fields : List declared.Field) (i : ℕ) (d : declared.Field) (b : Bool) → i < length fields → p (field_of (get_or fields i d)) ≡ b
    → index_by p i (drop i (map field_of fields)) ≡ (if b then Some i else index_by p (suc i) (map field_of (drop (i + 1) fields)))
by_field p fields i d b h e = at_field p fields i d h ∙ ap (λ (b : Bool). if b then Some i else index_by p (suc i) (map field_of (drop (i + 1) fields))) e

pub found : (p : Field → Bool) (fields : List declared.Field) (i : ℕ) (d : declared.Field) (all : Option ℕ) → i < length fields → all ≡ index_by p i (drop i (map field_of fields)) → p (field_of (get_or fields i d)) ≡ true → all ≡ Some i
found p fields i d all h was e = was ∙ by_field p fields i d true h e

pub further : (p : Field → Bool) (fields : List declared.Field) (i : ℕ) (d : declared.Field) (all : Option ℕ) → i < length fields → all ≡ index_by p i (drop i (map field_of fields)) → p (field_of (get_or fields i d)) ≡ false → all ≡ index_by p (i + 1) (drop (i + 1) (map field_of fields))
further p fields i d all h was e =
    let next : suc i ≡ i + 1 = omega arith in
    was ∙ by_field p fields i d false h e ∙ ap (index_by p (suc i)) (sym (drop-map field_of (i + 1) fields)) ∙ ap (λ n. index_by p n (drop (i + 1) (map field_of fields))) next
