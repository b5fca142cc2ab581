-- One field on, in a loop that appends what each field has.
use Rattle.std.proofs.Common.{◌≡◌, ◌<◌, ◌≤◌, ◌+◌, ◌∙◌, ℕ, List, ◌++◌, Some, None, length, map, drop, get_or, sym, ap, append_assoc, arith}
use Rattle.std.specs.List.{flat_map}
use Rattle.std.proofs.lemmas.List.{drop_more, length-append}
use Rattle.wat_module_ast.specs.declared.fields.Field as declared
use Rattle.wat_module_ast.specs.Fields.{Field, TypeField, Func, Table, Memory, Global, Start, data_of}
use Rattle.wat_module_ast.specs.Fields as field
use Rattle.wat_module_ast.specs.Views.{field_of}

pub field_more : {A : Type 0} (g : Field → List A) (fields : List declared.Field) (f d : declared.Field) (i : ℕ) (all before after : List A) → all ≡ before ++ flat_map g (map field_of (drop i fields)) → i < length fields → f ≡ get_or fields i d → after ≡ before ++ g (field_of f) → all ≡ after ++ flat_map g (map field_of (drop (i + 1) fields))
field_more g fields f d i all before after h l e k =
    let rest = flat_map g (map field_of (drop (i + 1) fields)) in
    h ∙ ap (λ xs. before ++ flat_map g (map field_of xs)) (drop_more fields i d l) ∙ ap (λ x. before ++ (g (field_of x) ++ rest)) (sym e) ∙ sym (append_assoc before (g (field_of f)) rest) ∙ ap (λ x. x ++ rest) (sym k)

pub count_more : {A : Type 0} (g : Field → List A) (fields : List declared.Field) (f d : declared.Field) (i : ℕ) (all before after : ℕ) → all ≡ before + length (flat_map g (map field_of (drop i fields))) → i < length fields → f ≡ get_or fields i d → after ≡ before + length (g (field_of f)) → all ≡ after + length (flat_map g (map field_of (drop (i + 1) fields)))
count_more g fields f d i all before after h l e k =
    let rest = flat_map g (map field_of (drop (i + 1) fields)) in
    let more = h ∙ ap (λ xs. before + length (flat_map g (map field_of xs))) (drop_more fields i d l) ∙ ap (λ x. before + length (g (field_of x) ++ rest)) (sym e) in
    let sum = length-append (g (field_of f)) rest in
    omega (arith, more, sum, k)

pub one_data : (f : Field) → length (data_of f) ≤ 1
one_data (TypeField l t) = omega arith
one_data (field.Import m n l ns t) = omega arith
one_data (Func f) = omega arith
one_data (Table l ns t es) = omega arith
one_data (Memory l ns t None) = omega arith
one_data (Memory l ns t (Some bytes)) = omega arith
one_data (Global l ns t is) = omega arith
one_data (field.Export n s i) = omega arith
one_data (Start i) = omega arith
one_data (field.Data l t bytes) = omega arith
one_data (field.Elem l m t es) = omega arith
