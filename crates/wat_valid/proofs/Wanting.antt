-- What `br_table` takes.
use Rattle.std.proofs.Common.{◌≡◌, ◌∙◌, ℕ, Bool, List, [], ◌∷◌, Option, Some, None, refl, ap}
use Rattle.std.specs.List.{list_all}
use Rattle.std.specs.Option.{option_map}
use Rattle.std.specs.Prelude.{◌&&◌, if◌then◌else◌, is_some, slice_get}
use Rattle.wat_module_ast.specs.Branches.{Branches}
use Rattle.wat_module_ast.specs.declared.instruction.ValueType.{ValueType}
use Rattle.wat_valid.specs.Algorithm.{cons_label, labels_at, table_effect}
use Rattle.wat_valid.specs.Contexts.{Labels}
use Rattle.wat_valid.specs.Wants.{LabelTypes, has_label, wants_of}

both_exist : (r : Option (List ValueType)) (rs : Option (List (List ValueType))) (b : Bool) → is_some rs ≡ b → is_some (cons_label r rs) ≡ is_some r && b
both_exist (Some r) (Some rs) b e = e
both_exist (Some r) None b e = e
both_exist None rs b e = refl

all_exist : (labels : Labels) (ls : List ℕ) → is_some (labels_at labels ls) ≡ list_all (has_label labels) ls
all_exist labels [] = refl
all_exist labels (l ∷ ls) = both_exist (slice_get labels l) (labels_at labels ls) (list_all (has_label labels) ls) (all_exist labels ls)

if_exist : (rs : Option (List (List ValueType))) (r : Option (List ValueType)) → option_map wants_of (table_effect rs r) ≡ (if is_some rs && is_some r then Some LabelTypes else None)
if_exist (Some rs) (Some r) = refl
if_exist (Some rs) None = refl
if_exist None r = refl

pub table_wants : (labels : Labels) (b : Branches) → option_map wants_of (table_effect (labels_at labels b.labels) (slice_get labels b.default)) ≡ (if list_all (has_label labels) b.labels && has_label labels b.default then Some LabelTypes else None)
table_wants labels b = if_exist (labels_at labels b.labels) (slice_get labels b.default) ∙ ap (λ (x : Bool). if x && has_label labels b.default then Some LabelTypes else None) (all_exist labels b.labels)
