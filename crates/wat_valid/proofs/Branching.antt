-- Operands below an `i32`, and the labels of `br_table`.
use Rattle.std.proofs.Common.{◌≡◌, ℕ, Bool, true, false, List, [], ◌∷◌, ◌++◌, length, Option, Some, None, refl, sym, ◌∙◌, ap}
use Rattle.std.proofs.lemmas.Bool.Decides.{Decides-eqb}
use Rattle.std.specs.Prelude.{◌&&◌, if◌then◌else◌, is_some, slice_get}
use Rattle.std.specs.List.{list_all}
use Rattle.wat_module_ast.specs.declared.instruction.ValueType.{ValueType}
use Rattle.wat_module_ast.specs.declared.instruction.ValueType.TheVariants as value
use Rattle.wat_module_ast.specs.Branches.{Branches}
use Rattle.wat_valid.specs.declared.operands.OperandType.{OperandType}
use Rattle.wat_valid.specs.declared.operands.Operands as declared_operands
use Rattle.wat_valid.specs.Algorithm.{Operands, and_pop, cons_label, effect_on, fits_label, labels_at, leave_table, operands, pop_value, pop_values, push, table_effect}
use Rattle.wat_valid.specs.Contexts.{Labels}
use Rattle.wat_valid.specs.Views.{fits_at, fits_types}

abbrev pop_then : Bool → List ValueType → Option (List OperandType) → Option (List OperandType)
pop_then u ps None = None
pop_then u ps (Some ts) = pop_values u ts ps

none_first : (u : Bool) (o : Option (List OperandType)) → o ≡ pop_then u [] o
none_first u None = refl
none_first u (Some ts) = refl

one_first : (u : Bool) (q : ValueType) (ps : List ValueType) (o : Option (List OperandType)) → and_pop u q (pop_then u ps o) ≡ pop_then u (q ∷ ps) o
one_first u q ps None = refl
one_first u q ps (Some ts) = refl

last_popped : (u : Bool) (ts : List OperandType) (ps : List ValueType) (p : ValueType) → pop_values u ts (ps ++ p ∷ []) ≡ pop_then u ps (pop_value u ts p)
last_popped u ts [] p = none_first u (pop_value u ts p)
last_popped u ts (q ∷ ps) p = ap (and_pop u q) (last_popped u ts ps p) ∙ one_first u q ps (pop_value u ts p)

pub no_number : (u : Bool) (ts : List OperandType) (ps : List ValueType) (rs : List OperandType) → pop_value u ts value.I32 ≡ None → push u rs (pop_values u ts (ps ++ value.I32 ∷ [])) ≡ None
no_number u ts ps rs e = ap (push u rs) (last_popped u ts ps value.I32 ∙ ap (pop_then u ps) e)

pub below_number : (u v : Bool) (ts us : List OperandType) (ps : List ValueType) (rs : List OperandType) → v ≡ u → pop_value u ts value.I32 ≡ Some us → push u rs (pop_values u ts (ps ++ value.I32 ∷ [])) ≡ push v rs (pop_values v us ps)
below_number u v ts us ps rs same e =
    ap (push u rs) (last_popped u ts ps value.I32 ∙ ap (pop_then u ps) e) ∙ ap (λ (w : Bool). push w rs (pop_values w us ps)) (sym same)

pub pop_none : (u : Bool) (ts : List OperandType) (ps : List ValueType) → pop_value u ts value.I32 ≡ None → pop_values u ts (ps ++ value.I32 ∷ []) ≡ None
pop_none u ts ps e = last_popped u ts ps value.I32 ∙ ap (pop_then u ps) e

pub pop_rest : (u v : Bool) (ts us : List OperandType) (ps : List ValueType) → v ≡ u → pop_value u ts value.I32 ≡ Some us → pop_values u ts (ps ++ value.I32 ∷ []) ≡ pop_values v us ps
pop_rest u v ts us ps same e = last_popped u ts ps value.I32 ∙ (ap (pop_then u ps) e ∙ ap (λ (w : Bool). pop_values w us ps) (sym same))

-- the labels of a table

abbrev all_of : declared_operands.Operands → List ValueType → Option (List (List ValueType)) → Bool
all_of o default None = false
all_of o default (Some rs) = list_all (fits_label o.is_unreachable o.types.items default) rs

nothing_fits : (b : Bool) → false ≡ b && false
nothing_fits true = refl
nothing_fits false = refl

labels_fit : (labels : Labels) (o : declared_operands.Operands) (default : List ValueType) (ls : List ℕ) → all_of o default (labels_at labels ls) ≡ list_all (fits_at labels o default) ls
labels_fit labels o default [] = refl
labels_fit labels o default (l ∷ ls) = by (slice_get labels l) (labels_at labels ls) (labels_fit labels o default ls)
  where
    by : (r : Option (List ValueType)) (rs : Option (List (List ValueType))) → all_of o default rs ≡ list_all (fits_at labels o default) ls → all_of o default (cons_label r rs) ≡ fits_types o default r && list_all (fits_at labels o default) ls
    by None rs e = refl
    by (Some r) None e = nothing_fits (fits_types o default (Some r)) ∙ ap (λ (b : Bool). fits_types o default (Some r) && b) e
    by (Some r) (Some rs) e = ap (λ (b : Bool). fits_types o default (Some r) && b) e

abbrev after : Bool → Option Operands
after b = if b then Some (operands true []) else None

by_table : (u : Bool) (ts : List OperandType) (o : declared_operands.Operands) (default : List ValueType) (m : Option (List (List ValueType))) → o.is_unreachable ≡ u → pop_value u ts value.I32 ≡ Some o.types.items
    → effect_on (table_effect m (Some default)) (operands u ts) ≡ after (all_of o default m && fits_label o.is_unreachable o.types.items default default)
by_table u ts o default None same e = refl
by_table u ts o default (Some rs) same e =
    ap (leave_table u rs default) e ∙ ap (λ (v : Bool). after (list_all (fits_label v o.types.items default) rs && fits_label v o.types.items default default)) (sym same)

own_default : (o : declared_operands.Operands) (default : List ValueType) → fits_label o.is_unreachable o.types.items default default ≡ is_some (pop_values o.is_unreachable o.types.items default)
own_default o default = ap (λ (b : Bool). b && is_some (pop_values o.is_unreachable o.types.items default)) ((Decides-eqb (length default) (length default)).1 refl)

pub table_applied : (labels : Labels) (u : Bool) (ts : List OperandType) (o : declared_operands.Operands) (b : Branches) (default : List ValueType) (some one : Bool) → slice_get labels b.default ≡ Some default → o.is_unreachable ≡ u → pop_value u ts value.I32 ≡ Some o.types.items
    → some ≡ list_all (fits_at labels o default) b.labels → one ≡ is_some (pop_values o.is_unreachable o.types.items default)
    → effect_on (table_effect (labels_at labels b.labels) (slice_get labels b.default)) (operands u ts) ≡ after (some && one)
table_applied labels u ts o b default some one d same e all last =
    ap (λ (r : Option (List ValueType)). effect_on (table_effect (labels_at labels b.labels) r) (operands u ts)) d ∙
    (by_table u ts o default (labels_at labels b.labels) same e ∙
    (ap (λ (c : Bool). after (c && fits_label o.is_unreachable o.types.items default default)) (labels_fit labels o default b.labels ∙ sym all) ∙
    ap (λ (c : Bool). after (some && c)) (own_default o default ∙ sym last)))

pub no_labels : (labels : Labels) (u : Bool) (ts : List OperandType) (o : declared_operands.Operands) (b : Branches) (default : List ValueType) → slice_get labels b.default ≡ Some default → o.is_unreachable ≡ u → pop_value u ts value.I32 ≡ Some o.types.items
    → false ≡ list_all (fits_at labels o default) b.labels
    → effect_on (table_effect (labels_at labels b.labels) (slice_get labels b.default)) (operands u ts) ≡ None
no_labels labels u ts o b default d same e all = table_applied labels u ts o b default false (is_some (pop_values o.is_unreachable o.types.items default)) d same e all refl

pub no_index : (u : Bool) (ts : List OperandType) (m : Option (List (List ValueType))) (d : Option (List ValueType)) → pop_value u ts value.I32 ≡ None → effect_on (table_effect m d) (operands u ts) ≡ None
no_index u ts None d e = refl
no_index u ts (Some rs) None e = refl
no_index u ts (Some rs) (Some r) e = ap (leave_table u rs r) e
