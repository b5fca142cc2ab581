-- The structure of the examples, rule by rule.
use Rattle.std.proofs.Common.{[], ◌∷◌, Some, None, refl}
use Rattle.std.specs.Prelude.{codes}
use Rattle.wat_module_ast.specs.Names.{block_labels}
use Rattle.wat_module_names_theorems.specs.BlockLabels as blocks
use Rattle.wat_module_names_theorems.specs.BlockLabels.{Structure, labelled}
use Rattle.wat_module_names_theorems.specs.Examples as examples

block_in_condition : Structure examples.block_in_condition (labelled 0x02 (Some (codes "b")) ∷ labelled 0x04 (Some (codes "a")) ∷ []) []
block_in_condition =
    blocks.by_folded_if {o = 0x04} {condition = labelled 0x02 (Some (codes "b")) ∷ []} {body = []} {xs = []} refl refl
    (blocks.by_folded_block {o = 0x02} {body = []} {xs = []} refl refl (blocks.by_group {inner = []} refl (blocks.by_token refl blocks.by_none) (blocks.by_group {inner = []} refl (blocks.by_token refl blocks.by_none) blocks.by_none)) blocks.by_none)
    refl (blocks.by_group {inner = []} refl blocks.by_none blocks.by_none) blocks.by_none

if_in_condition : Structure examples.if_in_condition (labelled 0x04 (Some (codes "b")) ∷ labelled 0x03 (Some (codes "c")) ∷ labelled 0x04 (Some (codes "a")) ∷ labelled 0x02 (Some (codes "d")) ∷ []) []
if_in_condition =
    blocks.by_folded_if {o = 0x04} {condition = labelled 0x04 (Some (codes "b")) ∷ labelled 0x03 (Some (codes "c")) ∷ []} {body = labelled 0x02 (Some (codes "d")) ∷ []} {xs = []} refl refl
    (blocks.by_folded_if_else {o = 0x04} {condition = []} {body = []} {other = labelled 0x03 (Some (codes "c")) ∷ []} {xs = []} refl refl (blocks.by_group {inner = []} refl (blocks.by_token refl blocks.by_none) blocks.by_none)
    refl (blocks.by_group {inner = []} refl (blocks.by_token refl blocks.by_none) blocks.by_none)
    refl (blocks.by_folded_block {o = 0x03} {body = []} {xs = []} refl refl blocks.by_none blocks.by_none)
    blocks.by_none)
    refl (blocks.by_folded_block {o = 0x02} {body = []} {xs = []} refl refl blocks.by_none blocks.by_none) blocks.by_none

without_labels : Structure examples.without_labels (labelled 0x04 None ∷ labelled 0x03 (Some (codes "a")) ∷ labelled 0x02 None ∷ []) []
without_labels =
    blocks.by_if_else {o = 0x04} {body = labelled 0x03 (Some (codes "a")) ∷ []} {other = labelled 0x02 None ∷ []} {xs = []} refl refl (blocks.by_block {o = 0x03} {body = []} {xs = []} refl blocks.by_none refl blocks.by_none)
    refl (blocks.by_folded_block {o = 0x02} {body = []} {xs = []} refl refl blocks.by_none blocks.by_none) refl blocks.by_none

pub proved : examples.Examples
unfolding block_labels
proved = record {
  block_in_condition = record { structure = block_in_condition; listed = refl };
  if_in_condition = record { structure = if_in_condition; listed = refl };
  without_labels = record { structure = without_labels; listed = refl };
}
