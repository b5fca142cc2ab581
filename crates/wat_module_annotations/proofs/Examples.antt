-- The derivations of the examples.
use Rattle.std.proofs.Common.{◌≡◌, ◌∙◌, [], false, refl, sym, Result, Ok, Err}
use Rattle.wat_lex.specs.errors.Errors.{Report}
use Rattle.wat_module_annotations.specs.Examples.{Examples, block_in_condition, named_function, named_import, named_reference, names_of_condition, names_of_function, names_of_import}
use Rattle.wat_module_annotations.specs.Names.{ModuleNames, after, fields_from, misplaced, misplaced_at, names_in}
use Rattle.wat_module_annotations.specs.Placed.{ModuleIs, by_block, by_field, by_fields, by_folded_block, by_folded_if, by_group, by_import, by_item, by_module, by_no_field, by_no_header, by_no_instruction, by_start, by_token, by_variable, by_variables}
use Rattle.wat_module_annotations.proofs.PlacedLaws.{computed}

function : ModuleIs false named_function names_of_function
function =
    by_module (by_field (by_item (by_variable (by_variables by_no_header)) refl (by_block (by_token by_no_instruction))) by_no_field)

condition : ModuleIs false block_in_condition names_of_condition
condition =
    by_fields (by_field (by_item by_no_header refl
    (by_folded_if (by_folded_block (by_group refl (by_token by_no_instruction) (by_group refl (by_token by_no_instruction) by_no_instruction)) by_no_instruction) by_no_instruction by_no_instruction by_no_instruction)) by_no_field)

imported : ModuleIs false named_import names_of_import
imported = by_fields (by_field (by_import (by_variables by_no_header)) (by_field (by_start refl (by_token by_no_instruction)) by_no_field))

refused : names_in [] named_reference ≡ Err (misplaced_at [] 18)
unfolding names_in fields_from after misplaced
refused = refl

reference : (ns : ModuleNames) → ModuleIs false named_reference ns → ⊥
reference ns h = let e : ◌≡◌ {A = Result ModuleNames Report} (Ok ns) (Err (misplaced_at [] 18)) = sym (computed [] named_reference ns h) ∙ refused in cc

pub examples : Examples
examples = record { function = function; condition = condition; imported = imported; reference = reference }
