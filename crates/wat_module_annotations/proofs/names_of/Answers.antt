use Rattle.std.proofs.Common.{◌∙◌, ap, map, sym, Ok}
use Rattle.wat_lexer_parser.specs.readings.Readings.{whole_may_allocate}
use Rattle.wat_module_annotations.specs.declared.names.ModuleNames.{ModuleNames as CodeModuleNames}
use Rattle.wat_module_annotations.specs.declared.reading.AllItems.{AllItems}
use Rattle.wat_module_annotations.specs.Items.{all_items}
use Rattle.wat_module_annotations.specs.Renaming.{may_have_names}
use Rattle.wat_module_annotations.specs.Values.{item_of, module_names_of}
use Rattle.wat_module_annotations.proofs.Finding.{found, found_fault, nothing_named}
use Rattle.wat_module_annotations.proofs.names_of.Goals as goal

pub returns-in-Ok-clause-names : goal.returns-in-Ok-clause-names
returns-in-Ok-clause-names c = λ s h e t.
    let text = ap (λ x. x.text) (e ∙ sym c.lexer-lexer.ensures) ∙ sym c.input-text.ensures.text in
    found (λ (m : CodeModuleNames). module_names_of m) s c.input-text.result.now (map item_of c.in-Ok.items.items.items.items) c.names_in.result (ap may_have_names text ∙ sym c.may_have.ensures ∙ c.if-may_have.true) text (c.in-Ok.ensures.value s h e t) c.names_in.ensures

pub returns-in-Err-clause-names : goal.returns-in-Err-clause-names
returns-in-Err-clause-names c = λ s h e t.
    let text = ap (λ x. x.text) (e ∙ sym c.lexer-lexer.ensures) ∙ sym c.input-text.ensures.text in
    found_fault (whole_may_allocate all_items s) (λ (l : AllItems). map (λ i. item_of i) l.items.items.items) (λ (m : CodeModuleNames). module_names_of m) s c.in-Err.error (ap may_have_names text ∙ sym c.may_have.ensures ∙ c.if-may_have.true) (c.in-Err.ensures.value s h e t)

pub returns-clause-names : goal.returns-clause-names
returns-clause-names c = λ s h e t.
    let text = ap (λ x. x.text) (e ∙ sym c.lexer-lexer.ensures) ∙ sym c.input-text.ensures.text in
    nothing_named s (ap may_have_names text ∙ sym c.may_have.ensures ∙ c.if-may_have.false) ∙ ap Ok (sym c.none.ensures)
