use Rattle.std.proofs.Common.{◌∙◌, ap, map, sym, Ok}
use Rattle.std.specs.Prelude.{Vec}
use Rattle.std.specs.declared.alloc.Global.{Global}
use Rattle.wat_lexer_parser.specs.readings.Readings.{whole_may_allocate}
use Rattle.wat_module_custom.specs.declared.reading.AllItems.{AllItems}
use Rattle.wat_module_custom.specs.declared.sections.CustomSection.{CustomSection as CodeSection}
use Rattle.wat_module_custom.specs.Customs.{all_items, may_have_customs}
use Rattle.wat_module_custom.specs.Values.{item_of, section_of}
use Rattle.wat_module_custom.proofs.Finding.{found, found_fault, no_customs}
use Rattle.wat_module_custom.proofs.custom_sections.Goals as goal

pub returns-in-Ok-clause-sections : goal.returns-in-Ok-clause-sections
returns-in-Ok-clause-sections c = λ s h e t.
    let text = ap (λ x. x.text) (e ∙ sym c.lexer-lexer.ensures) ∙ sym c.input-text.ensures.text in
    found (λ (v : Vec CodeSection Global). map section_of v.items) s c.input-text.result.now (map item_of c.in-Ok.items.items.items.items) c.placed.result (ap may_have_customs text ∙ sym c.may_have.ensures ∙ c.if-may_have.true) text (c.in-Ok.ensures.value s h e t) c.placed.ensures

pub returns-in-Err-clause-sections : goal.returns-in-Err-clause-sections
returns-in-Err-clause-sections c = λ s h e t.
    let text = ap (λ x. x.text) (e ∙ sym c.lexer-lexer.ensures) ∙ sym c.input-text.ensures.text in
    found_fault (whole_may_allocate all_items s) (λ (l : AllItems). map (λ i. item_of i) l.items.items.items) (λ (v : Vec CodeSection Global). map section_of v.items) s c.in-Err.error (ap may_have_customs text ∙ sym c.may_have.ensures ∙ c.if-may_have.true) (c.in-Err.ensures.value s h e t)

pub returns-clause-sections : goal.returns-clause-sections
returns-clause-sections c = λ s h e t.
    let text = ap (λ x. x.text) (e ∙ sym c.lexer-lexer.ensures) ∙ sym c.input-text.ensures.text in
    no_customs s (ap may_have_customs text ∙ sym c.may_have.ensures ∙ c.if-may_have.false) ∙ ap (λ v. Ok (map section_of v)) (sym c.new.ensures.items)
