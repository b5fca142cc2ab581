use Rattle.std.proofs.Common.{◌≡◌, ◌∙◌, ℕ, List, true, false, Err, ap, map, subst, sym}
use Rattle.std.specs.Prelude.{Vec}
use Rattle.std.specs.declared.alloc.Global.{Global}
use Rattle.wat_lexer_parser.specs.parser.State.{Answers}
use Rattle.wat_module_annotations.specs.Names.{ModuleNames}
use Rattle.wat_module_annotations.specs.Values.{module_names_of}
use Rattle.wat_module_annotations.specs.declared.names.ModuleNames.{ModuleNames as CodeModuleNames}
use Rattle.wat_module_ast.specs.Views.{fields_of}
use Rattle.wat_module_custom.specs.Customs.{CustomSection as Section}
use Rattle.wat_module_custom.specs.Search.{may_have}
use Rattle.wat_module_custom.specs.Values.{section_of}
use Rattle.wat_module_custom.specs.declared.search.Sought.TheVariants as sought
use Rattle.wat_module_custom.specs.declared.sections.CustomSection.{CustomSection}
use Rattle.wat_module_tokens.specs.Terminals.{label}
use Rattle.wat_modules.proofs.Answering.{customs_fault, names_fault}
use Rattle.wat_modules.proofs.CompleteLaws.{unannotated}
use Rattle.wat_modules.specs.Compiling.{fitted, named_bytes}
use Rattle.wat_modules.proofs.complete.Goals as goal

pub returns-then-not-may_have : goal.returns-then-not-may_have
returns-then-not-may_have c = λ r k.
    let text = c.args.text.now in
    let l = label c.args.name in
    let none : may_have sought.Either text ≡ false = sym c.may_have.ensures ∙ c.if-not-may_have.true in
    let bytes : c.in_ok-named_bytes.field-0.items ≡ named_bytes l (fields_of c.args.fields.items) = c.in_ok-named_bytes.ensures ∙ ap (λ ys. named_bytes l (fields_of ys)) c.deref.ensures.value in
    let f : Vec ℕ Global → List ℕ = λ v. v.items in
    unannotated f text r l (fields_of c.args.fields.items) c.bound_size.result none k (subst (λ b. Answers {V = List ℕ} {T = Vec ℕ Global} true f (fitted text b) c.bound_size.result) bytes c.bound_size.ensures)

pub returns-in-Err : goal.returns-in-Err
returns-in-Err c = λ r k.
    let h = k.has_customs in
    let found = c.in-Err.ensures.sections h.source h.read (h.setting ∙ sym c.buffer-buffer.ensures.setting) (h.track ∙ sym c.buffer-buffer.ensures.track) in
    let f : Vec CustomSection Global → List Section = λ v. map section_of v.items in
    customs_fault f c.args.text.now (label c.args.name) (fields_of c.args.fields.items) r k.customs k.names c.in-Err.error k.are (subst (λ m. Answers {V = List Section} {T = Vec CustomSection Global} true f m (Err c.in-Err.error)) (sym h.are) found)

pub returns-in-Err-names_of : goal.returns-in-Err-names_of
returns-in-Err-names_of c = λ r k.
    let h = k.has_customs in
    let n = k.has_names in
    let customs = c.in-Ok.ensures.sections h.source h.read (h.setting ∙ sym c.buffer-buffer.ensures.setting) (h.track ∙ sym c.buffer-buffer.ensures.track) in
    let found = c.in-Err-names_of.ensures.names n.source n.read (n.setting ∙ sym c.buffer-buffer.ensures.setting) (n.track ∙ sym c.buffer-buffer.ensures.track) in
    let f : CodeModuleNames → ModuleNames = λ m. module_names_of m in
    names_fault f c.args.text.now (label c.args.name) (fields_of c.args.fields.items) r k.customs k.names (map section_of c.in-Ok.customs.items) c.in-Err-names_of.error k.are (h.are ∙ customs) (subst (λ m. Answers {V = ModuleNames} {T = CodeModuleNames} true f m (Err c.in-Err-names_of.error)) (sym n.are) found)
