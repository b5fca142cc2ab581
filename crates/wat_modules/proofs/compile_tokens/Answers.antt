use Rattle.std.proofs.Common.{◌≡◌, ◌∙◌, Err, ap, length, subst}
use Rattle.wat_module_ast.specs.Views.{fields_of}
use Rattle.wat_module_parser.specs.Reading.{whole}
use Rattle.wat_modules.specs.Compiling.{finished, module_name}
use Rattle.wat_modules.specs.Views.{wanted_by}
use Rattle.wat_module_ast.specs.declared.error.ParseFailure.TheVariants.{Text}
use Rattle.wat_module_instructions.specs.Parts.{Faults}
use Rattle.wat_module_tokens.specs.TokenCursor.{terminals_of}
use Rattle.wat_lex.specs.errors.Errors.{IsUnlessMemory}
use Rattle.wat_modules.proofs.Answering.{Is, fault_report}
use Rattle.wat_modules.proofs.Checking.{of_error, of_refused, of_valid}
use Rattle.wat_modules.specs.Validity.{RefusesFields, by_memory}
use Rattle.wat_valid.specs.Modules.{ModuleIsValid}
use Rattle.wat_module_ast.specs.declared.fields.Field.{Field}
use Rattle.std.specs.Prelude.{List, true}
use Rattle.wat_modules.proofs.compile_tokens.Goals as goal

pub returns : goal.returns
returns c = λ r k tokens h are.
    let cursor = terminals_of c.cursor-cursor.result in
    let fault = c.in-Err-Text.fault in
    let refused : Faults (whole cursor) (Text fault) = rw c.in-Err-Text.field-0-is at c.in-Err-Text.ensures.refused in
    let long : c.len.result ≡ length (terminals_of fault.left) = rw c.in-Err-Text.field-0-is at c.len.ensures in
    let told : IsUnlessMemory c.fault_at.result (fault_report c.args.text.now tokens fault.kind c.len.result) = rw c.in-Err-Text.field-0-is at c.fault_at.ensures tokens h in
    of_error c.reading_is_grammar.ensures (wanted_by c.args.extras r) c.args.is_checked c.args.text.now tokens cursor fault.kind (terminals_of fault.left) c.len.result c.fault_at.result refused long told (c.cursor-cursor.ensures ∙ are)

pub returns-in-Ok-check_valid : goal.returns-in-Ok-check_valid
returns-in-Ok-check_valid c = λ r k tokens h are.
    let text = c.args.text.now in
    let n = wanted_by c.args.extras r in
    let cursor = terminals_of c.cursor-cursor.result in
    let fs = fields_of c.in-Ok.fields.items in
    let is = subst (λ l. Is (finished n text l fs) c.finish.result) c.module_name-name.ensures (c.finish.ensures r k) in
    let valid = subst (λ (xs : List Field). c.args.is_checked ≡ true → ModuleIsValid (fields_of xs)) c.deref.ensures.value c.in-Ok-check_valid.ensures.valid in
    of_valid c.reading_is_grammar.ensures n c.args.is_checked text tokens cursor fs c.finish.result c.in-Ok.ensures.read valid is (c.cursor-cursor.ensures ∙ are)

pub returns-in-Ok : goal.returns-in-Ok
returns-in-Ok c = λ r k tokens h are.
    let text = c.args.text.now in
    let cursor = terminals_of c.cursor-cursor.result in
    let e = c.in-Err.error in
    let refused = subst (λ (xs : List Field). RefusesFields text cursor (fields_of xs) e) c.deref.ensures.value c.in-Err.ensures.invalid.1 in
    of_refused (wanted_by c.args.extras r) c.args.is_checked text tokens cursor (fields_of c.in-Ok.fields.items) e c.in-Ok.ensures.read c.in-Err.ensures.invalid.0 refused (c.cursor-cursor.ensures ∙ are)

pub returns-in-Err-Memory : goal.returns-in-Err-Memory
returns-in-Err-Memory c = λ r k tokens h are. by_memory (ap Err c.from.ensures)
