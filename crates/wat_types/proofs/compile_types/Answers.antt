use Rattle.std.proofs.Common.{◌≡◌, ◌∙◌, ◌≤◌, ◌^◌, ℕ, true, rules, refl, sym, ap, subst, length, None, Some, Ok, Err}
use Rattle.std.specs.Prelude.{Vec}
use Rattle.std.specs.declared.alloc.Global.{Global}
use Rattle.wat_lexer_parser.specs.lemmas.AnswerLaws.{error_is_allocation_failure, error_answers}
use Rattle.wat_lexer_parser.specs.parser.State.{Answers}
use Rattle.wat_lexer_parser.specs.readings.Readings.{whole, whole_may_allocate}
use Rattle.wat_types.specs.Binary.{Fits, content, module_bytes}
use Rattle.wat_types.specs.Compiling.{compiled, compiled_by, too_long}
use Rattle.wat_types.specs.Meanings.{module_types}
use Rattle.wat_types.specs.Signatures.{signatures}
use Rattle.wat_types.specs.declared.text.Module.{Module}
use Rattle.wat_types.proofs.Answering.{compiled_fits, compiled_too_long, spelled_is_read, same_types}
use Rattle.wat_types.proofs.compile_types.Goals as goal

pub returns-in_err-module-clause-spelled : goal.returns-in_err-module-clause-spelled
returns-in_err-module-clause-spelled c = λ fs h.
    let s = c.new-buffer.result in
    let e = c.in_err-module.field-0.0 in
    let reads = spelled_is_read c.reading_is_spelling.ensures.same s c.args.text.now fs c.utf8.text c.new-buffer.ensures.read c.new-buffer.ensures.setting h in
    let answer = c.in_err-module.ensures.value s c.new-buffer.ensures.read refl refl in
    let result : c.from_residual.result ≡ Err e = search rules in
    let none = error_is_allocation_failure {T = Module} (whole_may_allocate module_types s) (λ m. signatures m.types.items) (whole module_types s) fs e reads answer in
    let memory : c.from_residual.result ≡ Err None = result ∙ ap Err none in
    subst (λ r. Answers {T = Vec ℕ Global} true (λ bytes. bytes.items) (compiled fs) r) (sym memory) refl

pub returns-in_err-module-clause-refused : goal.returns-in_err-module-clause-refused
returns-in_err-module-clause-refused c = λ s r p t.
    let e = c.in_err-module.field-0.0 in
    let answer = c.in_err-module.ensures.value s r (p ∙ sym c.new-buffer.ensures.setting) (t ∙ sym c.new-buffer.ensures.track) in
    let result : c.from_residual.result ≡ Err e = search rules in
    subst (λ r. Answers {T = Vec ℕ Global} true (λ bytes. bytes.items) (compiled_by (whole module_types s)) r) (sym result)
    (error_answers {T = Module} {U = Vec ℕ Global} (whole_may_allocate module_types s) (λ m. signatures m.types.items) (λ bytes. bytes.items) compiled_by (whole module_types s) e (λ r. refl) answer)

pub returns-in-Ok-clause-spelled : goal.returns-in-Ok-clause-spelled
returns-in-Ok-clause-spelled c = λ fs h.
    let s = c.new-buffer.result in
    let reads = spelled_is_read c.reading_is_spelling.ensures.same s c.args.text.now fs c.utf8.text c.new-buffer.ensures.read c.new-buffer.ensures.setting h in
    let answer = c.in_ok-module.ensures.value s c.new-buffer.ensures.read refl refl in
    let same = same_types (whole module_types s) fs (signatures c.in_ok-module.module.types.items) reads answer in
    let types = signatures c.in_ok-module.module.types.items in
    let fits : Fits types = search rules in
    let bytes : c.in-Ok.bytes.items ≡ module_bytes types = search rules in
    subst (λ fs. compiled fs ≡ Ok c.in-Ok.bytes.items) same (compiled_fits types c.in-Ok.bytes.items fits bytes)

pub returns-clause-spelled : goal.returns-clause-spelled
returns-clause-spelled c = λ fs h.
    let s = c.new-buffer.result in
    let reads = spelled_is_read c.reading_is_spelling.ensures.same s c.args.text.now fs c.utf8.text c.new-buffer.ensures.read c.new-buffer.ensures.setting h in
    let answer = c.in_ok-module.ensures.value s c.new-buffer.ensures.read refl refl in
    let same = same_types (whole module_types s) fs (signatures c.in_ok-module.module.types.items) reads answer in
    let types = signatures c.in_ok-module.module.types.items in
    let long : 2 ^ 32 ≤ length (content types) = search rules in
    let is : c.new.result ≡ Some too_long = search rules in
    subst (λ e. Answers {T = Vec ℕ Global} true (λ bytes. bytes.items) (compiled fs) (Err e)) (sym is) (subst (λ fs. compiled fs ≡ Err too_long) same (compiled_too_long types long))
