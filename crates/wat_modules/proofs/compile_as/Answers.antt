use Rattle.std.proofs.Common.{None, Some}
use Rattle.wat_module_lexer.specs.Shown.{TerminalsShown}
use Rattle.wat_module_lexer.specs.Drafts.{draft_terminals}
use Rattle.wat_modules.proofs.Checking.{outcome_bytes, outcome_end, outcome_errors, outcome_fault, outcome_invalid, outcome_refused, outcome_spelled}
use Rattle.wat_modules.specs.Compiling.{Bare}
use Rattle.wat_modules.specs.Views.{wanted_by}
use Rattle.wat_modules.proofs.compile_as.Goals as goal

pub returns-in-Some-clause-spelled : goal.returns-in-Some-clause-spelled
returns-in-Some-clause-spelled c = λ r k.
    let text = c.args.text.now in
    let d = c.in_ok-packed.field-0 in
    let n = wanted_by c.args.extras r in
    let h : TerminalsShown text (draft_terminals text d.packed) (Some c.in-Some.error) = rw c.in-Some.is at c.in_ok-packed.ensures.shown in
    outcome_spelled c.one_tiling.ensures.one c.all_shown.ensures.all_one c.reading_is_grammar.ensures n c.args.is_checked text _ (outcome_fault c.one_tiling.ensures.one c.all_shown.ensures.all_one n c.args.is_checked text (draft_terminals text d.packed) c.in-Some.error h)

pub returns-in-Some-clause-invalid : goal.returns-in-Some-clause-invalid
returns-in-Some-clause-invalid c =
    let text = c.args.text.now in
    let d = c.in_ok-packed.field-0 in
    let h : TerminalsShown text (draft_terminals text d.packed) (Some c.in-Some.error) = rw c.in-Some.is at c.in_ok-packed.ensures.shown in
    outcome_invalid c.one_tiling.ensures.one c.all_shown.ensures.all_one c.reading_is_grammar.ensures Bare c.args.is_checked text _ (outcome_fault c.one_tiling.ensures.one c.all_shown.ensures.all_one Bare c.args.is_checked text (draft_terminals text d.packed) c.in-Some.error h)

pub returns-in-Some-clause-refused : goal.returns-in-Some-clause-refused
returns-in-Some-clause-refused c = λ r k.
    let text = c.args.text.now in
    let d = c.in_ok-packed.field-0 in
    let n = wanted_by c.args.extras r in
    let h : TerminalsShown text (draft_terminals text d.packed) (Some c.in-Some.error) = rw c.in-Some.is at c.in_ok-packed.ensures.shown in
    outcome_refused c.one_tiling.ensures.one c.all_shown.ensures.all_one n c.args.is_checked text _ (outcome_fault c.one_tiling.ensures.one c.all_shown.ensures.all_one n c.args.is_checked text (draft_terminals text d.packed) c.in-Some.error h)

pub returns-in-None-clause-bytes : goal.returns-in-None-clause-bytes
returns-in-None-clause-bytes c = λ r k.
    let text = c.args.text.now in
    let ts = draft_terminals text c.in_ok-packed.field-0.packed in
    let n = wanted_by c.args.extras r in
    let h : TerminalsShown text ts None = rw c.in-None.is at c.in_ok-packed.ensures.shown in
    outcome_bytes c.reading_is_grammar.ensures n c.args.is_checked text c.compile_packed.result (outcome_end c.one_tiling.ensures.one c.all_shown.ensures.all_one n c.args.is_checked text ts c.compile_packed.result h (c.compile_packed.ensures r k))

pub returns-in-None-clause-spelled : goal.returns-in-None-clause-spelled
returns-in-None-clause-spelled c = λ r k.
    let text = c.args.text.now in
    let ts = draft_terminals text c.in_ok-packed.field-0.packed in
    let n = wanted_by c.args.extras r in
    let h : TerminalsShown text ts None = rw c.in-None.is at c.in_ok-packed.ensures.shown in
    outcome_spelled c.one_tiling.ensures.one c.all_shown.ensures.all_one c.reading_is_grammar.ensures n c.args.is_checked text c.compile_packed.result (outcome_end c.one_tiling.ensures.one c.all_shown.ensures.all_one n c.args.is_checked text ts c.compile_packed.result h (c.compile_packed.ensures r k))

pub returns-in-None-clause-invalid : goal.returns-in-None-clause-invalid
returns-in-None-clause-invalid c =
    let text = c.args.text.now in
    let ts = draft_terminals text c.in_ok-packed.field-0.packed in
    let s = c.annotations_define.ensures in
    let n = wanted_by c.args.extras s.0 in
    let h : TerminalsShown text ts None = rw c.in-None.is at c.in_ok-packed.ensures.shown in
    outcome_invalid c.one_tiling.ensures.one c.all_shown.ensures.all_one c.reading_is_grammar.ensures n c.args.is_checked text c.compile_packed.result (outcome_end c.one_tiling.ensures.one c.all_shown.ensures.all_one n c.args.is_checked text ts c.compile_packed.result h (c.compile_packed.ensures s.0 s.1))

pub returns-in-None-clause-refused : goal.returns-in-None-clause-refused
returns-in-None-clause-refused c = λ r k.
    let text = c.args.text.now in
    let ts = draft_terminals text c.in_ok-packed.field-0.packed in
    let n = wanted_by c.args.extras r in
    let h : TerminalsShown text ts None = rw c.in-None.is at c.in_ok-packed.ensures.shown in
    outcome_refused c.one_tiling.ensures.one c.all_shown.ensures.all_one n c.args.is_checked text c.compile_packed.result (outcome_end c.one_tiling.ensures.one c.all_shown.ensures.all_one n c.args.is_checked text ts c.compile_packed.result h (c.compile_packed.ensures r k))

pub returns-in-Some-clause-errors : goal.returns-in-Some-clause-errors
returns-in-Some-clause-errors c = λ r k.
    let text = c.args.text.now in
    let d = c.in_ok-packed.field-0 in
    let n = wanted_by c.args.extras r in
    let h : TerminalsShown text (draft_terminals text d.packed) (Some c.in-Some.error) = rw c.in-Some.is at c.in_ok-packed.ensures.shown in
    outcome_errors c.one_tiling.ensures.one c.all_shown.ensures.all_one n c.args.is_checked text _ (outcome_fault c.one_tiling.ensures.one c.all_shown.ensures.all_one n c.args.is_checked text (draft_terminals text d.packed) c.in-Some.error h)

pub returns-in-None-clause-errors : goal.returns-in-None-clause-errors
returns-in-None-clause-errors c = λ r k.
    let text = c.args.text.now in
    let ts = draft_terminals text c.in_ok-packed.field-0.packed in
    let n = wanted_by c.args.extras r in
    let h : TerminalsShown text ts None = rw c.in-None.is at c.in_ok-packed.ensures.shown in
    outcome_errors c.one_tiling.ensures.one c.all_shown.ensures.all_one n c.args.is_checked text c.compile_packed.result (outcome_end c.one_tiling.ensures.one c.all_shown.ensures.all_one n c.args.is_checked text ts c.compile_packed.result h (c.compile_packed.ensures r k))
