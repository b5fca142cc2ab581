use Rattle.wat_tokens_output.specs.Lists.{Lists}
use Rattle.wat_tokens_io.specs.lemmas.BlockLaws.{ok_then, err_then}
use Rattle.wat_tokens_run.proofs.PrintLaws.{lists_written, lists_cut, writes}
use Rattle.wat_tokens_run.proofs.print.print_raw.Goals as goal

pub returns-clause-printed : goal.returns-clause-printed
returns-clause-printed g c =
    let text = c.args.text.now in
    let reports = rw c.with_settings-lexer.ensures.setting at c.in_ok-error.ensures.error in
    let all = rw c.with_settings-lexer.ensures.setting at c.write_lines.ensures.written in
    let cut = rw c.with_settings-lexer.ensures.setting at c.write_lines.ensures.cut in
    writes g.W.Sink.held g.W.Sink.failure (Lists c.args.settings text) _ _ c.in_ok-error.error c.write_lines.result c.answer.result c.answer.ensures
    (ok_then c.write_lines.result (lists_written c.one_tiling.ensures.one c.args.settings text c.in_ok-error.error _ _ c.utf8.text c.requires.text reports) all)
    (err_then c.write_lines.result (lists_cut c.args.settings text _ _ c.utf8.text c.requires.text) cut) c.requires.output c.write_lines.ensures.failed
