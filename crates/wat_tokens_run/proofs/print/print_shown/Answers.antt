use Rattle.wat_tokens_output.specs.Shows.{Shows}
use Rattle.wat_tokens_io.specs.lemmas.BlockLaws.{ok_then, err_then}
use Rattle.wat_tokens_run.proofs.PrintLaws.{shows_written, shows_cut, writes}
use Rattle.wat_tokens_run.proofs.print.print_shown.Goals as goal

pub returns-clause-printed : goal.returns-clause-printed
returns-clause-printed g c =
    let text = c.args.text.now in
    let names = c.args.names.now in
    let source = c.buffer_of-buffer.result in
    let ends = rw c.in_ok-parser.ensures at c.in_ok-count.ensures.ends in
    let all = rw (c.ending_of.ensures.same, c.in_ok-parser.ensures) at c.write_shown.ensures.written in
    let cut = rw (c.ending_of.ensures.same, c.in_ok-parser.ensures) at c.write_shown.ensures.cut in
    writes g.W.Sink.held g.W.Sink.failure (Shows c.args.settings names text) _ _ c.in_ok-count.field-0.error c.write_shown.result c.answer.result c.answer.ensures
    (ok_then c.write_shown.result (shows_written c.all_shown.ensures.all_one c.args.settings source names text c.in_ok-count.field-0.count c.in_ok-count.field-0.error _ _ c.utf8.text c.requires.text c.buffer_of-buffer.ensures.setting c.buffer_of-buffer.ensures.read ends) all)
    (err_then c.write_shown.result (shows_cut c.args.settings source names text _ _ c.utf8.text c.requires.text c.buffer_of-buffer.ensures.setting c.buffer_of-buffer.ensures.read) cut) c.requires.output c.write_shown.ensures.failed
