use Rattle.std.specs.Option.{option_map}
use Rattle.wat_tokens_output.specs.JsonLists.{JsonShows}
use Rattle.wat_tokens_io.specs.lemmas.BlockLaws.{ok_then, err_then}
use Rattle.wat_tokens_run.proofs.PrintLaws.{json_shown_written, json_shown_cut, writes}
use Rattle.wat_tokens_run.proofs.print.print_json_shown.Goals as goal

pub returns-clause-printed : goal.returns-clause-printed
returns-clause-printed g c =
    let text = c.args.text.now in
    let names = c.args.names.now in
    let file = option_map (λ f. f.now) c.args.file in
    let source = c.buffer_of-buffer.result in
    let setting = c.buffer_of-buffer.ensures.setting in
    let read = c.buffer_of-buffer.ensures.read in
    let begin = c.in_ok-begin.begin.items in
    let last = c.in_ok-last.last.items in
    let error = c.in_ok-count.field-0.error in
    let ends = rw c.in_ok-parser.ensures at c.in_ok-count.ensures.ends in
    let line = rw c.deref.ensures.value at c.in_ok-last.ensures in
    let all = rw (c.ending_of.ensures.same, c.in_ok-parser.ensures, c.deref-2.ensures.value, c.deref-3.ensures.value) at c.write_json_shown-written.ensures.written in
    let cut = rw (c.ending_of.ensures.same, c.in_ok-parser.ensures, c.deref-2.ensures.value, c.deref-3.ensures.value) at c.write_json_shown-written.ensures.cut in
    writes g.W.Sink.held g.W.Sink.failure (JsonShows c.args.settings file names text) _ _ error c.write_json_shown-written.result c.answer.result c.answer.ensures
    (ok_then c.write_json_shown-written.result (json_shown_written c.all_shown.ensures.all_one c.args.settings file source names text begin last c.in_ok-count.field-0.count error _ _ c.utf8.text c.requires.text setting read c.in_ok-begin.ensures line ends) all)
    (err_then c.write_json_shown-written.result (json_shown_cut c.all_shown.ensures.all_one c.args.settings file source names text begin last c.in_ok-count.field-0.count error _ _ c.utf8.text c.requires.text setting read c.in_ok-begin.ensures line ends) cut) c.requires.output c.write_json_shown-written.ensures.failed
