use Rattle.wat_tokens_output.specs.JsonLists.{JsonLists}
use Rattle.std.specs.Option.{option_map}
use Rattle.wat_tokens_io.specs.lemmas.BlockLaws.{ok_then, err_then}
use Rattle.wat_tokens_run.proofs.PrintLaws.{json_written, json_cut, writes}
use Rattle.wat_tokens_run.proofs.print.print_json.Goals as goal

pub returns-clause-printed : goal.returns-clause-printed
returns-clause-printed g c =
    let text = c.args.text.now in
    let file = option_map (λ f. f.now) c.args.file in
    let begin = c.in_ok-begin.begin.items in
    let last = c.in_ok-last.last.items in
    let reports = rw c.with_settings-lexer.ensures.setting at c.in_ok-error.ensures.error in
    let end = rw c.deref.ensures.value at c.in_ok-last.ensures in
    let all = rw (c.with_settings-lexer.ensures.setting, c.deref-2.ensures.value, c.deref-3.ensures.value) at c.write_rows.ensures.written in
    let cut = rw (c.with_settings-lexer.ensures.setting, c.deref-2.ensures.value, c.deref-3.ensures.value) at c.write_rows.ensures.cut in
    writes g.W.Sink.held g.W.Sink.failure (JsonLists c.args.settings file text) _ _ c.in_ok-error.error c.write_rows.result c.answer.result c.answer.ensures
    (ok_then c.write_rows.result (json_written c.one_tiling.ensures.one c.args.settings file text begin last c.in_ok-error.error _ _ c.utf8.text c.requires.text reports c.in_ok-begin.ensures end) all)
    (err_then c.write_rows.result (json_cut c.one_tiling.ensures.one c.args.settings file text begin last c.in_ok-error.error _ _ c.utf8.text c.requires.text reports c.in_ok-begin.ensures end) cut) c.requires.output c.write_rows.ensures.failed
