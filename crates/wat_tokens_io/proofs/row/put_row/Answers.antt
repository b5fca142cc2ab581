use Rattle.std.proofs.Common.{◌∙◌}
use Rattle.std.specs.Prelude.{flat_map}
use Rattle.wat_lex.specs.errors.Positions.{line_and_column}
use Rattle.wat_lex.specs.tokens.ReadableTokens.{token_text}
use Rattle.wat_tokens_io.specs.JsonRows.{json_tail, json_front}
use Rattle.wat_tokens_io.specs.JsonStrings.{escaped}
use Rattle.wat_tokens_io.specs.lemmas.BlockLaws.{on_err, ok_then, err_then}
use Rattle.wat_tokens_io.proofs.JsonLaws.{row_put, row_cut_first, row_cut_second, row_cut_third, text_of}
use Rattle.wat_tokens_io.proofs.row.put_row.Goals as goal

pub returns-in_err-put_row_head-clause-cut : goal.returns-in_err-put_row_head-clause-cut
returns-in_err-put_row_head-clause-cut g c =
    let t = c.args.token.now in
    let text = c.args.positions.now in
    let front = json_front c.args.begin.now t in
    let string = flat_map escaped (token_text text t) in
    let after = json_tail (line_and_column text t.offset) in
    on_err c.from_residual.result (row_cut_first _ _ c.args.block.now front string after c.in_err-put_row_head.ensures.cut)

pub returns-in_err-put_escaped-clause-cut : goal.returns-in_err-put_escaped-clause-cut
returns-in_err-put_escaped-clause-cut g c =
    let t = c.args.token.now in
    let text = c.args.positions.now in
    let front = json_front c.args.begin.now t in
    let string = flat_map escaped (token_text text t) in
    let after = json_tail (line_and_column text t.offset) in
    let cut = rw (text_of text c.as_bytes-text.result.now t (c.as_bytes-text.ensures.value ∙ c.text.ensures.text)) at c.in_err-put_escaped.ensures.cut in
    on_err c.from_residual-in_err-put_escaped.result (row_cut_second _ _ _ c.args.block.now _ front string after c.in_ok-put_row_head.ensures.put cut)

pub returns-clause-put : goal.returns-clause-put
returns-clause-put g c =
    let t = c.args.token.now in
    let text = c.args.positions.now in
    let front = json_front c.args.begin.now t in
    let string = flat_map escaped (token_text text t) in
    let after = json_tail (line_and_column text t.offset) in
    let put = rw (text_of text c.as_bytes-text.result.now t (c.as_bytes-text.ensures.value ∙ c.text.ensures.text)) at c.in_ok-put_escaped.ensures.put in
    let back = rw c.in_ok-put_row_head.ensures.positions at c.put_back.ensures.put in
    ok_then c.put_back.result (λ h. row_put _ _ _ _ _ _ _ _ front string after c.in_ok-put_row_head.ensures.put put h) back

pub returns-clause-cut : goal.returns-clause-cut
returns-clause-cut g c =
    let t = c.args.token.now in
    let text = c.args.positions.now in
    let front = json_front c.args.begin.now t in
    let string = flat_map escaped (token_text text t) in
    let after = json_tail (line_and_column text t.offset) in
    let put = rw (text_of text c.as_bytes-text.result.now t (c.as_bytes-text.ensures.value ∙ c.text.ensures.text)) at c.in_ok-put_escaped.ensures.put in
    let back = rw c.in_ok-put_row_head.ensures.positions at c.put_back.ensures.cut in
    err_then c.put_back.result (λ h. row_cut_third _ _ _ _ c.args.block.now _ _ front string after c.in_ok-put_row_head.ensures.put put h) back
