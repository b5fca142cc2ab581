use Rattle.wat_tokens_io.specs.lemmas.BlockLaws.{on_err, err_then}
use Rattle.wat_tokens_run.proofs.PrintLaws.{rows_cut, last_cut}
use Rattle.wat_tokens_run.proofs.print.write_rows.Goals as goal

pub returns-in_err-write_json-clause-cut : goal.returns-in_err-write_json-clause-cut
returns-in_err-write_json-clause-cut g c = on_err c.from_residual.result (rows_cut c.args.begin.now c.args.last.now c.args.lexer.now _ _ c.in_err-write_json.ensures.cut)

pub returns-clause-cut : goal.returns-clause-cut
returns-clause-cut g c = err_then c.write_all.result (λ h. last_cut c.args.begin.now c.args.last.now c.args.lexer.now _ _ _ c.in_ok-write_json.ensures.written h) c.write_all.ensures.cut
