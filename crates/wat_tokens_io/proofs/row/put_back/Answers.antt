use Rattle.std.proofs.Common.{◌++◌, ◌∙◌, [], ap, refl}
use Rattle.std.specs.Prelude.{codes}
use Rattle.wat_lex.specs.errors.Positions.{line_and_column}
use Rattle.wat_tokens_io.specs.JsonRows.{json_tail}
use Rattle.wat_tokens_io.specs.lemmas.BlockLaws.{on_err, cut_longer}
use Rattle.wat_tokens_io.proofs.JsonLaws.{puts_pushed}
use Rattle.wat_tokens_io.proofs.row.put_back.Goals as goal

pub returns-in_err-ensure_capacity-clause-cut : goal.returns-in_err-ensure_capacity-clause-cut
returns-in_err-ensure_capacity-clause-cut g c =
    on_err c.from_residual.result (cut_longer _ _ c.args.block.now (codes "\"" ++ json_tail (line_and_column c.args.positions.now c.args.offset)) _ c.in_err-ensure_capacity.ensures.cut refl)

pub returns-clause-put : goal.returns-clause-put
returns-clause-put g c =
    let after = c.push_tail.ensures.put ∙ ap (λ p. c.ensure_capacity.new.self ++ (codes "\"" ++ json_tail p)) c.linecol-line.ensures.place in
    puts_pushed _ _ c.args.block.now c.ensure_capacity.new.self c.push_tail.new.block [] (codes "\"" ++ json_tail (line_and_column c.args.positions.now c.args.offset)) c.in_ok-ensure_capacity.ensures.put after
