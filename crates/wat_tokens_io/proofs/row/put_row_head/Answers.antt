use Rattle.std.proofs.Common.{◌++◌, [], append_assoc, refl}
use Rattle.std.specs.Prelude.{codes}
use Rattle.wat_tokens_io.specs.JsonRows.{json_head}
use Rattle.wat_tokens_io.specs.lemmas.BlockLaws.{on_err, puts_more, cut_longer, cut_more}
use Rattle.wat_tokens_io.proofs.JsonLaws.{cut_front, puts_pushed}
use Rattle.wat_tokens_io.proofs.row.put_row_head.Goals as goal

pub returns-in_err-put-clause-cut : goal.returns-in_err-put-clause-cut
returns-in_err-put-clause-cut g c =
    let begin = c.args.begin.now in
    let head = json_head c.args.token.now in
    let cut = cut_front _ _ c.args.block.now begin (head ++ codes "\"") c.in_err-put.ensures.cut in
    on_err c.from_residual.result (rw (append_assoc begin head (codes "\"")) cut)

pub returns-in_err-ensure_capacity-clause-cut : goal.returns-in_err-ensure_capacity-clause-cut
returns-in_err-ensure_capacity-clause-cut g c =
    let begin = c.args.begin.now in
    let head = json_head c.args.token.now in
    let cut = cut_longer _ _ c.put.new.self (head ++ codes "\"") _ c.in_err-ensure_capacity.ensures.cut refl in
    on_err c.from_residual-in_err-ensure_capacity.result (cut_more _ _ _ c.args.block.now c.put.new.self begin (head ++ codes "\"") (begin ++ head ++ codes "\"") c.in_ok-put.ensures.put cut (append_assoc begin head (codes "\"")))

pub returns-clause-put : goal.returns-clause-put
returns-clause-put g c =
    let begin = c.args.begin.now in
    let head = json_head c.args.token.now in
    let pushed = puts_pushed _ _ c.put.new.self c.ensure_capacity.new.self c.push_head.new.block [] (head ++ codes "\"") c.in_ok-ensure_capacity.ensures.put c.push_head.ensures.put in
    puts_more _ _ _ c.args.block.now c.put.new.self c.push_head.new.block begin (head ++ codes "\"") (begin ++ head ++ codes "\"") c.in_ok-put.ensures.put pushed (append_assoc begin head (codes "\""))
