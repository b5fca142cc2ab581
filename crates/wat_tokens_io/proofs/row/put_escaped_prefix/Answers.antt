use Rattle.std.proofs.Common.{◌∙◌, sym}
use Rattle.wat_tokens_io.specs.JsonStrings.{escaped}
use Rattle.wat_tokens_io.specs.lemmas.BlockLaws.{on_err}
use Rattle.wat_tokens_io.proofs.JsonLaws.{cut_some, each_alone}
use Rattle.wat_tokens_io.proofs.row.put_escaped_prefix.Goals as goal

pub returns-in_err-put-clause-cut : goal.returns-in_err-put-clause-cut
returns-in_err-put-clause-cut g c = on_err c.from_residual.result (cut_some escaped _ _ c.args.block.now c.args.text.now _ c.plain_len-plain.result (sym c.plain_len-plain.ensures.plain) c.in_err-put.ensures.cut)

pub returns-then-plain-gt0-clause-put : goal.returns-then-plain-gt0-clause-put
returns-then-plain-gt0-clause-put g c = rw c.plain_len-plain.ensures.plain c.in_ok-put.ensures.put

pub returns-in_err-put-2-clause-cut : goal.returns-in_err-put-2-clause-cut
returns-in_err-put-2-clause-cut g c =
    on_err c.from_residual-in_err-put-2.result (cut_some escaped _ _ c.args.block.now c.args.text.now _ 1 (c.escaped-count.ensures.text ∙ sym (each_alone escaped c.args.text.now c.requires)) c.in_err-put-2.ensures.cut)

pub returns-clause-put : goal.returns-clause-put
returns-clause-put g c = rw (each_alone escaped c.args.text.now c.requires) (rw c.escaped-count.ensures.text at c.in_ok-put-2.ensures.put)
