use Rattle.std.proofs.Common.{◌++◌, sym}
use Rattle.wat_tokens_io.specs.lemmas.BlockLaws.{cut_after, err_then}
use Rattle.wat_tokens_output.proofs.show.finish.Goals as goal

pub returns-clause-cut : goal.returns-clause-cut
returns-clause-cut g c =
    let put = c.in_ok-put.ensures.put in
    err_then c.write.result (λ h. cut_after _ _ _ put.written c.put.new.self (c.args.block.now ++ c.args.last.now) put.appended h (sym put.all)) c.write.ensures.cut
