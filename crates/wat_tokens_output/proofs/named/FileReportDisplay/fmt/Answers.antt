use Rattle.std.proofs.Common.{rules}
use Rattle.wat_tokens_output.proofs.FilterLaws.{if_ok, passed_on}
use Rattle.wat_tokens_output.proofs.named.FileReportDisplay.fmt.Goals as goal

pub returns-clause-writes : goal.returns-clause-writes
returns-clause-writes g c = λ plain ok.
    let wrote = if_ok c.write-printed.result ok c.write-printed.ensures.writes in
    let (same, written) = passed_on g.W.Write.write_str_gives (λ s. s.output.ghost_name) (λ s. s.output.now) _ _ _ wrote plain in
    search rules
