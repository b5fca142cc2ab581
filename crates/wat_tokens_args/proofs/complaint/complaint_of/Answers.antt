use Rattle.std.proofs.Common.{◌≡◌, true, rules}
use Rattle.wat_tokens_args.specs.Complaints.{goes_beyond}
use Rattle.wat_tokens_args.proofs.ComplaintLaws.{not_usage}
use Rattle.wat_tokens_args.proofs.complaint.complaint_of.Goals as goal

pub returns-clause-usage : goal.returns-clause-usage
returns-clause-usage c =
    let beyond : goes_beyond c.args.there c.args.words.now ≡ true = search rules in
    (λ h. absurd (not_usage c.args.there c.args.words.now c.wrong_beyond.result c.wrong_beyond.ensures h), λ h. cc)
