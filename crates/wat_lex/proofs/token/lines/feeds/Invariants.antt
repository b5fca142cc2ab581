use Rattle.std.proofs.Common.{◌-◌, length}
use Rattle.wat_lex.specs.errors.LineFeeds.{FeedsUpTo}
use Rattle.wat_lex.proofs.token.lines.feeds.Given as goal

abbrev pub invariant-loop-ahead : goal.invariant-loop-ahead
invariant-loop-ahead l = FeedsUpTo l.text l.at l.feeds.items

abbrev pub decreases-loop-ahead : goal.decreases-loop-ahead
decreases-loop-ahead l = length l.text - l.at
