use Rattle.std.proofs.Common.{◌≡◌, ◌≤◌, ◌-◌, length, take, drop}
use Rattle.wat_lex.specs.errors.LineFeeds.{FeedsUpTo}
use Rattle.wat_lex.proofs.token.lines.fill_line_feeds.Given as goal

abbrev pub invariant-loop-ahead : goal.invariant-loop-ahead
invariant-loop-ahead l =
    FeedsUpTo l.text l.at (take l.done l.out) × (l.done ≤ length l.out) × (length l.out ≡ length l.fn.out) × (drop l.count l.out ≡ drop l.count l.fn.out)

abbrev pub decreases-loop-ahead : goal.decreases-loop-ahead
decreases-loop-ahead l = length l.text - l.at
