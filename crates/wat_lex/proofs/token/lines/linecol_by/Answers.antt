use Rattle.std.proofs.Common.{◌≡◌, ◌<◌, ◌-◌, true, false, ltb, get_or, rules, subst, arith}
use Rattle.std.specs.List.Sorted.{IsPartitionPoint}
use Rattle.std.proofs.lemmas.List.Sorted.{IsPartitionPoint-from_clause, IsPartitionedBy-ltb}
use Rattle.wat_lex.proofs.errors.LineFeeds.{rising, on_first_line, on_line, below_line}
use Rattle.wat_lex.proofs.errors.Positions.{past_end}
use Rattle.wat_lex.proofs.token.lines.linecol_by.Goals as goal
use Rattle.wat_lex.proofs.token.lines.linecol_by.Goals.{After-partition_point-line}

pub returns-then-offset-text : goal.returns-then-offset-text
returns-then-offset-text c = past_end c.args.text.now c.args.offset c.line_count.result c.if-offset-text.true c.line_count.ensures

found : (c : After-partition_point-line) → IsPartitionPoint (λ f. ltb f c.args.offset ≡ true) (λ f. ltb f c.args.offset ≡ false) c.args.feeds.now c.partition_point-line.result
found c =
    let parted = IsPartitionedBy-ltb (λ f. f) c.args.feeds.now c.args.offset (rising c.args.text.now c.args.feeds.now c.requires) in
    IsPartitionPoint-from_clause (λ f. ltb f c.args.offset) _ _ c.partition_point-line.ensures.partitioned parted (λ a r q k. search rules)

pub returns-then-line-eq0 : goal.returns-then-line-eq0
returns-then-line-eq0 c =
    let at = (goal.at.returns-then-line-eq0 c).After-partition_point-line in
    let offset = c.args.offset in
    on_first_line c.args.text.now c.args.feeds.now c.requires offset c.if-offset-text.false
    (subst (IsPartitionPoint (λ f. ltb f offset ≡ true) (λ f. ltb f offset ≡ false) c.args.feeds.now) c.if-line-eq0.true (found at))

below : (c : After-partition_point-line) → (c.partition_point-line.result ≡ 0 → ⊥) → get_or c.args.feeds.now (c.partition_point-line.result - 1) 0 < c.args.offset
below c n = below_line c.args.text.now c.args.feeds.now c.requires c.args.offset c.if-offset-text.false c.partition_point-line.result n (found c)

pub overflow_sub-result-2 : goal.overflow_sub-result-2
overflow_sub-result-2 c = let b = below (goal.at.overflow_sub-result-2 c).After-partition_point-line c.if-line-eq0.false in omega arith

pub overflow_sub-result-3 : goal.overflow_sub-result-3
overflow_sub-result-3 c = let b = below (goal.at.overflow_sub-result-3 c).After-partition_point-line c.if-line-eq0.false in omega arith

pub returns : goal.returns
returns c =
    on_line c.args.text.now c.args.feeds.now c.requires c.args.offset c.if-offset-text.false c.partition_point-line.result c.if-line-eq0.false c.partition_point-line.ensures.bound
    (found (goal.at.returns c).After-partition_point-line)
