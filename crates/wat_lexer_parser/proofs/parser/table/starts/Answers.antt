use Rattle.std.proofs.Common.{◌≡◌, length, rules, subst, arith}
use Rattle.wat_lexer_parser.proofs.inside.Heads.{StartedFor, started_none, started_more, started_all}
use Rattle.wat_lexer_parser.proofs.parser.table.starts.Goals as goal

pub loop-before-init : goal.loop-before-init
loop-before-init c = started_none c.args.opens.now c.new-starts.result.items c.new-starts.ensures.items

pub loop-before-preserved : goal.loop-before-preserved
loop-before-preserved c = started_more c.loop-before.before c.args.opens.now c.loop-before.starts.items c.start_blocks.new.starts.items c.loop-before.invariant (search rules)

pub returns : goal.returns
returns c =
    let e : c.loop-before.before ≡ length c.args.opens.now = omega arith in
    started_all c.args.opens.now c.loop-before.starts.items (subst (λ n. StartedFor n c.args.opens.now c.loop-before.starts.items) e c.loop-before.invariant)
