use Rattle.std.proofs.Common.{sym, ap, ◌∙◌, arith}
use Rattle.wat_module_tokens.specs.TokenCursor.{terminals_of}
use Rattle.wat_module_ast.specs.Grammar.{lane_count, lanes_from}
use Rattle.wat_module_instructions.proofs.Lanes.{before_nothing, lanes_on, lanes_end, lanes_fault}
use Rattle.wat_module_instructions.proofs.vector_arguments.lanes.Goals as goal

pub lanes-init : goal.lanes-init
lanes-init c = before_nothing c.new-bytes.result.items (lanes_from c.args.lane c.lane_count.result (terminals_of c.args.cursor)) c.new-bytes.ensures.items

pub lanes-smaller : goal.lanes-smaller
lanes-smaller c = let next = rw (c.in-Ok-Some.field-0-is) at c.in-Ok-Some.ensures in omega (arith, next.0)

pub lanes-preserved : goal.lanes-preserved
lanes-preserved c =
    let next = rw (c.in-Ok-Some.field-0-is) at c.in-Ok-Some.ensures in
    lanes_on (lanes_from c.args.lane c.lane_count.result (terminals_of c.args.cursor)) c.args.lane c.lanes.left.lanes c.in-Ok-Some.next.lanes next.1.number (terminals_of c.lanes.left.cursor) (terminals_of c.in-Ok-Some.next.cursor) c.lanes.bytes.items c.next_lane.new.bytes.items c.lanes.invariant next.0 next.1.is next.1.follow

pub returns-in-Ok-None : goal.returns-in-Ok-None
returns-in-Ok-None c =
    let none = rw (c.in-Ok-None.field-0-is) at c.in-Ok-None.ensures in
    let ts = terminals_of c.args.cursor in
    lanes_end (lanes_from c.args.lane (lane_count c.args.lane) ts) c.args.lane c.lanes.left.lanes (terminals_of c.lanes.left.cursor) c.lanes.bytes.items c.next_lane.new.bytes.items (ap (λ n. lanes_from c.args.lane n ts) (sym c.lane_count.ensures) ∙ c.lanes.invariant) none.0 none.1

pub returns-in-Err : goal.returns-in-Err
returns-in-Err c =
    let ts = terminals_of c.args.cursor in
    lanes_fault (lanes_from c.args.lane (lane_count c.args.lane) ts) c.args.lane c.lanes.left.lanes (terminals_of c.lanes.left.cursor) c.lanes.bytes.items c.in-Err.refusal (ap (λ n. lanes_from c.args.lane n ts) (sym c.lane_count.ensures) ∙ c.lanes.invariant) c.in-Err.ensures.0 c.in-Err.ensures.1
