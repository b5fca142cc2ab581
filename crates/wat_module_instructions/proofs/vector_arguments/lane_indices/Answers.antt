use Rattle.std.proofs.Common.{arith}
use Rattle.wat_module_tokens.specs.TokenCursor.{terminals_of}
use Rattle.wat_module_ast.specs.Grammar.{lane_indices}
use Rattle.wat_module_instructions.proofs.Lanes.{before_nothing, indices_on, indices_end, indices_fault}
use Rattle.wat_module_instructions.proofs.vector_arguments.lane_indices.Goals as goal

pub indices-init : goal.indices-init
indices-init c = before_nothing c.new-indices.result.items (lane_indices 16 (terminals_of c.args.cursor)) c.new-indices.ensures.items

pub indices-smaller : goal.indices-smaller
indices-smaller c = let next = rw (c.in-Ok-Some.field-0-is) at c.in-Ok-Some.ensures in omega (arith, next.0)

pub indices-preserved : goal.indices-preserved
indices-preserved c =
    let next = rw (c.in-Ok-Some.field-0-is) at c.in-Ok-Some.ensures in
    indices_on (lane_indices 16 (terminals_of c.args.cursor)) c.indices.left.lanes c.in-Ok-Some.next.lanes next.1.number (terminals_of c.indices.left.cursor) (terminals_of c.in-Ok-Some.next.cursor) c.indices.indices.items c.next_index.new.indices.items c.indices.invariant next.0 next.1.is next.1.follow

pub returns-in-Ok-None : goal.returns-in-Ok-None
returns-in-Ok-None c =
    let none = rw (c.in-Ok-None.field-0-is) at c.in-Ok-None.ensures in
    indices_end (lane_indices 16 (terminals_of c.args.cursor)) c.indices.left.lanes (terminals_of c.indices.left.cursor) c.indices.indices.items c.next_index.new.indices.items c.indices.invariant none.0 none.1

pub returns-in-Err : goal.returns-in-Err
returns-in-Err c =
    indices_fault (lane_indices 16 (terminals_of c.args.cursor)) c.indices.left.lanes (terminals_of c.indices.left.cursor) c.indices.indices.items c.in-Err.refusal c.indices.invariant c.in-Err.ensures.0 c.in-Err.ensures.1
