use Rattle.wat_module_tokens.specs.TokenCursor.{terminals_of}
use Rattle.wat_module_instructions.specs.Parts.{scope_of}
use Rattle.wat_module_instructions.proofs.Stacks.{is_empty, on_top}
use Rattle.wat_module_instructions.proofs.Steps.{onto, into, onto_into, over, takes_one}
use Rattle.wat_module_instructions.proofs.machine.steps.Goals as goal

pub open-preserved : goal.open-preserved
open-preserved c =
    let context = scope_of c.args.scope.now in
    let top = on_top c.open.frames _ c.in-Some.ensures in
    let stepped = c.in-Ok.ensures _ top.0 top.1 in
    record {
      runs = λ end after h. c.open.invariant.runs end after (onto context _ c.open.frames top.0 c.step.new.frames (terminals_of c.open.left) (terminals_of c.in-Ok.next) end c.open.out.items c.step.new.out.items after top.1 stepped h);
      fails = λ r h. c.open.invariant.fails r (onto_into context _ c.open.frames top.0 c.step.new.frames (terminals_of c.open.left) (terminals_of c.in-Ok.next) c.open.out.items c.step.new.out.items r top.1 stepped h);
    }

pub open-smaller : goal.open-smaller
open-smaller c =
    let top = on_top c.open.frames _ c.in-Some.ensures in
    takes_one (scope_of c.args.scope.now) _ top.0 c.step.new.frames c.open.out.items c.step.new.out.items (terminals_of c.open.left) (terminals_of c.in-Ok.next) (c.in-Ok.ensures _ top.0 top.1)

pub returns-in-Err : goal.returns-in-Err
returns-in-Err c =
    let top = on_top c.open.frames _ c.in-Some.ensures in
    c.open.invariant.fails c.in-Err.refusal (into (scope_of c.args.scope.now) _ c.open.frames top.0 (terminals_of c.open.left) c.in-Err.refusal top.1 (c.in-Err.ensures _ top.0 top.1))

pub returns-in-None : goal.returns-in-None
returns-in-None c =
    c.open.invariant.runs (terminals_of c.open.left) c.open.out.items (over (scope_of c.args.scope.now) c.open.frames (terminals_of c.open.left) c.open.out.items (is_empty c.open.frames c.in-None.ensures))
