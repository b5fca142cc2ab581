use Rattle.std.proofs.Common.{[], ◌∷◌, ◌++◌, ap, ◌∙◌, arith}
use Rattle.wat_module_instructions.specs.Stack.{part, stack}
use Rattle.wat_module_instructions.proofs.Named.{at_most, opened_absent, opened_given, opened_none}
use Rattle.wat_module_instructions.proofs.Stacks.{stack_push}
use Rattle.wat_module_instructions.proofs.frame.Frames.push.Goals as goal

pub invariant_of-self : goal.invariant_of-self
invariant_of-self c = opened_none c.self.inside.open.items c.push.new.self.items c.args.frame c.self.inside.height c.self.inside.labels c.in_ok-push-in-None.ensures.items c.in-None.ensures c.self.invariant

pub overflow_add-self : goal.overflow_add-self
overflow_add-self c = omega (arith, at_most c.self.inside.open.items, c.self.invariant.0, c.self.inside.open.ok.0, c.self.inside.open.small)

pub invariant_of-self-in-Some-Absent : goal.invariant_of-self-in-Some-Absent
invariant_of-self-in-Some-Absent c = opened_absent c.self.inside.open.items c.push-in-Some-Absent.new.self.items c.args.frame c.self.inside.height c.self.inside.labels c.in_ok-push-in-Some-Absent.ensures.items (rw c.in-Some-Absent.field-0-is at c.in-Some-Absent.ensures) c.self.invariant

pub overflow_add-self-in-Some-Given : goal.overflow_add-self-in-Some-Given
overflow_add-self-in-Some-Given c = omega (arith, at_most c.self.inside.open.items, c.self.invariant.0, c.self.inside.open.ok.0, c.self.inside.open.small)

pub invariant_of-self-in-Some-Given : goal.invariant_of-self-in-Some-Given
invariant_of-self-in-Some-Given c =
    opened_given c.self.inside.open.items c.push-in-Some-Given-2.new.self.items c.args.frame c.in-Some-Given.name.now c.self.inside.height c.self.inside.labels c.push-in-Some-Given.new.self
    (c.in_ok-push-in-Some-Given-2.ensures.items ∙ ap (λ fs. fs ++ c.args.frame ∷ []) c.in_ok-reserve-in-Some-Given.ensures.items) (rw c.in-Some-Given.field-0-is at c.in-Some-Given.ensures) c.in_ok-push-in-Some-Given.ensures.opened c.self.invariant

pub returns-in_ok-push-in-None : goal.returns-in_ok-push-in-None
returns-in_ok-push-in-None c = ap stack c.in_ok-push-in-None.ensures.items ∙ stack_push c.self.inside.open.items c.args.frame ∙ ap (λ ps. part c.args.frame ∷ ps) c.self.view_is

pub returns-in_ok-push-in-Some-Absent : goal.returns-in_ok-push-in-Some-Absent
returns-in_ok-push-in-Some-Absent c = ap stack c.in_ok-push-in-Some-Absent.ensures.items ∙ stack_push c.self.inside.open.items c.args.frame ∙ ap (λ ps. part c.args.frame ∷ ps) c.self.view_is

pub returns-in_ok-push-in-Some-Given-2 : goal.returns-in_ok-push-in-Some-Given-2
returns-in_ok-push-in-Some-Given-2 c = ap stack (c.in_ok-push-in-Some-Given-2.ensures.items ∙ ap (λ fs. fs ++ c.args.frame ∷ []) c.in_ok-reserve-in-Some-Given.ensures.items) ∙ stack_push c.self.inside.open.items c.args.frame ∙ ap (λ ps. part c.args.frame ∷ ps) c.self.view_is
