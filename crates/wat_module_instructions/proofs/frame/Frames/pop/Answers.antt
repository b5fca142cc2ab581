use Rattle.std.proofs.Common.{◌≡◌, ◌∙◌, ◌∷◌, ap, sym}
use Rattle.wat_module_instructions.specs.Stack.{part, stack}
use Rattle.wat_module_instructions.proofs.Named.{closed_absent, closed_given, closed_none, is_open}
use Rattle.wat_module_instructions.proofs.Stacks.{empty_is, stack_push}
use Rattle.wat_module_instructions.proofs.frame.Frames.pop.Goals.{in-None, in-Some-Absent, in-Some-Given}
use Rattle.wat_module_instructions.proofs.frame.Frames.pop.Goals as goal

pub returns-in_default : goal.returns-in_default
returns-in_default c = sym c.self.view_is ∙ empty_is c.self.inside.open.items (sym c.self.inside.open.ok.0 ∙ c.in_default.ensures.cases.0)

pub invariant_of-self-in-None : goal.invariant_of-self-in-None
invariant_of-self-in-None c = closed_none c.pop.new.self.items c.self.inside.open.items c.in-Some.frame c.self.inside.height c.self.inside.labels c.in-Some.ensures.items c.in-None.ensures c.self.invariant

pub overflow_sub-self : goal.overflow_sub-self
overflow_sub-self c = is_open c.pop.new.self.items c.self.inside.open.items c.in-Some.frame _ c.self.inside.height c.self.inside.labels c.in-Some.ensures.items c.in-Some-Absent.ensures c.self.invariant

pub invariant_of-self-in-Some-Absent : goal.invariant_of-self-in-Some-Absent
invariant_of-self-in-Some-Absent c = closed_absent c.pop.new.self.items c.self.inside.open.items c.in-Some.frame c.self.inside.height c.self.inside.labels c.in-Some.ensures.items (rw c.in-Some-Absent.field-0-is at c.in-Some-Absent.ensures) c.self.invariant

pub overflow_sub-self-in-Some-Given : goal.overflow_sub-self-in-Some-Given
overflow_sub-self-in-Some-Given c = is_open c.pop.new.self.items c.self.inside.open.items c.in-Some.frame _ c.self.inside.height c.self.inside.labels c.in-Some.ensures.items c.in-Some-Given.ensures c.self.invariant

pub invariant_of-self-in-Some-Given : goal.invariant_of-self-in-Some-Given
invariant_of-self-in-Some-Given c = closed_given c.pop.new.self.items c.self.inside.open.items c.in-Some.frame c.in-Some-Given.field-0-0.now c.self.inside.height c.self.inside.labels c.pop-in-Some-Given.new.self c.in-Some.ensures.items (rw c.in-Some-Given.field-0-is at c.in-Some-Given.ensures) c.pop-in-Some-Given.ensures c.self.invariant

pub returns : goal.returns
returns c =
    let rest : stack c.pop.new.self.items ≡ c.match-bound.self = elim c.match-bound.branch [ in-None w ↦ sym w.self-is | in-Some-Absent w ↦ sym w.self-is | in-Some-Given w ↦ sym w.self-is ] in
    sym c.self.view_is ∙ ap stack c.in-Some.ensures.items ∙ stack_push c.pop.new.self.items c.in-Some.frame ∙ ap (λ ps. part c.in-Some.frame ∷ ps) rest
