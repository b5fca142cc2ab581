use Rattle.std.proofs.Common.{IfOk, Option, Bool, ap, length, sym, subst, ◌∙◌, true, false}
use Rattle.wat_valid.specs.Algorithm.{Effect, effect_on, holds}
use Rattle.wat_valid.specs.ContextViews.{body_context}
use Rattle.wat_valid.specs.InstructionTypes.{nop}
use Rattle.wat_valid.specs.Views.{Does, labels_in, operands_of, typing_by}
use Rattle.wat_valid.proofs.Typed.{memory_there, own_effect, typed_effect}
use Rattle.wat_valid.proofs.plain.apply.Goals as goal

pub returns-then-not-holds : goal.returns-then-not-holds
returns-then-not-holds c =
    ap (λ (e : Option Effect). effect_on e (operands_of c.args.operands.now))
    (typed_effect (body_context c.args.context.now) (labels_in c.args.labels.now) c.args.instruction.now.opcode c.args.instruction.now.argument c.in-Some.of.signature c.in-Some.of.condition false c.in-Some.ensures (c.if-not-holds.ensures ∙ ap (λ (m : Bool). holds m (typing_by nop c.in-Some.of.condition) c.args.instruction.now.argument) (memory_there (length c.args.context.now.module.memories.now) c.is_empty.result c.is_empty.ensures)))

pub returns-else-not-holds : goal.returns-else-not-holds
returns-else-not-holds c =
    subst (λ (e : Option Effect). IfOk c.replace.result (Does e c.args.operands.now c.replace.new.operands))
    (sym (typed_effect (body_context c.args.context.now) (labels_in c.args.labels.now) c.args.instruction.now.opcode c.args.instruction.now.argument c.in-Some.of.signature c.in-Some.of.condition true c.in-Some.ensures (c.if-not-holds.ensures ∙ ap (λ (m : Bool). holds m (typing_by nop c.in-Some.of.condition) c.args.instruction.now.argument) (memory_there (length c.args.context.now.module.memories.now) c.is_empty.result c.is_empty.ensures)))) c.replace.ensures

pub returns-in-None : goal.returns-in-None
returns-in-None c =
    subst (λ (e : Option Effect). IfOk c.apply_own.result (Does e c.args.operands.now c.apply_own.new.operands))
    (sym (own_effect (body_context c.args.context.now) (labels_in c.args.labels.now) c.args.instruction.now.opcode c.args.instruction.now.argument c.in-None.ensures)) c.apply_own.ensures
