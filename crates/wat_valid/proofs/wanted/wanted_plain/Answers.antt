use Rattle.std.proofs.Common.{Bool, Option, ap, length, sym, ◌∙◌, true, false}
use Rattle.std.specs.Option.{option_map}
use Rattle.wat_valid.specs.Algorithm.{Effect, holds}
use Rattle.wat_valid.specs.ContextViews.{body_context}
use Rattle.wat_valid.specs.InstructionTypes.{nop}
use Rattle.wat_valid.specs.Views.{labels_in, typing_by}
use Rattle.wat_valid.specs.Wants.{wants_of}
use Rattle.wat_valid.proofs.Typed.{memory_there, own_effect, typed_effect}
use Rattle.wat_valid.proofs.wanted.wanted_plain.Goals as goal

pub returns-then-not-holds : goal.returns-then-not-holds
returns-then-not-holds c =
    sym (ap (λ (e : Option Effect). option_map wants_of e)
    (typed_effect (body_context c.args.context.now) (labels_in c.args.labels.now) c.args.instruction.now.opcode c.args.instruction.now.argument c.in-Some.of.signature c.in-Some.of.condition false c.in-Some.ensures (c.if-not-holds.ensures ∙ ap (λ (m : Bool). holds m (typing_by nop c.in-Some.of.condition) c.args.instruction.now.argument) (memory_there (length c.args.context.now.module.memories.now) c.is_empty.result c.is_empty.ensures))))

pub returns-else-not-holds : goal.returns-else-not-holds
returns-else-not-holds c =
    sym (ap (λ (e : Option Effect). option_map wants_of e)
    (typed_effect (body_context c.args.context.now) (labels_in c.args.labels.now) c.args.instruction.now.opcode c.args.instruction.now.argument c.in-Some.of.signature c.in-Some.of.condition true c.in-Some.ensures (c.if-not-holds.ensures ∙ ap (λ (m : Bool). holds m (typing_by nop c.in-Some.of.condition) c.args.instruction.now.argument) (memory_there (length c.args.context.now.module.memories.now) c.is_empty.result c.is_empty.ensures))))

pub returns-in-None : goal.returns-in-None
returns-in-None c =
    c.wanted_own.ensures ∙
    sym (ap (λ (e : Option Effect). option_map wants_of e) (own_effect (body_context c.args.context.now) (labels_in c.args.labels.now) c.args.instruction.now.opcode c.args.instruction.now.argument c.in-None.ensures))
