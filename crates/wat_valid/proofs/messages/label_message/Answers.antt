use Rattle.std.proofs.Common.{◌≡◌, IfOk, string_bytes, subst, sym}
use Rattle.wat_module_ast.specs.declared.instruction.Argument.{Argument}
use Rattle.wat_valid.specs.BodyMessages as messages
use Rattle.wat_valid.specs.Views.{labels_in, operands_of}
use Rattle.wat_valid.proofs.messages.label_message.Goals as goal

pub returns-in-Labels : goal.returns-in-Labels
returns-in-Labels c =
    let operands = operands_of c.args.frames.now.current.operands in
    let labels = labels_in c.args.frames.now.labels.items in
    subst (λ (a : Argument). IfOk c.table_message.result (λ text. string_bytes text ≡ messages.label_message c.args.place.function c.args.place.at labels operands a)) (sym c.in-Labels.is)
    (subst (λ ls. IfOk c.table_message.result (λ text. string_bytes text ≡ messages.table_message (labels_in ls) operands c.in-Labels.table)) c.deref.ensures.value c.table_message.ensures)
