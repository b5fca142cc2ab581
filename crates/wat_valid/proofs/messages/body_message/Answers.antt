use Rattle.std.proofs.Common.{◌≡◌, IfOk, string_bytes, subst}
use Rattle.std.specs.Option.{option_map}
use Rattle.wat_module_ast.specs.Views.{field_of, fields_of}
use Rattle.wat_valid.specs.ContextViews.{context_of, full_context}
use Rattle.wat_valid.proofs.SameMessages.{told}
use Rattle.wat_valid.proofs.messages.body_message.Goals as goal

pub returns : goal.returns
returns c =
    subst (λ w. IfOk c.field_message.result (λ text. string_bytes text ≡ w))
    (told (fields_of c.args.fields.now) (full_context c.in_ok-context.context) (context_of c.full.result) (option_map (λ f. field_of f.now) c.field_at.result) c.args.field c.args.function c.args.at c.full.ensures c.in_ok-context.ensures.full c.field_at.ensures)
    c.field_message.ensures
