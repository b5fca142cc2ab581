use Rattle.std.proofs.Common.{◌≡◌, ℕ, IfOk, string_bytes, subst, sym}
use Rattle.wat_module_ast.specs.Views.{fields_of}
use Rattle.wat_modules.specs.ValidityMessages as messages
use Rattle.wat_valid.specs.BodyMessages.{body_message}
use Rattle.wat_valid.specs.declared.code.Cause.{Cause}
use Rattle.wat_modules.proofs.validity.message_of.Goals as goal

pub returns-in-Body : goal.returns-in-Body
returns-in-Body c =
    let fs = fields_of c.args.fields.now in
    let field = c.args.invalid.field in
    subst (λ (x : Cause). IfOk c.body_message.result (λ text. string_bytes text ≡ messages.message fs field x)) (sym c.in-Body.is)
    (subst (λ (n : ℕ). IfOk c.body_message.result (λ text. string_bytes text ≡ body_message fs field n c.in-Body.at)) c.function_index.ensures c.body_message.ensures)
