use Rattle.std.proofs.Common.{sym, subst}
use Rattle.wat_module_ast.specs.Views.{fields_of}
use Rattle.wat_valid.specs.Contexts.{Context}
use Rattle.wat_valid.specs.ContextViews.{Represents, context_of}
use Rattle.wat_valid.specs.Modules as validation
use Rattle.wat_valid.proofs.FirstInvalid.{first_of_module, valid_module}
use Rattle.wat_valid.proofs.validity.validate.Goals as goal

pub returns-clause-valid : goal.returns-clause-valid
returns-clause-valid c =
    let fs = fields_of c.args.fields.now in
    valid_module (context_of c.full.result) (context_of c.initial.result) fs c.check_in.result
    (subst (λ (X : Context). Represents X (validation.context_of fs)) (sym c.full.ensures) c.in_ok-context.ensures.full)
    (subst (λ (X : Context). Represents X (validation.initial_context_of fs)) (sym c.initial.ensures) c.in_ok-context.ensures.initial)
    c.check_in.ensures

pub returns-clause-first : goal.returns-clause-first
returns-clause-first c =
    let fs = fields_of c.args.fields.now in
    first_of_module (context_of c.full.result) (context_of c.initial.result) fs c.check_in.result
    (subst (λ (X : Context). Represents X (validation.context_of fs)) (sym c.full.ensures) c.in_ok-context.ensures.full)
    (subst (λ (X : Context). Represents X (validation.initial_context_of fs)) (sym c.initial.ensures) c.in_ok-context.ensures.initial)
    c.check_in.ensures
