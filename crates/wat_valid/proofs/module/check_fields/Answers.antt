use Rattle.std.proofs.Common.{◌≡◌, ◌∙◌, List, Option, Some, None, sym, ap}
use Rattle.std.specs.Prelude.{IfOk, MatchOption}
use Rattle.std.specs.Prelude.{Result, Ok, Err}
use Rattle.wat_module_ast.specs.Fields.{Field}
use Rattle.wat_module_ast.specs.Views.{fields_of}
use Rattle.wat_valid.specs.declared.module.Violation.{Violation}
use Rattle.wat_valid.specs.Contexts.{Context}
use Rattle.wat_valid.specs.ContextViews.{context_of}
use Rattle.wat_valid.specs.Headers.{FirstViolation, HeadersAreValid}
use Rattle.wat_valid.specs.Modules as validation
use Rattle.wat_valid.proofs.OtherRefs.{first_as, valid_as}
use Rattle.wat_valid.proofs.module.check_fields.Goals as goal

abbrev checked : {E : Type 0} → Context → List Field → Result (Option Violation) E → Type 0
checked C fs r = IfOk r (λ found. MatchOption found (HeadersAreValid C fs) (λ v. FirstViolation C fs v.field v.reason))

checked_as : {E : Type 0} (C D : Context) (fs : List Field) (r : Result (Option Violation) E) → C ≡ record D { refs = C.refs } → checked C fs r → checked D fs r
checked_as C D fs (Ok None) e h = valid_as C D fs e h
checked_as C D fs (Ok (Some v)) e h = first_as C D fs v.field v.reason e h
checked_as C D fs (Err x) e h = h

pub returns : goal.returns
returns c =
    let C = context_of c.full.result in
    let D = validation.context_of (fields_of c.args.fields.now) in
    checked_as C D (fields_of c.args.fields.now) c.check_headers.result (c.full.ensures ∙ c.in_ok-context.ensures.full.items ∙ ap (λ (x : Context). record D { refs = x.refs }) (sym c.full.ensures)) c.check_headers.ensures
