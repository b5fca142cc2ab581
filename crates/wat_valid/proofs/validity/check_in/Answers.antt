use Rattle.std.proofs.Common.{refl, take}
use Rattle.wat_module_ast.specs.Views.{fields_of}
use Rattle.wat_valid.specs.ContextViews.{context_of}
use Rattle.wat_valid.proofs.FirstInvalid.{all_checked, code_before, headers_valid, no_code_before, violated_first}
use Rattle.wat_valid.proofs.validity.check_in.Goals as goal

pub returns-in-None : goal.returns-in-None
returns-in-None c =
    let C = context_of c.args.context.now in
    let D = context_of c.args.constants.now in
    let fs = fields_of c.args.fields.now in
    all_checked C D fs c.check_codes.result (headers_valid C fs c.in_ok-check_headers.field-0 c.in-None.is c.in_ok-check_headers.ensures) c.check_codes.ensures

pub returns-in-Some-2 : goal.returns-in-Some-2
returns-in-Some-2 c =
    let C = context_of c.args.context.now in
    let D = context_of c.args.constants.now in
    let v = c.in-Some.violation in
    let first = violated_first C (fields_of c.args.fields.now) c.in_ok-check_headers.field-0 v c.in-Some.is c.in_ok-check_headers.ensures in
    code_before C D c.args.fields.now (take v.field c.args.fields.now) v.field v.reason c.in_ok-invalid-in-Some.field-0 c.in-Some-2.invalid refl first c.in-Some-2.is c.in_ok-invalid-in-Some.ensures

pub returns-in-None-2 : goal.returns-in-None-2
returns-in-None-2 c =
    let C = context_of c.args.context.now in
    let D = context_of c.args.constants.now in
    let v = c.in-Some.violation in
    let first = violated_first C (fields_of c.args.fields.now) c.in_ok-check_headers.field-0 v c.in-Some.is c.in_ok-check_headers.ensures in
    no_code_before C D c.args.fields.now (take v.field c.args.fields.now) v.field v.reason c.in_ok-invalid-in-Some.field-0 refl first c.in-None-2.is c.in_ok-invalid-in-Some.ensures
