use Rattle.wat_module_ast.specs.Views.{field_of}
use Rattle.wat_valid.specs.ContextViews.{context_of}
use Rattle.wat_valid.proofs.FirstInvalid.{failed, first_field}
use Rattle.wat_valid.proofs.code.check_codes.Goals as goal

pub returns-in-Some : goal.returns-in-Some
returns-in-Some c =
    let C = context_of c.args.context.now in
    let D = context_of c.args.constants.now in
    first_field C D field_of c.args.fields.now c.index-fields-i.result _ c.loop-i.i c.in-Some.cause c.loop-i-test.true c.index-fields-i.is c.loop-i.invariant (failed C D (field_of c.index-fields-i.result) c.in_ok-cause.field-0 c.in-Some.cause c.in-Some.is c.in_ok-cause.ensures)
