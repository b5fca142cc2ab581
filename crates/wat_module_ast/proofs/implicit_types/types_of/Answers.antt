use Rattle.wat_module_ast.proofs.FunctionTypes.{field_used}
use Rattle.wat_module_ast.proofs.implicit_types.types_of.Goals as goal

pub loop-field-preserved : goal.loop-field-preserved
loop-field-preserved c =
    field_used c.args.fields.now c.field-item.result _ c.loop-field.field-index _ c.loop-field.types c.add_field.new.types c.loop-field.invariant c.loop-field-test.true c.field-item.is c.in_ok-add_field.ensures
