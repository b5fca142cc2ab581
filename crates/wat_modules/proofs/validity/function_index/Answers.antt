use Rattle.wat_modules.proofs.Counting.{counted_before}
use Rattle.wat_modules.proofs.validity.function_index.Goals as goal

pub returns : goal.returns
returns c = counted_before c.args.fields.now c.fields_before.result.now c.args.field c.function_count.result c.function_count.ensures c.fields_before.ensures
