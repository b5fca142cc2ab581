use Rattle.wat_module_ast.specs.Fields.{ref_func}
use Rattle.std.proofs.Common.{refl}
use Rattle.wat_valid.specs.ContextViews.{context_of}
use Rattle.wat_valid.proofs.FirstInvalid.{first_element, not_from}
use Rattle.wat_valid.proofs.code.other_function.Goals as goal

pub returns-then-not-is_constant_function : goal.returns-then-not-is_constant_function
returns-then-not-is_constant_function c =
    first_element (context_of c.args.context.now) c.args.of ref_func c.args.functions.now _ _ c.loop-i.i c.loop-i-test.true refl c.loop-i.invariant (not_from c.is_constant_function.result _ c.is_constant_function.ensures c.if-not-is_constant_function.true)
