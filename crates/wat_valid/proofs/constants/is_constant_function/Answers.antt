use Rattle.std.proofs.Common.{sym, subst}
use Rattle.std.specs.Prelude.{IsTrue}
use Rattle.wat_module_ast.specs.declared.instruction.ReferenceType.{ReferenceType}
use Rattle.wat_module_ast.specs.declared.instruction.ValueType.TheVariants as value
use Rattle.wat_module_ast.specs.Fields.{ref_func}
use Rattle.wat_valid.specs.ContextViews.{context_of}
use Rattle.wat_valid.specs.Instructions.{Constant}
use Rattle.wat_valid.proofs.FunctionConstants.{function_constant, not_extern}
use Rattle.wat_valid.proofs.constants.is_constant_function.Goals as goal

pub returns-in-Func : goal.returns-in-Func
returns-in-Func c =
    let C = context_of c.args.context.now in
    let x = c.args.function in
    subst (λ (t : ReferenceType). (IsTrue c.can_be_referred.result → Constant C (ref_func x) (value.Reference t)) × (Constant C (ref_func x) (value.Reference t) → IsTrue c.can_be_referred.result)) (sym c.in-Func.is)
    (function_constant C x c.can_be_referred.result c.can_be_referred.ensures)

pub returns-in-Extern : goal.returns-in-Extern
returns-in-Extern c =
    let C = context_of c.args.context.now in
    let x = c.args.function in
    (λ r. cc, λ k. absurd (not_extern C x (subst (λ (t : ReferenceType). Constant C (ref_func x) (value.Reference t)) c.in-Extern.is k)))
