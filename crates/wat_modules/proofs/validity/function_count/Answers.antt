use Rattle.std.proofs.Common.{arith, ap, sym, ◌∙◌}
use Rattle.std.specs.Prelude.{Bool, if◌then◌else◌}
use Rattle.wat_modules.proofs.Counting.{function_counted}
use Rattle.wat_modules.proofs.validity.function_count.Goals.{then-is_function, else-is_function}
use Rattle.wat_modules.proofs.validity.function_count.Goals as goal

pub loop-field-preserved : goal.loop-field-preserved
loop-field-preserved c =
    let i = c.loop-field.field-index in
    record {
      count = elim c.if-is_function.branch [
        | then-is_function w ↦
            let one = ap (λ (b : Bool). if b then 1 else 0) (sym w.if-is_function.true) ∙ c.is_function.ensures in
            function_counted c.args.fields.now c.field-item.result _ i c.loop-field.count c.if-is_function.count c.loop-field-test.true c.field-item.is c.loop-field.invariant.count (omega (arith, one, w.count-is))
        | else-is_function w ↦
            let none = ap (λ (b : Bool). if b then 1 else 0) (sym w.if-is_function.false) ∙ c.is_function.ensures in
            function_counted c.args.fields.now c.field-item.result _ i c.loop-field.count c.if-is_function.count c.loop-field-test.true c.field-item.is c.loop-field.invariant.count (omega (arith, none, w.count-is))
      ];
      few = elim c.if-is_function.branch [
        | then-is_function w ↦ omega (arith, w.count-is, c.loop-field.invariant.few)
        | else-is_function w ↦ omega (arith, w.count-is, c.loop-field.invariant.few)
      ];
    }
