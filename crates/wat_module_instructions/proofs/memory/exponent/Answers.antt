use Rattle.std.proofs.Common.{◌∙◌, sym, arith}
use Rattle.wat_module_ast.specs.Memory.{exponent_below}
use Rattle.wat_module_instructions.proofs.Exponents.{half, is_exponent, is_below}
use Rattle.wat_module_instructions.proofs.memory.exponent.Goals as goal

pub returns-then-power-from : goal.returns-then-power-from
returns-then-power-from c =
    is_exponent c.loop-n.n c.args.of c.loop-n.power (exponent_below 32 c.args.of) c.loop-n-test.true c.loop-n.invariant.0 c.loop-n.invariant.2 (c.if-power-from.true ∙ c.from.ensures)

pub loop-n-preserved : goal.loop-n-preserved
loop-n-preserved c = (
  half c.loop-n.n c.loop-n.power c.loop-n-test.true c.loop-n.invariant.0,
  omega (arith, c.loop-n.invariant.1),
  is_below c.loop-n.n c.args.of c.loop-n.power (exponent_below 32 c.args.of) c.loop-n-test.true c.loop-n.invariant.0 c.loop-n.invariant.2 (λ is. c.if-power-from.false (is ∙ sym c.from.ensures)),
)
