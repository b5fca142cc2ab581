use Rattle.std.proofs.Common.{◌-◌, get_or, arith, refl, sym}
use Rattle.wat_module_ast.specs.declared.instruction.ValueType.TheVariants as value
use Rattle.wat_valid.proofs.Pops as pops
use Rattle.wat_valid.proofs.applying.has_values.Goals as goal

pub returns-then-top-eq0 : goal.returns-then-top-eq0
returns-then-top-eq0 c =
    pops.nothing_left c.args.operands.now.is_unreachable c.args.operands.now.types.items c.loop-left.left c.loop-left.top c.args.expected.now value.I32 (omega arith) (omega arith) (omega arith) c.loop-left.invariant.2

pub returns-then-not-is_value : goal.returns-then-not-is_value
returns-then-not-is_value c =
    pops.other_value c.args.operands.now.is_unreachable c.args.operands.now.types.items c.loop-left.left c.loop-left.top c.args.expected.now (get_or c.args.expected.now (c.loop-left.left - 1) value.I32) c.index.result.now value.I32 c.index.result.now
    (omega arith) (omega arith) (omega arith) (omega arith) c.loop-left.invariant.2 c.index.ensures refl (sym c.if-not-is_value.ensures)

pub loop-left-preserved : goal.loop-left-preserved
loop-left-preserved c = (
  omega arith,
  omega arith,
  pops.same_value c.args.operands.now.is_unreachable c.args.operands.now.types.items c.loop-left.left c.loop-left.top c.args.expected.now (get_or c.args.expected.now (c.loop-left.left - 1) value.I32) c.index.result.now value.I32 c.index.result.now
      (omega arith) (omega arith) (omega arith) (omega arith) c.loop-left.invariant.2 c.index.ensures refl (sym c.if-not-is_value.ensures),
)
