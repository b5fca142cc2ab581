use Rattle.std.proofs.Common.{◌≡◌, ◌∙◌, length, ap, sym, arith}
use Rattle.wat_module_tokens.specs.TokenCursor.{terminals_of}
use Rattle.wat_module_parser.proofs.BlockLabels.{at_end}
use Rattle.wat_module_parser.proofs.labels.all_labels.Goals as goal

pub returns-in_default : goal.returns-in_default
returns-in_default c =
    at_end c.loop-step.labels c.loop-step.waiting c.loop-step.depth (terminals_of c.loop-step.left) (ap length c.in_default.ensures) ∙ sym c.loop-step.invariant.are

pub returns : goal.returns
returns c =
    at_end c.loop-step.labels c.loop-step.waiting c.loop-step.depth (terminals_of c.loop-step.left) (omega (arith, c.loop-step.invariant.few, c.loop-step-test.false, c.most-step-end.ensures)) ∙ sym c.loop-step.invariant.are
