use Rattle.std.proofs.Common.{◌∙◌, ap, sym, arith}
use Rattle.wat_module_instructions.specs.Named.{innermost}
use Rattle.wat_module_instructions.specs.Stack.{stack}
use Rattle.wat_module_instructions.proofs.Stacks.{empty_is, stack_top}
use Rattle.wat_module_instructions.proofs.frame.Frames.last.Goals as goal

pub returns-in-empty : goal.returns-in-empty
returns-in-empty c = ap innermost (sym c.self.view_is ∙ ap stack (sym c.as_slice.ensures.value) ∙ empty_is c.as_slice.result.now (omega (arith, c.in-empty.len_below)))

pub returns-in-len1-up : goal.returns-in-len1-up
returns-in-len1-up c = ap innermost (sym c.self.view_is ∙ ap stack (sym c.as_slice.ensures.value) ∙ stack_top c.as_slice.result.now _ c.frame-item.result c.in-len1-up.len_at_least (sym c.frame-item.is))
