use Rattle.std.proofs.Common.{ap, sym, ◌∙◌}
use Rattle.wat_module_ast.specs.Grammar.{position}
use Rattle.wat_module_instructions.specs.Machine.{labels_in}
use Rattle.wat_module_instructions.specs.Stack.{stack}
use Rattle.wat_module_instructions.proofs.Named.{index_below, index_none, index_some}
use Rattle.wat_module_instructions.proofs.frame.Frames.position.Goals as goal

pub overflow_sub-result-in-Some : goal.overflow_sub-result-in-Some
overflow_sub-result-in-Some c =
    index_below c.args.name.now (labels_in (stack c.self.inside.open.items)) c.self.inside.height c.in-Some.height c.self.inside.labels c.self.invariant.0 c.self.invariant.1 c.in-Some.ensures

pub returns-in-Some : goal.returns-in-Some
returns-in-Some c =
    sym (ap (λ ps. position 0 c.args.name.now (labels_in ps)) (sym c.self.view_is)
    ∙ index_some c.args.name.now (labels_in (stack c.self.inside.open.items)) c.self.inside.height c.in-Some.height c.self.inside.labels c.self.invariant.0 c.self.invariant.1 c.in-Some.ensures)

pub returns-in-None : goal.returns-in-None
returns-in-None c =
    sym (ap (λ ps. position 0 c.args.name.now (labels_in ps)) (sym c.self.view_is)
    ∙ index_none c.args.name.now (labels_in (stack c.self.inside.open.items)) c.self.inside.height c.self.inside.labels c.self.invariant.0 c.self.invariant.1 c.in-None.ensures)
