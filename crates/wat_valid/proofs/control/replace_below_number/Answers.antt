use Rattle.std.proofs.Common.{◌≡◌, IfOk, Bool, Option, Some, None, subst, sym}
use Rattle.std.specs.Prelude.{if◌then◌else◌}
use Rattle.wat_valid.specs.Algorithm.{Operands}
use Rattle.wat_valid.specs.Contexts.{values}
use Rattle.wat_valid.specs.Views.{operands_of}
use Rattle.wat_valid.proofs.Branching.{below_number, no_number}
use Rattle.wat_valid.proofs.control.replace_below_number.Goals as goal

pub returns-then-not-pop_value : goal.returns-then-not-pop_value
returns-then-not-pop_value c = no_number c.args.operands.now.is_unreachable c.args.operands.now.types.items c.args.params.now (values c.args.results.now) c.if-not-pop_value.ensures.is

pub returns : goal.returns
returns c =
    let below = below_number c.args.operands.now.is_unreachable c.pop_value.new.operands.is_unreachable c.args.operands.now.types.items c.pop_value.new.operands.types.items c.args.params.now (values c.args.results.now) c.pop_value.ensures.same c.if-not-pop_value.ensures.is in
    subst (λ (s : Option Operands). IfOk c.replace_all.result (λ (fits : Bool). s ≡ (if fits then Some (operands_of c.replace_all.new.operands) else None))) (sym below) c.replace_all.ensures
