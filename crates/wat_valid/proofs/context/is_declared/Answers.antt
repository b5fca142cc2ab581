use Rattle.std.proofs.Common.{◌∙◌, sym}
use Rattle.wat_valid.proofs.Declared.{is_there, is_not_there}
use Rattle.wat_valid.proofs.context.is_declared.Goals as goal

pub returns-in-Some : goal.returns-in-Some
returns-in-Some c =
    let h = c.in-Some.ensures.lookup in
    h.1 ∙ sym (is_there c.args.function c.args.context.now.declared.now c.in-Some.is_declared.now h.3.0)

pub returns-in-None : goal.returns-in-None
returns-in-None c = sym (is_not_there c.args.function c.args.context.now.declared.now c.in-None.ensures.lookup.3)
