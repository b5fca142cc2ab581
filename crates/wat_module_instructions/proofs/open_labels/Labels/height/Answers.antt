use Rattle.std.proofs.Common.{◌<◌, length, take, Some, None, ap, sym, ◌∙◌, arith}
use Rattle.wat_module_instructions.specs.Heights.{height_of, seen}
use Rattle.wat_module_instructions.proofs.Heights.{found}
use Rattle.wat_module_instructions.proofs.open_labels.Labels.height.Goals as goal

pub returns-in-Some : goal.returns-in-Some
returns-in-Some c =
    let many : 16 < length c.self.inside.open.items = omega (arith, c.self.inside.open.ok.0, c.len.ensures, c.if-len-le-FEW.false) in
    sym (ap (height_of c.args.name.now) (sym c.self.view_is) ∙ found c.self.inside.heights c.self.inside.open.items c.args.name.now (Some c.in-Some.height.now) many c.self.invariant c.in-Some.ensures.value)

pub returns-in-None : goal.returns-in-None
returns-in-None c =
    let many : 16 < length c.self.inside.open.items = omega (arith, c.self.inside.open.ok.0, c.len.ensures, c.if-len-le-FEW.false) in
    c.innermost-in-None.ensures ∙ ap (λ ls. height_of c.args.name.now (seen (take 16 ls))) c.deref-in-None.ensures.value
    ∙ sym (ap (height_of c.args.name.now) (sym c.self.view_is) ∙ found c.self.inside.heights c.self.inside.open.items c.args.name.now None many c.self.invariant c.in-None.ensures.value)
