use Rattle.std.proofs.Common.{◌≤◌, ◌<◌, [], ◌∷◌, ◌++◌, length, ap, refl, ◌∙◌, arith}
use Rattle.wat_module_instructions.proofs.Heights.{opened_deep, opened_few}
use Rattle.wat_module_instructions.proofs.open_labels.Labels.push.Goals as goal

pub invariant_of-self-then-len-lt-FEW : goal.invariant_of-self-then-len-lt-FEW
invariant_of-self-then-len-lt-FEW c =
    let few : length c.self.inside.open.items < 16 = omega (arith, c.self.inside.open.ok.0, c.len.ensures, c.if-len-lt-FEW.true) in
    opened_few c.self.inside.heights c.self.inside.open.items c.push.new.self.items _ c.in_ok-push.ensures.items few refl c.self.invariant

pub invariant_of-self-2 : goal.invariant_of-self-2
invariant_of-self-2 c =
    let deep : 16 ≤ length c.self.inside.open.items = omega (arith, c.self.inside.open.ok.0, c.len.ensures, c.if-len-lt-FEW.false) in
    opened_deep c.self.inside.heights c.insert.new.self c.self.inside.open.items c.push-2.new.self.items _ (c.in_ok-push-2.ensures.items ∙ ap (λ ls. ls ++ record { name = c.args.name; height = c.args.height; shadowed = c.in_ok-shadowed.shadowed } ∷ []) c.in_ok-reserve.ensures.items) deep c.in_ok-shadowed.ensures.old c.in_ok-shadowed.ensures.updates c.self.invariant
