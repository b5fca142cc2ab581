use Rattle.std.proofs.Common.{◌≡◌, ◌∙◌, ap, sym}
use Rattle.wat_module_tokens.specs.TokenCursor.{terminals_of}
use Rattle.wat_module_places.specs.Fields.{nth_field}
use Rattle.wat_module_places.proofs.Steps.{next_group, no_group, this_group}
use Rattle.wat_module_places.proofs.fields.nth_field.Goals as goal

pub returns-in_default : goal.returns-in_default
returns-in_default c = sym (no_group c.field.before (terminals_of c.field.left) c.in_default.ensures) ∙ c.field.invariant

pub returns-then-before-eq0 : goal.returns-then-before-eq0
returns-then-before-eq0 c =
    let e : c.field.before ≡ 0 = c.if-before-eq0.true in
    sym (ap (λ k. nth_field k (terminals_of c.field.left)) e ∙ this_group (terminals_of c.field.left) (terminals_of c.in-Some.inside) c.in-Some.ensures.0) ∙ c.field.invariant

pub field-preserved : goal.field-preserved
field-preserved c =
    sym (next_group c.field.before (terminals_of c.field.left) (terminals_of c.in-Some.inside) (terminals_of c.in-Some.rest) c.in-Some.ensures.0 c.in-Some.ensures.1 c.if-before-eq0.false) ∙ c.field.invariant
