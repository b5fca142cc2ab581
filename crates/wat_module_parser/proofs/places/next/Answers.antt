use Rattle.std.proofs.Common.{◌∙◌, ap, sym}
use Rattle.wat_module_ast.specs.Views.{field_of}
use Rattle.wat_module_parser.specs.Views.{property}
use Rattle.wat_module_parser.proofs.FieldIndices.{found, further}
use Rattle.wat_module_parser.proofs.places.next.Goals as goal

pub returns-then-has_property-clause-is : goal.returns-then-has_property-clause-is
returns-then-has_property-clause-is c =
    let same = ap (λ f. property c.args.sought (field_of f)) (sym c.index-fields-i.is) ∙ sym c.has_property.ensures ∙ c.if-has_property.true in
    sym (found (property c.args.sought) c.args.fields.now c.loop-i.i _ _ c.loop-i-test.true c.loop-i.invariant same)

pub loop-i-preserved : goal.loop-i-preserved
loop-i-preserved c =
    let same = ap (λ f. property c.args.sought (field_of f)) (sym c.index-fields-i.is) ∙ sym c.has_property.ensures ∙ c.if-has_property.false in
    further (property c.args.sought) c.args.fields.now c.loop-i.i _ _ c.loop-i-test.true c.loop-i.invariant same
