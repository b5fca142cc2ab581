use Rattle.std.proofs.Common.{◌≡◌, ◌++◌, subst}
use Rattle.std.specs.Prelude.{OnOk}
use Rattle.wat_module_encoder.specs.Views.{counted_section}
use Rattle.wat_module_encoder.proofs.NameLaws.{all_names}
use Rattle.wat_module_encoder.proofs.names.put_map.Goals as goal

pub returns : goal.returns
returns c =
    let put = subst (λ items. OnOk c.put_section.result (c.put_section.new.out.items ≡ c.args.out.now.items ++ counted_section c.args.number c.loop-field.count items)) c.deref.ensures.value c.put_section.ensures in
    all_names c.put_section.result c.args.number c.loop-field.count c.loop-field.index c.loop-field.field-index c.args.out.now.items c.put_section.new.out.items c.loop-field.items.items c.args.space c.args.fields.now c.loop-field.invariant.0 c.loop-field.invariant.1 c.loop-field-test.false put
