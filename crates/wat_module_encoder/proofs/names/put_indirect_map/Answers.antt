use Rattle.std.proofs.Common.{◌≡◌, ◌∙◌, ◌+◌, ◌∷◌, ◌++◌, suc, length, drop, map, ap, sym, subst, arith}
use Rattle.std.proofs.Math.Numerals.{add-one}
use Rattle.std.proofs.Math.Seq.{drop-cons}
use Rattle.std.specs.Prelude.{OnOk}
use Rattle.std.specs.List.{flat_map}
use Rattle.wat_module_ast.specs.Views.{association_of, field_of}
use Rattle.wat_module_encoder.specs.NameSection.{indirect_associations, indirect_bytes}
use Rattle.wat_module_encoder.specs.Views.{counted_section, maps_in}
use Rattle.wat_module_encoder.proofs.NameLaws.{all_maps, with_function, without_function}
use Rattle.wat_module_encoder.proofs.names.put_indirect_map.Goals as goal
use Rattle.wat_module_encoder.proofs.names.put_indirect_map.Goals.{in-Some+in_ok-count, in_default}

pub returns : goal.returns
returns c =
    let put = subst (λ items. OnOk c.put_section.result (c.put_section.new.out.items ≡ c.args.out.now.items ++ counted_section c.args.number c.loop-field.count items)) c.deref.ensures.value c.put_section.ensures in
    all_maps c.put_section.result c.args.number c.loop-field.count c.loop-field.function c.loop-field.field-index c.args.out.now.items c.put_section.new.out.items c.loop-field.items.items c.args.which c.args.fields.now c.loop-field.invariant.0 c.loop-field.invariant.1 c.loop-field-test.false put

pub loop-field-preserved : goal.loop-field-preserved
loop-field-preserved c =
    let x = c.field-item.result in
    let first = drop-cons c.args.fields.now c.loop-field.field-index x c.loop-field-test.true ∙ ap (λ y. y ∷ drop (suc c.loop-field.field-index) c.args.fields.now) (sym c.field-item.is) ∙ ap (λ k. x ∷ drop k c.args.fields.now) (sym (add-one c.loop-field.field-index)) in
    let others = flat_map (maps_in c.args.which) (map field_of (drop (c.loop-field.field-index + 1) c.args.fields.now)) in
    let counted = c.loop-field.invariant.2 in
    let passed = c.loop-field.invariant.3 in
    elim c.match-names_within.branch [
      | in-Some+in_ok-count w ↦
          let r = with_function c.args.which x (drop c.loop-field.field-index c.args.fields.now) (drop (c.loop-field.field-index + 1) c.args.fields.now) (map association_of w.in-Some.names.now) c.loop-field.function c.loop-field.count w.in_ok-count.field-0 c.loop-field.items.items w.put_function_names.new.items.items _ _ first w.in-Some.ensures w.in_ok-count.ensures.items w.in_ok-count.ensures.count c.loop-field.invariant.0 c.loop-field.invariant.1 in
          let next = w.function-is ∙ add-one c.loop-field.function in
          let one = w.in_ok-count.ensures.small in
          (r.0 ∙ ap (λ v. v.items ++ flat_map indirect_bytes (indirect_associations (suc c.loop-field.function) others)) (sym w.items-is) ∙ ap (λ k. c.match-names_within.items.items ++ flat_map indirect_bytes (indirect_associations k others)) (sym next), r.1 ∙ ap (λ k. k + length (indirect_associations (suc c.loop-field.function) others)) (sym w.count-is) ∙ ap (λ k. c.match-names_within.count + length (indirect_associations k others)) (sym next), omega (arith, w.count-is, one, counted), omega (arith, w.function-is, passed))
      | in_default w ↦
          let r = without_function c.args.which x (drop c.loop-field.field-index c.args.fields.now) (drop (c.loop-field.field-index + 1) c.args.fields.now) c.loop-field.function c.loop-field.count c.loop-field.items.items _ _ first w.in_default.ensures c.loop-field.invariant.0 c.loop-field.invariant.1 in
          (r.0 ∙ ap (λ v. v.items ++ flat_map indirect_bytes (indirect_associations c.loop-field.function others)) (sym w.items-is) ∙ ap (λ k. c.match-names_within.items.items ++ flat_map indirect_bytes (indirect_associations k others)) (sym w.function-is), r.1 ∙ ap (λ k. k + length (indirect_associations c.loop-field.function others)) (sym w.count-is) ∙ ap (λ k. c.match-names_within.count + length (indirect_associations k others)) (sym w.function-is), omega (arith, w.count-is, counted), omega (arith, w.function-is, passed))
    ]
