use Rattle.std.proofs.Common.{◌≡◌, ◌∙◌, ◌∷◌, ap, sym, arith, map, length, true, Some, None}
use Rattle.std.specs.Prelude.{Vec}
use Rattle.std.specs.declared.alloc.Global.{Global}
use Rattle.std.specs.Vec.Iter.{into_iter_items}
use Rattle.wat_lexer_parser.specs.lemmas.AnswerLaws.{refusal_answers}
use Rattle.wat_module_annotations.specs.declared.names.FieldNames.{FieldNames as CodeFieldNames}
use Rattle.wat_module_annotations.specs.Names.{after, fields_by, fields_from, misplaced, misplaced_at, outside, preceded_by}
use Rattle.wat_module_annotations.specs.Values.{context_of, field_names_of, item_of}
use Rattle.wat_module_annotations.proofs.Steps.{after_deep, map_push, no_more, nothing_left, step_end, step_misplaced, step_within}
use Rattle.wat_module_annotations.proofs.placing.fields_in.Goals as goal

pub returns-in-Some-misplaced : goal.returns-in-Some-misplaced
returns-in-Some-misplaced c =
    let at = c.loop-item in
    let steps : into_iter_items at.item-iterator ≡ c.in-Some.item ∷ into_iter_items c.next.new.self = c.in-Some.ensures.steps.0 in
    let is = ap (map item_of) steps in
    let wrong : misplaced (item_of c.in-Some.item) (context_of at.context) ≡ Some c.in-Some-misplaced.offset = sym c.misplaced.ensures ∙ c.in-Some-misplaced.is in
    let found = step_misplaced (fields_from outside (map item_of c.args.items.items)) (map field_names_of at.fields.items) (context_of at.context) _ _ (item_of c.in-Some.item) c.in-Some-misplaced.offset at.invariant.0 is wrong in
    refusal_answers true (λ (v : Vec CodeFieldNames Global). map field_names_of v.items) (fields_by c.args.text.now (fields_from outside (map item_of c.args.items.items))) c.misplaced_at.result (misplaced_at c.args.text.now c.in-Some-misplaced.offset) (ap (fields_by c.args.text.now) found) c.misplaced_at.ensures

pub loop-item-preserved-in_ok-push-23 : goal.loop-item-preserved-in_ok-push-23
loop-item-preserved-in_ok-push-23 c =
    let at = c.loop-item in
    let steps : into_iter_items at.item-iterator ≡ c.in-Some.item ∷ into_iter_items c.next.new.self = c.in-Some.ensures.steps.0 in
    let is = ap (map item_of) steps in
    let short = ap length steps in
    let gone = c.in-Some.ensures.steps.1 in
    let was = at.invariant.2 in
    let few = at.invariant.1 in
    let right : misplaced (item_of c.in-Some.item) (context_of at.context) ≡ None = sym c.misplaced.ensures ∙ c.in_default.is in
    let pushed = ap (map field_names_of) c.in_ok-push.ensures.items ∙ map_push field_names_of at.fields.items at.context.field in
    let left = map item_of (into_iter_items c.next.new.self) in
    let flat = ap (λ d. d.depth) c.begun-context-then-ends_field.ensures in (
      step_end (fields_from outside (map item_of c.args.items.items)) (map field_names_of at.fields.items) (context_of at.context) _ _ (item_of c.in-Some.item) at.invariant.0 is right (sym c.ends_field.ensures ∙ c.if-ends_field.true) ∙ sym (ap (λ fs. preceded_by fs (fields_from outside left)) pushed) ∙ sym (ap (λ d. preceded_by (map field_names_of c.push.new.self.items) (fields_from d left)) c.begun-context-then-ends_field.ensures),
      omega (arith, few, short, flat),
      omega (arith, was, gone, short),
    )

pub loop-item-preserved : goal.loop-item-preserved
loop-item-preserved c =
    let at = c.loop-item in
    let steps : into_iter_items at.item-iterator ≡ c.in-Some.item ∷ into_iter_items c.next.new.self = c.in-Some.ensures.steps.0 in
    let is = ap (map item_of) steps in
    let short = ap length steps in
    let gone = c.in-Some.ensures.steps.1 in
    let was = at.invariant.2 in
    let few = at.invariant.1 in
    let right : misplaced (item_of c.in-Some.item) (context_of at.context) ≡ None = sym c.misplaced.ensures ∙ c.in_default.is in
    let left = map item_of (into_iter_items c.next.new.self) in
    let next : context_of c.in_ok-context.context ≡ after (item_of c.in-Some.item) (context_of at.context) = c.in_ok-context.ensures in
    let depth = ap (λ d. d.depth) next in
    let deep = after_deep (item_of c.in-Some.item) (context_of at.context) in (
      step_within (fields_from outside (map item_of c.args.items.items)) (map field_names_of at.fields.items) (context_of at.context) _ _ (item_of c.in-Some.item) at.invariant.0 is right (sym c.ends_field.ensures ∙ c.if-ends_field.false) ∙ sym (ap (λ d. preceded_by (map field_names_of at.fields.items) (fields_from d left)) next),
      omega (arith, few, short, depth, deep),
      omega (arith, was, gone, short),
    )

pub returns : goal.returns
returns c =
    let at = c.loop-item in
    let none = c.in-None.ensures.steps in
    let empty = ap (map item_of) (nothing_left (into_iter_items at.item-iterator) (sym at.invariant.2 ∙ none.0)) in
    ap (fields_by c.args.text.now) (no_more (map field_names_of at.fields.items) (context_of at.context) _ (fields_from outside (map item_of c.args.items.items)) at.invariant.0 empty)
