use Rattle.std.proofs.Common.{◌≡◌, ◌∙◌, ◌-◌, ◌∷◌, [], ap, sym, arith, map, length, true}
use Rattle.std.specs.Prelude.{Vec}
use Rattle.std.specs.declared.alloc.Global.{Global}
use Rattle.std.specs.Vec.Iter.{into_iter_items}
use Rattle.wat_module_custom.specs.declared.sections.CustomSection.{CustomSection as CodeSection}
use Rattle.wat_module_custom.specs.Customs.{level, misplaced, placed_by, sections_from, sections_in}
use Rattle.wat_module_custom.specs.Values.{item_of, section_of}
use Rattle.wat_module_custom.proofs.Steps.{at_end, before, level_most, map_push, misplaced_section, nothing_left, placed_section, plain, with_all}
use Rattle.wat_lexer_parser.specs.lemmas.AnswerLaws.{refusal_answers}
use Rattle.wat_module_custom.proofs.placing.placed.Goals as goal

pub loop-item-preserved-then-left-gt0 : goal.loop-item-preserved-then-left-gt0
loop-item-preserved-then-left-gt0 c =
    let at = c.loop-item in
    let steps : into_iter_items at.item-iterator ≡ c.in-Some.item ∷ into_iter_items c.next.new.self = c.in-Some.ensures.steps.0 in
    let is = ap (map item_of) steps ∙ ap (λ i. item_of i ∷ map item_of (into_iter_items c.next.new.self)) c.in-Plain.is in
    let short = ap length steps in
    let gone = c.in-Some.ensures.steps.1 in
    let was = at.invariant.2 in
    let few = at.invariant.1 in
    let some = c.if-left-gt0.true in (
      before (sections_in (map item_of c.args.items.items)) (map section_of at.sections.items) at.left at.depth _ _ (at.left - 1) c.in-Plain.piece at.invariant.0 is (omega (arith, some)),
      omega (arith, few, short),
      omega (arith, was, gone, short),
    )

pub loop-item-preserved-else-left-gt0 : goal.loop-item-preserved-else-left-gt0
loop-item-preserved-else-left-gt0 c =
    let at = c.loop-item in
    let steps : into_iter_items at.item-iterator ≡ c.in-Some.item ∷ into_iter_items c.next.new.self = c.in-Some.ensures.steps.0 in
    let is = ap (map item_of) steps ∙ ap (λ i. item_of i ∷ map item_of (into_iter_items c.next.new.self)) c.in-Plain.is in
    let short = ap length steps in
    let gone = c.in-Some.ensures.steps.1 in
    let was = at.invariant.2 in
    let few = at.invariant.1 in
    let none = c.if-left-gt0.false in
    let small = c.args.items.small in
    let ok = c.args.items.ok in
    let new : c.level-depth.result ≡ level c.in-Plain.piece at.depth = c.level-depth.ensures (omega (arith, few, short, small, ok)) in
    let most = level_most c.in-Plain.piece at.depth in (
      plain (sections_in (map item_of c.args.items.items)) (map section_of at.sections.items) at.left at.depth _ _ c.in-Plain.piece at.invariant.0 is (omega (arith, none)) ∙ sym (ap (λ d. with_all (map section_of at.sections.items) (sections_from at.left d (map item_of (into_iter_items c.next.new.self)))) new),
      omega (arith, few, short, new, most),
      omega (arith, was, gone, short),
    )

pub loop-item-preserved : goal.loop-item-preserved
loop-item-preserved c =
    let at = c.loop-item in
    let steps : into_iter_items at.item-iterator ≡ c.in-Some.item ∷ into_iter_items c.next.new.self = c.in-Some.ensures.steps.0 in
    let is = ap (map item_of) steps ∙ ap (λ i. item_of i ∷ map item_of (into_iter_items c.next.new.self)) c.in-Annotated.is in
    let short = ap length steps in
    let gone = c.in-Some.ensures.steps.1 in
    let was = at.invariant.2 in
    let few = at.invariant.1 in
    let pushed = ap (map section_of) c.in_ok-push-in-Annotated.ensures.items ∙ map_push section_of at.sections.items c.in-Annotated.section in (
      placed_section (sections_in (map item_of c.args.items.items)) (map section_of at.sections.items) at.left at.depth _ _ (section_of c.in-Annotated.section) c.in-Annotated.at at.invariant.0 is (sym c.is_field_place.ensures ∙ c.if-not-is_field_place.false) ∙ sym (ap (λ s. with_all s (sections_from at.left at.depth (map item_of (into_iter_items c.next.new.self)))) pushed),
      omega (arith, few, short),
      omega (arith, was, gone, short),
    )

pub returns : goal.returns
returns c =
    let at = c.loop-item in
    let none = c.in-None.ensures.steps in
    let empty = ap (map item_of) (nothing_left (into_iter_items at.item-iterator) (sym at.invariant.2 ∙ none.0)) in
    ap (placed_by c.args.text.now) (at_end (sections_in (map item_of c.args.items.items)) (map section_of at.sections.items) at.left at.depth _ [] at.invariant.0 empty)

pub returns-then-not-is_field_place : goal.returns-then-not-is_field_place
returns-then-not-is_field_place c =
    let at = c.loop-item in
    let steps : into_iter_items at.item-iterator ≡ c.in-Some.item ∷ into_iter_items c.next.new.self = c.in-Some.ensures.steps.0 in
    let is = ap (map item_of) steps ∙ ap (λ i. item_of i ∷ map item_of (into_iter_items c.next.new.self)) c.in-Annotated.is in
    let found = misplaced_section (sections_in (map item_of c.args.items.items)) (map section_of at.sections.items) at.left at.depth _ _ (section_of c.in-Annotated.section) c.in-Annotated.at at.invariant.0 is (sym c.is_field_place.ensures ∙ c.if-not-is_field_place.true) in
    refusal_answers true (λ (v : Vec CodeSection Global). map section_of v.items) (placed_by c.args.text.now (sections_in (map item_of c.args.items.items))) c.misplaced.result (misplaced c.args.text.now c.in-Annotated.at) (ap (placed_by c.args.text.now) found) c.misplaced.ensures
