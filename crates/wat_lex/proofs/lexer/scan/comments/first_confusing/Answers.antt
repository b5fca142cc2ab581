use Rattle.std.proofs.Common.{◌≡◌, ◌++◌, ◌+◌, drop, subst, sym, ◌∙◌, arith}
use Rattle.std.proofs.lemmas.Str.{IsCharBoundary-from_drop}
use Rattle.std.specs.Str.Iter.{chars_rest}
use lib.Utf8.{encode}
use Rattle.wat_lex.proofs.inside.Confusing.{Searched, searched_start, searched_lead, searched_end, searched_found, searched_more, lead_found, no_lead_found}
use Rattle.wat_lex.proofs.lexer.scan.comments.first_confusing.Goals as goal
use Rattle.wat_lex.proofs.lexer.scan.comments.first_confusing.Goals.{In-Some-next}

here : (c : In-Some-next) → Searched c.args.text.now (c.places.at + c.in-Some.skipped)
here c = searched_lead c.args.text.now c.as_bytes-in-places.result.now c.places.at c.in-Some.skipped c.places.invariant (c.as_bytes-in-places.ensures.value ∙ c.range_from.ensures.value) c.in-Some.ensures

spelled : (c : In-Some-next) → drop (c.places.at + c.in-Some.skipped) c.args.text.now ≡ encode c.in-Some-next.c ++ chars_rest c.next.new.self
spelled c = sym (c.chars.ensures.rest ∙ c.range_from-in-Some.ensures.value) ∙ c.in-Some-next.ensures.steps.0

pub range_from-requires : goal.range_from-requires
range_from-requires c = λ _. let s = c.places.invariant in IsCharBoundary-from_drop c.args.text.now c.places.at s.range s.utf8

pub returns-then-is_confusing : goal.returns-then-is_confusing
returns-then-is_confusing c =
    let at = (goal.at.returns-then-is_confusing c).In-Some-next in
    searched_found c.args.text.now (chars_rest c.next.new.self) _ c.in-Some-next.c (here at) (spelled at) (sym c.is_confusing.ensures ∙ c.if-is_confusing.true)

pub places-preserved : goal.places-preserved
places-preserved c =
    let at = (goal.at.places-preserved c).In-Some-next in
    subst (λ x. Searched c.args.text.now (c.places.at + c.in-Some.skipped + x)) (sym c.len_utf8-at.ensures.value)
    (searched_more c.args.text.now (chars_rest c.next.new.self) _ c.in-Some-next.c (here at) (spelled at) (sym c.is_confusing.ensures ∙ c.if-is_confusing.false))

pub returns : goal.returns
returns c = searched_end c.args.text.now c.as_bytes-in-places.result.now c.places.at c.places.invariant (c.as_bytes-in-places.ensures.value ∙ c.range_from.ensures.value) c.in_default.ensures

pub returns-in_err-at : goal.returns-in_err-at
returns-in_err-at c =
    let text = c.args.text.now in
    let bytes = c.as_bytes.result.now in
    rw c.from_residual.ensures (searched_end text bytes 0 (searched_start text c.utf8.text) c.as_bytes.ensures.value (no_lead_found bytes c.in_err-at.ensures))

pub places-init : goal.places-init
places-init c =
    let text = c.args.text.now in
    let bytes = c.as_bytes.result.now in
    let e : 0 + c.in_ok-at.at ≡ c.in_ok-at.at = omega arith in
    subst (Searched text) e (searched_lead text bytes 0 c.in_ok-at.at (searched_start text c.utf8.text) c.as_bytes.ensures.value (lead_found bytes c.in_ok-at.at c.in_ok-at.ensures))
