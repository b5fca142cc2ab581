use Rattle.std.proofs.Common.{◌≡◌, ◌<◌, ◌≤◌, ◌⊎◌, inl, inr, ℕ, ◌++◌, ◌+◌, ◌-◌, arith, take, drop, ap, sym, ◌∙◌, rules, subst}
use Rattle.std.proofs.lemmas.Str.{IsCharBoundary-from_drop}
use Rattle.std.specs.Str.Iter.{chars_rest}
use lib.Utf8.{encode, encodes}
use Rattle.wat_lex.proofs.errors.ShownBytes.{Walked, walked_start, walked_past, inside_char, cut_at_boundary}
use Rattle.wat_lex.proofs.errors.ShownLines.{all_shown, spaces}
use Rattle.wat_lex.proofs.error.shown.front.Goals as goal
use Rattle.wat_lex.proofs.error.shown.front.Goals.{In-Some}

spelled : (c : In-Some) → drop c.places.at c.args.line.now ≡ encode c.in-Some.c ++ chars_rest c.next.new.self
spelled c = sym (c.chars.ensures.rest ∙ c.range_from.ensures.value) ∙ c.in-Some.ensures.steps.0

pub places-init : goal.places-init
places-init c = walked_start c.args.line.now c.args.bytes c.utf8.line

pub range_from-requires : goal.range_from-requires
range_from-requires c = λ _. let w = c.places.invariant in IsCharBoundary-from_drop _ _ w.range w.after

pub places-preserved : goal.places-preserved
places-preserved c =
    let at = (goal.at.places-preserved c).In-Some in
    subst (λ n. Walked c.args.line.now (c.places.at + n) (c.places.missing - c.shown_len-len.result) c.args.bytes) (sym c.len_utf8-at.ensures.value)
    (walked_past c.args.line.now (chars_rest c.next.new.self) c.places.at c.in-Some.c c.places.missing c.args.bytes c.utf8.line c.places.invariant (spelled at) c.shown_len-len.result c.shown_len-len.ensures (search rules))

pub returns-then-c-ne9 : goal.returns-then-c-ne9
returns-then-c-ne9 c =
    let at = (goal.at.returns-then-c-ne9 c).In-Some in
    inside_char c.args.line.now (chars_rest c.next.new.self) c.places.at c.in-Some.c c.places.missing c.args.bytes c.utf8.line c.places.invariant (spelled at) c.if-missing-gt0.true (omega (arith, c.if-missing-len.true, c.shown_len-len.ensures)) c.if-c-ne9.true

pub range-requires-clause-end_boundary : goal.range-requires-clause-end_boundary
range-requires-clause-end_boundary c = let w = c.places.invariant in IsCharBoundary-from_drop _ _ w.range w.after

none_missing : (c missing : ℕ) → ((0 < missing) × (c ≡ 9)) ⊎ (missing ≤ 0) → (c ≡ 9 → ⊥) → missing ≡ 0
none_missing c missing (inl p) n = absurd (n p.1)
none_missing c missing (inr l) n = omega (arith, l)

pub returns-then-missing-len : goal.returns-then-missing-len
returns-then-missing-len c =
    let at = (goal.at.returns-then-missing-len c).In-Some in
    let cut = cut_at_boundary c.args.line.now (chars_rest c.next.new.self) c.places.at c.in-Some.c c.places.missing c.args.bytes c.utf8.line c.places.invariant (spelled at) (omega (arith, c.if-missing-len.true, c.shown_len-len.ensures))
    (none_missing c.in-Some.c c.places.missing c.else-missing-gt0.either) in
    let whole : c.places.at - 0 ≡ c.places.at = omega arith in
    let text : chars_rest c.chars-then-missing-len.result ≡ take c.places.at c.args.line.now = c.chars-then-missing-len.ensures.rest ∙ c.range.ensures.value ∙ ap (λ n. take n c.args.line.now) whole in
    (cut.0, ap (λ t. encodes (all_shown t ++ spaces c.places.missing)) text ∙ cut.1)
