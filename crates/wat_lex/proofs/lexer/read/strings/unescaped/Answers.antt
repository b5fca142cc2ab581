use Rattle.std.proofs.Common.{sym, ap, ◌∙◌, ◌≡◌, ◌≤◌, ◌<◌, ℕ, List, subst, [], ◌∷◌, ◌++◌, ◌-◌, length, take, drop, get_or, arith, rules}
use Rattle.std.proofs.lemmas.List.{append-nil}
use Rattle.std.specs.Prelude.{None, Some}
use Rattle.std.specs.Str.{chars}
use Rattle.memchr.specs.Find.{IsFirstByte, is_byte}
use Rattle.wat_lex.specs.inside.ScannedStrings.{escape_bytes}
use Rattle.wat_lex.specs.tokens.Setting.{lenient}
use Rattle.wat_lex.specs.grammar.Strings.{Quoted}
use Rattle.wat_lex.proofs.values.StringValues.{Reading, closing, no_backslash, reading_element, reading_plain, reading_ends}
use Rattle.wat_lex.proofs.lexer.read.strings.unescaped.Goals as goal
use Rattle.wat_lex.proofs.lexer.read.strings.unescaped.Goals.{In-None}

none : (c : In-None) → IsFirstByte (is_byte 92) c.elements.rest.now None
none c = subst (λ x. IsFirstByte (is_byte 92) x None) c.as_bytes-in-elements.ensures.value c.in-None.ensures

pub elements-preserved-in-Some : goal.elements-preserved-in-Some
elements-preserved-in-Some c =
    let rest = c.elements.rest.now in
    let after = c.in-Some.after.now in (
      c.in-Some.ensures.utf8,
      subst (Reading c.args.elements.now after) (sym c.in_ok-push.ensures.items)
          (reading_element c.args.elements.now rest c.elements.value.items after (c.in-Some.byte ∷ []) c.elements.invariant.1 c.in-Some.ensures.element c.in-Some.ensures.utf8),
    )

pub elements-preserved-in-Some-letter_escape : goal.elements-preserved-in-Some-letter_escape
elements-preserved-in-Some-letter_escape c =
    let rest = c.elements.rest.now in
    let after = c.in-Some-letter_escape.after.now in (
      c.in-Some-letter_escape.ensures.utf8,
      subst (Reading c.args.elements.now after) (sym c.in_ok-push-2.ensures.items)
          (reading_element c.args.elements.now rest c.elements.value.items after (c.in-Some-letter_escape.byte ∷ []) c.elements.invariant.1 c.in-Some-letter_escape.ensures.element
          c.in-Some-letter_escape.ensures.utf8),
    )

pub elements-preserved-in-Some-eq0 : goal.elements-preserved-in-Some-eq0
elements-preserved-in-Some-eq0 c =
    let rest = c.elements.rest.now in
    let after = c.first_escape-read.result.1.now in (
      c.first_escape-read.ensures.utf8,
      subst (Reading c.args.elements.now after) (sym c.in_ok-append-in-Some-eq0.ensures)
          (reading_element c.args.elements.now rest c.elements.value.items after (escape_bytes c.first_escape-read.result.0) c.elements.invariant.1
          c.first_escape-read.ensures.element c.first_escape-read.ensures.utf8),
    )

pub elements-preserved : goal.elements-preserved
elements-preserved c =
    let rest = c.elements.rest.now in
    let done = c.elements.value.items in
    let n = c.in-Some-first_backslash.before in
    let first : IsFirstByte (is_byte 92) rest (Some n) = subst (λ x. IsFirstByte (is_byte 92) x (Some n)) c.as_bytes-in-elements.ensures.value c.in-Some-first_backslash.ensures in
    let items = c.in_ok-append_prefix-in-Some-first_backslash.ensures ∙ ap (λ x. done ++ take n x) c.as_bytes-in-Some-first_backslash.ensures.value in
    let h = reading_plain c.args.elements.now rest done n c.elements.invariant.1 first in (
      c.range_from-rest.utf8,
      subst (λ x. Reading c.args.elements.now x c.append_prefix.new.value.items) (sym c.range_from-rest.ensures.value)
          (subst (Reading c.args.elements.now (drop n rest)) (sym items) h),
    )

pub slice_bounds-extend_from_slice-count : goal.slice_bounds-extend_from_slice-count
slice_bounds-extend_from_slice-count c =
    let i = c.elements.invariant.1 in
    let e = closing c.elements.rest.now i.value i.utf8 (no_backslash c.elements.rest.now i.utf8 (none (goal.at.slice_bounds-extend_from_slice-count c).In-None)) i.left in
    e.range

pub returns-in-None : goal.returns-in-None
returns-in-None c =
    let rest = c.elements.rest.now in
    let cut : take (length rest - 1) c.as_bytes-in-None.result.now ≡ take (length rest - 1) rest = ap (λ x. take (length rest - 1) x) c.as_bytes-in-None.ensures.value in
    subst (λ x. Quoted lenient (chars c.args.elements.now) x []) (sym (c.in_ok-extend_from_slice-in-None.ensures.items ∙ ap (λ x. c.elements.value.items ++ x) cut))
    (reading_ends c.args.elements.now rest c.elements.value.items c.elements.invariant.1 (none (goal.at.returns-in-None c).In-None))

only_quote : (xs : List ℕ) → length xs < 2 → 1 ≤ length xs → get_or xs 0 0 ≡ 34 → xs ≡ 34 ∷ []
only_quote [] few some first = absurd (omega (arith, some))
only_quote (x ∷ []) few some first = ap (λ y. y ∷ []) first
only_quote (x ∷ y ∷ ys) few some first = absurd (omega (arith, few))

no_mark : IsFirstByte (is_byte 92) (34 ∷ []) None
no_mark = search rules

pub returns-in-34 : goal.returns-in-34
returns-in-34 c =
    let rest = c.elements.rest.now in
    let done = c.elements.value.items in
    let first : get_or c.as_bytes.result.now 0 0 ≡ 34 = omega arith in
    let is : rest ≡ 34 ∷ [] = sym c.as_bytes.ensures.value ∙ only_quote c.as_bytes.result.now c.in-34.len_below c.in-34.len_at_least first in
    let read : Reading c.args.elements.now (34 ∷ []) done = subst (λ x. Reading c.args.elements.now x done) is c.elements.invariant.1 in
    subst (λ x. Quoted lenient (chars c.args.elements.now) x []) (append-nil done) (reading_ends c.args.elements.now (34 ∷ []) done read no_mark)
