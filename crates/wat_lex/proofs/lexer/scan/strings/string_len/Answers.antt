use Rattle.std.proofs.Common.{sym, ap, ◌∙◌, subst, ◌≡◌, ◌≤◌, ◌+◌, ◌-◌, ℕ, List, length, take, drop, get_or, arith}
use Rattle.std.proofs.lemmas.Bool.Decides.{when_true}
use Rattle.std.proofs.lemmas.List.{take_rest, length-drop}
use Rattle.std.specs.List.{prefix_len}
use Rattle.wat_lex.specs.inside.ScannedStrings.{ElementTaken, BeginsByteEscape, BeginsLetterEscape, BeginsPunctuation, is_plain}
use Rattle.wat_lex.proofs.inside.StringElements.{Continues, element_more, byte_taken, letter_taken, punctuation_taken, closed, plain_more}
use Rattle.wat_lex.proofs.lexer.scan.strings.string_len.Goals as goal
use Rattle.wat_lex.proofs.lexer.scan.strings.string_len.Goals.{After-plain_len-at}

rest_is : (text bs : List ℕ) (n : ℕ) → bs ≡ text → take (length bs - n) (drop n bs) ≡ drop n text
rest_is text bs n e = take_rest bs n ∙ ap (drop n) e

pub returns-in-34-clause-ok : goal.returns-in-34-clause-ok
returns-in-34-clause-ok c =
    let text = c.args.text.now in
    let bs = c.as_bytes-bytes.result.now in
    let at = c.elements.at in
    let r = rest_is text bs at c.as_bytes-bytes.ensures.value in
    let some : 1 ≤ length (drop at text) = subst (λ x. 1 ≤ length x) r c.in-34.len_at_least in
    let first : get_or (take (length bs - at) (drop at bs)) 0 0 ≡ 34 = omega arith in
    closed c.args.flags text at c.elements.invariant (omega (arith, some, length-drop at text)) (ap (λ x. get_or x 0 0) (sym r) ∙ first)

plain : (c : After-plain_len-at) → Continues c.args.flags c.args.text.now (c.elements.at + c.plain_len-at.result)
plain c =
    plain_more c.args.flags c.args.text.now c.elements.at c.plain_len-at.result c.elements.invariant
    (c.plain_len-at.ensures ∙ ap (prefix_len is_plain) (rest_is c.args.text.now c.as_bytes-bytes.result.now c.elements.at c.as_bytes-bytes.ensures.value))

pub overflow_add-at-in-len1-up : goal.overflow_add-at-in-len1-up
overflow_add-at-in-len1-up c = let p = plain c in record { fits = omega (arith, p.range, c.as_bytes-bytes.ensures.len) }

pub elements-preserved-then-is_plain : goal.elements-preserved-then-is_plain
elements-preserved-then-is_plain c = plain c

pub elements-preserved-then-is_byte_escape : goal.elements-preserved-then-is_byte_escape
elements-preserved-then-is_byte_escape c =
    let text = c.args.text.now in
    let bs = c.as_bytes-bytes.result.now in
    let h = when_true (BeginsByteEscape (take (length bs - c.elements.at) (drop c.elements.at bs))) _ c.if-is_byte_escape.true c.is_byte_escape.ensures in
    element_more c.args.flags text c.elements.at 3 c.elements.invariant
    (byte_taken c.args.flags (drop c.elements.at text) (let i = c.elements.invariant in i.utf8) (subst BeginsByteEscape (rest_is text bs c.elements.at c.as_bytes-bytes.ensures.value) h))

pub elements-preserved-then-is_letter_escape : goal.elements-preserved-then-is_letter_escape
elements-preserved-then-is_letter_escape c =
    let text = c.args.text.now in
    let bs = c.as_bytes-bytes.result.now in
    let h = when_true (BeginsLetterEscape (take (length bs - c.elements.at) (drop c.elements.at bs))) _ c.if-is_letter_escape.true c.is_letter_escape.ensures in
    element_more c.args.flags text c.elements.at 2 c.elements.invariant
    (letter_taken c.args.flags (drop c.elements.at text) (let i = c.elements.invariant in i.utf8) (subst BeginsLetterEscape (rest_is text bs c.elements.at c.as_bytes-bytes.ensures.value) h))

pub elements-preserved-then-is_punctuation : goal.elements-preserved-then-is_punctuation
elements-preserved-then-is_punctuation c =
    let text = c.args.text.now in
    let bs = c.as_bytes-bytes.result.now in
    let h = when_true (BeginsPunctuation (take (length bs - c.elements.at) (drop c.elements.at bs))) _ c.if-is_punctuation.true c.is_punctuation.ensures in
    element_more c.args.flags text c.elements.at 3 c.elements.invariant
    (punctuation_taken c.args.flags (drop c.elements.at text) (let i = c.elements.invariant in i.utf8) (subst BeginsPunctuation (rest_is text bs c.elements.at c.as_bytes-bytes.ensures.value) h))

pub elements-preserved : goal.elements-preserved
elements-preserved c =
    element_more c.args.flags c.args.text.now c.elements.at c.in-Ok.len c.elements.invariant
    (subst (λ x. ElementTaken c.args.flags x c.in-Ok.len) c.range_from.ensures.value c.in-Ok.ensures.ok)
