use Rattle.std.proofs.Common.{ℕ, List, ◌∙◌, ◌≤◌, ◌+◌, ◌-◌, ◌≡◌, ◌≢◌, ◌∷◌, ◌++◌, [], true, refl, sym, ap, length, take, drop, length-drop, arith, subst}
use Rattle.std.proofs.lemmas.List.{length-take-le, take_rest}
use Rattle.std.specs.List.{prefix_len}
use Rattle.wat_lex.specs.grammar.Classes.{is_hex}
use Rattle.wat_lex.specs.grammar.Numbers.{unsigned, sign_of, IntegralPart, hexadecimal}
use Rattle.wat_lex.specs.declared.lexer.kinds.Sign.TheVariants as sign
use Rattle.wat_lex.specs.inside.Blocks.{failures, FirstFailures}
use Rattle.wat_lex.specs.inside.ScannedNumbers.{PlainDecimals}
use Rattle.wat_lex.proofs.grammar.PlainFloats.{decimals_then, hexadecimal_float}
use Rattle.wat_lex.proofs.grammar.PlainIntegers.{hex_digits_alone, hex_digits_no_underscore, taken_pass}
use Rattle.wat_lex.proofs.grammar.ShortNumbers.{some_pass, word_from}
use Rattle.wat_lex.proofs.lexer.scan.short.short_hexadecimal.Goals as goal

prefixed : (w digits given : List ℕ) → w ≡ given ++ digits → given ≡ 48 ∷ 120 ∷ [] → unsigned w ≡ 48 ∷ 120 ∷ digits
prefixed w digits given e g = ap unsigned (e ∙ ap (λ x. x ++ digits) g)

no_sign_there : (w digits given : List ℕ) → w ≡ given ++ digits → given ≡ 48 ∷ 120 ∷ [] → sign.None ≡ sign_of w
no_sign_there w digits given e g = sym (ap sign_of (e ∙ ap (λ x. x ++ digits) g))

-- the digits come after the first two bytes
digits_there : (text digits given after : List ℕ) (len : ℕ) → len ≤ length text → take len text ≡ given ++ digits → given ≡ 48 ∷ 120 ∷ [] → after ≡ drop 2 text → digits ≡ take (length digits) after
digits_there text digits given after len within e g at =
    let cut : take len text ≡ 48 ∷ 120 ∷ digits = e ∙ ap (λ x. x ++ digits) g in
    let long : len ≡ 2 + length digits = sym (length-take-le len text within) ∙ ap length cut ∙ omega arith in
    let room : len - 2 ≡ length digits = omega arith in
    sym (ap (drop 2) cut) ∙ word_from text len 2 (omega arith) ∙ ap (λ n. take n (drop 2 text)) room ∙ ap (take (length digits)) (sym at)

pub is_short_tail-requires-clause-others : goal.is_short_tail-requires-clause-others
is_short_tail-requires-clause-others c = record { long = omega (arith, length-drop 2 c.args.text.now, ap length (take_rest c.args.text.now 2)); each = c.other_than_hex_digits-others.ensures ∙ ap (failures is_hex) c.block_at-block.ensures }

pub returns-then-end-number : goal.returns-then-end-number
returns-then-end-number c =
    let text = c.args.text.now in
    let w = take c.args.len text in
    let digits = c.in-Some.digits.now in
    let after = take (length text - 2) (drop 2 text) in
    let marked : FirstFailures is_hex after c.other_than_hex_digits-others.result = record { long = omega (arith, length-drop 2 text, ap length (take_rest text 2)); each = c.other_than_hex_digits-others.ensures ∙ ap (failures is_hex) c.block_at-block.ensures } in
    let cut = prefixed w digits _ c.in-Some.ensures c.as_slice.ensures in
    let there = digits_there text digits _ after c.args.len c.requires c.in-Some.ensures c.as_slice.ensures (take_rest text 2) in
    let all : prefix_len is_hex digits ≡ length digits = subst (λ x. prefix_len is_hex x ≡ length x) (sym there) (taken_pass is_hex (length digits) after (omega (arith, c.clear_from-end.ensures.clear is_hex after marked))) in
    let some : digits ≢ [] = λ e. c.if-number-eq0.false (ap length e) in (
      subst (λ x. IntegralPart true x []) (sym cut) (hexadecimal (hex_digits_alone digits some all)),
      no_sign_there w digits _ c.in-Some.ensures c.as_slice.ensures,
      sym (hex_digits_no_underscore w digits cut all),
    )

pub returns : goal.returns
returns c =
    let text = c.args.text.now in
    let w = take c.args.len text in
    let digits = c.in-Some.digits.now in
    let after = take (length text - 2) (drop 2 text) in
    let marked : FirstFailures is_hex after c.other_than_hex_digits-others.result = record { long = omega (arith, length-drop 2 text, ap length (take_rest text 2)); each = c.other_than_hex_digits-others.ensures ∙ ap (failures is_hex) c.block_at-block.ensures } in
    let there = digits_there text digits _ after c.args.len c.requires c.in-Some.ensures c.as_slice.ensures (take_rest text 2) in
    let n = c.clear_from-end.result in
    let few : n ≤ prefix_len is_hex (take (length digits) after) = some_pass is_hex after (length digits) 0 n (omega arith) (c.clear_from-end.ensures.clear is_hex after marked) in
    let parts = decimals_then true (take (length digits) after) n few (λ e. absurd (omega arith)) (c.is_short_tail.ensures c.if-not-is_short_tail.false) in
    hexadecimal_float w digits _ (prefixed w digits _ c.in-Some.ensures c.as_slice.ensures) (refl, subst (PlainDecimals true) (sym there) parts)
