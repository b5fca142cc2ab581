use Rattle.std.proofs.Common.{◌∙◌, ◌+◌, ◌-◌, ◌≡◌, ◌≢◌, ◌++◌, [], true, sym, ap, length, take, drop, length-drop, arith, subst}
use Rattle.std.proofs.lemmas.List.{length-take-le, take_rest}
use Rattle.std.specs.List.{prefix_len}
use Rattle.std.specs.Prelude.{codes}
use Rattle.wat_lex.specs.grammar.Classes.{is_hex}
use Rattle.wat_lex.specs.grammar.Numbers.{has_underscores, is_negative, payload, unsigned}
use Rattle.wat_lex.specs.inside.Blocks.{failures, FirstFailures}
use Rattle.wat_lex.proofs.grammar.PlainIntegers.{hex_digits_alone, no_underscore, taken_pass}
use Rattle.wat_lex.proofs.grammar.ShortNumbers.{word_from}
use Rattle.wat_lex.proofs.lexer.scan.short.short_payload.Goals as goal

pub returns : goal.returns
returns c =
    let text = c.args.text.now in
    let w = take c.args.len text in
    let digits = c.in-Some.digits.now in
    let after = take (length text - 6) (drop 6 text) in
    let marked : FirstFailures is_hex after c.other_than_hex_digits-others.result = record { long = omega (arith, length-drop 6 text, ap length (take_rest text 6)); each = c.other_than_hex_digits-others.ensures ∙ ap (failures is_hex) c.block_at.ensures } in
    let cut : w ≡ codes "nan:0x" ++ digits = c.in-Some.ensures ∙ ap (λ x. x ++ digits) c.as_slice.ensures in
    let long : c.args.len ≡ 6 + length digits = sym (length-take-le c.args.len text c.requires) ∙ ap length cut ∙ omega arith in
    let room : c.args.len - 6 ≡ length digits = omega arith in
    let there : digits ≡ take (length digits) after = sym (ap (drop 6) cut) ∙ word_from text c.args.len 6 (omega arith) ∙ ap (λ n. take n (drop 6 text)) room ∙ ap (take (length digits)) (sym (take_rest text 6)) in
    let all : prefix_len is_hex digits ≡ length digits = subst (λ x. prefix_len is_hex x ≡ length x) (sym there) (taken_pass is_hex (length digits) after (omega (arith, c.clear_from.ensures.clear is_hex after marked))) in
    let some : digits ≢ [] = λ e. c.if-number-eq0.false (ap length e) in
    (payload (ap unsigned cut) (hex_digits_alone digits some all), sym (ap is_negative cut), sym (ap has_underscores cut ∙ no_underscore true digits all))
