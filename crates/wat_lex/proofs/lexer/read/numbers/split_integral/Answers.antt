use Rattle.std.proofs.Common.{◌≡◌, ap, sym, ◌∙◌, subst, []}
use Rattle.wat_lex.specs.grammar.Numbers.{unsigned, IntegralPart, Tail}
use Rattle.wat_lex.specs.values.NumberValues.{after_prefix}
use Rattle.wat_lex.proofs.values.NumberParts.{long, split, no_split, seam_prefix, seam_back, seam_fits}
use Rattle.wat_lex.proofs.lexer.read.numbers.split_integral.Goals as goal

pub after_prefix-requires : goal.after_prefix-requires
after_prefix-requires c = record {
  long = long c.args.hex c.args.word.now c.unsigned-number.result.now (c.unsigned-number.ensures ∙ ap unsigned c.as_bytes.ensures.value) c.requires.decimals;
}

pub overflow_sub-word : goal.overflow_sub-word
overflow_sub-word c =
    let e : c.unsigned-number.result.now ≡ unsigned c.args.word.now = c.unsigned-number.ensures ∙ ap unsigned c.as_bytes.ensures.value in
    let s = split c.args.hex c.args.word.now c.after_prefix.result.now c.in-Some.tail.now c.requires.decimals (c.after_prefix.ensures ∙ ap (after_prefix c.args.hex) e) c.in-Some.ensures in
    seam_fits c.args.word.now s.leading c.in-Some.tail.now s.cut

pub unreachable-requires : goal.unreachable-requires
unreachable-requires c =
    let e : c.unsigned-number.result.now ≡ unsigned c.args.word.now = c.unsigned-number.ensures ∙ ap unsigned c.as_bytes.ensures.value in
    no_split c.args.hex (unsigned c.args.word.now) c.after_prefix.result.now c.requires.decimals (c.after_prefix.ensures ∙ ap (after_prefix c.args.hex) e) c.in-None.ensures

pub returns-clause-integral : goal.returns-clause-integral
returns-clause-integral c =
    let e : c.unsigned-number.result.now ≡ unsigned c.args.word.now = c.unsigned-number.ensures ∙ ap unsigned c.as_bytes.ensures.value in
    let s = split c.args.hex c.args.word.now c.after_prefix.result.now c.in-Some.tail.now c.requires.decimals (c.after_prefix.ensures ∙ ap (after_prefix c.args.hex) e) c.in-Some.ensures in
    subst (λ x. IntegralPart c.args.hex (unsigned x) []) (sym (c.split_at.ensures.front ∙ seam_prefix c.args.word.now s.leading c.in-Some.tail.now s.cut)) s.integral

pub returns-clause-tail : goal.returns-clause-tail
returns-clause-tail c =
    let e : c.unsigned-number.result.now ≡ unsigned c.args.word.now = c.unsigned-number.ensures ∙ ap unsigned c.as_bytes.ensures.value in
    let s = split c.args.hex c.args.word.now c.after_prefix.result.now c.in-Some.tail.now c.requires.decimals (c.after_prefix.ensures ∙ ap (after_prefix c.args.hex) e) c.in-Some.ensures in
    subst (Tail c.args.hex) (sym (c.split_at.ensures.back ∙ seam_back c.args.word.now s.leading c.in-Some.tail.now s.cut)) s.is
