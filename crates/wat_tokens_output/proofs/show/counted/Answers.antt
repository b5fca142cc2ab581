use Rattle.std.proofs.Common.{◌∙◌, ap, arith, refl}
use Rattle.wat_tokens_output.proofs.ShownLaws.{none_counted, one_counted, counted_end, counted_reported, seen_found}
use Rattle.wat_tokens_output.proofs.show.counted.Goals as goal

pub tokens-init : goal.tokens-init
tokens-init c = record {
  parser = refl;
  on = omega arith;
  counted = none_counted c.args.from.parser.now.source c.args.from.parser.now.names c.args.from.at;
}

pub tokens-preserved : goal.tokens-preserved
tokens-preserved c =
    let s = c.args.from.parser.now.source in
    let names = c.args.from.parser.now.names in
    let value = rw (c.in-Ok-Some.is, c.in-Ok-Some.field-0-is, c.tokens.invariant.parser) at c.any.ensures.value in
    let parser = rw (c.in-Ok-Some.is, c.in-Ok-Some.field-0-is) at c.any.ensures.parser in
    let on = rw (c.in-Ok-Some.is, c.in-Ok-Some.field-0-is) at c.any.ensures.on in
    record {
      parser = parser ∙ c.tokens.invariant.parser;
      on = omega (arith, on, c.tokens.invariant.on);
      counted = one_counted c.all_shown.ensures.looks s names c.args.from.at c.tokens.cursor.at c.in-Ok-Some.next.at c.tokens.count c.in-Ok-Some.field-0-0-0 c.lemma_sound.ensures.sound.utf8 c.lemma_sound.ensures.sound.read c.tokens.invariant.counted
          (seen_found s names c.tokens.cursor.at _ value);
    }

pub returns-in-Ok-None-clause-ends : goal.returns-in-Ok-None-clause-ends
returns-in-Ok-None-clause-ends c =
    let s = c.args.from.parser.now.source in
    let names = c.args.from.parser.now.names in
    let value = rw (c.in-Ok-None.is, c.in-Ok-None.field-0-is, c.tokens.invariant.parser) at c.any.ensures.value in
    counted_end c.all_shown.ensures.looks s names c.args.from.at c.tokens.cursor.at c.tokens.count c.lemma_sound.ensures.sound.utf8 c.lemma_sound.ensures.sound.read c.tokens.invariant.counted (seen_found s names c.tokens.cursor.at _ value)

pub returns-in-Err-2-clause-ends : goal.returns-in-Err-2-clause-ends
returns-in-Err-2-clause-ends c =
    counted_reported c.all_shown.ensures.looks c.tokens.cursor.parser.now c.args.from.parser.now c.args.from.at c.tokens.cursor.at c.tokens.count _ c.any.result c.in-Err.error c.is_out_of_memory.result c.lemma_sound.ensures.sound.utf8 c.lemma_sound.ensures.sound.read
    c.tokens.invariant.counted c.any.ensures.value c.in-Err.is (ap (λ p. p.now) c.tokens.invariant.parser) c.if-is_out_of_memory.false c.is_out_of_memory.ensures.1
