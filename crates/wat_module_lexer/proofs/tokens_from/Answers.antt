use Rattle.std.proofs.Common.{◌∙◌, ap, arith}
use Rattle.wat_module_lexer.proofs.ShownLaws.{shown_more, shown_end, shown_reported, seen_found}
use Rattle.wat_module_lexer.proofs.tokens_from.Goals as goal

pub tokens-preserved : goal.tokens-preserved
tokens-preserved c =
    let s = c.args.from.parser.now.source in
    let names = c.args.from.parser.now.names in
    let value = rw (c.in-Ok-Some.is, c.in-Ok-Some.field-0-is, c.tokens.invariant.parser) at c.any.ensures.value in
    let parser = rw (c.in-Ok-Some.is, c.in-Ok-Some.field-0-is) at c.any.ensures.parser in
    let on = rw (c.in-Ok-Some.is, c.in-Ok-Some.field-0-is) at c.any.ensures.on in
    record {
      parser = parser ∙ c.tokens.invariant.parser;
      on = omega (arith, on, c.tokens.invariant.on);
      shown = shown_more c.all_shown.ensures.looks s names c.args.from.at c.tokens.cursor.at c.in-Ok-Some.next.at c.tokens.tokens.items c.push.new.self.items c.in-Ok-Some.token c.lemma_sound.ensures.sound.utf8 c.lemma_sound.ensures.sound.read
          c.tokens.invariant.shown (seen_found s names c.tokens.cursor.at _ value) c.in_ok-push-in-Ok-Some.ensures.items (rw (c.in-Ok-Some.is, c.in-Ok-Some.field-0-is, c.tokens.invariant.parser) at c.any.ensures.reader);
    }

pub returns-in-Ok-None-clause-shown : goal.returns-in-Ok-None-clause-shown
returns-in-Ok-None-clause-shown c =
    let s = c.args.from.parser.now.source in
    let names = c.args.from.parser.now.names in
    let value = rw (c.in-Ok-None.is, c.in-Ok-None.field-0-is, c.tokens.invariant.parser) at c.any.ensures.value in
    (shown_end c.all_shown.ensures.looks s names c.args.from.at c.tokens.cursor.at c.tokens.tokens.items c.lemma_sound.ensures.sound.utf8 c.lemma_sound.ensures.sound.read c.tokens.invariant.shown (seen_found s names c.tokens.cursor.at _ value))

pub returns-in-Err-2-clause-shown : goal.returns-in-Err-2-clause-shown
returns-in-Err-2-clause-shown c =
    (shown_reported c.all_shown.ensures.looks c.tokens.cursor.parser.now c.args.from.parser.now c.args.from.at c.tokens.cursor.at c.tokens.tokens.items _ c.any.result c.in-Err.error c.is_out_of_memory.result c.lemma_sound.ensures.sound.utf8 c.lemma_sound.ensures.sound.read
    c.tokens.invariant.shown c.any.ensures.value c.in-Err.is (ap (λ p. p.now) c.tokens.invariant.parser) c.if-is_out_of_memory.false c.is_out_of_memory.ensures.1)
