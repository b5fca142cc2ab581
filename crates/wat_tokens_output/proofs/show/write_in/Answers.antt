use Rattle.std.proofs.Common.{◌∙◌, refl}
use Rattle.wat_tokens_io.specs.lemmas.BlockLaws.{on_err}
use Rattle.wat_tokens_output.proofs.ShownLaws.{inside_where_known, none_put, one_put, put_cut, put_end, put_end_cut, readable_short}
use Rattle.wat_tokens_output.proofs.show.write_in.Goals as goal

pub tokens-init : goal.tokens-init
tokens-init g c =
    let start = c.args.parser.now in
    record {
      parser = refl;
      each = refl;
      text = refl;
      putting = none_put (g.F.Form.each c.args.form) start.source start.names start.place c.args.count _ c.new-block.result c.new-block.ensures;
      failed = refl;
    }

pub put-requires-clause-inside : goal.put-requires-clause-inside
put-requires-clause-inside g c =
    let taken = rw (c.in-Some.is, c.tokens.invariant.parser) at c.next.ensures.taken in
    inside_where_known (g.F.Form.text c.args.form) _ c.args.parser.now.source.setting.text c.in-Some.token c.lemma_sound.ensures.sound.utf8 taken.1.1 c.requires.text c.tokens.invariant.text

pub put-requires-clause-short : goal.put-requires-clause-short
put-requires-clause-short g c =
    let taken = rw (c.in-Some.is, c.tokens.invariant.parser) at c.next.ensures.taken in
    readable_short c.args.parser.now.source.setting.text c.in-Some.token c.lemma_sound.ensures.sound.utf8 c.lemma_sound.ensures.sound.short taken.1.1

pub returns-in_err-put-in-Some-clause-cut : goal.returns-in_err-put-in-Some-clause-cut
returns-in_err-put-in-Some-clause-cut g c =
    let start = c.args.parser.now in
    let taken = rw (c.in-Some.is, c.tokens.invariant.parser) at c.next.ensures.taken in
    on_err c.from_residual.result (put_cut c.all_shown.ensures.looks c.all_shown.ensures.all_some (g.F.Form.each c.args.form) c.args.last.now start.source start.names start.place c.tokens.parser.place c.next.new.parser.place c.tokens.left c.args.count _ _ _ c.tokens.block c.in-Some.token
    c.lemma_sound.ensures.sound.utf8 c.lemma_sound.ensures.sound.read c.tokens.invariant.putting taken (rw c.tokens.invariant.each at c.in_err-put-in-Some.ensures.cut))

pub tokens-preserved : goal.tokens-preserved
tokens-preserved g c =
    let start = c.args.parser.now in
    let taken = rw (c.in-Some.is, c.tokens.invariant.parser) at c.next.ensures.taken in
    record {
      parser = rw c.tokens.invariant.parser at c.next.ensures.parser;
      each = c.in_ok-put-in-Some.ensures.same ∙ c.tokens.invariant.each;
      text = c.in_ok-put-in-Some.ensures.same_text ∙ c.tokens.invariant.text;
      putting = one_put c.all_shown.ensures.looks (g.F.Form.each c.args.form) start.source start.names start.place c.tokens.parser.place c.next.new.parser.place c.tokens.left c.args.count _ _ _ c.tokens.block c.put.new.block c.in-Some.token
          c.lemma_sound.ensures.sound.utf8 c.lemma_sound.ensures.sound.read c.tokens.invariant.putting taken (rw c.tokens.invariant.each at c.in_ok-put-in-Some.ensures.put);
      failed = c.in_ok-put-in-Some.ensures.failed ∙ c.tokens.invariant.failed;
    }

pub returns-in-None-clause-written : goal.returns-in-None-clause-written
returns-in-None-clause-written g c =
    let start = c.args.parser.now in
    let taken = rw (c.in-None.is, c.tokens.invariant.parser) at c.next.ensures.taken in
    put_end c.all_shown.ensures.looks c.all_shown.ensures.all_one c.all_shown.ensures.all_some (g.F.Form.each c.args.form) c.args.last.now start.source start.names start.place c.tokens.parser.place c.next.new.parser.place c.tokens.left c.args.count c.requires.count.0 _ _ _ c.tokens.block c.finish.result
    c.lemma_sound.ensures.sound.utf8 c.lemma_sound.ensures.sound.read c.tokens.invariant.putting c.requires.count.1 taken c.finish.ensures.written

pub returns-in-None-clause-cut : goal.returns-in-None-clause-cut
returns-in-None-clause-cut g c =
    let start = c.args.parser.now in
    let taken = rw (c.in-None.is, c.tokens.invariant.parser) at c.next.ensures.taken in
    put_end_cut c.all_shown.ensures.looks c.all_shown.ensures.all_one c.all_shown.ensures.all_some (g.F.Form.each c.args.form) c.args.last.now start.source start.names start.place c.tokens.parser.place c.next.new.parser.place c.tokens.left c.args.count c.requires.count.0 _ _ _ c.tokens.block c.finish.result
    c.lemma_sound.ensures.sound.utf8 c.lemma_sound.ensures.sound.read c.tokens.invariant.putting c.requires.count.1 taken c.finish.ensures.cut
