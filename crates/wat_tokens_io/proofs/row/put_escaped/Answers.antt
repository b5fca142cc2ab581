use Rattle.std.proofs.Common.{◌∙◌, ap, arith, drop, length, length-drop, take}
use Rattle.std.specs.Prelude.{flat_map}
use Rattle.std.proofs.lemmas.List.{take_rest}
use Rattle.wat_tokens_io.specs.JsonStrings.{escaped}
use Rattle.wat_tokens_io.specs.lemmas.BlockLaws.{on_err, puts_more, cut_more}
use Rattle.wat_tokens_io.proofs.JsonLaws.{each_more, each_split}
use Rattle.wat_tokens_io.proofs.row.put_escaped.Goals as goal

pub loop-put-preserved : goal.loop-put-preserved
loop-put-preserved g c =
    let text = c.args.text.now in
    let put = c.loop-put.put in
    let rest = take_rest text put in
    let some = rw rest at c.in_ok-count.ensures.put in
    let few = c.in_ok-count.ensures.within in
    record {
      within = omega (arith, few, ap length rest, length-drop put text, c.loop-put.invariant.within);
      puts = puts_more _ _ _ _ _ _ (flat_map escaped (take put text)) (flat_map escaped (take c.in_ok-count.count (drop put text))) _ c.loop-put.invariant.puts some (each_more escaped text put c.in_ok-count.count);
      failed = c.in_ok-count.ensures.failed ∙ c.loop-put.invariant.failed;
    }

pub returns-in_err-count-clause-cut : goal.returns-in_err-count-clause-cut
returns-in_err-count-clause-cut g c =
    let text = c.args.text.now in
    let put = c.loop-put.put in
    let some = rw (take_rest text put) at c.in_err-count.ensures.cut in
    on_err c.from_residual.result (cut_more _ _ _ _ _ (flat_map escaped (take put text)) (flat_map escaped (drop put text)) (flat_map escaped text) c.loop-put.invariant.puts some (each_split escaped text put))
