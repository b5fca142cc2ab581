use Rattle.std.proofs.Common.{◌++◌, length, length-drop, take, take-add, arith, sym, ◌∙◌, ap}
use Rattle.std.proofs.lemmas.List.{take_rest}
use Rattle.wat_tokens_io.specs.lemmas.KnownBytes.{appends_more}
use Rattle.wat_tokens_io.specs.lemmas.BlockLaws.{on_err}
use Rattle.wat_tokens_io.specs.lemmas.KnownBytes.{cut_there}
use Rattle.wat_tokens_io.proofs.ends.write_through.Goals as goal

pub returns-in_err-count-clause-cut : goal.returns-in_err-count-clause-cut
returns-in_err-count-clause-cut g c =
    on_err c.from_residual.result (cut_there _ _ _ c.args.bytes.now _ c.loop-written.written c.write.result c.loop-written.invariant.so_far c.write.ensures.bytes c.in_err-count.ensures.none)

pub loop-written-preserved : goal.loop-written-preserved
loop-written-preserved g c =
    let bytes = c.args.bytes.now in
    let rest = take_rest bytes c.loop-written.written in
    let wrote = rw c.in_ok-count.ensures.took.0 at c.write.ensures in
    let bound = wrote.bound in
    record {
      range = omega (arith, bound, ap length rest, length-drop c.loop-written.written bytes);
      so_far = appends_more _ _ _ _ _ _ c.loop-written.invariant.so_far wrote.bytes
          (take-add c.loop-written.written c.in_ok-count.count bytes ∙ ap (λ x. take c.loop-written.written bytes ++ take c.in_ok-count.count x) (sym rest));
    }
