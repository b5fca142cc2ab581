use Rattle.std.proofs.Common.{refl}
use Rattle.wat_tokens_io.specs.lemmas.BlockLaws.{cut_longer, on_err, put_long, put_long_cut}
use Rattle.wat_tokens_io.proofs.block.Block.put.Goals as goal

pub returns-in_err-write-clause-cut : goal.returns-in_err-write-clause-cut
returns-in_err-write-clause-cut g c = on_err c.from_residual.result (cut_longer _ _ c.args.self.now c.args.bytes.now _ c.in_err-write.ensures.cut refl)

pub returns-then-bytes-gt-BLOCK-clause-put : goal.returns-then-bytes-gt-BLOCK-clause-put
returns-then-bytes-gt-BLOCK-clause-put g c = put_long _ _ _ c.args.self.now c.write.new.self c.args.bytes.now c.write_all.result c.in_ok-write.ensures.written c.write_all.ensures.bytes c.in_ok-write.ensures.empty

pub returns-then-bytes-gt-BLOCK-clause-cut : goal.returns-then-bytes-gt-BLOCK-clause-cut
returns-then-bytes-gt-BLOCK-clause-cut g c = put_long_cut _ _ _ c.args.self.now c.args.bytes.now c.write_all.result c.in_ok-write.ensures.written c.write_all.ensures.cut

pub returns-in_err-ensure_capacity-clause-cut : goal.returns-in_err-ensure_capacity-clause-cut
returns-in_err-ensure_capacity-clause-cut g c = on_err c.from_residual-in_err-ensure_capacity.result (cut_longer _ _ c.args.self.now c.args.bytes.now _ c.in_err-ensure_capacity.ensures.cut refl)
