use Rattle.std.proofs.Common.{arith}
use Rattle.wat_tokens_io.proofs.LineLaws.{over_piece}
use Rattle.wat_tokens_io.proofs.line.put_piece.Goals as goal

pub returns-clause-put : goal.returns-clause-put
returns-clause-put c =
    over_piece c.args.at c.args.count c.args.room.now c.copy_from_slice.new.self c.args.piece.now _ (omega (arith, c.requires.wide)) (omega (arith, c.requires.count, c.requires.piece)) c.copy_from_slice.ensures.after
