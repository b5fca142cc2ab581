use Rattle.std.proofs.Common.{length}
use Rattle.wat_lex.proofs.binary.Leb128Laws.{unsigned_leb128-law}
use Rattle.wat_lex.proofs.encode.encode_slice.Goals as goal

pub returns-then-not-slice_fits-clause-law : goal.returns-then-not-slice_fits-clause-law
returns-then-not-slice_fits-clause-law g c = unsigned_leb128-law (length c.args.items.now)

pub returns-clause-law : goal.returns-clause-law
returns-clause-law g c = unsigned_leb128-law (length c.args.items.now)
