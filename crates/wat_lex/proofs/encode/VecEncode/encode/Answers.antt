use Rattle.std.proofs.Common.{vec_len}
use Rattle.wat_lex.proofs.binary.Leb128Laws.{unsigned_leb128-law}
use Rattle.wat_lex.proofs.encode.VecEncode.encode.Goals as goal

pub returns-clause-law : goal.returns-clause-law
returns-clause-law g c = unsigned_leb128-law (vec_len c.args.self.now)
