use Rattle.wat_lex.proofs.binary.Leb128Laws.{unsigned_leb128-law}
use Rattle.wat_lex.proofs.encode.UsizeEncode.encode.Goals as goal

pub returns-clause-law : goal.returns-clause-law
returns-clause-law c = unsigned_leb128-law c.args.self.now
