use Rattle.wat_lex.proofs.binary.Leb128Laws.{signed_leb128-law}
use Rattle.wat_lex.proofs.encode.I32Encode.encode.Goals as goal

pub returns-clause-law : goal.returns-clause-law
returns-clause-law c = signed_leb128-law c.args.self.now
