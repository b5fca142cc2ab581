use Rattle.wat_format.proofs.Streaming.{no_fault}
use Rattle.wat_format.proofs.stream.next_token.Goals as goal

pub unreachable-requires : goal.unreachable-requires
unreachable-requires c = no_fault c.args.lexer.now c.args.pos c.requires.ends.tokens c.scan.result c.in-Err.field-0 c.requires.ends.tiling c.scan.ensures.one c.in-Err.is
