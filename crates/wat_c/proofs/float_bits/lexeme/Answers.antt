use Rattle.wat_c.proofs.RowTokens.{row_boundary}
use Rattle.wat_c.proofs.float_bits.lexeme.Goals as goal

pub range-requires-clause-end_boundary : goal.range-requires-clause-end_boundary
range-requires-clause-end_boundary c = row_boundary c.tokens.ensures.boundary c.args.text.now c.args.row c.utf8.text c.requires
