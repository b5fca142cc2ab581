use Rattle.wat_c.proofs.OneBits.{bits_of_row, bits_at}
use Rattle.wat_c.proofs.laws.one_bits.Goals as goal

pub returns-clause-of_row : goal.returns-clause-of_row
returns-clause-of_row c = bits_of_row

pub returns-clause-at_offset : goal.returns-clause-at_offset
returns-clause-at_offset c = bits_at c.one_answer.ensures.one
