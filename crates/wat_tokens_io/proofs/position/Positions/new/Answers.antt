use Rattle.wat_tokens_io.proofs.PositionLaws.{first_line}
use Rattle.wat_tokens_io.proofs.position.Positions.new.Goals as goal

pub invariant_of-result : goal.invariant_of-result
invariant_of-result c = (c.requires, first_line c.args.text.now c.line_end.result (rw c.as_bytes.ensures.value at c.line_end.ensures))
