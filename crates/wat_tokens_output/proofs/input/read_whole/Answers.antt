use Rattle.std.proofs.Common.{rules, inr}
use Rattle.wat_tokens_output.specs.lemmas.InputLaws.{read_past, read_short}
use Rattle.wat_tokens_output.proofs.input.read_whole.Goals as goal

pub returns-then-count-len-clause-past : goal.returns-then-count-len-clause-past
returns-then-count-len-clause-past g c =
    λ _. read_past _ _ _ c.pieces.bytes.items c.read.new.buffer c.in-Ok.count c.pieces.invariant.so_far c.in-Ok.ensures.bytes (search rules) (search rules) (search rules)

pub returns-in_err-extend_from_slice-in-Ok-clause-short :
    goal.returns-in_err-extend_from_slice-in-Ok-clause-short
returns-in_err-extend_from_slice-in-Ok-clause-short g c =
    inr (read_short _ _ _ c.pieces.bytes.items c.read.new.buffer c.in-Ok.count c.pieces.invariant.so_far c.in-Ok.ensures.bytes (search rules) (search rules))
