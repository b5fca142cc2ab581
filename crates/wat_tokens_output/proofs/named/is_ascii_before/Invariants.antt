use Rattle.std.proofs.Common.{◌≡◌}
use Rattle.std.specs.Prelude.{nat_le}
use Rattle.std.specs.Char.{is_ascii}
use Rattle.std.specs.List.{prefix_len}
use Rattle.wat_tokens_output.specs.Places.{is_ascii_before}
use Rattle.wat_tokens_output.proofs.named.is_ascii_before.Given as goal

abbrev pub invariant-loop-c : goal.invariant-loop-c
invariant-loop-c l = nat_le l.left (prefix_len is_ascii l.c-iterator) ≡ is_ascii_before l.fn.excerpt
