use Rattle.std.proofs.Common.{◌≡◌, ◌++◌, take, vec_len}
use Rattle.wat_lex.specs.binary.Leb128.{signed_leb128}
use Rattle.wat_lex.proofs.binary.Leb128Laws.{magnitude}
use Rattle.wat_lex.proofs.encode.push_signed.Given as goal

abbrev pub invariant-loop-rest : goal.invariant-loop-rest
invariant-loop-rest l = record {
  whole : l.e.items ++ signed_leb128 l.rest ≡ l.initial.e.items ++ signed_leb128 l.initial.rest;
  prefix : take (vec_len l.initial.e) l.e.items ≡ l.initial.e.items;
}

abbrev pub decreases-loop-rest : goal.decreases-loop-rest
decreases-loop-rest l = magnitude l.rest
