use Rattle.std.proofs.Common.{◌≡◌, ◌+◌, ◌^◌, ◌<◌, false, take, drop}
use Rattle.std.specs.List.{prefix_len}
use Rattle.std.specs.Str.Parse.{digits_value}
use Rattle.wat_lex.specs.grammar.Numbers.{is_digit}
use Rattle.wat_floats.specs.Rounding.{IsCapped}
use Rattle.wat_floats.proofs.exponent.size_of.Given as goal

abbrev pub invariant-loop-byte : goal.invariant-loop-byte
invariant-loop-byte l = record {
  capped : IsCapped (digits_value 10 (take l.byte-index l.text)) l.size;
  passed : l.byte-index + prefix_len (is_digit false) (drop l.byte-index l.text) ≡ prefix_len (is_digit false) l.text;
  most : l.size < 2 ^ 110;
}
