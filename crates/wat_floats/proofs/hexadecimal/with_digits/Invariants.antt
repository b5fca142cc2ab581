use Rattle.std.proofs.Common.{◌≡◌, ℕ, ◌+◌, ◌≤◌, true, take, drop}
use Rattle.std.specs.List.{prefix_len}
use Rattle.std.specs.Str.Parse.{digits_value_after}
use Rattle.wat_lex.specs.grammar.Numbers.{is_digit}
use Rattle.wat_floats.specs.Rounding.{IsLeading}
use Rattle.wat_floats.proofs.hexadecimal.with_digits.Given as goal

abbrev pub invariant-loop-i : goal.invariant-loop-i
invariant-loop-i l = record {
  value : (n : ℕ) → IsLeading n l.fn.leading.count l.fn.leading.dropped l.fn.leading.more
      → IsLeading (digits_value_after 16 n (take l.i l.text)) l.leading.count l.leading.dropped l.leading.more;
  passed : l.i + prefix_len (is_digit true) (drop l.i l.text) ≡ prefix_len (is_digit true) l.text;
  dropped : l.leading.dropped ≤ l.fn.leading.dropped + l.i;
}
