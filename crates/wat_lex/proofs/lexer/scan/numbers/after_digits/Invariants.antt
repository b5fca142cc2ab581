use Rattle.std.proofs.Common.{◌≡◌, ◌<◌, ◌-◌, true, length, drop, get_or}
use Rattle.wat_lex.specs.grammar.Numbers.{is_digit}
use Rattle.wat_lex.proofs.grammar.Digits.{Row}
use Rattle.wat_lex.proofs.lexer.scan.numbers.after_digits.Given as goal

abbrev pub invariant-loop-last : goal.invariant-loop-last
invariant-loop-last l = record {
  range : l.last < length l.text;
  digit : is_digit l.hex (get_or l.text l.last 0) ≡ true;
  row : Row l.hex l.text (drop l.last l.text);
}

abbrev pub decreases-loop-last : goal.decreases-loop-last
decreases-loop-last l = length l.text - l.last
