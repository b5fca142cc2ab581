use Rattle.std.proofs.Common.{arith, lit<}
use Rattle.std.proofs.lemmas.Str.Pattern.{starts_char}
use Rattle.wat_tokens_output.proofs.Counts.{no_plus, short_count}
use Rattle.wat_tokens_output.proofs.calls.read_count.Goals as goal
use Rattle.wat_tokens_output.proofs.calls.read_count.Goals.{then-digits-gt-MOST_DIGITS-via-then-digits-gt-MOST_DIGITS, then-digits-gt-MOST_DIGITS-via-else-digits-gt-MOST_DIGITS+then-starts_with}

pub returns-then-digits-gt-MOST_DIGITS : goal.returns-then-digits-gt-MOST_DIGITS
returns-then-digits-gt-MOST_DIGITS c = λ count. elim c.then-digits-gt-MOST_DIGITS.branch [
  | then-digits-gt-MOST_DIGITS-via-then-digits-gt-MOST_DIGITS w ↦ omega (arith, count.few)
  | then-digits-gt-MOST_DIGITS-via-else-digits-gt-MOST_DIGITS+then-starts_with w ↦
      no_plus c.args.digits.now count ((starts_char 43 c.args.digits.now w.starts_with.result w.starts_with.ensures.cases (lit< tt) (lit< tt)).0 w.if-starts_with.true)
]

pub returns : goal.returns
returns c =
    let plus = starts_char 43 c.args.digits.now c.starts_with.result c.starts_with.ensures.cases (lit< tt) (lit< tt) in
    rw c.ok.ensures.value (short_count c.args.digits.now c.parse.result c.parse.ensures.value.0 (omega arith) (λ e. let h = plus.1 e in cc))
