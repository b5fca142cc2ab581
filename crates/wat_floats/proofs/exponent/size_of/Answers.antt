use Rattle.std.proofs.Common.{◌≡◌, true, false, sym, ◌∙◌, arith}
use Rattle.std.specs.Char.{is_ascii_digit}
use Rattle.std.specs.Prelude.{slice_index}
use Rattle.std.proofs.lemmas.List.Sums.{prefix_len-drop_yes}
use Rattle.wat_lex.specs.grammar.Numbers.{is_digit}
use Rattle.wat_floats.proofs.Digits.{capped_more, capped_same}
use Rattle.wat_floats.proofs.exponent.size_of.Goals.{then-size-lt-LARGE, else-size-lt-LARGE}
use Rattle.wat_floats.proofs.exponent.size_of.Goals as goal

pub loop-byte-preserved : goal.loop-byte-preserved
loop-byte-preserved c =
    let text = c.args.text.now in
    let i = c.loop-byte.byte-index in
    let is = c.loop-byte.invariant.capped in
    let digit : is_ascii_digit (slice_index text i) ≡ true = sym c.is_ascii_digit.ensures.value ∙ c.if-not-is_ascii_digit.false in
    let yes = prefix_len-drop_yes (is_digit false) text i 0 c.loop-byte-test.true digit in
    elim c.if-size-lt-LARGE.branch [
      | then-size-lt-LARGE w ↦ record { capped = capped_more text i _ c.loop-byte-test.true digit is _ (omega arith) w.if-size-lt-LARGE.true; passed = omega arith; most = omega arith }
      | else-size-lt-LARGE w ↦ record { capped = capped_same text i _ c.loop-byte-test.true digit is _ w.size-is w.if-size-lt-LARGE.false; passed = omega arith; most = omega arith }
    ]
