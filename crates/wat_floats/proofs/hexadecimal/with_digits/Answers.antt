use Rattle.std.proofs.Common.{◌≡◌, ◌+◌, ◌*◌, true, take, sym, ap, ◌∙◌, subst, arith}
use Rattle.std.specs.Str.Parse.{digits_value_after}
use Rattle.std.proofs.lemmas.List.Sums.{prefix_len-drop_yes}
use Rattle.wat_lex.specs.grammar.Numbers.{is_digit}
use Rattle.wat_floats.specs.Rounding.{IsLeading}
use Rattle.wat_floats.proofs.Digits.{one_more}
use Rattle.wat_floats.proofs.hexadecimal.with_digits.Goals as goal

pub loop-i-preserved : goal.loop-i-preserved
loop-i-preserved c =
    let cs = c.args.text.now in
    let r = c.with_digit-leading.result in
    let s = c.in-Some.ensures.some in
    record {
      value = λ n is.
          let e : digits_value_after 16 n (take (c.loop-i.i + 1) cs) ≡ digits_value_after 16 n (take c.loop-i.i cs) * 16 + c.in-Some.digit = one_more 16 n cs c.loop-i.i c.loop-i-test.true ∙ ap (λ x. digits_value_after 16 n (take c.loop-i.i cs) * 16 + x) (sym s.1) in
          subst (λ x. IsLeading x r.count r.dropped r.more) (sym e) (c.with_digit-leading.ensures.value _ (c.loop-i.invariant.value n is));
      passed = let y = prefix_len-drop_yes (is_digit true) cs c.loop-i.i 0 c.loop-i-test.true s.0 in omega arith;
      dropped = omega arith;
    }
