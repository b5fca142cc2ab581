use Rattle.std.proofs.Common.{◌≡◌, ◌+◌, ◌-◌, length, drop, get_or, refl, ap, ◌∙◌, subst, sym, arith, inl, inr}
use Rattle.wat_lex.specs.inside.Closings.{ClosesAtMost}
use Rattle.wat_lex.specs.tokens.Unclosed.{AreMarks}
use Rattle.wat_lex.proofs.inside.Unclosed.{none_at_end, stays, unclosed_found}
use Rattle.wat_lex.proofs.lexer.unclosed.mark_between.Goals as goal
use Rattle.wat_lex.proofs.lexer.unclosed.mark_between.Goals.{then-after-eq0+then-opens_at, else-after-eq0}

pub loop-at-init : goal.loop-at-init
loop-at-init c =
    let s = c.args.lexer.now in
    elim c.requires.end [
      | inl e ↦ record {
        range = omega arith;
        next = none_at_end s.text c.args.end (omega arith);
        after = λ _. none_at_end s.text (c.args.end + 1) (omega arith);
        few = (omega arith, omega arith);
        used = c.requires.known;
        marks = c.requires.marks;
      }
      | inr u ↦ let k = stays s c.args.end c.input.ensures.utf8 u in record {
        range = c.requires.range;
        next = k.closes;
        after = λ n. absurd (n k.first);
        few = (omega arith, omega arith);
        used = c.requires.known;
        marks = c.requires.marks;
      }
    ]

pub mark_at-requires-clause-unclosed : goal.mark_at-requires-clause-unclosed
mark_at-requires-clause-unclosed c =
    let s = c.args.lexer.now in
    let at = c.loop-at.at in
    let e = c.as_bytes-text.ensures.value ∙ c.input.ensures.text in
    let h = c.if-opens_at.ensures.0 refl in
    let back : at - 1 + 1 ≡ at = omega (arith, c.loop-at-test.true) in
    let two : at + 1 ≡ at - 1 + 2 = omega (arith, back) in
    let first : get_or s.text (at - 1) 0 ≡ 40 = sym (ap (λ x. get_or x (at - 1) 0) e) ∙ h.0 in
    let second : get_or s.text (at - 1 + 1) 0 ≡ 59 = sym (ap (λ x. get_or x (at - 1 + 1) 0) e) ∙ h.1 in
    let here : get_or s.text at 0 ≡ 59 = ap (λ k. get_or s.text k 0) (sym back) ∙ second in
    let rest = subst (λ n. ClosesAtMost n (drop (at + 1) s.text)) c.if-after-eq0.true (c.loop-at.invariant.after (λ k. omega (arith, k, here))) in
    unclosed_found s (at - 1) c.input.ensures.utf8 first second (subst (λ k. ClosesAtMost 0 (drop k s.text)) two rest)

pub closings-here-requires : goal.closings-here-requires
closings-here-requires c =
    let i = c.loop-at.invariant in
    let text = c.args.lexer.now.text in
    let bytes = c.as_bytes-text.result.now in
    let at = c.loop-at.at in
    let e = c.as_bytes-text.ensures.value ∙ c.input.ensures.text in
    let back : at - 1 + 1 ≡ at = omega (arith, c.loop-at-test.true) in
    let two : at + 1 ≡ at - 1 + 2 = omega (arith, back) in
    record {
      range = omega (arith, i.range, ap length e, c.loop-at-test.true);
      next = subst (λ k. ClosesAtMost c.loop-at.next (drop k bytes)) (sym back) (subst (λ x. ClosesAtMost c.loop-at.next (drop at x)) (sym e) i.next);
      after = λ n.
          subst (λ k. ClosesAtMost c.loop-at.after (drop k bytes)) two (subst (λ x. ClosesAtMost c.loop-at.after (drop (at + 1) x)) (sym e)
          (i.after (λ q. n (ap (λ x. get_or x (at - 1 + 1) 0) e ∙ ap (λ k. get_or text k 0) back ∙ q))));
      few = (omega (arith, i.few.0, ap length e, back), omega (arith, i.few.1, ap length e, back));
    }

pub loop-at-preserved : goal.loop-at-preserved
loop-at-preserved c =
    let i = c.loop-at.invariant in
    let s = c.args.lexer.now in
    let at = c.loop-at.at in
    let e = c.as_bytes-text.ensures.value ∙ c.input.ensures.text in
    let back : at - 1 + 1 ≡ at = omega (arith, c.loop-at-test.true) in
    let k = c.closings-here.ensures in
    record {
      range = omega (arith, i.range);
      next = subst (λ x. ClosesAtMost c.closings-here.result (drop (at - 1) x)) e k.most;
      after = λ _. subst (λ n. ClosesAtMost c.loop-at.next (drop n s.text)) (sym back) i.next;
      few = (omega (arith, k.few, ap length e), omega (arith, i.few.0));
      used = elim c.if-after-eq0.branch [
        | then-after-eq0+then-opens_at w ↦ let u = w.mark_at.ensures.used in let v = w.used-is in omega (arith, c.if-after-eq0.auto.marks)
        | else-after-eq0 w ↦ let u = i.used in let v = w.used-is in omega (arith, c.if-after-eq0.auto.marks)
      ];
      marks = elim c.if-after-eq0.branch [
        | then-after-eq0+then-opens_at w ↦ subst (AreMarks s) (sym w.marks-is) w.mark_at.ensures.marks
        | else-after-eq0 w ↦ subst (AreMarks s) (sym w.marks-is) i.marks
      ];
    }
