use Rattle.std.proofs.Common.{refl, take, drop, length, ap, arith, ◌-◌, ◌≡◌, ◌≢◌, List, [], ℕ, get_or, inl, inr}
use borrow.Author.Tests.{ltb-true}
use Rattle.std.proofs.lemmas.Bool.{both_ways}
use Rattle.std.proofs.lemmas.List.{take_rest}
use Rattle.wat_lex.proofs.inside.NumberSteps.{not_empty, is_nil, tail_no_dot, tail_bare, tail_bare_power, tail_digits, tail_digits_power, tail_no_digits}
use Rattle.wat_lex.proofs.lexer.scan.numbers.is_tail.Goals as goal
use Rattle.wat_lex.proofs.lexer.scan.numbers.is_tail.Goals.{in_default-via-then-text-lt1, in_default-via-else-text-lt1+in_default-1, then-is_empty-via-then-is_empty, then-is_empty-via-else-is_empty+then-is_exponent, In-46}

after : List ℕ → List ℕ
after text = take (length text - 1) (drop 1 text)

some : (c : In-46) → c.args.text.now ≢ []
some c = λ e. absurd (omega (arith, c.in-46.len_at_least, ap length e))

dot : (c : In-46) → get_or c.args.text.now 0 0 ≡ 46
dot c = omega arith

pub returns-in_default : goal.returns-in_default
returns-in_default c = tail_no_dot c.args.hex c.args.text.now c.is_exponent.result (elim c.in_default.branch [ in_default-via-then-text-lt1 w ↦ inl (omega (arith, ltb-true)) | in_default-via-else-text-lt1+in_default-1 w ↦ inr (omega arith) ]) c.is_exponent.ensures

pub returns-then-is_empty : goal.returns-then-is_empty
unfolding after
returns-then-is_empty c =
    let at = (goal.at.returns-then-is_empty c).In-46 in (
      λ h. elim c.then-is_empty.branch [
        | then-is_empty-via-then-is_empty w ↦ tail_bare c.args.hex c.args.text.now (after c.args.text.now) (some at) (dot at) (take_rest c.args.text.now 1) (is_nil (after c.args.text.now) c.is_empty.result c.is_empty.ensures w.if-is_empty.true)
        | then-is_empty-via-else-is_empty+then-is_exponent w ↦ tail_bare_power c.args.hex c.args.text.now (after c.args.text.now) (some at) (dot at) (take_rest c.args.text.now 1) (w.is_exponent-else-is_empty.ensures.0 w.if-is_exponent.true)
      ],
      λ h. refl,
    )

pub returns-then-is_empty-2 : goal.returns-then-is_empty-2
unfolding after
returns-then-is_empty-2 c =
    let at = (goal.at.returns-then-is_empty-2 c).In-46 in
    tail_digits c.args.hex c.args.text.now (after c.args.text.now) (some at) (dot at) (take_rest c.args.text.now 1)
    c.in-Some.rest.now c.is_empty-in-Some.result c.if-is_empty-2.true (is_nil c.in-Some.rest.now c.is_empty-in-Some.result c.is_empty-in-Some.ensures c.if-is_empty-2.true) c.in-Some.ensures

pub returns-else-is_empty-2 : goal.returns-else-is_empty-2
unfolding after
returns-else-is_empty-2 c =
    let at = (goal.at.returns-else-is_empty-2 c).In-46 in
    tail_digits_power c.args.hex c.args.text.now (after c.args.text.now) (some at) (dot at) (take_rest c.args.text.now 1)
    c.in-Some.rest.now c.is_exponent-else-is_empty-2.result (not_empty (after c.args.text.now) c.is_empty.result c.is_empty.ensures c.if-is_empty.false)
    (λ x. both_ways c.is_exponent-else-is_empty.result c.if-is_exponent.false (c.is_exponent-else-is_empty.ensures.1 x))
    (not_empty c.in-Some.rest.now c.is_empty-in-Some.result c.is_empty-in-Some.ensures c.if-is_empty-2.false) c.is_exponent-else-is_empty-2.ensures c.in-Some.ensures

pub returns-in-None : goal.returns-in-None
unfolding after
returns-in-None c =
    let at = (goal.at.returns-in-None c).In-46 in (
      λ h. cc,
      λ h. absurd (tail_no_digits c.args.hex c.args.text.now (after c.args.text.now) (some at) (dot at) (take_rest c.args.text.now 1)
          (not_empty (after c.args.text.now) c.is_empty.result c.is_empty.ensures c.if-is_empty.false)
          (λ x. both_ways c.is_exponent-else-is_empty.result c.if-is_exponent.false (c.is_exponent-else-is_empty.ensures.1 x)) c.in-None.ensures h),
    )
