use Rattle.std.proofs.Common.{◌≡◌, ◌-◌, ◌∷◌, length, take, drop, get_or, ap, sym, ◌∙◌, subst, arith}
use borrow.Author.Tests.{ltb-true}
use Rattle.std.specs.List.{prefix_len}
use Rattle.std.proofs.lemmas.List.{take_rest}
use Rattle.std.proofs.lemmas.List.Sums.{prefix_len-le-length}
use Rattle.wat_lex.specs.grammar.Numbers.{Tail}
use Rattle.wat_c.specs.inside.SplitFloats.{SplitsFraction, is_of_digits}
use Rattle.wat_c.proofs.FloatSplits.{headed, after_dot, no_dot}
use Rattle.wat_c.proofs.float_parts.split_fraction.Goals as goal
use Rattle.wat_c.proofs.float_parts.split_fraction.Goals.{in_default-via-then-tail-lt1, in_default-via-else-tail-lt1+in_default-1}

pub slice_bounds-result-count : goal.slice_bounds-result-count
slice_bounds-result-count c =
    let tail = c.args.tail.now in
    omega (arith, c.digits_len-len.ensures, prefix_len-le-length (is_of_digits c.args.hex) (take (length tail - 1) (drop 1 tail)))

pub slice_bounds-result-start : goal.slice_bounds-result-start
slice_bounds-result-start c =
    let tail = c.args.tail.now in
    omega (arith, c.digits_len-len.ensures, prefix_len-le-length (is_of_digits c.args.hex) (take (length tail - 1) (drop 1 tail)))

pub returns-in-46 : goal.returns-in-46
returns-in-46 c =
    let hex = c.args.hex in
    let tail = c.args.tail.now in
    let n = c.digits_len-len.result in
    let dot : get_or tail 0 0 ≡ 46 = omega arith in
    let e : tail ≡ 46 ∷ drop 1 tail = headed tail (omega (arith, c.in-46.len_at_least)) dot in
    let whole = take (length tail - 1) (drop 1 tail) in
    let after = take_rest tail 1 in
    let count : n ≡ prefix_len (is_of_digits hex) (drop 1 tail) = c.digits_len-len.ensures ∙ ap (prefix_len (is_of_digits hex)) after in
    let cut = after_dot hex (drop 1 tail) n count (subst (Tail hex) e c.requires) in
    let rest = take_rest whole n ∙ ap (drop n) after in
    subst (λ s. SplitsFraction hex s n (take (length whole - n) (drop n whole))) (sym e) (subst (λ r. SplitsFraction hex (46 ∷ drop 1 tail) n r) (sym rest) cut)

pub returns-in_default : goal.returns-in_default
returns-in_default c =
    no_dot c.args.hex c.args.tail.now (λ t e. elim c.in_default.branch [
      | in_default-via-then-tail-lt1 w ↦ absurd (omega (arith, ltb-true, ap length e))
      | in_default-via-else-tail-lt1+in_default-1 w ↦ absurd (omega (arith, ap (λ s. get_or s 0 0) e))
    ]) c.requires
