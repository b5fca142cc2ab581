use Rattle.std.proofs.Common.{◌<◌, ap, sym, ◌∙◌, subst, arith, length, get_or, inr}
use Rattle.std.specs.Str.{IsAscii}
use Rattle.std.proofs.lemmas.Str.{IsAscii-drop, IsCharBoundary-from_ascii}
use Rattle.wat_lex.specs.inside.ScannedNumbers.{LongestDigits, NoDigits, EndsFloat}
use Rattle.wat_lex.specs.values.NumberValues.{no_point}
use Rattle.wat_lex.proofs.values.NumberParts.{cut_digits, seam_back, seam_fits, tail_some, no_dot, dotted, ends_some, ends_none, point_some, point_bare}
use Rattle.wat_lex.proofs.lexer.read.numbers.split_fraction.Goals as goal

pub bounds-as_bytes-0 : goal.bounds-as_bytes-0
bounds-as_bytes-0 c = subst (λ x. 0 < length x) (sym c.as_bytes.ensures.value) (tail_some c.args.hex c.args.tail.now c.requires.tail)

pub returns-then-as_bytes-ne46-clause-point : goal.returns-then-as_bytes-ne46-clause-point
returns-then-as_bytes-ne46-clause-point c = no_point

pub returns-then-as_bytes-ne46-clause-rest : goal.returns-then-as_bytes-ne46-clause-rest
returns-then-as_bytes-ne46-clause-rest c =
    inr (no_dot c.args.hex c.args.tail.now (λ e. c.if-as_bytes-ne46.true (ap (λ x. get_or x 0 0) c.as_bytes.ensures.value ∙ e)) c.requires.tail)

pub overflow_sub-after : goal.overflow_sub-after
overflow_sub-after c =
    let l = subst (λ x. LongestDigits c.args.hex x c.in-Some.rest.now) c.as_bytes-2.ensures.value c.in-Some.ensures in
    let p = cut_digits c.args.hex c.range_from-after.result.now c.in-Some.rest.now l.digits in
    seam_fits c.range_from-after.result.now p.0 c.in-Some.rest.now p.1

pub split_at-requires : goal.split_at-requires
split_at-requires c =
    IsCharBoundary-from_ascii c.range_from-after.result.now _ (subst IsAscii (sym c.range_from-after.ensures.value) (IsAscii-drop c.args.tail.now 1 c.requires.ascii)) (omega arith)

pub returns-in-Some-clause-point : goal.returns-in-Some-clause-point
returns-in-Some-clause-point c =
    let l = subst (λ x. LongestDigits c.args.hex x c.in-Some.rest.now) c.as_bytes-2.ensures.value c.in-Some.ensures in
    let d = dotted c.args.hex c.args.tail.now c.range_from-after.result.now (ap (λ x. get_or x 0 0) (sym c.as_bytes.ensures.value) ∙ c.if-as_bytes-ne46.false) c.range_from-after.ensures.value c.requires.tail in
    point_some c.args.hex c.args.tail.now c.range_from-after.result.now c.in-Some.rest.now d.0 l c.split_at.result.0.now c.split_at.result.1.now c.split_at.ensures.front c.split_at.ensures.back

pub returns-in-Some-clause-rest : goal.returns-in-Some-clause-rest
returns-in-Some-clause-rest c =
    let l = subst (λ x. LongestDigits c.args.hex x c.in-Some.rest.now) c.as_bytes-2.ensures.value c.in-Some.ensures in
    let d = dotted c.args.hex c.args.tail.now c.range_from-after.result.now (ap (λ x. get_or x 0 0) (sym c.as_bytes.ensures.value) ∙ c.if-as_bytes-ne46.false) c.range_from-after.ensures.value c.requires.tail in
    let p = cut_digits c.args.hex c.range_from-after.result.now c.in-Some.rest.now l.digits in
    subst (EndsFloat c.args.hex) (sym (c.split_at.ensures.back ∙ seam_back c.range_from-after.result.now p.0 c.in-Some.rest.now p.1)) (ends_some c.args.hex c.range_from-after.result.now c.in-Some.rest.now d.1 l)

pub returns-in-None-clause-point : goal.returns-in-None-clause-point
returns-in-None-clause-point c =
    let d = dotted c.args.hex c.args.tail.now c.range_from-after.result.now (ap (λ x. get_or x 0 0) (sym c.as_bytes.ensures.value) ∙ c.if-as_bytes-ne46.false) c.range_from-after.ensures.value c.requires.tail in
    point_bare c.args.hex c.args.tail.now c.range_from-after.result.now d.0

pub returns-in-None-clause-rest : goal.returns-in-None-clause-rest
returns-in-None-clause-rest c =
    let d = dotted c.args.hex c.args.tail.now c.range_from-after.result.now (ap (λ x. get_or x 0 0) (sym c.as_bytes.ensures.value) ∙ c.if-as_bytes-ne46.false) c.range_from-after.ensures.value c.requires.tail in
    ends_none c.args.hex c.range_from-after.result.now d.1 (subst (NoDigits c.args.hex) c.as_bytes-2.ensures.value c.in-None.ensures)
