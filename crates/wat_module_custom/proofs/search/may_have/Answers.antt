use Rattle.std.proofs.Common.{◌+◌, ◌-◌, ◌∙◌, sym, subst, ap, drop, arith, Some, None}
use Rattle.std.proofs.lemmas.List.{take_rest, length-drop}
use Rattle.memchr.specs.Find.{IsFirstByte, is_byte}
use Rattle.wat_module_custom.specs.Search.{may_begin, may_have}
use Rattle.wat_module_custom.proofs.Signs.{ended, past, some}
use Rattle.wat_module_custom.proofs.search.may_have.Goals as goal
use Rattle.wat_module_custom.proofs.search.may_have.Goals.{In-Some, else-sign-gt0-via-then-sign-gt0+else-may_begin, else-sign-gt0-via-else-sign-gt0}

found : (c : In-Some) → IsFirstByte (is_byte 64) (drop c.loop-ahead.at c.as_bytes-bytes.result.now) (Some c.in-Some.ahead)
found c = subst (λ s. IsFirstByte (is_byte 64) s (Some c.in-Some.ahead)) (take_rest c.as_bytes-bytes.result.now c.loop-ahead.at) c.in-Some.ensures

pub returns-then-may_begin : goal.returns-then-may_begin
returns-then-may_begin c =
    let bytes = c.as_bytes-bytes.result.now in
    let start = c.loop-ahead.at + c.in-Some.ahead - 1 in
    sym (ap (may_have c.args.sought) (sym c.as_bytes-bytes.ensures.value) ∙ some c.args.sought start bytes (ap (may_begin c.args.sought) (sym (take_rest bytes start)) ∙ sym c.may_begin.ensures ∙ c.if-may_begin.true))

pub loop-ahead-preserved : goal.loop-ahead-preserved
loop-ahead-preserved c =
    let bytes = c.as_bytes-bytes.result.now in
    let at = c.loop-ahead.at in
    let sign = at + c.in-Some.ahead in
    let first = found (goal.at.loop-ahead-preserved c).In-Some in
    let size = length-drop at bytes in
    let inside = first.0.high in (
      omega (arith, size, inside),
      elim c.else-sign-gt0.branch [
        | else-sign-gt0-via-then-sign-gt0+else-may_begin w ↦
            let positive = w.if-sign-gt0.true in
            past c.args.sought bytes at c.in-Some.ahead first c.loop-ahead.invariant.1 (λ e. omega (arith, e, positive))
            (ap (may_begin c.args.sought) (sym (take_rest bytes (sign - 1))) ∙ sym w.may_begin.ensures ∙ w.if-may_begin.false)
        | else-sign-gt0-via-else-sign-gt0 w ↦ let none = w.if-sign-gt0.false in λ k below. absurd (omega (arith, none, below))
      ],
    )

pub returns : goal.returns
returns c =
    let bytes = c.as_bytes-bytes.result.now in
    let none : IsFirstByte (is_byte 64) (drop c.loop-ahead.at bytes) None = subst (λ s. IsFirstByte (is_byte 64) s None) (take_rest bytes c.loop-ahead.at) c.in_default.ensures in
    sym (ap (may_have c.args.sought) (sym c.as_bytes-bytes.ensures.value) ∙ ended c.args.sought bytes c.loop-ahead.at none c.loop-ahead.invariant.1)
