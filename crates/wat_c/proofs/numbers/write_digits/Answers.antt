use Rattle.std.proofs.Common.{◌≡◌, ◌+◌, ℕ, List, sym, subst, slice_set, get_or}
use Rattle.wat_c.proofs.Writing.{Written, begun, one_more, no_more, all_written}
use Rattle.wat_c.proofs.numbers.write_digits.Goals as goal
use Rattle.wat_c.proofs.numbers.write_digits.Goals.{then-byte-ne95, else-byte-ne95}

moved : (old out next : List ℕ) (from at to : ℕ) (ds : List ℕ) (i : ℕ) → Written old out from at ds i → next ≡ out → to ≡ at → Written old next from to ds i
moved old out next from at to ds i h e f = subst (λ o. Written old o from to ds i) (sym e) (subst (λ a. Written old out from a ds i) (sym f) h)

pub loop-byte-init : goal.loop-byte-init
loop-byte-init c = begun c.args.out.now c.args.at c.args.digits.now c.requires

pub loop-byte-preserved : goal.loop-byte-preserved
loop-byte-preserved c =
    let ds = c.args.digits.now in
    let i = c.loop-byte.byte-index in
    let known = c.loop-byte.invariant in
    elim c.if-byte-ne95.branch [
      | then-byte-ne95 w ↦
          moved c.args.out.now (slice_set c.loop-byte.out c.loop-byte.at (get_or ds i 0)) c.if-byte-ne95.out c.args.at (c.loop-byte.at + 1) c.if-byte-ne95.at ds (i + 1)
          (one_more c.args.out.now c.loop-byte.out c.args.at c.loop-byte.at ds i known c.loop-byte-test.true w.if-byte-ne95.true) w.out-is w.at-is
      | else-byte-ne95 w ↦
          moved c.args.out.now c.loop-byte.out c.if-byte-ne95.out c.args.at c.loop-byte.at c.if-byte-ne95.at ds (i + 1)
          (no_more c.args.out.now c.loop-byte.out c.args.at c.loop-byte.at ds i known c.loop-byte-test.true w.if-byte-ne95.false) w.out-is w.at-is
    ]

pub returns : goal.returns
returns c = all_written c.args.out.now c.loop-byte.out c.args.at c.loop-byte.at c.args.digits.now c.loop-byte.byte-index c.loop-byte.invariant c.loop-byte-test.false
