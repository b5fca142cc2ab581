use Rattle.std.proofs.Common.{◌≤◌, ◌∙◌, ◌+◌, ◌++◌, ap, append-nil, arith, drop, get_or, length, length-append, refl, replicate, sym}
use Rattle.std.proofs.lemmas.List.{drop_all}
use Rattle.wat_module_ast.specs.declared.fields.Locals.{Locals}
use Rattle.wat_module_ast.specs.declared.instruction.ValueType.TheVariants.{I32}
use Rattle.wat_module_encoder.specs.Binary.{runs_of}
use Rattle.wat_module_encoder.specs.Views.{bytes_of}
use Rattle.wat_module_encoder.proofs.LocalLaws.{more_none, more_other, more_same}
use Rattle.wat_module_encoder.proofs.code.run_count.Goals.{then-next-byte+in_ok-count, else-next-byte+then-local-gt0, else-next-byte+else-local-gt0}
use Rattle.wat_module_encoder.proofs.code.run_count.Goals as goal

pub loop-local-init : goal.loop-local-init
loop-local-init c = (omega arith, omega arith)

pub loop-local-preserved : goal.loop-local-preserved
loop-local-preserved c =
    let none : Locals = record { count = 0; of = I32 } in
    let ls = c.args.locals.now in
    let i = c.loop-local.local-index in
    let h = c.loop-local-test.true in
    let n = c.loop-local.count in
    let b = c.loop-local.byte in
    let m = (get_or ls i none).count in
    let rest = bytes_of (drop (i + 1) ls) in
    let t = c.type_byte-next.result in
    let before = c.loop-local.invariant.0 in
    let few = c.loop-local.invariant.1 in
    elim c.if-next-byte.branch [
      | then-next-byte+in_ok-count w ↦
          let step = ap (λ bs. length (runs_of bs)) (more_same ls i none n b m h refl (sym c.type_byte-next.ensures ∙ w.if-next-byte.true)) in
          let after = ap (λ k. length (runs_of (replicate k c.if-next-byte.byte ++ rest))) (w.count-is ∙ w.in_ok-count.ensures)
          ∙ ap (λ k. length (runs_of (replicate (n + m) k ++ rest))) w.byte-is in
          let runs = w.runs-is in
          (omega (arith, before, step, after, runs), omega (arith, few, runs))
      | else-next-byte+then-local-gt0 w ↦
          let step = ap length (more_other ls i none n b m t h refl (sym c.type_byte-next.ensures) w.if-next-byte.false w.if-local-gt0.true)
          ∙ length-append (runs_of (replicate n b)) (runs_of (replicate m t ++ rest)) in
          let after = ap (λ k. length (runs_of (replicate k c.if-next-byte.byte ++ rest))) w.count-is
          ∙ ap (λ k. length (runs_of (replicate m k ++ rest))) w.byte-is in
          let runs = w.runs-is in
          let one = w.runs_in-runs.ensures.is b in
          let small = w.runs_in-runs.ensures.small in
          (omega (arith, before, step, after, runs, one), omega (arith, few, runs, small))
      | else-next-byte+else-local-gt0 w ↦
          let none_left : m ≤ 0 = w.if-local-gt0.false in
          let step = ap (λ bs. length (runs_of (replicate n b ++ bs))) (more_none ls i none h (omega (arith, none_left))) in
          let after = ap (λ k. length (runs_of (replicate k c.if-next-byte.byte ++ rest))) w.count-is
          ∙ ap (λ k. length (runs_of (replicate n k ++ rest))) w.byte-is in
          let runs = w.runs-is in
          (omega (arith, before, step, after, runs), omega (arith, few, runs))
    ]

pub returns : goal.returns
returns c =
    let ls = c.args.locals.now in
    let n = c.loop-local.count in
    let b = c.loop-local.byte in
    let all = c.loop-local.invariant.0 in
    let end = ap (λ ds. length (runs_of (replicate n b ++ bytes_of ds))) (drop_all c.loop-local.local-index ls c.loop-local-test.false)
    ∙ ap (λ bs. length (runs_of bs)) (append-nil (replicate n b)) in
    let one = c.runs_in.ensures.is b in
    omega (arith, all, end, one)
