use Rattle.std.proofs.Common.{◌≡◌, ◌≤◌, ◌∙◌, ◌+◌, ◌++◌, ap, append_assoc, append-nil, arith, drop, get_or, refl, replicate, subst, sym, OnOk}
use Rattle.std.specs.List.{flat_map}
use Rattle.std.proofs.lemmas.Grind.{flat_map-append}
use Rattle.std.proofs.lemmas.List.{drop_all}
use Rattle.wat_module_ast.specs.declared.fields.Locals.{Locals}
use Rattle.wat_module_ast.specs.declared.instruction.ValueType.TheVariants.{I32}
use Rattle.wat_module_encoder.specs.Binary.{run_bytes, runs_of}
use Rattle.wat_module_encoder.specs.Views.{bytes_of}
use Rattle.wat_module_encoder.proofs.LocalLaws.{more_none, more_other, more_same}
use Rattle.wat_module_encoder.proofs.code.put_runs.Goals.{then-next-byte+in_ok-count, else-next-byte+then-local-gt0+in_ok-put_run, else-next-byte+else-local-gt0}
use Rattle.wat_module_encoder.proofs.code.put_runs.Goals as goal

pub loop-local-init : goal.loop-local-init
loop-local-init c = refl

pub loop-local-preserved : goal.loop-local-preserved
loop-local-preserved c =
    let none : Locals = record { count = 0; of = I32 } in
    let ls = c.args.locals.now in
    let i = c.loop-local.local-index in
    let h = c.loop-local-test.true in
    let out = c.loop-local.out.items in
    let n = c.loop-local.count in
    let b = c.loop-local.byte in
    let m = (get_or ls i none).count in
    let rest = bytes_of (drop (i + 1) ls) in
    let t = c.type_byte-next.result in
    elim c.if-next-byte.branch [
      | then-next-byte+in_ok-count w ↦
          c.loop-local.invariant ∙ ap (λ bs. out ++ flat_map run_bytes (runs_of bs)) (more_same ls i none n b m h refl (sym c.type_byte-next.ensures ∙ w.if-next-byte.true))
          ∙ sym (ap (λ o. o.items ++ flat_map run_bytes (runs_of (replicate c.if-next-byte.count c.if-next-byte.byte ++ rest))) w.out-is
          ∙ ap (λ k. out ++ flat_map run_bytes (runs_of (replicate k c.if-next-byte.byte ++ rest))) (w.count-is ∙ w.in_ok-count.ensures)
          ∙ ap (λ k. out ++ flat_map run_bytes (runs_of (replicate (n + m) k ++ rest))) w.byte-is)
      | else-next-byte+then-local-gt0+in_ok-put_run w ↦
          let first = flat_map run_bytes (runs_of (replicate n b)) in
          let last = flat_map run_bytes (runs_of (replicate m t ++ rest)) in
          c.loop-local.invariant ∙ ap (λ rs. out ++ flat_map run_bytes rs) (more_other ls i none n b m t h refl (sym c.type_byte-next.ensures) w.if-next-byte.false w.if-local-gt0.true)
          ∙ ap (λ bs. out ++ bs) (flat_map-append run_bytes (runs_of (replicate n b)) (runs_of (replicate m t ++ rest)))
          ∙ sym (append_assoc out first last) ∙ ap (λ o. o ++ last) (sym w.in_ok-put_run.ensures)
          ∙ sym (ap (λ o. o.items ++ flat_map run_bytes (runs_of (replicate c.if-next-byte.count c.if-next-byte.byte ++ rest))) w.out-is
          ∙ ap (λ k. w.put_run.new.out.items ++ flat_map run_bytes (runs_of (replicate k c.if-next-byte.byte ++ rest))) w.count-is
          ∙ ap (λ k. w.put_run.new.out.items ++ flat_map run_bytes (runs_of (replicate m k ++ rest))) w.byte-is)
      | else-next-byte+else-local-gt0 w ↦
          let few : m ≤ 0 = w.if-local-gt0.false in
          c.loop-local.invariant ∙ ap (λ bs. out ++ flat_map run_bytes (runs_of (replicate n b ++ bs))) (more_none ls i none h (omega (arith, few)))
          ∙ sym (ap (λ o. o.items ++ flat_map run_bytes (runs_of (replicate c.if-next-byte.count c.if-next-byte.byte ++ rest))) w.out-is
          ∙ ap (λ k. out ++ flat_map run_bytes (runs_of (replicate k c.if-next-byte.byte ++ rest))) w.count-is
          ∙ ap (λ k. out ++ flat_map run_bytes (runs_of (replicate n k ++ rest))) w.byte-is)
    ]

pub returns : goal.returns
returns c =
    let ls = c.args.locals.now in
    let out = c.loop-local.out.items in
    let n = c.loop-local.count in
    let b = c.loop-local.byte in
    let all = c.loop-local.invariant ∙ ap (λ ds. out ++ flat_map run_bytes (runs_of (replicate n b ++ bytes_of ds))) (drop_all c.loop-local.local-index ls c.loop-local-test.false)
    ∙ ap (λ bs. out ++ flat_map run_bytes (runs_of bs)) (append-nil (replicate n b)) in
    subst (λ x. OnOk c.put_run-2.result (c.put_run-2.new.out.items ≡ x)) (sym all) c.put_run-2.ensures
