use Rattle.std.proofs.Common.{◌≡◌, ◌∙◌, ◌+◌, ◌++◌, ap, arith, drop, get_or, replicate, sym}
use Rattle.std.specs.List.{flat_map}
use Rattle.wat_module_ast.specs.Views.{local_types}
use Rattle.wat_module_ast.specs.declared.instruction.ValueType.TheVariants.{I32}
use Rattle.wat_module_parser.proofs.VariableLists.{run_new, run_on}
use Rattle.wat_module_parser.proofs.variables.locals_after.Goals.{then-eq, else-eq+in_ok-push}
use Rattle.wat_module_parser.proofs.variables.locals_after.Goals as goal

pub loop-other-preserved : goal.loop-other-preserved
loop-other-preserved c =
    let ts = c.args.others.now in
    let i = c.loop-other.other-index in
    let few = c.loop-other.invariant.few in elim c.if-eq.branch [
      | then-eq w ↦
          let same : get_or ts i I32 ≡ c.loop-other.of = (let k = c.eq.ensures in let h = w.if-eq.true in grind (arith, k, h)) in
          let count = w.count-is in record {
            are =
                c.loop-other.invariant.are
                ∙ ap (λ us. flat_map local_types c.loop-other.locals.items ++ us) (run_on c.loop-other.count c.loop-other.of ts i I32 c.loop-other-test.true same)
                ∙ ap (λ v. flat_map local_types v.items ++ (replicate (c.loop-other.count + 1) c.loop-other.of ++ drop (i + 1) ts)) (sym w.locals-is)
                ∙ ap (λ n. flat_map local_types c.if-eq.locals.items ++ (replicate n c.loop-other.of ++ drop (i + 1) ts)) (sym w.count-is)
                ∙ ap (λ t. flat_map local_types c.if-eq.locals.items ++ (replicate c.if-eq.count t ++ drop (i + 1) ts)) (sym w.of-is);
            few = omega (arith, few, count);
          }
      | else-eq+in_ok-push w ↦
          let count = w.count-is in record {
            are =
                c.loop-other.invariant.are
                ∙ run_new c.loop-other.locals.items (record { count = c.loop-other.count; of = c.loop-other.of }) ts i I32 c.loop-other-test.true
                ∙ ap (λ ls. flat_map local_types ls ++ (replicate 1 (get_or ts i I32) ++ drop (i + 1) ts)) (sym w.in_ok-push.ensures.items)
                ∙ ap (λ v. flat_map local_types v.items ++ (replicate 1 (get_or ts i I32) ++ drop (i + 1) ts)) (sym w.locals-is)
                ∙ ap (λ n. flat_map local_types c.if-eq.locals.items ++ (replicate n (get_or ts i I32) ++ drop (i + 1) ts)) (sym w.count-is)
                ∙ ap (λ t. flat_map local_types c.if-eq.locals.items ++ (replicate c.if-eq.count t ++ drop (i + 1) ts)) (sym w.of-is);
            few = omega (arith, few, count);
          }
    ]
