use Rattle.std.proofs.Common.{◌∙◌, [], None, take, is_some, sym, ap, refl}
use Rattle.std.proofs.lemmas.List.{length-map, length-take-le}
use Rattle.wat_module_tokens.specs.Terminals.{label}
use Rattle.wat_module_tokens.specs.declared.token.Name.TheVariants.{Absent, Given}
use Rattle.wat_module_instructions.proofs.Distinct.{inserted, passed}
use Rattle.wat_module_instructions.proofs.Repetitions.{goes_on}
use Rattle.wat_module_instructions.proofs.names.repeated.Goals.{in-Given+in_ok-first+in_default-2, in_default}
use Rattle.wat_module_instructions.proofs.names.repeated.Goals as goal

-- src/names.rt:161:5
pub loop-i-preserved : goal.loop-i-preserved
loop-i-preserved c = elim c.match-name.branch [
  | in-Given+in_ok-first+in_default-2 w ↦
      let names = c.args.names.now in
      let i = c.loop-i.i in
      let none = sym (c.loop-i.invariant.1.0 w.in-Given.given.now) ∙ sym w.in_ok-first.ensures.old ∙ w.in_default-2.is in (
        goes_on names i (Given (record { ref_ptr = (0, 0); now = [] })) (Given w.in-Given.given) _ c.loop-i-test.true w.in-Given.is c.loop-i.invariant.0 none,
        inserted names i (Given (record { ref_ptr = (0, 0); now = [] })) w.in-Given.given c.loop-i.indices w.insert.new.self c.match-name.indices w.indices-is c.loop-i-test.true w.in-Given.is
            (ap is_some none)
            (length-map (take i names) label ∙ length-take-le i names c.loop-i.auto.i-end)
            w.in_ok-first.ensures.updates
            c.loop-i.invariant.1,
      )
  | in_default w ↦ (
    goes_on c.args.names.now c.loop-i.i (Given (record { ref_ptr = (0, 0); now = [] })) Absent _ c.loop-i-test.true w.in_default.is c.loop-i.invariant.0 refl,
    passed c.args.names.now c.loop-i.i (Given (record { ref_ptr = (0, 0); now = [] })) c.loop-i.indices c.match-name.indices w.indices-is c.loop-i-test.true w.in_default.is c.loop-i.invariant.1,
  )
]
