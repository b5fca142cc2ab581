-- The outcome of a run, and its report.
use Rattle.std.proofs.Common.{◌≡◌, ◌⊎◌, ℕ, Bool, true, false, List, [], ◌++◌, Bor, inl, inr, ap, subst, sym, refl}
use Rattle.std.specs.Prelude.{Option, Some, None, Result, Ok, Err, IfOk, IfErr, IfSome, IsErrOf, OnOk, codes, if◌then◌else◌}
use Rattle.std.specs.Option.{option_map}
use Rattle.std.specs.Io.KnownBytes.{Appends, Keeps}
use Rattle.wat_lex.specs.errors.Errors.{Report}
use Rattle.wat_tokens_io.specs.declared.failed.Failed.{Failed}
use Rattle.wat_tokens_output.specs.Places.{of_file}
use Rattle.wat_tokens_output.specs.Refusals.{IsFailedWrite, refusal}
use Rattle.wat_tokens_output.specs.declared.input.RunFailure.{RunFailure}
use Rattle.wat_tokens_output.specs.declared.input.RunFailure.TheVariants.{Read, TooLong, NotUtf8, Write, Memory}
use Rattle.wat_tokens_run.specs.Outcomes.{is_closed_output, outcome_of, refused, Responds, Ran}
use Rattle.wat_tokens_run.specs.Printed.{Prints, AppendsText, AppendsCut}
use Rattle.wat_tokens_run.specs.Runs.{RunsWithCause}
use Rattle.wat_tokens_run.specs.declared.outcome.Outcome.{Outcome}

keeps_same : (a b : Option (List ℕ)) → b ≡ a → Keeps a b
keeps_same None b e = tt
keeps_same (Some xs) b e = subst (λ v. Keeps (Some xs) v) (sym e) refl

kept : {S : Type 0} (held : S → Option (List ℕ)) (old new : S) (e : RunFailure) → ¬ IsFailedWrite e → IsFailedWrite e ⊎ (new ≡ old) → Keeps (held old) (held new)
kept held old new e other h = elim h [ inl w ↦ absurd (other w) | inr same ↦ keeps_same (held old) (held new) (ap held same) ]

pub run_responds : {S : Type 0} (held : S → Option (List ℕ)) (old new : S) (prints : List ℕ → List ℕ → Option (Option Report) → Type 0) (left : Option (List ℕ)) (run : Result (Option (Option Report)) RunFailure) →
    IfOk run (λ error. IfSome left (λ bytes. AppendsText (prints bytes) error (held old) (held new))) →
    ((failed : Failed) → IsErrOf run (Write failed) → IfSome left (λ bytes. AppendsCut (prints bytes) (held old) (held new))) →
    IfErr run (λ e. IsFailedWrite e ⊎ (new ≡ old)) →
    IfSome left (λ bytes. Responds (prints bytes) (outcome_of run) (held old) (held new))
run_responds held old new prints None run listed cut unwritten = tt
run_responds held old new prints (Some bytes) (Ok None) listed cut unwritten = listed
run_responds held old new prints (Some bytes) (Ok (Some e)) listed cut unwritten = listed
run_responds held old new prints (Some bytes) (Err (Write failed)) listed cut unwritten = cut failed refl
run_responds held old new prints (Some bytes) (Err (Read failed)) listed cut unwritten = kept held old new (Read failed) (λ w. let d = w.1 in cc) unwritten
run_responds held old new prints (Some bytes) (Err TooLong) listed cut unwritten = kept held old new TooLong (λ w. let d = w.1 in cc) unwritten
run_responds held old new prints (Some bytes) (Err (NotUtf8 offset)) listed cut unwritten = kept held old new (NotUtf8 offset) (λ w. let d = w.1 in cc) unwritten
run_responds held old new prints (Some bytes) (Err (Memory refused)) listed cut unwritten = kept held old new (Memory refused) (λ w. let d = w.1 in cc) unwritten

-- A run satisfies `Ran` for its outcome.
pub ran : {S T : Type 0} {left : S → Option (List ℕ)} {read_failed : S → Option Failed} {has_ended : S → Bool} {held : T → Option (List ℕ)} {write_failed : T → Option Failed} {prints : Prints} {input input' : S} {output output' : T} (run : Result (Option (Option Report)) RunFailure) (outcome : Outcome)
    → RunsWithCause left read_failed has_ended held write_failed prints input input' output output' run → outcome ≡ outcome_of run → Ran left read_failed has_ended held write_failed prints input input' output output' outcome
ran {left = left} {held = held} {prints = prints} {input = input} {output = output} {output' = output'} run outcome h e = record {
  run = run;
  runs = h;
  outcome_is = e;
  responds = rw e (run_responds held output output' prints (left input) run h.written h.cut h.unwritten);
}

-- The report of a failure for an input with a name.
pub refused_named : {T E : Type 0} (r : Result T E) (name : Option (Bor (List ℕ))) (n : Bor (List ℕ)) (failure : RunFailure) (old new : Option (List ℕ)) → name ≡ Some n → is_closed_output true failure ≡ false
    → OnOk r (Appends old new (codes "wat_tokens: " ++ (of_file (option_map (λ m. m.now) name) ++ (refusal failure ++ codes "\n")))) → OnOk r (Appends old new (refused (option_map (λ m. m.now) name) failure))
refused_named r None n failure old new e u h = cc
refused_named r (Some m) n failure old new e u h =
    subst (λ b. OnOk r (Appends old new (if b then [] else codes "wat_tokens: " ++ (of_file (Some m.now) ++ (refusal failure ++ codes "\n"))))) (sym u) h
