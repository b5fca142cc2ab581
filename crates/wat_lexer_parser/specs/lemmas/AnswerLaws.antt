-- Lemmas about the results of calls: an allocation may be permitted additionally, and errors are passed on.
use Rattle.std.proofs.Common.{◌≡◌, ◌∙◌, Bool, true, false, refl, sym, ap, Some, None, Ok, Err}
use Rattle.std.specs.Prelude.{Option, Result, is_err}
use Rattle.wat_lex.specs.errors.Errors.{Report, IsUnlessMemory}
use Rattle.wat_lexer_parser.specs.parser.State.{Answers}

-- A permitted result stays permitted if the call may allocate.
pub answers_true : {V T : Type 0} (takes : Bool) (f : T → V) (m : Result V Report) (r : Result T (Option Report)) → Answers takes f m r → Answers true f m r
answers_true takes f m (Ok x) h = h
answers_true takes f m (Err None) h = refl
answers_true takes f m (Err (Some e)) h = h

-- If the specified result is an error, a call may return its report or an allocation failure.
pub refusal_answers : {V T : Type 0} (takes : Bool) (f : T → V) (m : Result V Report) (e : Option Report) (r : Report) → m ≡ Err r → IsUnlessMemory e r → Answers {T = T} takes f m (Err e)
refusal_answers true f m None r h k = refl
refusal_answers false f m None r h k = ap is_err h
refusal_answers takes f m (Some e) r h k = h ∙ ap Err (sym k)

-- If a value is specified, an error is an allocation failure.
pub error_is_allocation_failure : {V T : Type 0} (takes : Bool) (f : T → V) (m : Result V Report) (v : V) (e : Option Report) → m ≡ Ok v → Answers {T = T} takes f m (Err e) → e ≡ None
error_is_allocation_failure takes f m v None i h = refl
error_is_allocation_failure takes f m v (Some e) i h = let k : Ok v ≡ Err e = sym i ∙ h in cc

-- The error of a call is permitted for a function `k` of its result that keeps errors.
pub error_answers : {V T W U : Type 0} (takes : Bool) (f : T → V) (g : U → W) (k : Result V Report → Result W Report) (m : Result V Report) (e : Option Report) → ((r : Report) → k (Err r) ≡ Err r) → Answers {T = T} takes f m (Err e)
    → Answers {T = U} true g (k m) (Err e)
error_answers takes f g k m None stays h = refl
error_answers takes f g k m (Some e) stays h = ap k h ∙ stays e
