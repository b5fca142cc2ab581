-- A frame that is pushed comes first.
use Rattle.std.proofs.Common.{◌≡◌, ◌≤◌, ◌<◌, ◌+◌, ◌-◌, List, [], ◌∷◌, ◌++◌, length, take, get_or, Some, None, refl, ap, sym, ◌∙◌, arith}
use Rattle.std.proofs.lemmas.List.{take_more}
use Rattle.std.proofs.Math.Seq.{take-length}
use Rattle.wat_module_ast.specs.declared.error.Expected.TheVariants as expected
use Rattle.wat_module_ast.specs.declared.error.FaultKind.{FaultKind}
use Rattle.wat_module_ast.specs.declared.error.FaultKind.TheVariants.{UnknownWord}
use Rattle.wat_module_instructions.specs.declared.frame.Frame.{Frame}
use Rattle.wat_module_instructions.specs.Machine.{Part, expected_in, kind_in}
use Rattle.wat_module_instructions.specs.Named.{innermost}
use Rattle.wat_module_instructions.specs.Stack.{part, stack, stack_on}

on-push : (fs : List Frame) (f : Frame) (ps : List Part) → stack_on (fs ++ f ∷ []) ps ≡ part f ∷ stack_on fs ps
on-push [] f ps = refl
on-push (g ∷ fs) f ps = on-push fs f (part g ∷ ps)

pub stack_push : (fs : List Frame) (f : Frame) → stack (fs ++ f ∷ []) ≡ part f ∷ stack fs
unfolding stack
stack_push fs f = on-push fs f []

-- the last of some frames is the first of the stack
pub stack_top : (fs : List Frame) (d f : Frame) → 1 ≤ length fs → get_or fs (length fs - 1) d ≡ f → stack fs ≡ part f ∷ stack (take (length fs - 1) fs)
stack_top fs d f h e =
    let lt : length fs - 1 < length fs = omega arith in
    let all : length fs ≡ length fs - 1 + 1 = omega arith in
    ap stack (sym (take-length fs) ∙ ap (λ n. take n fs) all ∙ take_more fs (length fs - 1) d lt ∙ ap (λ g. take (length fs - 1) fs ++ g ∷ []) e)
    ∙ stack_push (take (length fs - 1) fs) f

pub empty_is : (fs : List Frame) → length fs ≡ 0 → stack fs ≡ []
unfolding stack
empty_is [] e = refl
empty_is (f ∷ fs) e = absurd (omega arith)

-- the innermost part is on those outside it
pub on_top : (qs : List Part) (p : Part) → innermost qs ≡ Some p → (ps : List Part) × (qs ≡ p ∷ ps)
on_top [] p e = cc
on_top (q ∷ ps) p e = let same : q ≡ p = cc in (ps, ap (λ r. r ∷ ps) same)

pub is_empty : (qs : List Part) → innermost qs ≡ None → qs ≡ []
is_empty [] e = refl
is_empty (q ∷ qs) e = cc

-- the kind of an error at a keyword that is not an instruction, by the innermost part
pub kind_inside : (qs : List Part) (p : Part) → innermost qs ≡ Some p → kind_in (UnknownWord expected.Instruction) qs ≡ UnknownWord (expected_in p)
kind_inside [] p e = cc
kind_inside (q ∷ ps) p e = let same : q ≡ p = cc in ap (λ r. UnknownWord (expected_in r)) same

pub kind_outside : (qs : List Part) → innermost qs ≡ None → kind_in (UnknownWord expected.Instruction) qs ≡ UnknownWord expected.Instruction
kind_outside [] e = refl
kind_outside (q ∷ qs) e = cc
