-- The first error of a body.
use Rattle.std.proofs.Common.{◌≡◌, ◌∙◌, ◌<◌, ◌++◌, ℕ, suc, Bool, true, false, List, [], ◌∷◌, Option, Some, None, length, map, reverse, take, drop, get_or, refl, sym, ap, subst, arith}
use Rattle.std.specs.Prelude.{◌==◌, MatchResult, Result, Ok, Err, is_some}
use Rattle.std.proofs.Math.Seq.{take-suc}
use Rattle.std.proofs.lemmas.List.{length-map, length-reverse, take-append-drop}
use Rattle.wat_module_ast.specs.declared.instruction.Instruction.{Instruction}
use Rattle.wat_module_ast.specs.declared.instruction.ValueType.{ValueType}
use Rattle.wat_valid.specs.Algorithm.{Frame, accepts, and_step, body_frame, goes_on, is_complete, is_finished, run, step}
use Rattle.wat_valid.specs.Contexts.{Context}
use Rattle.wat_valid.specs.declared.blocks.Frame as declared_frame
use Rattle.wat_valid.specs.declared.blocks.Frames as declared_frames
use Rattle.wat_valid.specs.FirstErrors.{ErrorAt, StopsAt}
use Rattle.wat_valid.specs.FrameViews.{frame_of, frames_of}
use Rattle.wat_valid.specs.Instructions.{Expression}
use Rattle.wat_valid.specs.Law.{Viable}
use Rattle.wat_valid.proofs.Closing as closing
use Rattle.wat_valid.proofs.Frames as frames

-- the frames at the start of a body
abbrev pub start : List ValueType → Option (List Frame)
start results = Some (body_frame results ∷ [])

run_on : (C : Context) (fs : Option (List Frame)) (xs : List Instruction) (x : Instruction) → run C fs (xs ++ x ∷ []) ≡ and_step C (run C fs xs) x
run_on C fs [] x = refl
run_on C fs (y ∷ ys) x = run_on C (and_step C fs y) ys x

-- one instruction more is one step more
pub one_on : (C : Context) (results : List ValueType) (is : List Instruction) (i : ℕ) (d x : Instruction) (fs : List Frame) (next : Option (List Frame)) → i < length is → x ≡ get_or is i d → run C (start results) (take i is) ≡ Some fs → step C fs x ≡ next → run C (start results) (take (suc i) is) ≡ next
one_on C results is i d x fs next l e r s =
    ap (run C (start results)) (take-suc is i d l) ∙ (run_on C (start results) (take i is) (get_or is i d) ∙ (ap (λ (m : Option (List Frame)). and_step C m (get_or is i d)) r ∙ (ap (step C fs) (sym e) ∙ s)))

pub stops : (C : Context) (results : List ValueType) (is : List Instruction) (i : ℕ) (d x : Instruction) (fs : List Frame) → i < length is → x ≡ get_or is i d → run C (start results) (take i is) ≡ Some fs → step C fs x ≡ None → StopsAt C is results i
unfolding goes_on
stops C results is i d x fs l e r s = record {
  within = l;
  before = ap is_some r;
  error = ap is_some (one_on C results is i d x fs None l e r s);
}

-- the prefix of a valid body begins a valid body
begins : (C : Context) (is : List Instruction) (results : List ValueType) (i : ℕ) → Expression C (results ∷ []) is results → Viable C (take i is) results
begins C is results i e = record { more = drop i is; valid = subst (λ (xs : List Instruction). Expression C (results ∷ []) xs results) (sym (take-append-drop i is)) e }

pub error_at : (C : Context) (is : List Instruction) (results : List ValueType) (i : ℕ) → StopsAt C is results i → ErrorAt C is results i
error_at C is results i s = record {
  within = omega (arith, s.within);
  before = closing.viable C (take i is) results s.before;
  instruction = λ l v. let k = sym s.error ∙ closing.goes_on_if C (take (suc i) is) results v in cc;
  invalid = λ e. let k = sym s.error ∙ closing.goes_on_if C (take (suc i) is) results (begins C is results (suc i) e) in cc;
}

all_of : (is : List Instruction) → take (length is) is ≡ is
all_of [] = refl
all_of (i ∷ is) = ap (λ xs. i ∷ xs) (all_of is)

goes : (C : Context) (is : List Instruction) (results : List ValueType) (fs : List Frame) → run C (start results) is ≡ Some fs → goes_on C is results ≡ true
unfolding goes_on
goes C is results fs r = ap is_some r

not_accepted : (C : Context) (is : List Instruction) (results : List ValueType) (fs : List Frame) → run C (start results) is ≡ Some fs → is_complete (Some fs) ≡ false → accepts C is results ≡ false
unfolding accepts
not_accepted C is results fs r e = ap is_complete r ∙ e

accepted : (C : Context) (is : List Instruction) (results : List ValueType) (fs : List Frame) → run C (start results) is ≡ Some fs → is_complete (Some fs) ≡ true → accepts C is results ≡ true
unfolding accepts
accepted C is results fs r e = ap is_complete r ∙ e

pub error_at_end : (C : Context) (is : List Instruction) (results : List ValueType) (fs : List Frame) → run C (start results) is ≡ Some fs → is_complete (Some fs) ≡ false → ErrorAt C is results (length is)
error_at_end C is results fs r e = record {
  within = omega arith;
  before = subst (λ (xs : List Instruction). Viable C xs results) (sym (all_of is)) (closing.viable C is results (goes C is results fs r));
  instruction = λ l v. absurd (omega (arith, l));
  invalid = λ x. let k = sym (not_accepted C is results fs r e) ∙ frames.complete C is results x in cc;
}

pub is_valid : (C : Context) (is : List Instruction) (results : List ValueType) (fs : List Frame) → run C (start results) is ≡ Some fs → is_complete (Some fs) ≡ true → Expression C (results ∷ []) is results
is_valid C is results fs r e = frames.sound C is results (accepted C is results fs r e)

-- a body is complete if no block is open, and its frame is finished
pub innermost : (f : Frame) (gs : List Frame) (b : Bool) (n : ℕ) → b ≡ (n == 0) → length gs ≡ n → b ≡ true → is_complete (Some (f ∷ gs)) ≡ is_finished f
innermost f [] b n e l t = refl
innermost f (g ∷ gs) b n e l t = absurd (grind arith)

pub unfinished : (f : Frame) (gs : List Frame) → is_finished f ≡ false → is_complete (Some (f ∷ gs)) ≡ false
unfinished f [] e = e
unfinished f (g ∷ gs) e = refl

pub still_open : (f : Frame) (gs : List Frame) (b : Bool) (n : ℕ) → b ≡ (n == 0) → length gs ≡ n → b ≡ false → is_complete (Some (f ∷ gs)) ≡ false
still_open f [] b n e l t = absurd (grind arith)
still_open f (g ∷ gs) b n e l t = refl

-- the outer frames, the innermost first
pub outer_count : (fs : List declared_frame.Frame) → length (reverse (map frame_of fs)) ≡ length fs
outer_count fs = length-reverse (map frame_of fs) ∙ length-map fs frame_of

-- either the frames after the instructions, or the first error
abbrev pub Ran : Context → List Instruction → List ValueType → Result declared_frames.Frames ℕ → Type 0
Ran C is results r = MatchResult r (λ frames. run C (start results) is ≡ Some (frames_of frames)) (λ i. StopsAt C is results i)

pub ran : (C : Context) (is : List Instruction) (results : List ValueType) (r : Result declared_frames.Frames ℕ) (frames : declared_frames.Frames) → r ≡ Ok frames → Ran C is results r → run C (start results) is ≡ Some (frames_of frames)
ran C is results r frames e h = subst (Ran C is results) e h

pub stopped : (C : Context) (is : List Instruction) (results : List ValueType) (r : Result declared_frames.Frames ℕ) (i : ℕ) → r ≡ Err i → Ran C is results r → StopsAt C is results i
stopped C is results r i e h = subst (Ran C is results) e h
