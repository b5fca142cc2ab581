-- The frames before an instruction of a body.
use Rattle.std.proofs.Common.{◌≡◌, ◌∙◌, ◌<◌, ◌≤◌, ◌++◌, ℕ, zero, suc, Bool, true, false, List, [], ◌∷◌, Option, Some, length, map, reverse, take, drop, drop-cons, get_or, refl, sym, ap, subst, append_assoc, arith}
use Rattle.std.specs.Prelude.{Result, Ok, Err}
use Rattle.std.proofs.lemmas.List.{take-append-drop}
use Rattle.wat_module_ast.specs.declared.instruction.Instruction.{Instruction}
use Rattle.wat_module_ast.specs.declared.instruction.ValueType.{ValueType}
use Rattle.wat_valid.specs.declared.blocks.Frames as declared_frames
use Rattle.wat_valid.specs.declared.wanted.Wanted as declared_wanted
use Rattle.wat_valid.specs.Algorithm.{Frame, goes_on, run}
use Rattle.wat_valid.specs.Contexts.{Context}
use Rattle.wat_valid.specs.FirstErrors.{StopsAt}
use Rattle.wat_valid.specs.FrameViews.{frame_of, frames_of}
use Rattle.wat_valid.specs.Instructions.{Expression}
use Rattle.wat_valid.specs.Law.{Viable}
use Rattle.wat_valid.specs.Wants.{SituationIs, Wants, named, wants, wants_end, wants_next}
use Rattle.wat_valid.proofs.Bodies.{Ran, ran, start, stopped}
use Rattle.wat_valid.proofs.Closing as closing

-- a prefix of instructions that begin a valid body begins one
shorter : (C : Context) (is : List Instruction) (results : List ValueType) (j : ℕ) → Viable C is results → Viable C (take j is) results
shorter C is results j v =
    let whole = sym (append_assoc (take j is) (drop j is) v.more) ∙ ap (λ (xs : List Instruction). xs ++ v.more) (take-append-drop j is) in
    record { more = drop j is ++ v.more; valid = subst (λ (xs : List Instruction). Expression C (results ∷ []) xs results) (sym whole) v.valid }

pub not_going : (C : Context) (is : List Instruction) (results : List ValueType) (i : ℕ) → StopsAt C is results i → goes_on C is results ≡ false
not_going C is results i s = by (goes_on C is results) refl
  where
    by : (b : Bool) → goes_on C is results ≡ b → b ≡ false
    by false e = refl
    by true e = absurd (let k = sym s.error ∙ closing.goes_on_if C (take (suc i) is) results (shorter C is results (suc i) (closing.viable C is results e)) in cc)

next_in : (is : List Instruction) (n : ℕ) (d : Instruction) → n < length is → drop n is ≡ get_or is n d ∷ drop (suc n) is
next_in is n d l = drop-cons is n d l

pub next_at : (C : Context) (is : List Instruction) (n : ℕ) (x d : Instruction) (fs : List Frame) (w : Option Wants) → n < length is → x ≡ get_or is n d → w ≡ wants C fs x → w ≡ wants_next C fs (drop n is)
next_at C is n x d fs w l e h = h ∙ ap (wants C fs) e ∙ ap (wants_next C fs) (sym (next_in is n d l))

nothing_past : (is : List Instruction) (n : ℕ) → length is ≤ n → drop n is ≡ []
nothing_past [] zero l = refl
nothing_past [] (suc n) l = refl
nothing_past (i ∷ is) zero l = absurd (omega arith)
nothing_past (i ∷ is) (suc n) l = nothing_past is n (omega arith)

pub no_next : (C : Context) (is : List Instruction) (n : ℕ) (fs : List Frame) (w : Option Wants) → length is ≤ n → w ≡ wants_end fs → w ≡ wants_next C fs (drop n is)
no_next C is n fs w l h = h ∙ ap (wants_next C fs) (sym (nothing_past is n l))

pub situation : (C : Context) (is : List Instruction) (results : List ValueType) (n : ℕ) (frames : declared_frames.Frames) (w : Option declared_wanted.Wanted) → run C (start results) (take n is) ≡ Some (frames_of frames) → named w ≡ wants_next C (frames_of frames) (drop n is) → SituationIs C is results n frames.current.operands w
situation C is results n frames w r h = record {
  frame = frame_of frames.current;
  outer = reverse (map frame_of frames.outer.items);
  reached = r;
  operands = refl;
  wanted = h;
}

-- the result, by the frames
pub found : (C : Context) (is : List Instruction) (results : List ValueType) (n : ℕ) (r : Result declared_frames.Frames ℕ) (frames : declared_frames.Frames) (w : Option declared_wanted.Wanted) → r ≡ Ok frames → Ran C (take n is) results r → named w ≡ wants_next C (frames_of frames) (drop n is) → SituationIs C is results n frames.current.operands w
found C is results n r frames w e k h = situation C is results n frames w (ran C (take n is) results r frames e k) h

pub missing : (C : Context) (is : List Instruction) (results : List ValueType) (r : Result declared_frames.Frames ℕ) (i : ℕ) → r ≡ Err i → Ran C is results r → goes_on C is results ≡ false
missing C is results r i e k = not_going C is results i (stopped C is results r i e k)
