-- Instructions in which the algorithm finds no error begin a valid body: open frames can be closed, by `unreachable`.
use Rattle.std.proofs.Common.{◌≡◌, Bool, true, false, List, [], ◌∷◌, ◌++◌, Option, Some, None, refl, ◌∙◌, ap}
use Rattle.std.specs.Prelude.{is_some, if◌then◌else◌}
use Rattle.wat_module_ast.specs.declared.instruction.Argument.TheVariants as argument
use Rattle.wat_module_ast.specs.declared.instruction.Instruction.{Instruction}
use Rattle.wat_module_ast.specs.declared.instruction.Opcode.{Opcode}
use Rattle.wat_module_ast.specs.declared.instruction.ValueType.{ValueType}
use Rattle.wat_module_ast.specs.Grammar.{end, instruction, otherwise}
use Rattle.wat_module_ast.specs.Types.{FunctionType}
use Rattle.wat_valid.specs.declared.operands.OperandType.{OperandType}
use Rattle.wat_valid.specs.Contexts.{Context, values}
use Rattle.wat_valid.specs.Algorithm.{Effect, Else, End, Frame, FrameKind, None_of_them, OfBlock, OfBody, OfElse, OfIf, OfLoop, Operands, accepts, and_pop, and_step, body_frame, effect_on, frame, goes_on, is_complete, is_empty, is_finished, labels_of, may_end, may_end_by, onto, operands, pop_values, run, step, with_operands}
use Rattle.wat_valid.specs.Law.{Viable}
use Rattle.wat_valid.proofs.Effects.{and_true, unreachable_is}
use Rattle.wat_valid.proofs.Frames.{OpenedBy, Outer, State, complete, run_none, run_sound, sound, start_of, step_is}

unreachable : Instruction
unreachable = instruction 0x00 argument.Nothing

run_append : (C : Context) (fs : Option (List Frame)) (is js : List Instruction) → run C fs (is ++ js) ≡ run C (run C fs is) js
run_append C fs [] js = refl
run_append C fs (i ∷ is) js = run_append C (and_step C fs i) is js

-- a frame after `unreachable`
abbrev lost : Frame → Frame
lost f = frame f.kind f.type (operands true [])

lost_step : (C : Context) (f : Frame) (fs : List Frame) → step C (f ∷ fs) unreachable ≡ Some (lost f ∷ fs)
unfolding unreachable
lost_step C f fs = step_is C f fs (instruction 0x00 argument.Nothing) None_of_them (Some (lost f ∷ fs)) refl (ap (λ (m : Option Effect). onto fs (with_operands f (effect_on m f.operands))) (unreachable_is C (labels_of (f ∷ fs))))

all_popped : (ps : List ValueType) → pop_values true [] ps ≡ Some []
all_popped [] = refl
all_popped (p ∷ ps) = ap (and_pop true p) (all_popped ps)

lost_is_finished : (f : Frame) → is_finished (lost f) ≡ true
lost_is_finished f = ap is_empty (all_popped f.type.results)

-- the outer frame after the end of an inner one
abbrev after : Frame → FunctionType → Frame
after g t = frame g.kind g.type (operands g.operands.unreachable (g.operands.types ++ values t.results))

end_step : (C : Context) (f g : Frame) (fs : List Frame) → may_end_by f.type f.kind ≡ true → step C (lost f ∷ g ∷ fs) end ≡ Some (after g f.type ∷ fs)
end_step C f g fs may = step_is C (lost f) (g ∷ fs) end End (Some (after g f.type ∷ fs)) refl (ap (λ (b : Bool). if b then Some (after g f.type ∷ fs) else None) (and_true (is_finished (lost f)) (may_end (lost f)) (lost_is_finished f) may))

else_step : (C : Context) (t : FunctionType) (s : Operands) (fs : List Frame) → step C (lost (frame OfIf t s) ∷ fs) otherwise ≡ Some (frame OfElse t (operands false (values t.params)) ∷ fs)
else_step C t s fs = step_is C (lost (frame OfIf t s)) fs otherwise Else (Some (frame OfElse t (operands false (values t.params)) ∷ fs)) refl (ap (λ (b : Bool). if b then Some (frame OfElse t (operands false (values t.params)) ∷ fs) else None) (lost_is_finished (frame OfIf t s)))

-- the frames but the last are not those of bodies
abbrev pub Inner : FrameKind → Type 0
Inner OfBody = ⊥
Inner k = Unit {0}

abbrev pub AllInner : List Frame → Type 0
AllInner [] = Unit {0}
AllInner (f ∷ []) = Unit {0}
AllInner (f ∷ g ∷ fs) = Inner f.kind × AllInner (g ∷ fs)

record Closes (C : Context) (fs : List Frame) : Type 0 where
  more : List Instruction
  done : is_complete (run C (Some fs) more) ≡ true

stepped : (C : Context) (fs gs : List Frame) (i : Instruction) (more : List Instruction) → step C fs i ≡ Some gs → run C (Some fs) (i ∷ more) ≡ run C (Some gs) more
stepped C fs gs i more e = ap (λ (m : Option (List Frame)). run C m more) e

before : (C : Context) (fs gs : List Frame) (i : Instruction) → step C fs i ≡ Some gs → Closes C gs → Closes C fs
before C fs gs i e c = record { more = i ∷ c.more; done = ap is_complete (stepped C fs gs i c.more e) ∙ c.done }

ended : (C : Context) (f g : Frame) (fs : List Frame) → may_end_by f.type f.kind ≡ true → Closes C (after g f.type ∷ fs) → Closes C (f ∷ g ∷ fs)
ended C f g fs may c = before C (f ∷ g ∷ fs) (lost f ∷ g ∷ fs) unreachable (lost_step C f (g ∷ fs)) (before C (lost f ∷ g ∷ fs) (after g f.type ∷ fs) end (end_step C f g fs may) c)

same_kind : (g : Frame) (t : FunctionType) (fs : List Frame) → AllInner (g ∷ fs) → AllInner (after g t ∷ fs)
same_kind g t [] a = tt
same_kind g t (h ∷ fs) a = a

closes : (C : Context) (f : Frame) (fs : List Frame) → AllInner (f ∷ fs) → Closes C (f ∷ fs)
closes C f [] a = before C (f ∷ []) (lost f ∷ []) unreachable (lost_step C f []) (record { more = []; done = lost_is_finished f })
closes C f (g ∷ fs) a = by f.kind f.type f.operands a.0 (closes C (after g f.type) fs (same_kind g f.type fs a.1))
  where
    by : (k : FrameKind) (t : FunctionType) (s : Operands) → Inner k → Closes C (after g t ∷ fs) → Closes C (frame k t s ∷ g ∷ fs)
    by OfBody t s n c = absurd n
    by OfBlock t s n c = ended C (frame OfBlock t s) g fs refl c
    by OfLoop t s n c = ended C (frame OfLoop t s) g fs refl c
    by OfElse t s n c = ended C (frame OfElse t s) g fs refl c
    by OfIf t s n c =
        before C (frame OfIf t s ∷ g ∷ fs) (lost (frame OfIf t s) ∷ g ∷ fs) unreachable (lost_step C (frame OfIf t s) (g ∷ fs))
        (before C (lost (frame OfIf t s) ∷ g ∷ fs) (frame OfElse t (operands false (values t.params)) ∷ g ∷ fs) otherwise (else_step C t s (g ∷ fs))
        (ended C (frame OfElse t (operands false (values t.params))) g fs refl c))

opened_inner : (k : FrameKind) (o : Opcode) → OpenedBy k o → Inner k
opened_inner OfBody o e = e
opened_inner OfBlock o e = tt
opened_inner OfLoop o e = tt
opened_inner OfIf o e = tt
opened_inner OfElse o e = tt

inner : (C : Context) (results : List ValueType) (body : List Instruction) (f : Frame) (fs : List Frame) (start : List Instruction) (ps : List OperandType) → Outer C results body start ps f.kind f.type fs → AllInner (f ∷ fs)
inner C results body f [] start ps o = tt
inner C results body f (g ∷ fs) start ps o = (opened_inner f.kind o.3.i.opcode o.3.opcode, inner C results body g fs o.0 o.1 o.2)

closed_state : (C : Context) (results : List ValueType) (body : List Instruction) (fs : List Frame) (r : List Instruction) → State C results body fs r → Closes C fs
closed_state C results body [] r state = absurd state
closed_state C results body (f ∷ fs) r state = closes C f fs (inner C results body f fs state.0 state.1 state.2)

pub viable : (C : Context) (is : List Instruction) (results : List ValueType) → goes_on C is results ≡ true → Viable C is results
unfolding goes_on accepts
viable C is results e = by (run C (Some (body_frame results ∷ [])) is) refl e
  where
    by : (m : Option (List Frame)) → run C (Some (body_frame results ∷ [])) is ≡ m → is_some m ≡ true → Viable C is results
    by None at e = cc
    by (Some fs) at e =
        let c = closed_state C results is fs [] (run_sound C results is is (body_frame results ∷ []) fs (start_of C is results) at) in
        let yes : accepts C (is ++ c.more) results ≡ true = ap is_complete (run_append C (Some (body_frame results ∷ [])) is c.more ∙ ap (λ (m : Option (List Frame)). run C m c.more) at) ∙ c.done in
        record { more = c.more; valid = sound C (is ++ c.more) results yes }

pub goes_on_if : (C : Context) (is : List Instruction) (results : List ValueType) → Viable C is results → goes_on C is results ≡ true
unfolding goes_on accepts
goes_on_if C is results v = by (run C (Some (body_frame results ∷ [])) is) refl (complete C (is ++ v.more) results v.valid)
  where
    by : (m : Option (List Frame)) → run C (Some (body_frame results ∷ [])) is ≡ m → accepts C (is ++ v.more) results ≡ true → is_some (run C (Some (body_frame results ∷ [])) is) ≡ true
    by None at accepted =
        let no : accepts C (is ++ v.more) results ≡ false = ap is_complete (run_append C (Some (body_frame results ∷ [])) is v.more ∙ (ap (λ (m : Option (List Frame)). run C m v.more) at ∙ run_none C v.more)) in
        cc
    by (Some fs) at accepted = ap is_some at
