-- The algorithm of 7.3 and the rules of 3.3: the algorithm accepts the bodies that have a derivation, and no others.
use Rattle.std.proofs.Common.{◌≡◌, ℕ, Bool, true, false, List, [], ◌∷◌, ◌++◌, Option, Some, None, refl, sym, ◌∙◌, ap, subst, append_assoc, arith}
use Rattle.std.proofs.lemmas.List.{map-append}
use Rattle.std.proofs.lemmas.Option.{same_Some, none-some, cond_some}
use Rattle.std.specs.Prelude.{◌==◌, ◌&&◌, if◌then◌else◌}
use Rattle.wat_module_ast.specs.declared.instruction.Argument.{Argument}
use Rattle.wat_module_ast.specs.declared.instruction.Instruction.{Instruction}
use Rattle.wat_module_ast.specs.declared.instruction.Opcode.{Opcode}
use Rattle.wat_module_ast.specs.declared.instruction.Opcode.TheVariants.{Byte, Prefixed}
use Rattle.wat_module_ast.specs.declared.instruction.ValueType.{ValueType}
use Rattle.wat_module_ast.specs.declared.instruction.ValueType.TheVariants as value
use Rattle.wat_module_ast.specs.Types.{FunctionType, from_to, same_values, type_byte}
use Rattle.wat_valid.specs.declared.operands.OperandType.{OperandType}
use Rattle.wat_valid.specs.declared.operands.OperandType.TheVariants as operand
use Rattle.wat_valid.specs.Contexts.{AllMatch, Context, Labels, Replaces, values}
use Rattle.wat_valid.specs.InstructionTypes.{Typing}
use Rattle.wat_valid.specs.Instructions as rules
use Rattle.wat_valid.specs.Instructions.{Expression, PlainIs, Sequence, block_type, int, row_type, typing_of}
use Rattle.wat_valid.specs.Algorithm.{Effect, Else, End, Enter, Frame, FrameKind, None_of_them, OfBlock, OfBody, OfElse, OfIf, OfLoop, Operands, Structure, accepts, apply, block_params, body_frame, effect_of, effect_on, else_block, end_block, enter, enter_with, frame, is_complete, is_empty, is_finished, is_if, label_of, labels_of, may_end, may_end_by, onto, operands, plain_step, pop_values, run, step, step_by, structure_of, with_operands}
use Rattle.wat_valid.proofs.Applies.{apply_complete, apply_sound, push_matching}
use Rattle.wat_valid.proofs.Effects.{Effected, and_true, both, effect_is, rule_is}
use Rattle.wat_valid.proofs.NoTypes as no_types
use Rattle.wat_valid.proofs.Stacks.{Below, Fits, Taken, Takes, all_match_same, fits_at, match_none, pop_values_complete, pop_values_sound, same_type_byte, type_byte_same}

-- soundness

-- the instructions from the start of a frame on lead to the operands of the frame
abbrev pub Reach : Context → Labels → List Instruction → List OperandType → Operands → List Instruction → Type 0
Reach C labels start ps s r = (below : List OperandType) → Below s.unreachable below → Sequence C labels start ps (below ++ s.types) r

-- the opcode that opened a frame
abbrev pub OpenedBy : FrameKind → Opcode → Type 0
OpenedBy OfBody o = ⊥
OpenedBy OfBlock o = o ≡ Byte 0x02
OpenedBy OfLoop o = o ≡ Byte 0x03
OpenedBy OfIf o = o ≡ Byte 0x04
OpenedBy OfElse o = o ≡ Byte 0x04

pub record Before (C : Context) (labels : Labels) (start : List Instruction) (ps : List OperandType) (below taken left : List OperandType) (i : Instruction) (first : List Instruction) (results : List OperandType) : Type 0 where
  pub us : List OperandType
  pub sequence : Sequence C labels start ps us (i ∷ first)
  pub replaces : Replaces taken results us (below ++ (left ++ results))

pub record First (C : Context) (labels : Labels) (first : List Instruction) (t : FunctionType) (other : List Instruction) : Type 0 where
  pub ws : List OperandType
  pub e : Instruction
  pub opcode : e.opcode ≡ Byte 0x05
  pub sequence : Sequence C (t.results ∷ labels) first (values t.params) ws (e ∷ other)
  pub match : AllMatch ws (values t.results)

-- where a frame begins: after its instruction, or after `else`
abbrev pub Begins : Context → Labels → FrameKind → List Instruction → FunctionType → List Instruction → Type 0
Begins C labels OfElse first t start = First C labels first t start
Begins C labels k first t start = start ≡ first

-- the operands that a frame takes from the outer one
abbrev pub taken_by : FrameKind → FunctionType → List OperandType
taken_by OfIf t = values t.params ++ int
taken_by OfElse t = values t.params ++ int
taken_by k t = values t.params

-- a frame of the kind `k` and the type `t` that begins at `start`, in the frame `g`
pub record Opened (C : Context) (labels : Labels) (start' : List Instruction) (ps' : List OperandType) (g : Frame) (start : List Instruction) (ps : List OperandType) (k : FrameKind) (t : FunctionType) : Type 0 where
  pub i : Instruction
  pub first : List Instruction
  pub opcode : OpenedBy k i.opcode
  pub type : block_type C.types i.argument ≡ Some t
  pub params : ps ≡ values t.params
  pub begins : Begins C labels k first t start
  pub before : (below : List OperandType) → Below g.operands.unreachable below → Before C labels start' ps' below (taken_by k t) g.operands.types i first (values t.results)

-- the frames around a frame
abbrev pub Outer : Context → List ValueType → List Instruction → List Instruction → List OperandType → FrameKind → FunctionType → List Frame → Type 0
Outer C results body start ps k t [] = (start ≡ body) × (ps ≡ []) × (k ≡ OfBody) × (t ≡ from_to [] results)
Outer C results body start ps k t (g ∷ fs) = (start' : List Instruction) × (ps' : List OperandType) × Outer C results body start' ps' g.kind g.type fs × Opened C (labels_of (g ∷ fs)) start' ps' g start ps k t

abbrev pub State : Context → List ValueType → List Instruction → List Frame → List Instruction → Type 0
State C results body [] r = ⊥
State C results body (f ∷ fs) r = (start : List Instruction) × (ps : List OperandType) × Outer C results body start ps f.kind f.type fs × Reach C (labels_of (f ∷ fs)) start ps f.operands r

-- the operands of a finished frame are its results
record Left (C : Context) (labels : Labels) (start : List Instruction) (ps : List OperandType) (results : List ValueType) (r : List Instruction) : Type 0 where
  ws : List OperandType
  sequence : Sequence C labels start ps ws r
  match : AllMatch ws (values results)

empty : (o : Option (List OperandType)) → is_empty o ≡ true → o ≡ Some []
empty None e = cc
empty (Some []) e = refl
empty (Some (t ∷ ts)) e = cc

finished : (C : Context) (labels : Labels) (start : List Instruction) (ps : List OperandType) (f : Frame) (r : List Instruction) → is_finished f ≡ true → Reach C labels start ps f.operands r → Left C labels start ps f.type.results r
finished C labels start ps f r e reach = by (pop_values_sound f.operands.unreachable f.operands.types f.type.results [] (empty (pop_values f.operands.unreachable f.operands.types f.type.results) e) [] (λ no. refl))
  where
    by : Taken f.operands.unreachable f.operands.types [] f.type.results [] → Left C labels start ps f.type.results r
    by t = record { ws = t.taken; sequence = subst (λ (us : List OperandType). Sequence C labels start ps us r) t.is (reach t.under t.allowed); match = t.match }

-- `block`, `loop`, `if`

int_after : (ts : List ValueType) → values (ts ++ value.I32 ∷ []) ≡ values ts ++ int
int_after ts = map-append operand.Value ts (value.I32 ∷ [])

taken_is : (k : FrameKind) (t : FunctionType) → (k ≡ OfElse → ⊥) → values (block_params k t) ≡ taken_by k t
taken_is OfBody t n = refl
taken_is OfBlock t n = refl
taken_is OfLoop t n = refl
taken_is OfIf t n = int_after t.params
taken_is OfElse t n = absurd (n refl)

begins_at : (C : Context) (labels : Labels) (k : FrameKind) (t : FunctionType) (r : List Instruction) → (k ≡ OfElse → ⊥) → Begins C labels k r t r
begins_at C labels OfBody t r n = refl
begins_at C labels OfBlock t r n = refl
begins_at C labels OfLoop t r n = refl
begins_at C labels OfIf t r n = refl
begins_at C labels OfElse t r n = absurd (n refl)

enter_sound : (C : Context) (results : List ValueType) (body : List Instruction) (k : FrameKind) (f : Frame) (fs gs : List Frame) (i : Instruction) (r : List Instruction) → OpenedBy k i.opcode → (k ≡ OfElse → ⊥) → enter k (block_type C.types i.argument) f fs ≡ Some gs → State C results body (f ∷ fs) (i ∷ r) → State C results body gs r
enter_sound C results body k f fs gs i r opcode other e state = typed (block_type C.types i.argument) refl e
  where
    popped : (t : FunctionType) (m : Option (List OperandType)) → block_type C.types i.argument ≡ Some t → pop_values f.operands.unreachable f.operands.types (block_params k t) ≡ m → enter_with k t f fs m ≡ Some gs → State C results body gs r
    popped t None type is e = absurd (none-some gs e)
    popped t (Some ts) type is e = subst (λ (hs : List Frame). State C results body hs r) (same_Some (frame k t (operands false (values t.params)) ∷ frame f.kind f.type (operands f.operands.unreachable ts) ∷ fs) gs e) (
      r,
      values t.params,
      (
        state.0,
        state.1,
        state.2,
        record {
          i = i;
          first = r;
          opcode = opcode;
          type = type;
          params = refl;
          begins = begins_at C (labels_of (f ∷ fs)) k t r other;
          before = λ (below : List OperandType) (ok : Below f.operands.unreachable below).
              let p = pop_values_sound f.operands.unreachable f.operands.types (block_params k t) ts is below ok in
              record {
                us = p.under ++ f.operands.types;
                sequence = state.3 p.under p.allowed;
                replaces = record { below = below ++ ts; taken = p.taken; before = p.is; match = subst (λ (xs : List OperandType). AllMatch p.taken xs) (taken_is k t other) p.match; after = sym (append_assoc below ts (values t.results)) };
              };
        },
      ),
      λ (below : List OperandType) (ok : Below false below). subst (λ (us : List OperandType). Sequence C (labels_of (frame k t (operands false (values t.params)) ∷ frame f.kind f.type (operands f.operands.unreachable ts) ∷ fs)) r (values t.params) (us ++ values t.params) r) (sym (ok refl)) rules.by_none,
    )

    typed : (t : Option FunctionType) → block_type C.types i.argument ≡ t → enter k t f fs ≡ Some gs → State C results body gs r
    typed None type e = absurd (none-some gs e)
    typed (Some t) type e = popped t (pop_values f.operands.unreachable f.operands.types (block_params k t)) type refl e

-- `else`

else_sound : (C : Context) (results : List ValueType) (body : List Instruction) (f : Frame) (fs gs : List Frame) (i : Instruction) (r : List Instruction) → i.opcode ≡ Byte 0x05 → else_block f fs ≡ Some gs → State C results body (f ∷ fs) (i ∷ r) → State C results body gs r
else_sound C results body f fs gs i r opcode e state =
    let q = cond_some (is_if f.kind && is_finished f) (frame OfElse f.type (operands false (values f.type.params)) ∷ fs) gs e in
    let b = both (is_if f.kind) (is_finished f) q.0 in
    subst (λ (hs : List Frame). State C results body hs r) q.1 (kinds f.kind f.type f.operands fs b.0 state.0 state.1 state.2 (finished C (labels_of (f ∷ fs)) state.0 state.1 f (i ∷ r) b.1 state.3))
  where
    opened : (t : FunctionType) (g : Frame) (hs : List Frame) (start start' : List Instruction) (ps ps' : List OperandType) → Opened C (labels_of (g ∷ hs)) start' ps' g start ps OfIf t → Left C (t.results ∷ labels_of (g ∷ hs)) start ps t.results (i ∷ r) → Opened C (labels_of (g ∷ hs)) start' ps' g r (values t.params) OfElse t
    opened t g hs start start' ps ps' o left = record {
      i = o.i;
      first = o.first;
      opcode = o.opcode;
      type = o.type;
      params = refl;
      begins = record { ws = left.ws; e = i; opcode = opcode; sequence = subst (λ (xs : List OperandType). Sequence C (t.results ∷ labels_of (g ∷ hs)) o.first xs left.ws (i ∷ r)) o.params (subst (λ (xs : List Instruction). Sequence C (t.results ∷ labels_of (g ∷ hs)) xs ps left.ws (i ∷ r)) o.begins left.sequence); match = left.match };
      before = o.before;
    }

    kinds : (k : FrameKind) (t : FunctionType) (s : Operands) (fs : List Frame) → is_if k ≡ true → (start : List Instruction) (ps : List OperandType) → Outer C results body start ps k t fs → Left C (label_of k t ∷ labels_of fs) start ps t.results (i ∷ r) → State C results body (frame OfElse t (operands false (values t.params)) ∷ fs) r
    kinds OfIf t s [] b start ps outer left = absurd (let no : OfIf ≡ OfBody = outer.2 in cc)
    kinds OfIf t s (g ∷ hs) b start ps outer left = (r, values t.params, (outer.0, outer.1, outer.2, opened t g hs start outer.0 ps outer.1 outer.3 left), λ (below : List OperandType) (ok : Below false below). subst (λ (us : List OperandType). Sequence C (labels_of (frame OfElse t (operands false (values t.params)) ∷ g ∷ hs)) r (values t.params) (us ++ values t.params) r) (sym (ok refl)) rules.by_none)
    kinds OfBody t s fs b start ps outer left = cc
    kinds OfBlock t s fs b start ps outer left = cc
    kinds OfLoop t s fs b start ps outer left = cc
    kinds OfElse t s fs b start ps outer left = cc

-- `end`

same_lists : (ts us : List ValueType) → same_values ts us ≡ true → ts ≡ us
same_lists [] [] e = refl
same_lists (t ∷ ts) (u ∷ us) e =
    let b = both (type_byte t == type_byte u) (same_values ts us) e in
    let head = same_type_byte t u b.0 in
    let tail = same_lists ts us b.1 in
    ap (λ (x : ValueType). x ∷ ts) head ∙ ap (λ (xs : List ValueType). u ∷ xs) tail
same_lists [] (u ∷ us) e = cc
same_lists (t ∷ ts) [] e = cc

lists_same : (ts : List ValueType) → same_values ts ts ≡ true
lists_same [] = refl
lists_same (t ∷ ts) = and_true (type_byte t == type_byte t) (same_values ts ts) (type_byte_same t) (lists_same ts)

closed : (C : Context) (labels : Labels) (k : FrameKind) (t : FunctionType) (start start' r : List Instruction) (ps ps' us vs : List OperandType) (i e : Instruction) (first : List Instruction) → OpenedBy k i.opcode → block_type C.types i.argument ≡ Some t → Begins C labels k first t start → may_end_by t k ≡ true → e.opcode ≡ Byte 0x0B
    → Left C (label_of k t ∷ labels) start (values t.params) t.results (e ∷ r) → Sequence C labels start' ps' us (i ∷ first) → Replaces (taken_by k t) (values t.results) us vs → Sequence C labels start' ps' vs r
closed C labels OfBody t start start' r ps ps' us vs i e first opcode type begins ends end left sequence replaces = absurd opcode
closed C labels OfBlock t start start' r ps ps' us vs i e first opcode type begins ends end left sequence replaces = rules.by_block sequence opcode type (subst (λ (xs : List Instruction). Sequence C (t.results ∷ labels) xs (values t.params) left.ws (e ∷ r)) begins left.sequence) end left.match replaces
closed C labels OfLoop t start start' r ps ps' us vs i e first opcode type begins ends end left sequence replaces = rules.by_loop sequence opcode type (subst (λ (xs : List Instruction). Sequence C (t.params ∷ labels) xs (values t.params) left.ws (e ∷ r)) begins left.sequence) end left.match replaces
closed C labels OfIf t start start' r ps ps' us vs i e first opcode type begins ends end left sequence replaces = rules.by_if sequence opcode type (subst (λ (xs : List Instruction). Sequence C (t.results ∷ labels) xs (values t.params) left.ws (e ∷ r)) begins left.sequence) end left.match (same_lists t.params t.results ends) replaces
closed C labels OfElse t start start' r ps ps' us vs i e first opcode type begins ends end left sequence replaces = rules.by_if_else sequence opcode type begins.sequence begins.opcode begins.match left.sequence end left.match replaces

end_sound : (C : Context) (results : List ValueType) (body : List Instruction) (f : Frame) (fs gs : List Frame) (i : Instruction) (r : List Instruction) → i.opcode ≡ Byte 0x0B → end_block f fs ≡ Some gs → State C results body (f ∷ fs) (i ∷ r) → State C results body gs r
end_sound C results body f [] gs i r opcode e state = absurd (none-some gs e)
end_sound C results body f (g ∷ fs) gs i r opcode e state =
    let next = frame g.kind g.type (operands g.operands.unreachable (g.operands.types ++ values f.type.results)) in
    let q = cond_some (is_finished f && may_end f) (next ∷ fs) gs e in
    let b = both (is_finished f) (may_end f) q.0 in
    let o = state.2.3 in
    let left = finished C (labels_of (f ∷ g ∷ fs)) state.0 state.1 f (i ∷ r) b.0 state.3 in
    let typed : Left C (labels_of (f ∷ g ∷ fs)) state.0 (values f.type.params) f.type.results (i ∷ r) = subst (λ (xs : List OperandType). Left C (labels_of (f ∷ g ∷ fs)) state.0 xs f.type.results (i ∷ r)) o.params left in
    subst (λ (hs : List Frame). State C results body hs r) q.1 (
      state.2.0,
      state.2.1,
      state.2.2,
      λ (below : List OperandType) (ok : Below g.operands.unreachable below).
          let before = o.before below ok in
          closed C (labels_of (g ∷ fs)) f.kind f.type state.0 state.2.0 r (values f.type.params) state.2.1 before.us (below ++ (g.operands.types ++ values f.type.results)) o.i i o.first o.opcode o.type o.begins b.1 opcode typed before.sequence before.replaces,
    )

-- plain instructions

plain_sound : (C : Context) (results : List ValueType) (body : List Instruction) (f : Frame) (fs gs : List Frame) (i : Instruction) (r : List Instruction) → plain_step C f fs i ≡ Some gs → State C results body (f ∷ fs) (i ∷ r) → State C results body gs r
plain_sound C results body f fs gs i r e state = by (effect_of C (labels_of (f ∷ fs)) i.opcode i.argument) refl e
  where
    applied : (x : Effect) (m : Option Operands) → effect_of C (labels_of (f ∷ fs)) i.opcode i.argument ≡ Some x → apply x f.operands ≡ m → onto fs (with_operands f m) ≡ Some gs → State C results body gs r
    applied x None is at e = absurd (none-some gs e)
    applied x (Some s) is at e = subst (λ (hs : List Frame). State C results body hs r) (same_Some (frame f.kind f.type s ∷ fs) gs e) (
      state.0,
      state.1,
      state.2,
      λ (below : List OperandType) (ok : Below s.unreachable below).
          let a = apply_sound C (labels_of (f ∷ fs)) i.opcode i.argument x f.operands s (effect_is C (labels_of (f ∷ fs)) i.opcode i.argument x is) at below ok in
          rules.by_plain (state.3 a.under a.allowed) a.plain a.replaces,
    )

    by : (m : Option Effect) → effect_of C (labels_of (f ∷ fs)) i.opcode i.argument ≡ m → onto fs (with_operands f (effect_on m f.operands)) ≡ Some gs → State C results body gs r
    by None is e = absurd (none-some gs e)
    by (Some x) is e = applied x (apply x f.operands) is refl e

-- each instruction

record Is (o : Opcode) (b : ℕ) : Type 0 where
  is : o ≡ Byte b

abbrev StructureIs : Opcode → Structure → Type 0
StructureIs o (Enter OfBlock) = o ≡ Byte 0x02
StructureIs o (Enter OfLoop) = o ≡ Byte 0x03
StructureIs o (Enter OfIf) = o ≡ Byte 0x04
StructureIs o (Enter k) = ⊥
StructureIs o Else = o ≡ Byte 0x05
StructureIs o End = o ≡ Byte 0x0B
StructureIs o None_of_them = Unit {0}

structure_is : (o : Opcode) → StructureIs o (structure_of o)
structure_is (Prefixed p n) = tt
structure_is (Byte b) = one (b == 0x02) (b == 0x03) (b == 0x04) (b == 0x05) (b == 0x0B) refl refl refl refl refl
  where
    equal : (m : ℕ) → b == m ≡ true → Byte b ≡ Byte m
    equal m e = let same : b ≡ m = grind arith in ap Byte same

    one : (t2 t3 t4 t5 tb : Bool) → b == 0x02 ≡ t2 → b == 0x03 ≡ t3 → b == 0x04 ≡ t4 → b == 0x05 ≡ t5 → b == 0x0B ≡ tb → StructureIs (Byte b) (if t2 then Enter OfBlock else if t3 then Enter OfLoop else if t4 then Enter OfIf else if t5 then Else else if tb then End else None_of_them)
    one true t3 t4 t5 tb e2 e3 e4 e5 eb = equal 0x02 e2
    one false true t4 t5 tb e2 e3 e4 e5 eb = equal 0x03 e3
    one false false true t5 tb e2 e3 e4 e5 eb = equal 0x04 e4
    one false false false true tb e2 e3 e4 e5 eb = equal 0x05 e5
    one false false false false true e2 e3 e4 e5 eb = equal 0x0B eb
    one false false false false false e2 e3 e4 e5 eb = tt

step_sound : (C : Context) (results : List ValueType) (body : List Instruction) (fs gs : List Frame) (i : Instruction) (r : List Instruction) → step C fs i ≡ Some gs → State C results body fs (i ∷ r) → State C results body gs r
unfolding step
step_sound C results body [] gs i r e state = absurd state
step_sound C results body (f ∷ fs) gs i r e state = by (structure_of i.opcode) (structure_is i.opcode) e
  where
    by : (x : Structure) → StructureIs i.opcode x → step_by C f fs i x ≡ Some gs → State C results body gs r
    by (Enter OfBlock) is e = enter_sound C results body OfBlock f fs gs i r is (λ (n : OfBlock ≡ OfElse). cc) e state
    by (Enter OfLoop) is e = enter_sound C results body OfLoop f fs gs i r is (λ (n : OfLoop ≡ OfElse). cc) e state
    by (Enter OfIf) is e = enter_sound C results body OfIf f fs gs i r is (λ (n : OfIf ≡ OfElse). cc) e state
    by (Enter OfBody) is e = absurd is
    by (Enter OfElse) is e = absurd is
    by Else is e = else_sound C results body f fs gs i r is e state
    by End is e = end_sound C results body f fs gs i r is e state
    by None_of_them is e = plain_sound C results body f fs gs i r e state

pub run_none : (C : Context) (is : List Instruction) → run C None is ≡ None
run_none C [] = refl
run_none C (i ∷ is) = run_none C is

pub run_sound : (C : Context) (results : List ValueType) (body : List Instruction) (r : List Instruction) (fs gs : List Frame) → State C results body fs r → run C (Some fs) r ≡ Some gs → State C results body gs []
run_sound C results body [] fs gs state e = subst (λ (hs : List Frame). State C results body hs []) (same_Some fs gs e) state
run_sound C results body (i ∷ r) fs gs state e = by (step C fs i) refl e (λ (hs : List Frame) (s : State C results body hs r) (n : run C (Some hs) r ≡ Some gs). run_sound C results body r hs gs s n)
  where
    by : (m : Option (List Frame)) → step C fs i ≡ m → run C m r ≡ Some gs → ((hs : List Frame) → State C results body hs r → run C (Some hs) r ≡ Some gs → State C results body gs []) → State C results body gs []
    by None is e later = absurd (none-some gs (sym (run_none C r) ∙ e))
    by (Some hs) is e later = later hs (step_sound C results body fs hs i r is state) e

pub start_of : (C : Context) (is : List Instruction) (results : List ValueType) → State C results is (body_frame results ∷ []) is
start_of C is results = (is, [], (refl, refl, refl, refl), λ (below : List OperandType) (ok : Below false below). subst (λ (us : List OperandType). Sequence C (results ∷ []) is [] (us ++ []) is) (sym (ok refl)) rules.by_none)

pub sound : (C : Context) (is : List Instruction) (results : List ValueType) → accepts C is results ≡ true → Expression C (results ∷ []) is results
unfolding accepts
sound C is results e = by (run C (Some (body_frame results ∷ [])) is) refl e
  where
    ending : (k : FrameKind) (t : FunctionType) (s : Operands) → is_finished (frame k t s) ≡ true → State C results is (frame k t s ∷ []) [] → Expression C (results ∷ []) is results
    ending k t s e state =
        let left = finished C (label_of k t ∷ []) state.0 state.1 (frame k t s) [] e state.3 in
        let o = state.2 in
        let label : label_of k t ≡ results = ap (λ (x : FrameKind). label_of x t) o.2 ∙ ap (λ (x : FunctionType). x.results) o.3 in
        let whole : Sequence C (results ∷ []) is [] left.ws [] =
        subst (λ (x : List ValueType). Sequence C (x ∷ []) is [] left.ws []) label
        (subst (λ (x : List Instruction). Sequence C (label_of k t ∷ []) x [] left.ws []) o.0
        (subst (λ (x : List OperandType). Sequence C (label_of k t ∷ []) state.0 x left.ws []) o.1 left.sequence)) in
        record { left = left.ws; typed = whole; match = subst (λ (x : FunctionType). AllMatch left.ws (values x.results)) o.3 left.match }

    by : (m : Option (List Frame)) → run C (Some (body_frame results ∷ [])) is ≡ m → is_complete m ≡ true → Expression C (results ∷ []) is results
    by None at e = cc
    by (Some []) at e = cc
    by (Some (f ∷ [])) at e = ending f.kind f.type f.operands e (run_sound C results is is (body_frame results ∷ []) (f ∷ []) (start_of C is results) at)
    by (Some (f ∷ g ∷ fs)) at e = cc

-- completeness

data Runs (C : Context) : List Instruction → List Frame → List Instruction → List Frame → Type 0 where
  by_none : {is : List Instruction} {fs : List Frame} → Runs C is fs is fs
  by_step : {is r : List Instruction} {i : Instruction} {fs gs hs : List Frame} → Runs C is fs (i ∷ r) gs → step C gs i ≡ Some hs → Runs C is fs r hs

runs : (C : Context) (is r : List Instruction) (fs gs : List Frame) → Runs C is fs r gs → run C (Some fs) is ≡ run C (Some gs) r
runs C is r fs gs by_none = refl
runs C is r fs gs (by_step {i = i} {gs = hs} before e) = runs C is (i ∷ r) fs hs before ∙ ap (λ (m : Option (List Frame)). run C m r) e

runs_after : (C : Context) (is js r : List Instruction) (fs gs hs : List Frame) → Runs C is fs js gs → Runs C js gs r hs → Runs C is fs r hs
runs_after C is js r fs gs hs first by_none = first
runs_after C is js r fs gs hs first (by_step {i = i} {gs = xs} before e) = by_step (runs_after C is js (i ∷ r) fs gs xs first before) e

record Reaches (C : Context) (f : Frame) (fs : List Frame) (is : List Instruction) (us : List OperandType) (r : List Instruction) : Type 0 where
  next : Operands
  steps : Runs C is (f ∷ fs) r (frame f.kind f.type next ∷ fs)
  fits : Fits next.unreachable next.types us

some_type : (o p : Opcode) (k : Typing) → o ≡ p → typing_of o ≡ Some k → typing_of p ≡ None → ⊥
some_type o p k e is none = none-some k (sym none ∙ (sym (ap typing_of e) ∙ is))

row_structure : (o : Opcode) (k : Typing) → typing_of o ≡ Some k → structure_of o ≡ None_of_them
row_structure o k typed = by (structure_of o) refl (structure_is o)
  where
    by : (x : Structure) → structure_of o ≡ x → StructureIs o x → structure_of o ≡ None_of_them
    by (Enter OfBlock) is e = absurd (some_type o (Byte 0x02) k e typed no_types.none_02)
    by (Enter OfLoop) is e = absurd (some_type o (Byte 0x03) k e typed no_types.none_03)
    by (Enter OfIf) is e = absurd (some_type o (Byte 0x04) k e typed no_types.none_04)
    by (Enter OfBody) is e = absurd e
    by (Enter OfElse) is e = absurd e
    by Else is e = absurd (some_type o (Byte 0x05) k e typed no_types.none_05)
    by End is e = absurd (some_type o (Byte 0x0B) k e typed no_types.none_0B)
    by None_of_them is e = is

plain_structure : (C : Context) (labels : Labels) (o : Opcode) (a : Argument) (ps rs : List OperandType) → PlainIs C labels o a ps rs → structure_of o ≡ None_of_them
plain_structure C labels o a ps rs (rules.by_row {k = k} typed type holding) = row_structure o k typed
plain_structure C labels o a ps rs rules.by_ref_null = refl
plain_structure C labels o a ps rs rules.by_ref_is_null = refl
plain_structure C labels o a ps rs (rules.by_ref_func l d) = refl
plain_structure C labels o a ps rs rules.by_drop = refl
plain_structure C labels o a ps rs (rules.by_select n) = refl
plain_structure C labels o a ps rs rules.by_select_type = refl
plain_structure C labels o a ps rs (rules.by_local_get at) = refl
plain_structure C labels o a ps rs (rules.by_local_set at) = refl
plain_structure C labels o a ps rs (rules.by_local_tee at) = refl
plain_structure C labels o a ps rs (rules.by_global_get at) = refl
plain_structure C labels o a ps rs (rules.by_global_set at m) = refl
plain_structure C labels o a ps rs (rules.by_table_get at) = refl
plain_structure C labels o a ps rs (rules.by_table_set at) = refl
plain_structure C labels o a ps rs (rules.by_table_size at) = refl
plain_structure C labels o a ps rs (rules.by_table_grow at) = refl
plain_structure C labels o a ps rs (rules.by_table_fill at) = refl
plain_structure C labels o a ps rs (rules.by_table_copy at on e) = refl
plain_structure C labels o a ps rs (rules.by_table_init at on e) = refl
plain_structure C labels o a ps rs (rules.by_elem_drop l) = refl
plain_structure C labels o a ps rs (rules.by_memory_init m l) = refl
plain_structure C labels o a ps rs (rules.by_data_drop l) = refl
plain_structure C labels o a ps rs rules.by_unreachable = refl
plain_structure C labels o a ps rs (rules.by_br below at e) = refl
plain_structure C labels o a ps rs (rules.by_br_if at e) = refl
plain_structure C labels o a ps rs (rules.by_br_table below all last e) = refl
plain_structure C labels o a ps rs (rules.by_return below at e) = refl
plain_structure C labels o a ps rs (rules.by_call at) = refl
plain_structure C labels o a ps rs (rules.by_call_indirect at of uses e) = refl

pub step_is : (C : Context) (f : Frame) (fs : List Frame) (i : Instruction) (x : Structure) (m : Option (List Frame)) → structure_of i.opcode ≡ x → step_by C f fs i x ≡ m → step C (f ∷ fs) i ≡ m
unfolding step
step_is C f fs i x m s e = ap (step_by C f fs i) s ∙ e

plain_complete : (C : Context) (f : Frame) (fs : List Frame) (is r : List Instruction) (i : Instruction) (us vs ps rs : List OperandType) → Reaches C f fs is us (i ∷ r) → PlainIs C (labels_of (f ∷ fs)) i.opcode i.argument ps rs → Replaces ps rs us vs → Reaches C f fs is vs r
plain_complete C f fs is r i us vs ps rs reached p replaces = by (rule_is C (labels_of (f ∷ fs)) i.opcode i.argument ps rs p)
  where
    by : Effected C (labels_of (f ∷ fs)) i.opcode i.argument ps rs → Reaches C f fs is vs r
    by x =
        let s = apply_complete x.effect reached.next ps rs us vs x.covers replaces reached.fits in
        let g = frame f.kind f.type reached.next in
        let one : step C (g ∷ fs) i ≡ Some (frame f.kind f.type s.next ∷ fs) = step_is C g fs i None_of_them (Some (frame f.kind f.type s.next ∷ fs)) (plain_structure C (labels_of (f ∷ fs)) i.opcode i.argument ps rs p)
        (ap (λ (m : Option Effect). onto fs (with_operands g (effect_on m reached.next))) x.is ∙ ap (λ (m : Option Operands). onto fs (with_operands g m)) s.is) in
        record { next = s.next; steps = by_step reached.steps one; fits = s.fits }

-- a frame whose operands are its results ends
fits_none : (u : Bool) (own : List OperandType) → Fits u own [] → own ≡ []
fits_none u own f = match_none own (subst (λ (xs : List OperandType). AllMatch own xs) (by f.below f.top f.is) f.match)
  where
    by : (below top : List OperandType) → [] ≡ below ++ top → top ≡ []
    by [] top e = sym e
    by (t ∷ ts) top e = cc

is_done : (s : Operands) (k : FrameKind) (t : FunctionType) (ws : List OperandType) → Fits s.unreachable s.types ws → AllMatch ws (values t.results) → is_finished (frame k t s) ≡ true
is_done s k t ws f m = by (pop_values_complete s.unreachable s.types [] ws t.results f m)
  where
    by : Takes s.unreachable s.types [] t.results → is_finished (frame k t s) ≡ true
    by x = ap is_empty (x.is ∙ ap Some (fits_none s.unreachable x.rest x.fits))

-- a frame opens
record Opens (C : Context) (f : Frame) (fs : List Frame) (is : List Instruction) (k : FrameKind) (t : FunctionType) (below : List OperandType) (body : List Instruction) : Type 0 where
  outer : Operands
  steps : Runs C is (f ∷ fs) body (frame k t (operands false (values t.params)) ∷ frame f.kind f.type outer ∷ fs)
  fits : Fits outer.unreachable outer.types below

opens : (C : Context) (f : Frame) (fs : List Frame) (is body : List Instruction) (i : Instruction) (k : FrameKind) (t : FunctionType) (us vs rs : List OperandType) → structure_of i.opcode ≡ Enter k → block_type C.types i.argument ≡ Some t → Reaches C f fs is us (i ∷ body) → (r : Replaces (values (block_params k t)) rs us vs) → Opens C f fs is k t r.below body
opens C f fs is body i k t us vs rs s type reached r = by (pop_values_complete reached.next.unreachable reached.next.types r.below r.taken (block_params k t) (fits_at r.before reached.fits) r.match)
  where
    by : Takes reached.next.unreachable reached.next.types r.below (block_params k t) → Opens C f fs is k t r.below body
    by x =
        let g = frame f.kind f.type reached.next in
        let h = frame k t (operands false (values t.params)) ∷ frame f.kind f.type (operands reached.next.unreachable x.rest) ∷ fs in
        let one : step C (g ∷ fs) i ≡ Some h = step_is C g fs i (Enter k) (Some h) s (ap (λ (m : Option FunctionType). enter k m g fs) type ∙ ap (enter_with k t g fs) x.is) in
        record { outer = operands reached.next.unreachable x.rest; steps = by_step reached.steps one; fits = x.fits }

-- a frame ends
ends : (C : Context) (f : Frame) (fs : List Frame) (is r : List Instruction) (e : Instruction) (k : FrameKind) (t : FunctionType) (outer inner : Operands) (below vs ws : List OperandType) → Fits outer.unreachable outer.types below → Runs C is (f ∷ fs) (e ∷ r) (frame k t inner ∷ frame f.kind f.type outer ∷ fs) → Fits inner.unreachable inner.types ws → AllMatch ws (values t.results) → may_end_by t k ≡ true → e.opcode ≡ Byte 0x0B → vs ≡ below ++ values t.results → Reaches C f fs is vs r
ends C f fs is r e k t outer inner below vs ws fo steps fi m may opcode after =
    let h = frame k t inner in
    let g = frame f.kind f.type outer in
    let next = operands outer.unreachable (outer.types ++ values t.results) in
    let test = and_true (is_finished h) (may_end h) (is_done inner k t ws fi m) may in
    let one : step C (h ∷ g ∷ fs) e ≡ Some (frame f.kind f.type next ∷ fs) = step_is C h (g ∷ fs) e End (Some (frame f.kind f.type next ∷ fs)) (ap structure_of opcode) (ap (λ (b : Bool). if b then Some (frame f.kind f.type next ∷ fs) else None) test) in
    record { next = next; steps = by_step steps one; fits = fits_at (sym after) (push_matching outer.unreachable outer.types below (values t.results) (values t.results) fo (all_match_same (values t.results))) }

fits_params : (t : FunctionType) → Fits false (values t.params) (values t.params)
fits_params t = record { below = []; top = values t.params; is = refl; match = all_match_same (values t.params); none = λ no. refl }

-- the body of a block, after its first instruction
abbrev Inner : Context → Frame → List Frame → FrameKind → FunctionType → List Instruction → List OperandType → List Instruction → Type 0
Inner C f fs k t body ws r = (outer : Operands) → Reaches C (frame k t (operands false (values t.params))) (frame f.kind f.type outer ∷ fs) body ws r

block_complete : (C : Context) (f : Frame) (fs : List Frame) (is body r : List Instruction) (i e : Instruction) (k : FrameKind) (t : FunctionType) (us vs ws : List OperandType) → structure_of i.opcode ≡ Enter k → block_type C.types i.argument ≡ Some t → Reaches C f fs is us (i ∷ body) → Inner C f fs k t body ws (e ∷ r) → e.opcode ≡ Byte 0x0B → AllMatch ws (values t.results) → may_end_by t k ≡ true → Replaces (values (block_params k t)) (values t.results) us vs → Reaches C f fs is vs r
block_complete C f fs is body r i e k t us vs ws s type reached inner opcode m may replaces = by (opens C f fs is body i k t us vs (values t.results) s type reached replaces)
  where
    by : Opens C f fs is k t replaces.below body → Reaches C f fs is vs r
    by o =
        let n = inner o.outer in
        ends C f fs is r e k t o.outer n.next replaces.below vs ws o.fits
        (runs_after C is body (e ∷ r) (f ∷ fs) (frame k t (operands false (values t.params)) ∷ frame f.kind f.type o.outer ∷ fs) (frame k t n.next ∷ frame f.kind f.type o.outer ∷ fs) o.steps n.steps)
        n.fits m may opcode replaces.after

if_else_complete : (C : Context) (f : Frame) (fs : List Frame) (is body other r : List Instruction) (i e x : Instruction) (t : FunctionType) (us vs ws xs : List OperandType) → i.opcode ≡ Byte 0x04 → block_type C.types i.argument ≡ Some t → Reaches C f fs is us (i ∷ body) → Inner C f fs OfIf t body ws (e ∷ other) → e.opcode ≡ Byte 0x05 → AllMatch ws (values t.results)
    → Inner C f fs OfElse t other xs (x ∷ r) → x.opcode ≡ Byte 0x0B → AllMatch xs (values t.results) → Replaces (values (block_params OfIf t)) (values t.results) us vs → Reaches C f fs is vs r
if_else_complete C f fs is body other r i e x t us vs ws xs s type reached inner middle m second opcode n replaces = by (opens C f fs is body i OfIf t us vs (values t.results) (ap structure_of s) type reached replaces)
  where
    by : Opens C f fs is OfIf t replaces.below body → Reaches C f fs is vs r
    by o =
        let a = inner o.outer in
        let b = second o.outer in
        let g = frame f.kind f.type o.outer in
        let h = frame OfIf t a.next in
        let k = frame OfElse t (operands false (values t.params)) in
        let test = and_true (is_if OfIf) (is_finished h) refl (is_done a.next OfIf t ws a.fits m) in
        let one : step C (h ∷ g ∷ fs) e ≡ Some (k ∷ g ∷ fs) = step_is C h (g ∷ fs) e Else (Some (k ∷ g ∷ fs)) (ap structure_of middle) (ap (λ (b : Bool). if b then Some (k ∷ g ∷ fs) else None) test) in
        let first = runs_after C is body (e ∷ other) (f ∷ fs) (frame OfIf t (operands false (values t.params)) ∷ g ∷ fs) (h ∷ g ∷ fs) o.steps a.steps in
        ends C f fs is r x OfElse t o.outer b.next replaces.below vs xs o.fits
        (runs_after C is other (x ∷ r) (f ∷ fs) (k ∷ g ∷ fs) (frame OfElse t b.next ∷ g ∷ fs) (by_step first one) b.steps)
        b.fits n refl opcode replaces.after

with_int : (t : FunctionType) (rs us vs : List OperandType) → Replaces (values t.params ++ int) rs us vs → Replaces (values (block_params OfIf t)) rs us vs
with_int t rs us vs r = subst (λ (xs : List OperandType). Replaces xs rs us vs) (sym (int_after t.params)) r

complete_at : (C : Context) (labels : Labels) (is r : List Instruction) (ts us : List OperandType) → Sequence C labels is ts us r → (f : Frame) (fs : List Frame) → labels ≡ labels_of (f ∷ fs) → Fits f.operands.unreachable f.operands.types ts → Reaches C f fs is us r
complete_at C labels is r ts us rules.by_none f fs l fit = record { next = f.operands; steps = by_none; fits = fit }
complete_at C labels is r ts us (rules.by_plain {i = i} {us = mid} {ps = ps} {rs = rs} s p replaces) f fs l fit =
    plain_complete C f fs is r i mid us ps rs (complete_at C labels is (i ∷ r) ts mid s f fs l fit) (subst (λ (x : Labels). PlainIs C x i.opcode i.argument ps rs) l p) replaces
complete_at C labels is r ts us (rules.by_block {body = body} {i = i} {e = e} {t = t} {us = mid} {ws = ws} s opcode type inner end m replaces) f fs l fit =
    block_complete C f fs is body r i e OfBlock t mid us ws (ap structure_of opcode) type (complete_at C labels is (i ∷ body) ts mid s f fs l fit)
    (λ (outer : Operands). complete_at C (t.results ∷ labels) body (e ∷ r) (values t.params) ws inner (frame OfBlock t (operands false (values t.params))) (frame f.kind f.type outer ∷ fs) (ap (λ (x : Labels). t.results ∷ x) l) (fits_params t))
    end m refl replaces
complete_at C labels is r ts us (rules.by_loop {body = body} {i = i} {e = e} {t = t} {us = mid} {ws = ws} s opcode type inner end m replaces) f fs l fit =
    block_complete C f fs is body r i e OfLoop t mid us ws (ap structure_of opcode) type (complete_at C labels is (i ∷ body) ts mid s f fs l fit)
    (λ (outer : Operands). complete_at C (t.params ∷ labels) body (e ∷ r) (values t.params) ws inner (frame OfLoop t (operands false (values t.params))) (frame f.kind f.type outer ∷ fs) (ap (λ (x : Labels). t.params ∷ x) l) (fits_params t))
    end m refl replaces
complete_at C labels is r ts us (rules.by_if {body = body} {i = i} {e = e} {t = t} {us = mid} {ws = ws} s opcode type inner end m same replaces) f fs l fit =
    block_complete C f fs is body r i e OfIf t mid us ws (ap structure_of opcode) type (complete_at C labels is (i ∷ body) ts mid s f fs l fit)
    (λ (outer : Operands). complete_at C (t.results ∷ labels) body (e ∷ r) (values t.params) ws inner (frame OfIf t (operands false (values t.params))) (frame f.kind f.type outer ∷ fs) (ap (λ (x : Labels). t.results ∷ x) l) (fits_params t))
    end m (subst (λ (x : List ValueType). same_values t.params x ≡ true) same (lists_same t.params)) (with_int t (values t.results) mid us replaces)
complete_at C labels is r ts us (rules.by_if_else {body = body} {other = other} {i = i} {e = e} {f = x} {t = t} {us = mid} {ws = ws} {xs = xs} s opcode type inner middle m second end n replaces) f fs l fit =
    if_else_complete C f fs is body other r i e x t mid us ws xs opcode type (complete_at C labels is (i ∷ body) ts mid s f fs l fit)
    (λ (outer : Operands). complete_at C (t.results ∷ labels) body (e ∷ other) (values t.params) ws inner (frame OfIf t (operands false (values t.params))) (frame f.kind f.type outer ∷ fs) (ap (λ (y : Labels). t.results ∷ y) l) (fits_params t))
    middle m
    (λ (outer : Operands). complete_at C (t.results ∷ labels) other (x ∷ r) (values t.params) xs second (frame OfElse t (operands false (values t.params))) (frame f.kind f.type outer ∷ fs) (ap (λ (y : Labels). t.results ∷ y) l) (fits_params t))
    end n (with_int t (values t.results) mid us replaces)

pub complete : (C : Context) (is : List Instruction) (results : List ValueType) → Expression C (results ∷ []) is results → accepts C is results ≡ true
unfolding accepts
complete C is results e = by (complete_at C (results ∷ []) is [] [] e.left e.typed (body_frame results) [] refl (record { below = []; top = []; is = refl; match = tt; none = λ no. refl }))
  where
    by : Reaches C (body_frame results) [] is e.left [] → is_complete (run C (Some (body_frame results ∷ [])) is) ≡ true
    by x = ap is_complete (runs C is [] (body_frame results ∷ []) (frame OfBody (from_to [] results) x.next ∷ []) x.steps) ∙ is_done x.next OfBody (from_to [] results) e.left x.fits e.match
