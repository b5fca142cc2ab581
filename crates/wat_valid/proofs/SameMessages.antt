-- Messages in a context of the code are those in the context of the module that it represents.
use Rattle.std.proofs.Common.{◌≡◌, ◌∙◌, ℕ, Bool, List, [], ◌∷◌, Option, Some, None, take, drop, refl, ap}
use Rattle.std.specs.Option.{option_map}
use Rattle.std.specs.Prelude.{◌&&◌, if◌then◌else◌, slice_get}
use Rattle.wat_module_ast.specs.declared.error.Space.{Space}
use Rattle.wat_module_ast.specs.declared.error.Space.TheVariants as space
use Rattle.wat_module_ast.specs.declared.instruction.Argument.{Argument}
use Rattle.wat_module_ast.specs.declared.instruction.Argument.TheVariants as argument
use Rattle.wat_module_ast.specs.declared.instruction.Instruction.{Instruction}
use Rattle.wat_module_ast.specs.declared.instruction.Opcode.{Opcode}
use Rattle.wat_module_ast.specs.declared.instruction.Opcode.TheVariants.{Byte, Prefixed}
use Rattle.wat_module_ast.specs.declared.instruction.ValueType.{ValueType}
use Rattle.wat_module_ast.specs.Fields.{Field, Func, Function}
use Rattle.wat_module_ast.specs.Types.{FunctionType, TypeUse, Indexed, Inline}
use Rattle.wat_valid.specs.declared.untyped.Untyped.{Untyped}
use Rattle.wat_valid.specs.declared.untyped.Untyped.TheVariants as untyped
use Rattle.wat_valid.specs.Algorithm.{Effect, Else, End, Enter, Frame, None_of_them, Structure, body_frame, is_if, labels_of, run, structure_of}
use Rattle.wat_valid.specs.BodyMessages.{body_message, field_message, frames_message, in_context, instruction_message, is_end, of_type, reason_text, without_else}
use Rattle.wat_valid.specs.ContextViews.{Represents}
use Rattle.wat_valid.specs.Contexts.{Context, Labels, use_type}
use Rattle.wat_valid.specs.Modules.{context_of, function_context}
use Rattle.wat_valid.specs.Untyped.{exists, index_reason, index_space, known_reason, labels_reason, prefixed_pair_reason, reason, unless_unknown, use_reason}
use Rattle.wat_valid.specs.Wants.{Wants, wants_by, wants_of}
use Rattle.wat_valid.proofs.Represented.{SameRefs, effect_as, refer, run_as}

-- reasons

exists_as : (C : Context) (rs : List ℕ) (labels : Labels) (s : Space) (n : ℕ) → exists (refer rs C) labels s n ≡ exists C labels s n
exists_as C rs labels space.Type n = refl
exists_as C rs labels space.Func n = refl
exists_as C rs labels space.Table n = refl
exists_as C rs labels space.Memory n = refl
exists_as C rs labels space.Global n = refl
exists_as C rs labels space.Elem n = refl
exists_as C rs labels space.Data n = refl
exists_as C rs labels space.Local n = refl
exists_as C rs labels space.Label n = refl

unless_as : (C : Context) (rs : List ℕ) (labels : Labels) (s : Space) (n : ℕ) (r q : Untyped) → r ≡ q → unless_unknown (refer rs C) labels s n r ≡ unless_unknown C labels s n q
unless_as C rs labels s n r q e =
    ap (λ (b : Bool). if b then r else untyped.Unknown s n) (exists_as C rs labels s n) ∙ ap (λ (x : Untyped). unless_unknown C labels s n x) e

use_as : (C : Context) (rs : List ℕ) (labels : Labels) (u : TypeUse) (r : Untyped) → use_reason (refer rs C) labels u r ≡ use_reason C labels u r
use_as C rs labels (Indexed n) r = unless_as C rs labels space.Type n r r refl
use_as C rs labels (Inline t) r = refl

index_as : (C : Context) (rs : List ℕ) (labels : Labels) (o : Opcode) (n : ℕ) (s : Option Space) → index_reason (refer rs C) labels o n s ≡ index_reason C labels o n s
index_as C rs labels o n None = refl
index_as C rs labels o n (Some s) = unless_as C rs labels s n (known_reason o n) (known_reason o n) refl

labels_as : (C : Context) (rs : List ℕ) (labels : Labels) (ls : List ℕ) (r q : Untyped) → r ≡ q → labels_reason (refer rs C) labels ls r ≡ labels_reason C labels ls q
labels_as C rs labels [] r q e = e
labels_as C rs labels (l ∷ ls) r q e = unless_as C rs labels space.Label l (labels_reason (refer rs C) labels ls r) (labels_reason C labels ls q) (labels_as C rs labels ls r q e)

pair_as : (C : Context) (rs : List ℕ) (labels : Labels) (o : Opcode) (x y : ℕ) → prefixed_pair_reason (refer rs C) labels o x y ≡ prefixed_pair_reason C labels o x y
pair_as C rs labels (Byte b) x y = refl
pair_as C rs labels (Prefixed p n) x y = refl

pub reason_as : (C : Context) (rs : List ℕ) (labels : Labels) (o : Opcode) (a : Argument) → reason (refer rs C) labels o a ≡ reason C labels o a
reason_as C rs labels o (argument.Index n) = index_as C rs labels o n (index_space o)
reason_as C rs labels o (argument.Labels b) = labels_as C rs labels b.labels _ _ (unless_as C rs labels space.Label b.default untyped.Other untyped.Other refl)
reason_as C rs labels o (argument.Indirect c) = unless_as C rs labels space.Table c.table _ _ (use_as C rs labels c.uses (untyped.NoFunctions c.table))
reason_as C rs labels o (argument.BlockUse u) = use_as C rs labels u untyped.Other
reason_as C rs labels o (argument.Pair p) = pair_as C rs labels o p.0 p.1
reason_as C rs labels o a = refl

-- what an instruction takes

by_as : (C : Context) (rs : List ℕ) → SameRefs C rs → (f : Frame) (fs : List Frame) (x : Instruction) (s : Structure) → wants_by (refer rs C) f fs x s ≡ wants_by C f fs x s
by_as C rs h f fs x (Enter k) = refl
by_as C rs h f fs x Else = refl
by_as C rs h f fs x End = refl
by_as C rs h f fs x None_of_them = ap (λ (e : Option Effect). option_map wants_of e) (effect_as C rs h (labels_of (f ∷ fs)) x.opcode x.argument)

-- messages

instruction_as : (C : Context) (rs : List ℕ) (n i : ℕ) (labels : Labels) (f : Frame) (x : Instruction) (w v : Option Wants) → w ≡ v → instruction_message (refer rs C) n i labels f x w ≡ instruction_message C n i labels f x v
instruction_as C rs n i labels f x w v e = ap (λ (y : Option Wants). instruction_message (refer rs C) n i labels f x y) e ∙ by v
  where
    by : (y : Option Wants) → instruction_message (refer rs C) n i labels f x y ≡ instruction_message C n i labels f x y
    by None = ap (λ (r : Untyped). if is_if f.kind && is_end x.opcode then without_else f.type else reason_text n i r) (reason_as C rs labels x.opcode x.argument)
    by (Some z) = refl

frames_as : (C : Context) (rs : List ℕ) → SameRefs C rs → (n i : ℕ) (fs : Option (List Frame)) (is : List Instruction) → frames_message (refer rs C) n i fs is ≡ frames_message C n i fs is
frames_as C rs h n i None is = refl
frames_as C rs h n i (Some []) is = refl
frames_as C rs h n i (Some (f ∷ fs)) [] = refl
frames_as C rs h n i (Some (f ∷ fs)) (x ∷ xs) = instruction_as C rs n i (labels_of (f ∷ fs)) f x _ _ (by_as C rs h f fs x (structure_of x.opcode))

context_as : (C : Context) (rs : List ℕ) → SameRefs C rs → (is : List Instruction) (results : List ValueType) (n i : ℕ) → in_context (refer rs C) is results n i ≡ in_context C is results n i
context_as C rs h is results n i =
    ap (λ (m : Option (List Frame)). frames_message (refer rs C) n i m (drop i is)) (run_as C rs h (Some (body_frame results ∷ [])) (take i is))
    ∙ frames_as C rs h n i (run C (Some (body_frame results ∷ [])) (take i is)) (drop i is)

type_as : (C : Context) (rs : List ℕ) → SameRefs C rs → (f : Function) (n i : ℕ) (t : Option FunctionType) → of_type (refer rs C) f n i t ≡ of_type C f n i t
type_as C rs h f n i None = refl
type_as C rs h f n i (Some t) = context_as (function_context C t f.locals) rs h f.body t.results n i

field_as : (C : Context) (rs : List ℕ) → SameRefs C rs → (f : Option Field) (n i : ℕ) → field_message (refer rs C) f n i ≡ field_message C f n i
field_as C rs h (Some (Func f)) n i = type_as C rs h f n i (use_type C.types f.uses)
field_as C rs h f n i = refl

pub same_message : (C D : Context) → Represents C D → (f : Option Field) (n i : ℕ) → field_message C f n i ≡ field_message D f n i
same_message C D r f n i = ap (λ (c : Context). field_message c f n i) r.items ∙ field_as D C.refs r.refs f n i

pub told : (fs : List Field) (X c : Context) (f : Option Field) (k n i : ℕ) → c ≡ X → Represents X (context_of fs) → f ≡ slice_get fs k → field_message c f n i ≡ body_message fs k n i
unfolding body_message
told fs X c f k n i e r g =
    ap (λ (y : Context). field_message y f n i) e ∙ same_message X (context_of fs) r f n i ∙ ap (λ (h : Option Field). field_message (context_of fs) h n i) g
