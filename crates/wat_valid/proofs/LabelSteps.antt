-- Steps of the loops that find a label, and the frames before an error.
use Rattle.std.proofs.Common.{◌≡◌, ◌∙◌, ◌<◌, ℕ, suc, Bool, true, false, List, [], ◌∷◌, Option, Some, None, length, take, drop, drop-cons, get_or, refl, sym, ap}
use Rattle.std.specs.Prelude.{if◌then◌else◌, is_some}
use Rattle.wat_module_ast.specs.declared.error.Space.TheVariants as space
use Rattle.wat_module_ast.specs.declared.instruction.Instruction.{Instruction}
use Rattle.wat_module_ast.specs.declared.instruction.ValueType.{ValueType}
use Rattle.wat_valid.specs.declared.untyped.Untyped.{Untyped}
use Rattle.wat_valid.specs.declared.untyped.Untyped.TheVariants as untyped
use Rattle.wat_valid.specs.Algorithm.{Frame, Operands, body_frame, goes_on, run}
use Rattle.wat_valid.specs.BodyMessages.{first_other, frames_message, in_context, label_matches, not_valid}
use Rattle.wat_valid.specs.Contexts.{Context, Labels}
use Rattle.wat_valid.specs.Untyped.{exists, labels_reason}

front : (ls : List ℕ) (i d l : ℕ) → i < length ls → l ≡ get_or ls i d → drop i ls ≡ l ∷ drop (suc i) ls
front ls i d l h e = drop-cons ls i d h ∙ ap (λ (x : ℕ). x ∷ drop (suc i) ls) (sym e)

pub next_label : (C : Context) (L : Labels) (ls : List ℕ) (i d l : ℕ) (r : Untyped) → i < length ls → l ≡ get_or ls i d → exists C L space.Label l ≡ true → labels_reason C L (drop (suc i) ls) r ≡ labels_reason C L (drop i ls) r
next_label C L ls i d l r h e t =
    sym (ap (λ (xs : List ℕ). labels_reason C L xs r) (front ls i d l h e) ∙ ap (λ (b : Bool). if b then labels_reason C L (drop (suc i) ls) r else untyped.Unknown space.Label l) t)

pub unknown_label : (C : Context) (L : Labels) (ls : List ℕ) (i d l : ℕ) (r : Untyped) → i < length ls → l ≡ get_or ls i d → exists C L space.Label l ≡ false → untyped.Unknown space.Label l ≡ labels_reason C L (drop i ls) r
unknown_label C L ls i d l r h e t =
    sym (ap (λ (xs : List ℕ). labels_reason C L xs r) (front ls i d l h e) ∙ ap (λ (b : Bool). if b then labels_reason C L (drop (suc i) ls) r else untyped.Unknown space.Label l) t)

pub next_other : (L : Labels) (o : Operands) (ls : List ℕ) (i d l last : ℕ) → i < length ls → l ≡ get_or ls i d → label_matches L o l ≡ true → first_other L o last (drop (suc i) ls) ≡ first_other L o last (drop i ls)
next_other L o ls i d l last h e t =
    sym (ap (λ (xs : List ℕ). first_other L o last xs) (front ls i d l h e) ∙ ap (λ (b : Bool). if b then first_other L o last (drop (suc i) ls) else l) t)

pub other_label : (L : Labels) (o : Operands) (ls : List ℕ) (i d l last : ℕ) → i < length ls → l ≡ get_or ls i d → label_matches L o l ≡ false → l ≡ first_other L o last (drop i ls)
other_label L o ls i d l last h e t =
    sym (ap (λ (xs : List ℕ). first_other L o last xs) (front ls i d l h e) ∙ ap (λ (b : Bool). if b then first_other L o last (drop (suc i) ls) else l) t)

none_from : {A : Type 0} (x : Option A) → is_some x ≡ false → x ≡ None
none_from None e = refl
none_from (Some a) e = absurd (cc)

-- no frames after instructions with an error
pub no_frames : (C : Context) (is : List Instruction) (results : List ValueType) → goes_on C is results ≡ false → run C (Some (body_frame results ∷ [])) is ≡ None
unfolding goes_on
no_frames C is results e = none_from (run C (Some (body_frame results ∷ [])) is) e

pub stopped_message : (C : Context) (is : List Instruction) (results : List ValueType) (n i : ℕ) (before : List Instruction) → before ≡ take i is → goes_on C before results ≡ false → not_valid n i ≡ in_context C is results n i
stopped_message C is results n i before e g =
    sym (ap (λ (m : Option (List Frame)). frames_message C n i m (drop i is)) (ap (λ (xs : List Instruction). run C (Some (body_frame results ∷ [])) xs) (sym e) ∙ no_frames C before results g))
