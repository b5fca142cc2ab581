-- Popping operands one by one, as the code does.
use Rattle.std.proofs.Common.{◌≡◌, ◌<◌, ◌≤◌, ◌-◌, ℕ, zero, suc, Bool, true, false, List, [], ◌∷◌, ◌++◌, length, get_or, take, drop, Option, Some, None, refl, sym, ◌∙◌, ap, subst, arith, drop-cons}
use Rattle.std.proofs.Math.Seq.{take-suc}
use Rattle.std.specs.Prelude.{is_some, if◌then◌else◌}
use Rattle.wat_module_ast.specs.declared.instruction.ValueType.{ValueType}
use Rattle.wat_valid.specs.declared.operands.OperandType.{OperandType}
use Rattle.wat_valid.specs.Algorithm.{and_pop, expect, is_value, pop, pop_by, pop_value, pop_values}
use Rattle.wat_valid.proofs.Stacks.{split_push}

pub pop_some : (u : Bool) (xs ys : List OperandType) (t : OperandType) → xs ≡ ys ++ t ∷ [] → pop u xs ≡ Some (ys, t)
pop_some u xs ys t e = ap (pop u) e ∙ ap (pop_by u) (split_push ys t)

pub pop_values_none : (u : Bool) (ts : List OperandType) (k : ℕ) (ps : List ValueType) → pop_values u ts (drop k ps) ≡ None → pop_values u ts ps ≡ None
pop_values_none u ts zero ps e = e
pop_values_none u ts (suc k) [] e = e
pop_values_none u ts (suc k) (p ∷ ps) e = ap (and_pop u p) (pop_values_none u ts k ps e)

pub pop_next : (u u0 : Bool) (ts mid : List OperandType) (ps : List ValueType) (n : ℕ) (d : ValueType) (o : Option (List OperandType)) → u ≡ u0 → 0 < n → n ≤ length ps → pop_values u0 ts (drop n ps) ≡ Some mid → pop_value u mid (get_or ps (n - 1) d) ≡ o → pop_values u0 ts (drop (n - 1) ps) ≡ o
pop_next u u0 ts mid ps zero d o e l m before one = absurd (omega arith)
pop_next u u0 ts mid ps (suc k) d o e l m before one = by (suc k - 1) (omega arith) one
  where
    by : (j : ℕ) → j ≡ k → pop_value u mid (get_or ps j d) ≡ o → pop_values u0 ts (drop j ps) ≡ o
    by j is next =
        let within : k < length ps = omega arith in
        let parts : drop k ps ≡ get_or ps k d ∷ drop (suc k) ps = drop-cons ps k d within in
        let at : pop_value u0 mid (get_or ps k d) ≡ o = subst (λ (v : Bool). pop_value v mid (get_or ps k d) ≡ o) e (subst (λ (i : ℕ). pop_value u mid (get_or ps i d) ≡ o) is next) in
        ap (λ (i : ℕ). pop_values u0 ts (drop i ps)) is ∙ (ap (pop_values u0 ts) parts ∙ (ap (and_pop u0 (get_or ps k d)) before ∙ at))

-- operands that are only read: the first `top` of them are left

pub pop_at : (u : Bool) (ts : List OperandType) (top : ℕ) (d : OperandType) → 0 < top → top ≤ length ts → pop u (take top ts) ≡ Some (take (top - 1) ts, get_or ts (top - 1) d)
pop_at u ts zero d l m = absurd (omega arith)
pop_at u ts (suc k) d l m = by (suc k - 1) (omega arith)
  where
    by : (j : ℕ) → j ≡ k → pop u (take (suc k) ts) ≡ Some (take j ts, get_or ts j d)
    by j is =
        let within : k < length ts = omega arith in
        pop_some u (take (suc k) ts) (take k ts) (get_or ts k d) (take-suc ts k d within) ∙ ap (λ (i : ℕ). Some (take i ts, get_or ts i d)) (sym is)

pub all_popped : (ts : List OperandType) (k : ℕ) (ps : List ValueType) → pop_values true ts (drop k ps) ≡ Some [] → pop_values true ts ps ≡ Some []
all_popped ts zero ps e = e
all_popped ts (suc k) [] e = e
all_popped ts (suc k) (p ∷ ps) e = ap (and_pop true p) (all_popped ts k ps e)

-- nothing is left

pub nothing_left : (u : Bool) (ts : List OperandType) (n top : ℕ) (ps : List ValueType) (d : ValueType) → 0 < n → n ≤ length ps → top ≡ 0 → pop_values u ts (drop n ps) ≡ Some (take top ts) → u ≡ is_some (pop_values u ts ps)
nothing_left true ts n top ps d l m z e = sym (ap is_some (all_popped ts n ps (e ∙ ap (λ (i : ℕ). Some (take i ts)) z)))
nothing_left false ts n top ps d l m z e =
    let none : pop_value false (take top ts) (get_or ps (n - 1) d) ≡ None = ap (λ (i : ℕ). pop_value false (take i ts) (get_or ps (n - 1) d)) z in
    sym (ap is_some (pop_values_none false ts (n - 1) ps (pop_next false false ts (take top ts) ps n d None refl l m e none)))

pub value_at : (u : Bool) (ts : List OperandType) (top : ℕ) (t d : OperandType) (p : ValueType) (b : Bool) → 0 < top → top ≤ length ts → t ≡ get_or ts (top - 1) d → is_value t p ≡ b → pop_value u (take top ts) p ≡ (if b then Some (take (top - 1) ts) else None)
value_at u ts top t d p b l m e v = ap (expect p) (pop_at u ts top d l m) ∙ ap (λ (c : Bool). if c then Some (take (top - 1) ts) else None) (ap (λ (s : OperandType). is_value s p) (sym e) ∙ v)

pub other_value : (u : Bool) (ts : List OperandType) (n top : ℕ) (ps : List ValueType) (x : ValueType) (t : OperandType) (d : ValueType) (dt : OperandType) → 0 < n → n ≤ length ps → 0 < top → top ≤ length ts → pop_values u ts (drop n ps) ≡ Some (take top ts) → t ≡ get_or ts (top - 1) dt → x ≡ get_or ps (n - 1) d → is_value t x ≡ false → false ≡ is_some (pop_values u ts ps)
other_value u ts n top ps x t d dt l m k j e at ax v =
    let one : pop_value u (take top ts) (get_or ps (n - 1) d) ≡ None = value_at u ts top t dt (get_or ps (n - 1) d) false k j at (subst (λ (y : ValueType). is_value t y ≡ false) ax v) in
    sym (ap is_some (pop_values_none u ts (n - 1) ps (pop_next u u ts (take top ts) ps n d None refl l m e one)))

pub same_value : (u : Bool) (ts : List OperandType) (n top : ℕ) (ps : List ValueType) (x : ValueType) (t : OperandType) (d : ValueType) (dt : OperandType) → 0 < n → n ≤ length ps → 0 < top → top ≤ length ts → pop_values u ts (drop n ps) ≡ Some (take top ts) → t ≡ get_or ts (top - 1) dt → x ≡ get_or ps (n - 1) d → is_value t x ≡ true → pop_values u ts (drop (n - 1) ps) ≡ Some (take (top - 1) ts)
same_value u ts n top ps x t d dt l m k j e at ax v =
    let one : pop_value u (take top ts) (get_or ps (n - 1) d) ≡ Some (take (top - 1) ts) = value_at u ts top t dt (get_or ps (n - 1) d) true k j at (subst (λ (y : ValueType). is_value t y ≡ true) ax v) in
    pop_next u u ts (take top ts) ps n d (Some (take (top - 1) ts)) refl l m e one
