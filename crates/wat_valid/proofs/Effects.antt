-- Effects of instructions, and the rules of 3.3: each effect is that of a rule, and each rule has its effect.
use Rattle.std.proofs.Common.{◌≡◌, ◌<◌, ◌≤◌, ◌^◌, ◌/◌, ℕ, zero, suc, Bool, true, false, List, [], ◌∷◌, ◌++◌, length, get_or, Option, Some, None, refl, sym, ◌∙◌, ap, subst, append-nil, arith}
use Rattle.std.proofs.lemmas.List.{map-append}
use Rattle.std.proofs.lemmas.Option.{same_Some, none-some}
use Rattle.std.specs.Prelude.{◌==◌, ◌&&◌, if◌then◌else◌, nat_lt, nat_le, slice_get}
use Rattle.std.specs.List.{AllByRecursion, Contains, list_all}
use Rattle.std.specs.Option.{option_map}
use Rattle.wat_module_ast.specs.declared.fields.GlobalType.{GlobalType}
use Rattle.wat_module_ast.specs.declared.fields.TableType.{TableType}
use Rattle.wat_module_ast.specs.declared.instruction.Argument.{Argument}
use Rattle.wat_module_ast.specs.declared.instruction.Argument.TheVariants as argument
use Rattle.wat_module_ast.specs.declared.instruction.Opcode.{Opcode}
use Rattle.wat_module_ast.specs.declared.instruction.Opcode.TheVariants.{Byte, Prefixed}
use Rattle.wat_module_ast.specs.declared.instruction.ReferenceType.{ReferenceType}
use Rattle.wat_module_ast.specs.declared.instruction.ReferenceType.TheVariants as reference
use Rattle.wat_module_ast.specs.declared.instruction.ValueType.{ValueType}
use Rattle.wat_module_ast.specs.declared.instruction.ValueType.TheVariants as value
use Rattle.wat_module_ast.specs.Branches.{Branches}
use Rattle.wat_module_ast.specs.Types.{FunctionType, IndirectCall}
use Rattle.wat_valid.specs.declared.operands.OperandType.{OperandType}
use Rattle.wat_valid.specs.declared.operands.OperandType.TheVariants as operand
use Rattle.wat_valid.specs.Contexts.{AllMatch, Context, Labels, use_type, values}
use Rattle.wat_valid.specs.InstructionTypes.{Typing, Plain, Lane, Shuffle, Access, AccessLane, OnMemory, Own}
use Rattle.wat_valid.specs.Instructions as rules
use Rattle.wat_valid.specs.Instructions.{BranchesTo, Condition, IsNumeric, PlainIs, int, one, ref, row_type, same_opcode, typing_of}
use Rattle.wat_valid.specs.Algorithm as algorithm
use Rattle.wat_valid.specs.Algorithm.{Effect, Replace, Leave, LeaveTable, Drop, Select, TestNull, Rule, by_index, by_index_zero, by_nothing, by_pair, effect_by, effect_from, effect_of, effect_of_typing, guard, has_index, has_memory, holds, labels_at, cons_label, own_rules, row_effect, three, table_effect}
use Rattle.wat_valid.proofs.Owns as owns
use Rattle.wat_valid.proofs.Owns.{is_own}
use Rattle.wat_valid.proofs.Stacks.{same_reference_byte, reference_byte_same}

-- tests

pub both : (a b : Bool) → a && b ≡ true → (a ≡ true) × (b ≡ true)
both true true e = (refl, refl)
both true false e = cc
both false b e = cc

pub and_true : (a b : Bool) → a ≡ true → b ≡ true → a && b ≡ true
and_true true true d e = refl
and_true true false d e = cc
and_true false b d e = cc

pub less : (m n : ℕ) → nat_lt m n ≡ true → m < n
less m n e = grind arith

pub is_less : (m n : ℕ) → m < n → nat_lt m n ≡ true
is_less m n e = grind arith

most : (m n : ℕ) → nat_le m n ≡ true → m ≤ n
most m n e = grind arith

is_most : (m n : ℕ) → m ≤ n → nat_le m n ≡ true
is_most m n e = grind arith

lanes_below : (ns : List ℕ) → list_all (λ n. nat_lt n 32) ns ≡ true → AllByRecursion (λ n. n < 32) ns
lanes_below [] e = tt
lanes_below (n ∷ ns) e = let b = both (nat_lt n 32) (list_all (λ m. nat_lt m 32) ns) e in (less n 32 b.0, lanes_below ns b.1)

are_below : (ns : List ℕ) → AllByRecursion (λ n. n < 32) ns → list_all (λ n. nat_lt n 32) ns ≡ true
are_below [] e = refl
are_below (n ∷ ns) e = and_true (nat_lt n 32) (list_all (λ m. nat_lt m 32) ns) (is_less n 32 e.0) (are_below ns e.1)

condition : (C : Context) (k : Typing) (a : Argument) → holds (has_memory C) k a ≡ true → Condition C k a
condition C (Plain t) a e = tt
condition C (Lane dim t) (argument.Lane n) e = less n dim e
condition C (Lane dim t) a e = cc
condition C (Shuffle t) (argument.Bytes ns) e = lanes_below ns e
condition C (Shuffle t) a e = cc
condition C (Access width t) (argument.Memory align offset) e =
    let b = both (has_memory C) (nat_le (2 ^ align) width) e in
    (less 0 (length C.mems) b.0, most (2 ^ align) width b.1)
condition C (Access width t) a e = cc
condition C (AccessLane width t) (argument.MemoryLane align offset n) e =
    let b = both (has_memory C && nat_le (2 ^ align) width) (nat_lt n (16 / width)) e in
    let d = both (has_memory C) (nat_le (2 ^ align) width) b.0 in
    (less 0 (length C.mems) d.0, most (2 ^ align) width d.1, less n (16 / width) b.1)
condition C (AccessLane width t) a e = cc
condition C (OnMemory t) a e = less 0 (length C.mems) e
condition C Own a e = cc

is_held : (C : Context) (k : Typing) (a : Argument) → Condition C k a → holds (has_memory C) k a ≡ true
is_held C (Plain t) a e = refl
is_held C (Lane dim t) (argument.Lane n) e = is_less n dim e
is_held C (Lane dim t) a e = absurd e
is_held C (Shuffle t) (argument.Bytes ns) e = are_below ns e
is_held C (Shuffle t) a e = absurd e
is_held C (Access width t) (argument.Memory align offset) e = and_true (has_memory C) (nat_le (2 ^ align) width) (is_less 0 (length C.mems) e.0) (is_most (2 ^ align) width e.1)
is_held C (Access width t) a e = absurd e
is_held C (AccessLane width t) (argument.MemoryLane align offset n) e =
    and_true (has_memory C && nat_le (2 ^ align) width) (nat_lt n (16 / width)) (and_true (has_memory C) (nat_le (2 ^ align) width) (is_less 0 (length C.mems) e.0) (is_most (2 ^ align) width e.1)) (is_less n (16 / width) e.2)
is_held C (AccessLane width t) a e = absurd e
is_held C (OnMemory t) a e = is_less 0 (length C.mems) e
is_held C Own a e = absurd e

pub contained : (x : ℕ) (ys : List ℕ) → has_index x ys ≡ true → Contains ys x
contained x [] e = cc
contained x (y ∷ ys) e = by (y == x) refl (contained x ys)
  where
    by : (b : Bool) → y == x ≡ b → (has_index x ys ≡ true → Contains ys x) → Contains (y ∷ ys) x
    by true is later = (0, omega arith, grind arith)
    by false is later =
        let c = later (subst (λ (b : Bool). (if b then true else has_index x ys) ≡ true) is e) in
        (suc c.0, (let l = c.1 in omega (arith, l)), c.2)

is_contained : (x : ℕ) (ys : List ℕ) (k : ℕ) → k < length ys → get_or ys k x ≡ x → has_index x ys ≡ true
is_contained x [] k l e = absurd (omega arith)
is_contained x (y ∷ ys) zero l e = let same : y == x ≡ true = grind arith in ap (λ (b : Bool). if b then true else has_index x ys) same
is_contained x (y ∷ ys) (suc k) l e = by (y == x) (is_contained x ys k (omega arith) e)
  where
    by : (b : Bool) → has_index x ys ≡ true → (if b then true else has_index x ys) ≡ true
    by true later = refl
    by false later = later

-- what an effect says of an instruction

abbrev pub Gives : Context → Labels → Opcode → Argument → Effect → Type 0
Gives C labels o a (Replace ps rs) = PlainIs C labels o a (values ps) (values rs)
Gives C labels o a (Leave ps) = (below rs : List OperandType) → PlainIs C labels o a (below ++ values ps) rs
Gives C labels o a (LeaveTable results default) = (below ts rs : List OperandType) → AllByRecursion (λ r. AllMatch ts (values r)) results → AllMatch ts (values default) → PlainIs C labels o a (below ++ (ts ++ int)) rs
Gives C labels o a Drop = (t : OperandType) → PlainIs C labels o a (t ∷ []) []
Gives C labels o a Select = (t : OperandType) → IsNumeric t → PlainIs C labels o a (t ∷ t ∷ int) (t ∷ [])
Gives C labels o a TestNull = (t : ReferenceType) → PlainIs C labels o a (ref t) int

-- what a rule says of an effect

abbrev pub Covers : Effect → List OperandType → List OperandType → Type 0
Covers (Replace ps rs) us vs = (us ≡ values ps) × (vs ≡ values rs)
Covers (Leave ps) us vs = (below : List OperandType) × (us ≡ below ++ values ps)
Covers (LeaveTable results default) us vs = (below : List OperandType) × (ts : List OperandType) × (us ≡ below ++ (ts ++ int)) × AllByRecursion (λ r. AllMatch ts (values r)) results × AllMatch ts (values default)
Covers Drop us vs = (t : OperandType) × (us ≡ t ∷ []) × (vs ≡ [])
Covers Select us vs = (t : OperandType) × IsNumeric t × (us ≡ t ∷ t ∷ int) × (vs ≡ t ∷ [])
Covers TestNull us vs = (t : ReferenceType) × (us ≡ ref t) × (vs ≡ int)

-- an effect by the kind of the immediate

abbrev Says : Context → Labels → Opcode → (Argument → Option Effect) → Type 0
Says C labels o f = (a : Argument) (e : Effect) → f a ≡ Some e → Gives C labels o a e

abbrev RuleSays : Context → Labels → Rule → Type 0
RuleSays C labels r = Says C labels r.opcode r.effect

given : (C : Context) (labels : Labels) (o : Opcode) (a : Argument) (d e : Effect) → Some d ≡ Some e → Gives C labels o a d → Gives C labels o a e
given C labels o a d e is g = subst (λ (f : Effect). Gives C labels o a f) (same_Some d e is) g

nothing : (C : Context) (labels : Labels) (o : Opcode) (d : Effect) → Gives C labels o argument.Nothing d → Says C labels o (by_nothing (Some d))
nothing C labels o d g argument.Nothing e is = given C labels o argument.Nothing d e is g
nothing C labels o d g a e is = cc

nothing_if : (C : Context) (labels : Labels) (o : Opcode) (d : Option Effect) → ((e : Effect) → d ≡ Some e → Gives C labels o argument.Nothing e) → Says C labels o (by_nothing d)
nothing_if C labels o d g argument.Nothing e is = g e is
nothing_if C labels o d g a e is = cc

index : (C : Context) (labels : Labels) (o : Opcode) (f : ℕ → Option Effect) → ((x : ℕ) (e : Effect) → f x ≡ Some e → Gives C labels o (argument.Index x) e) → Says C labels o (by_index f)
index C labels o f g (argument.Index x) e is = g x e is
index C labels o f g a e is = cc

pair : (C : Context) (labels : Labels) (o : Opcode) (f : ℕ → ℕ → Option Effect) → ((x y : ℕ) (e : Effect) → f x y ≡ Some e → Gives C labels o (argument.Pair (x, y)) e) → Says C labels o (by_pair f)
pair C labels o f g (argument.Pair p) e is = g p.0 p.1 e is
pair C labels o f g a e is = cc

index_zero : (C : Context) (labels : Labels) (o : Opcode) (f : ℕ → Option Effect) → ((x : ℕ) (e : Effect) → f x ≡ Some e → Gives C labels o (argument.IndexZero x) e) → Says C labels o (by_index_zero f)
index_zero C labels o f g (argument.IndexZero x) e is = g x e is
index_zero C labels o f g a e is = cc

found : {A : Type 0} (C : Context) (labels : Labels) (o : Opcode) (a : Argument) (g : A → Effect) (x : Option A) → ((y : A) → x ≡ Some y → Gives C labels o a (g y)) → (e : Effect) → option_map g x ≡ Some e → Gives C labels o a e
found C labels o a g None h e is = cc
found C labels o a g (Some y) h e is = given C labels o a (g y) e is (h y refl)

guarded : (C : Context) (labels : Labels) (o : Opcode) (a : Argument) (b : Bool) (d : Effect) → (b ≡ true → Gives C labels o a d) → (e : Effect) → guard b d ≡ Some e → Gives C labels o a e
guarded C labels o a true d h e is = given C labels o a d e is (h refl)
guarded C labels o a false d h e is = cc

index_found : {A : Type 0} (C : Context) (labels : Labels) (o : Opcode) (g : A → Effect) (at : ℕ → Option A) → ((x : ℕ) (y : A) → at x ≡ Some y → Gives C labels o (argument.Index x) (g y)) → Says C labels o (by_index (λ x. option_map g (at x)))
index_found C labels o g at h = index C labels o (λ x. option_map g (at x)) (λ (x : ℕ) (e : Effect) (is : option_map g (at x) ≡ Some e). found C labels o (argument.Index x) g (at x) (h x) e is)

-- labels of `br_table`

branches : (labels : Labels) (ts : List OperandType) (ls : List ℕ) (results : List (List ValueType)) → labels_at labels ls ≡ Some results → AllByRecursion (λ r. AllMatch ts (values r)) results → AllByRecursion (BranchesTo labels ts) ls
branches labels ts [] results e m = tt
branches labels ts (l ∷ ls) results e m = by (slice_get labels l) (labels_at labels ls) refl refl results e m (branches labels ts ls)
  where
    by : (r : Option (List ValueType)) (rs : Option (List (List ValueType))) → slice_get labels l ≡ r → labels_at labels ls ≡ rs → (results : List (List ValueType)) → labels_at labels (l ∷ ls) ≡ Some results → AllByRecursion (λ r. AllMatch ts (values r)) results
        → ((more : List (List ValueType)) → labels_at labels ls ≡ Some more → AllByRecursion (λ r. AllMatch ts (values r)) more → AllByRecursion (BranchesTo labels ts) ls) → AllByRecursion (BranchesTo labels ts) (l ∷ ls)
    by (Some r) (Some rs) one more all is m later =
        let e : Some (r ∷ rs) ≡ Some all = subst (λ (o : Option (List (List ValueType))). cons_label (Some r) o ≡ Some all) more (subst (λ (o : Option (List ValueType)). cons_label o (labels_at labels ls) ≡ Some all) one is) in
        let n = subst (λ (xs : List (List ValueType)). AllByRecursion (λ s. AllMatch ts (values s)) xs) (sym (same_Some (r ∷ rs) all e)) m in
        (record { results = r; label = one; match = n.0 }, later rs more n.1)
    by None rs one more all is m later = absurd (none-some all (subst (λ (o : Option (List ValueType)). cons_label o (labels_at labels ls) ≡ Some all) one is))
    by (Some r) None one more all is m later = absurd (none-some all (subst (λ (o : Option (List (List ValueType))). cons_label (Some r) o ≡ Some all) more (subst (λ (o : Option (List ValueType)). cons_label o (labels_at labels ls) ≡ Some all) one is)))

table : (C : Context) (labels : Labels) → Says C labels (Byte 0x0E) (algorithm.br_table labels)
table C labels (argument.Labels b) e is = by (labels_at labels b.labels) (slice_get labels b.default) refl refl is
  where
    by : (rs : Option (List (List ValueType))) (r : Option (List ValueType)) → labels_at labels b.labels ≡ rs → slice_get labels b.default ≡ r → table_effect rs r ≡ Some e → Gives C labels (Byte 0x0E) (argument.Labels b) e
    by (Some rs) (Some r) all last is = given C labels (Byte 0x0E) (argument.Labels b) (LeaveTable rs r) e is (λ (below ts us : List OperandType) (m : AllByRecursion (λ s. AllMatch ts (values s)) rs) (n : AllMatch ts (values r)). rules.by_br_table below (branches labels ts b.labels rs all m) (record { results = r; label = last; match = n }) refl)
    by None r all last is = cc
    by (Some rs) None all last is = cc
table C labels a e is = cc

int_after : (ts : List ValueType) → values (ts ++ value.I32 ∷ []) ≡ values ts ++ int
int_after ts = map-append operand.Value ts (value.I32 ∷ [])

indirect : (C : Context) (labels : Labels) → Says C labels (Byte 0x11) (algorithm.call_indirect C)
indirect C labels (argument.Indirect c) e is = by (slice_get C.tables c.table) (use_type C.types c.uses) refl refl is
  where
    typed : (table : TableType) (t : Option FunctionType) → slice_get C.tables c.table ≡ Some table → use_type C.types c.uses ≡ t → table.element ≡ reference.Func → algorithm.indirect_type t ≡ Some e → Gives C labels (Byte 0x11) (argument.Indirect c) e
    typed table None at uses of is = cc
    typed table (Some t) at uses of is = given C labels (Byte 0x11) (argument.Indirect c) (Replace (t.params ++ value.I32 ∷ []) t.results) e is (rules.by_call_indirect at of uses (int_after t.params))

    tested : (b : Bool) (table : TableType) (t : Option FunctionType) → algorithm.same_reference table.element reference.Func ≡ b → slice_get C.tables c.table ≡ Some table → use_type C.types c.uses ≡ t → (if b then algorithm.indirect_type t else None) ≡ Some e → Gives C labels (Byte 0x11) (argument.Indirect c) e
    tested true table t of at uses is = typed table t at uses (same_reference_byte table.element reference.Func of) is
    tested false table t of at uses is = cc

    by : (table : Option TableType) (t : Option FunctionType) → slice_get C.tables c.table ≡ table → use_type C.types c.uses ≡ t → algorithm.indirect_table table t ≡ Some e → Gives C labels (Byte 0x11) (argument.Indirect c) e
    by None t at uses is = cc
    by (Some table) t at uses is = tested (algorithm.same_reference table.element reference.Func) table t refl at uses is
indirect C labels a e is = cc

null : (C : Context) (labels : Labels) → Says C labels (Byte 0xD0) algorithm.null_effect
null C labels (argument.HeapType t) e is = given C labels (Byte 0xD0) (argument.HeapType t) (Replace [] (value.Reference t ∷ [])) e is rules.by_ref_null
null C labels a e is = cc

select_typed : (C : Context) (labels : Labels) → Says C labels (Byte 0x1C) algorithm.select_effect
select_typed C labels (argument.Select (t ∷ [])) e is = given C labels (Byte 0x1C) (argument.Select (t ∷ [])) (Replace (t ∷ t ∷ value.I32 ∷ []) (t ∷ [])) e is rules.by_select_type
select_typed C labels (argument.Select []) e is = cc
select_typed C labels (argument.Select (t ∷ u ∷ ts)) e is = cc
select_typed C labels a e is = cc

set_global : (C : Context) (labels : Labels) (x : ℕ) (e : Effect) → algorithm.global_set (slice_get C.globals x) ≡ Some e → Gives C labels (Byte 0x24) (argument.Index x) e
set_global C labels x e is = by (slice_get C.globals x) refl is
  where
    by : (t : Option GlobalType) → slice_get C.globals x ≡ t → algorithm.global_set t ≡ Some e → Gives C labels (Byte 0x24) (argument.Index x) e
    by None at is = cc
    by (Some t) at is = guarded C labels (Byte 0x24) (argument.Index x) t.is_mutable (Replace (t.value ∷ []) []) (λ (m : t.is_mutable ≡ true). rules.by_global_set at m) e is

copy : (C : Context) (labels : Labels) (x y : ℕ) (e : Effect) → algorithm.table_copy (slice_get C.tables x) (slice_get C.tables y) ≡ Some e → Gives C labels (Prefixed 0xFC 14) (argument.Pair (x, y)) e
copy C labels x y e is = by (slice_get C.tables x) (slice_get C.tables y) refl refl is
  where
    by : (t u : Option TableType) → slice_get C.tables x ≡ t → slice_get C.tables y ≡ u → algorithm.table_copy t u ≡ Some e → Gives C labels (Prefixed 0xFC 14) (argument.Pair (x, y)) e
    by (Some t) (Some u) at on is = guarded C labels (Prefixed 0xFC 14) (argument.Pair (x, y)) (algorithm.same_reference t.element u.element) (Replace three []) (λ (m : algorithm.same_reference t.element u.element ≡ true). rules.by_table_copy at on (same_reference_byte t.element u.element m)) e is
    by None u at on is = cc
    by (Some t) None at on is = cc

init : (C : Context) (labels : Labels) (y x : ℕ) (e : Effect) → algorithm.table_init (slice_get C.tables x) (slice_get C.elems y) ≡ Some e → Gives C labels (Prefixed 0xFC 12) (argument.Pair (y, x)) e
init C labels y x e is = by (slice_get C.tables x) (slice_get C.elems y) refl refl is
  where
    by : (t : Option TableType) (u : Option ReferenceType) → slice_get C.tables x ≡ t → slice_get C.elems y ≡ u → algorithm.table_init t u ≡ Some e → Gives C labels (Prefixed 0xFC 12) (argument.Pair (y, x)) e
    by (Some t) (Some u) at on is = guarded C labels (Prefixed 0xFC 12) (argument.Pair (y, x)) (algorithm.same_reference t.element u) (Replace three []) (λ (m : algorithm.same_reference t.element u ≡ true). rules.by_table_init at on (same_reference_byte t.element u m)) e is
    by None u at on is = cc
    by (Some t) None at on is = cc

declared_function : (C : Context) (labels : Labels) (x : ℕ) → nat_lt x (length C.funcs) && has_index x C.refs ≡ true → PlainIs C labels (Byte 0xD2) (argument.Index x) [] (ref reference.Func)
declared_function C labels x e = let b = both (nat_lt x (length C.funcs)) (has_index x C.refs) e in rules.by_ref_func (less x (length C.funcs) b.0) (contained x C.refs b.1)

init_memory : (C : Context) (labels : Labels) (x : ℕ) → has_memory C && nat_lt x C.datas ≡ true → PlainIs C labels (Prefixed 0xFC 8) (argument.IndexZero x) (operand.Value value.I32 ∷ operand.Value value.I32 ∷ int) []
init_memory C labels x e = let b = both (has_memory C) (nat_lt x C.datas) e in rules.by_memory_init (less 0 (length C.mems) b.0) (less x C.datas b.1)

rules_say : (C : Context) (labels : Labels) → AllByRecursion (RuleSays C labels) (own_rules C labels)
rules_say C labels = (
  nothing C labels (Byte 0x00) (Leave []) (λ (below rs : List OperandType). rules.by_unreachable),
  (
    index_found C labels (Byte 0x0C) Leave (λ (l : ℕ). slice_get labels l) (λ (l : ℕ) (r : List ValueType) (at : slice_get labels l ≡ Some r) (below rs : List OperandType). rules.by_br below at refl),
    (
      index_found C labels (Byte 0x0D) algorithm.br_if (λ (l : ℕ). slice_get labels l) (λ (l : ℕ) (r : List ValueType) (at : slice_get labels l ≡ Some r). rules.by_br_if at (int_after r)),
      (
        table C labels,
        (
          nothing_if C labels (Byte 0x0F) (option_map Leave C.returns) (found C labels (Byte 0x0F) argument.Nothing Leave C.returns (λ (r : List ValueType) (at : C.returns ≡ Some r) (below rs : List OperandType). rules.by_return below at refl)),
          (
            index_found C labels (Byte 0x10) algorithm.call (λ (x : ℕ). slice_get C.funcs x) (λ (x : ℕ) (t : FunctionType) (at : slice_get C.funcs x ≡ Some t). rules.by_call at),
            (
              indirect C labels,
              (
                nothing C labels (Byte 0x1A) Drop (λ (t : OperandType). rules.by_drop),
                (
                  nothing C labels (Byte 0x1B) Select (λ (t : OperandType) (n : IsNumeric t). rules.by_select n),
                  (
                    select_typed C labels,
                    (
                      index_found C labels (Byte 0x20) algorithm.local_get (λ (x : ℕ). slice_get C.locals x) (λ (x : ℕ) (t : ValueType) (at : slice_get C.locals x ≡ Some t). rules.by_local_get at),
                      (
                        index_found C labels (Byte 0x21) algorithm.local_set (λ (x : ℕ). slice_get C.locals x) (λ (x : ℕ) (t : ValueType) (at : slice_get C.locals x ≡ Some t). rules.by_local_set at),
                        (
                          index_found C labels (Byte 0x22) algorithm.local_tee (λ (x : ℕ). slice_get C.locals x) (λ (x : ℕ) (t : ValueType) (at : slice_get C.locals x ≡ Some t). rules.by_local_tee at),
                          (
                            index_found C labels (Byte 0x23) algorithm.global_get (λ (x : ℕ). slice_get C.globals x) (λ (x : ℕ) (t : GlobalType) (at : slice_get C.globals x ≡ Some t). rules.by_global_get at),
                            (
                              index C labels (Byte 0x24) (λ (x : ℕ). algorithm.global_set (slice_get C.globals x)) (set_global C labels),
                              (
                                index_found C labels (Byte 0x25) algorithm.table_get (λ (x : ℕ). slice_get C.tables x) (λ (x : ℕ) (t : TableType) (at : slice_get C.tables x ≡ Some t). rules.by_table_get at),
                                (
                                  index_found C labels (Byte 0x26) algorithm.table_set (λ (x : ℕ). slice_get C.tables x) (λ (x : ℕ) (t : TableType) (at : slice_get C.tables x ≡ Some t). rules.by_table_set at),
                                  (
                                    null C labels,
                                    (
                                      nothing C labels (Byte 0xD1) TestNull (λ (t : ReferenceType). rules.by_ref_is_null),
                                      (
                                        index C labels (Byte 0xD2) (λ (x : ℕ). guard (nat_lt x (length C.funcs) && has_index x C.refs) (Replace [] (value.Reference reference.Func ∷ []))) (λ (x : ℕ). guarded C labels (Byte 0xD2) (argument.Index x) (nat_lt x (length C.funcs) && has_index x C.refs) (Replace [] (value.Reference reference.Func ∷ [])) (declared_function C labels x)),
                                        (
                                          index_zero C labels (Prefixed 0xFC 8) (λ (x : ℕ). guard (has_memory C && nat_lt x C.datas) (Replace three [])) (λ (x : ℕ). guarded C labels (Prefixed 0xFC 8) (argument.IndexZero x) (has_memory C && nat_lt x C.datas) (Replace three []) (init_memory C labels x)),
                                          (
                                            index C labels (Prefixed 0xFC 9) (λ (x : ℕ). guard (nat_lt x C.datas) (Replace [] [])) (λ (x : ℕ). guarded C labels (Prefixed 0xFC 9) (argument.Index x) (nat_lt x C.datas) (Replace [] []) (λ (b : nat_lt x C.datas ≡ true). rules.by_data_drop (less x C.datas b))),
                                            (
                                              pair C labels (Prefixed 0xFC 12) (λ (y x : ℕ). algorithm.table_init (slice_get C.tables x) (slice_get C.elems y)) (init C labels),
                                              (
                                                index C labels (Prefixed 0xFC 13) (λ (x : ℕ). guard (nat_lt x (length C.elems)) (Replace [] [])) (λ (x : ℕ). guarded C labels (Prefixed 0xFC 13) (argument.Index x) (nat_lt x (length C.elems)) (Replace [] []) (λ (b : nat_lt x (length C.elems) ≡ true). rules.by_elem_drop (less x (length C.elems) b))),
                                                (
                                                  pair C labels (Prefixed 0xFC 14) (λ (x y : ℕ). algorithm.table_copy (slice_get C.tables x) (slice_get C.tables y)) (copy C labels),
                                                  (
                                                    index_found C labels (Prefixed 0xFC 15) algorithm.table_grow (λ (x : ℕ). slice_get C.tables x) (λ (x : ℕ) (t : TableType) (at : slice_get C.tables x ≡ Some t). rules.by_table_grow at),
                                                    (
                                                      index_found C labels (Prefixed 0xFC 16) algorithm.table_size (λ (x : ℕ). slice_get C.tables x) (λ (x : ℕ) (t : TableType) (at : slice_get C.tables x ≡ Some t). rules.by_table_size at),
                                                      (
                                                        index_found C labels (Prefixed 0xFC 17) algorithm.table_fill (λ (x : ℕ). slice_get C.tables x) (λ (x : ℕ) (t : TableType) (at : slice_get C.tables x ≡ Some t). rules.by_table_fill at),
                                                        tt,
                                                      ),
                                                    ),
                                                  ),
                                                ),
                                              ),
                                            ),
                                          ),
                                        ),
                                      ),
                                    ),
                                  ),
                                ),
                              ),
                            ),
                          ),
                        ),
                      ),
                    ),
                  ),
                ),
              ),
            ),
          ),
        ),
      ),
    ),
  ),
)

same_opcodes : (o p : Opcode) → same_opcode o p ≡ true → o ≡ p
same_opcodes (Byte b) (Byte c) e = let same : b ≡ c = grind arith in ap Byte same
same_opcodes (Prefixed p n) (Prefixed q m) e =
    let b = both (p == q) (n == m) e in
    let prefix : p ≡ q = grind (arith, b) in
    let number : n ≡ m = grind (arith, b) in
    cc
same_opcodes (Byte b) (Prefixed q m) e = cc
same_opcodes (Prefixed p n) (Byte c) e = cc

said : (C : Context) (labels : Labels) (rs : List Rule) → AllByRecursion (RuleSays C labels) rs → (o : Opcode) → Says C labels o (λ a. effect_by o a rs)
said C labels [] s o a e is = cc
said C labels (r ∷ rs) s o a e is = by (same_opcode o r.opcode) refl is (said C labels rs s.1 o a e)
  where
    by : (b : Bool) → same_opcode o r.opcode ≡ b → (if b then r.effect a else effect_by o a rs) ≡ Some e → (effect_by o a rs ≡ Some e → Gives C labels o a e) → Gives C labels o a e
    by true same is later = subst (λ (p : Opcode). Gives C labels p a e) (sym (same_opcodes o r.opcode same)) (s.0 a e is)
    by false same is later = later is

-- the effect of an instruction is that of a rule
pub effect_is : (C : Context) (labels : Labels) (o : Opcode) (a : Argument) (e : Effect) → effect_of C labels o a ≡ Some e → Gives C labels o a e
unfolding effect_of
effect_is C labels o a e is = by (typing_of o) refl is
  where
    row : (k : Typing) (t : Option FunctionType) → typing_of o ≡ Some k → row_type k ≡ t → effect_from C a k t (effect_by o a (own_rules C labels)) ≡ Some e → Gives C labels o a e
    row k None typed type is = said C labels (own_rules C labels) (rules_say C labels) o a e is
    row k (Some t) typed type is = guarded C labels o a (holds (has_memory C) k a) (Replace t.params t.results) (λ (h : holds (has_memory C) k a ≡ true). rules.by_row typed type (condition C k a h)) e is

    by : (k : Option Typing) → typing_of o ≡ k → effect_of_typing C a k (effect_by o a (own_rules C labels)) ≡ Some e → Gives C labels o a e
    by None typed is = said C labels (own_rules C labels) (rules_say C labels) o a e is
    by (Some k) typed is = row k (row_type k) typed refl is

-- each rule has its effect

pub record Effected (C : Context) (labels : Labels) (o : Opcode) (a : Argument) (us vs : List OperandType) : Type 0 where
  pub effect : Effect
  pub is : effect_of C labels o a ≡ Some effect
  pub covers : Covers effect us vs

pub own_from : (C : Context) (a : Argument) (k : Option Typing) (own : Option Effect) → is_own k ≡ true → effect_of_typing C a k own ≡ own
own_from C a None own e = refl
own_from C a (Some (Plain t)) own e = cc
own_from C a (Some (Lane dim t)) own e = cc
own_from C a (Some (Shuffle t)) own e = cc
own_from C a (Some (Access width t)) own e = cc
own_from C a (Some (AccessLane width t)) own e = cc
own_from C a (Some (OnMemory t)) own e = cc
own_from C a (Some Own) own e = refl

by_own : (C : Context) (labels : Labels) (o : Opcode) (a : Argument) (e : Effect) (us vs : List OperandType) → is_own (typing_of o) ≡ true → effect_by o a (own_rules C labels) ≡ Some e → Covers e us vs → Effected C labels o a us vs
unfolding effect_of
by_own C labels o a e us vs own is covers = record { effect = e; is = own_from C a (typing_of o) (effect_by o a (own_rules C labels)) own ∙ is; covers = covers }

-- `unreachable`
pub unreachable_is : (C : Context) (labels : Labels) → effect_of C labels (Byte 0x00) argument.Nothing ≡ Some (Leave [])
unfolding effect_of
unreachable_is C labels = own_from C argument.Nothing (typing_of (Byte 0x00)) (effect_by (Byte 0x00) argument.Nothing (own_rules C labels)) owns.own_00

labels_there : (labels : Labels) (ts : List OperandType) (ls : List ℕ) → AllByRecursion (BranchesTo labels ts) ls → (results : List (List ValueType)) × (labels_at labels ls ≡ Some results) × AllByRecursion (λ r. AllMatch ts (values r)) results
labels_there labels ts [] b = ([], refl, tt)
labels_there labels ts (l ∷ ls) b = by (labels_there labels ts ls b.1)
  where
    by : (results : List (List ValueType)) × (labels_at labels ls ≡ Some results) × AllByRecursion (λ r. AllMatch ts (values r)) results → (results : List (List ValueType)) × (labels_at labels (l ∷ ls) ≡ Some results) × AllByRecursion (λ r. AllMatch ts (values r)) results
    by m = (b.0.results ∷ m.0, ap (λ (o : Option (List ValueType)). cons_label o (labels_at labels ls)) b.0.label ∙ ap (cons_label (Some b.0.results)) m.1, (b.0.match, m.2))

table_is : (C : Context) (labels : Labels) (b : Branches) (ts us vs below : List OperandType) → AllByRecursion (BranchesTo labels ts) b.labels → BranchesTo labels ts b.default → us ≡ below ++ (ts ++ int) → Effected C labels (Byte 0x0E) (argument.Labels b) us vs
table_is C labels b ts us vs below all last e =
    let m = labels_there labels ts b.labels all in
    by_own C labels (Byte 0x0E) (argument.Labels b) (LeaveTable m.0 last.results) us vs owns.own_0E
    (ap (λ (o : Option (List (List ValueType))). table_effect o (slice_get labels b.default)) m.1 ∙ ap (table_effect (Some m.0)) last.label)
    (below, ts, e, m.2, last.match)

indirect_is : (C : Context) (labels : Labels) (c : IndirectCall) (table : TableType) (t : FunctionType) (us : List OperandType) → slice_get C.tables c.table ≡ Some table → table.element ≡ reference.Func → use_type C.types c.uses ≡ Some t → us ≡ values t.params ++ int → Effected C labels (Byte 0x11) (argument.Indirect c) us (values t.results)
indirect_is C labels c table t us at of uses e =
    let test : algorithm.same_reference table.element reference.Func ≡ true = ap (λ (r : ReferenceType). algorithm.same_reference r reference.Func) of in
    by_own C labels (Byte 0x11) (argument.Indirect c) (Replace (t.params ++ value.I32 ∷ []) t.results) us (values t.results) owns.own_11
    (ap (λ (o : Option TableType). algorithm.indirect_table o (use_type C.types c.uses)) at ∙ (ap (λ (b : Bool). if b then algorithm.indirect_type (use_type C.types c.uses) else None) test ∙ ap algorithm.indirect_type uses))
    (e ∙ sym (int_after t.params), refl)

same_element : (t u : ReferenceType) → t ≡ u → algorithm.same_reference t u ≡ true
same_element t u e = subst (λ (v : ReferenceType). algorithm.same_reference t v ≡ true) e (reference_byte_same t)

copy_is : (C : Context) (labels : Labels) (x y : ℕ) (t u : TableType) → slice_get C.tables x ≡ Some t → slice_get C.tables y ≡ Some u → t.element ≡ u.element → Effected C labels (Prefixed 0xFC 14) (argument.Pair (x, y)) (operand.Value value.I32 ∷ operand.Value value.I32 ∷ int) []
copy_is C labels x y t u at on e =
    by_own C labels (Prefixed 0xFC 14) (argument.Pair (x, y)) (Replace three []) (operand.Value value.I32 ∷ operand.Value value.I32 ∷ int) [] owns.own_FC_14
    (ap (λ (o : Option TableType). algorithm.table_copy o (slice_get C.tables y)) at ∙ (ap (algorithm.table_copy (Some t)) on ∙ ap (λ (b : Bool). guard b (Replace three [])) (same_element t.element u.element e)))
    (refl, refl)

init_is : (C : Context) (labels : Labels) (y x : ℕ) (t : TableType) (u : ReferenceType) → slice_get C.tables x ≡ Some t → slice_get C.elems y ≡ Some u → t.element ≡ u → Effected C labels (Prefixed 0xFC 12) (argument.Pair (y, x)) (operand.Value value.I32 ∷ operand.Value value.I32 ∷ int) []
init_is C labels y x t u at on e =
    by_own C labels (Prefixed 0xFC 12) (argument.Pair (y, x)) (Replace three []) (operand.Value value.I32 ∷ operand.Value value.I32 ∷ int) [] owns.own_FC_12
    (ap (λ (o : Option TableType). algorithm.table_init o (slice_get C.elems y)) at ∙ (ap (algorithm.table_init (Some t)) on ∙ ap (λ (b : Bool). guard b (Replace three [])) (same_element t.element u e)))
    (refl, refl)

row_is : (C : Context) (labels : Labels) (o : Opcode) (a : Argument) (k : Typing) (t : FunctionType) → typing_of o ≡ Some k → row_type k ≡ Some t → Condition C k a → Effected C labels o a (values t.params) (values t.results)
unfolding effect_of
row_is C labels o a k t typed type holding = record {
  effect = Replace t.params t.results;
  is = ap (λ (j : Option Typing). effect_of_typing C a j (effect_by o a (own_rules C labels))) typed
      ∙ (ap (λ (j : Option FunctionType). effect_from C a k j (effect_by o a (own_rules C labels))) type
      ∙ ap (λ (b : Bool). row_effect b t) (is_held C k a holding));
  covers = (refl, refl);
}

pub rule_is : (C : Context) (labels : Labels) (o : Opcode) (a : Argument) (us vs : List OperandType) → PlainIs C labels o a us vs → Effected C labels o a us vs
rule_is C labels o a us vs (rules.by_row {k = k} {t = t} typed type holding) = row_is C labels o a k t typed type holding
rule_is C labels o a us vs (rules.by_ref_null {t = t}) = by_own C labels o a (Replace [] (value.Reference t ∷ [])) us vs owns.own_D0 refl (refl, refl)
rule_is C labels o a us vs (rules.by_ref_is_null {t = t}) = by_own C labels o a TestNull us vs owns.own_D1 refl (t, refl, refl)
rule_is C labels o a us vs (rules.by_ref_func {x = x} l d) = by_own C labels o a (Replace [] (value.Reference reference.Func ∷ [])) us vs owns.own_D2 (ap (λ (b : Bool). guard b (Replace [] (value.Reference reference.Func ∷ []))) (and_true (nat_lt x (length C.funcs)) (has_index x C.refs) (is_less x (length C.funcs) l) (is_contained x C.refs d.0 d.1 d.2))) (refl, refl)
rule_is C labels o a us vs (rules.by_drop {t = t}) = by_own C labels o a Drop us vs owns.own_1A refl (t, refl, refl)
rule_is C labels o a us vs (rules.by_select {t = t} n) = by_own C labels o a Select us vs owns.own_1B refl (t, n, refl, refl)
rule_is C labels o a us vs (rules.by_select_type {t = t}) = by_own C labels o a (Replace (t ∷ t ∷ value.I32 ∷ []) (t ∷ [])) us vs owns.own_1C refl (refl, refl)
rule_is C labels o a us vs (rules.by_local_get {t = t} at) = by_own C labels o a (algorithm.local_get t) us vs owns.own_20 (ap (option_map algorithm.local_get) at) (refl, refl)
rule_is C labels o a us vs (rules.by_local_set {t = t} at) = by_own C labels o a (algorithm.local_set t) us vs owns.own_21 (ap (option_map algorithm.local_set) at) (refl, refl)
rule_is C labels o a us vs (rules.by_local_tee {t = t} at) = by_own C labels o a (algorithm.local_tee t) us vs owns.own_22 (ap (option_map algorithm.local_tee) at) (refl, refl)
rule_is C labels o a us vs (rules.by_global_get {t = t} at) = by_own C labels o a (algorithm.global_get t) us vs owns.own_23 (ap (option_map algorithm.global_get) at) (refl, refl)
rule_is C labels o a us vs (rules.by_global_set {t = t} at m) = by_own C labels o a (Replace (t.value ∷ []) []) us vs owns.own_24 (ap algorithm.global_set at ∙ ap (λ (b : Bool). guard b (Replace (t.value ∷ []) [])) m) (refl, refl)
rule_is C labels o a us vs (rules.by_table_get {t = t} at) = by_own C labels o a (algorithm.table_get t) us vs owns.own_25 (ap (option_map algorithm.table_get) at) (refl, refl)
rule_is C labels o a us vs (rules.by_table_set {t = t} at) = by_own C labels o a (algorithm.table_set t) us vs owns.own_26 (ap (option_map algorithm.table_set) at) (refl, refl)
rule_is C labels o a us vs (rules.by_table_size {t = t} at) = by_own C labels o a (algorithm.table_size t) us vs owns.own_FC_16 (ap (option_map algorithm.table_size) at) (refl, refl)
rule_is C labels o a us vs (rules.by_table_grow {t = t} at) = by_own C labels o a (algorithm.table_grow t) us vs owns.own_FC_15 (ap (option_map algorithm.table_grow) at) (refl, refl)
rule_is C labels o a us vs (rules.by_table_fill {t = t} at) = by_own C labels o a (algorithm.table_fill t) us vs owns.own_FC_17 (ap (option_map algorithm.table_fill) at) (refl, refl)
rule_is C labels o a us vs (rules.by_table_copy {x = x} {y = y} {t = t} {u = u} at on e) = copy_is C labels x y t u at on e
rule_is C labels o a us vs (rules.by_table_init {x = x} {y = y} {t = t} {u = u} at on e) = init_is C labels y x t u at on e
rule_is C labels o a us vs (rules.by_elem_drop {x = x} l) = by_own C labels o a (Replace [] []) us vs owns.own_FC_13 (ap (λ (b : Bool). guard b (Replace [] [])) (is_less x (length C.elems) l)) (refl, refl)
rule_is C labels o a us vs (rules.by_memory_init {x = x} m l) = by_own C labels o a (Replace three []) us vs owns.own_FC_8 (ap (λ (b : Bool). guard b (Replace three [])) (and_true (has_memory C) (nat_lt x C.datas) (is_less 0 (length C.mems) m) (is_less x C.datas l))) (refl, refl)
rule_is C labels o a us vs (rules.by_data_drop {x = x} l) = by_own C labels o a (Replace [] []) us vs owns.own_FC_9 (ap (λ (b : Bool). guard b (Replace [] [])) (is_less x C.datas l)) (refl, refl)
rule_is C labels o a us vs (rules.by_unreachable) = by_own C labels o a (Leave []) us vs owns.own_00 refl (us, sym (append-nil us))
rule_is C labels o a us vs (rules.by_br {l = l} {results = results} below at e) = by_own C labels o a (Leave results) us vs owns.own_0C (ap (option_map Leave) at) (below, e)
rule_is C labels o a us vs (rules.by_br_if {l = l} {results = results} at e) = by_own C labels o a (algorithm.br_if results) us vs owns.own_0D (ap (option_map algorithm.br_if) at) (e ∙ sym (int_after results), refl)
rule_is C labels o a us vs (rules.by_br_table {b = b} {ts = ts} below all last e) = table_is C labels b ts us vs below all last e
rule_is C labels o a us vs (rules.by_return {results = results} below at e) = by_own C labels o a (Leave results) us vs owns.own_0F (ap (option_map Leave) at) (below, e)
rule_is C labels o a us vs (rules.by_call {t = t} at) = by_own C labels o a (algorithm.call t) us vs owns.own_10 (ap (option_map algorithm.call) at) (refl, refl)
rule_is C labels o a us vs (rules.by_call_indirect {c = c} {table = table} {t = t} at of uses e) = indirect_is C labels c table t us at of uses e
