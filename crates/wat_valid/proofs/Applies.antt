-- Effects on operands: those that apply follow from rules, and those of rules apply.
use Rattle.std.proofs.Common.{◌≡◌, ℕ, zero, suc, Bool, true, false, List, [], ◌∷◌, ◌++◌, length, take, drop, replicate, Option, Some, None, refl, sym, ◌∙◌, ap, subst, append_assoc, append-nil, arith, length-append, length-drop, ◌⊎◌, inl, inr}
use Rattle.std.proofs.lemmas.Option.{same_Some, none-some, cond_some}
use Rattle.std.proofs.lemmas.List.{take-append-drop}
use Rattle.std.specs.Prelude.{◌==◌, ◌&&◌, if◌then◌else◌, is_some}
use Rattle.std.specs.List.{AllByRecursion, list_all}
use Rattle.wat_module_ast.specs.declared.instruction.Argument.{Argument}
use Rattle.wat_module_ast.specs.declared.instruction.Opcode.{Opcode}
use Rattle.wat_module_ast.specs.declared.instruction.ReferenceType.{ReferenceType}
use Rattle.wat_module_ast.specs.declared.instruction.ReferenceType.TheVariants as reference
use Rattle.wat_module_ast.specs.declared.instruction.ValueType.{ValueType}
use Rattle.wat_module_ast.specs.declared.instruction.ValueType.TheVariants as value
use Rattle.wat_module_ast.specs.Types.{type_byte}
use Rattle.wat_valid.specs.declared.operands.OperandType.{OperandType}
use Rattle.wat_valid.specs.declared.operands.OperandType.TheVariants as operand
use Rattle.wat_valid.specs.Contexts.{AllMatch, Context, Labels, Matches, Replaces, values}
use Rattle.wat_valid.specs.Instructions.{IsNumeric, PlainIs, int, ref}
use Rattle.wat_valid.specs.Algorithm.{Effect, Replace, Leave, LeaveTable, Drop, Select, TestNull, Operands, apply, fits_label, is_numeric, is_reference, is_value, joined, leave, leave_table, operands, and_pop, pop, pop_by, pop_value, pop_values, push, drop_one, select_first, select_joined, select_one, select_second, test_null}
use Rattle.wat_valid.proofs.Effects.{Covers, Gives, and_true, both}
use Rattle.wat_valid.proofs.Stacks.{Below, Fits, Takes, all_match_append, all_match_on, all_match_same, fits_at, last_cases, matches_on, matches_same, pop_complete, pop_sound, pop_value_complete, pop_value_parts, pop_values_complete, pop_values_sound, push_parts, same_type_byte, split_push, type_byte_same, value_matches}

-- the operands that an effect leaves follow from those there, by a rule
pub record Applied (C : Context) (labels : Labels) (o : Opcode) (a : Argument) (s s' : Operands) (below : List OperandType) : Type 0 where
  pub under : List OperandType
  pub ps : List OperandType
  pub rs : List OperandType
  pub allowed : Below s.unreachable under
  pub plain : PlainIs C labels o a ps rs
  pub replaces : Replaces ps rs (under ++ s.types) (below ++ s'.types)

-- what follows from a step of the algorithm, for each possible list of operands below
abbrev pub Follows : Context → Labels → Opcode → Argument → Operands → Operands → Type 0
Follows C labels o a s s' = (below : List OperandType) → Below s'.unreachable below → Applied C labels o a s s' below

along : (C : Context) (labels : Labels) (o : Opcode) (a : Argument) (s r r' : Operands) → Some r ≡ Some r' → Follows C labels o a s r → Follows C labels o a s r'
along C labels o a s r r' e f = subst (λ (x : Operands). Follows C labels o a s x) (same_Some r r' e) f

replace_sound : (C : Context) (labels : Labels) (o : Opcode) (a : Argument) (ps rs : List ValueType) (u : Bool) (ts : List OperandType) (s' : Operands) → PlainIs C labels o a (values ps) (values rs) → push u (values rs) (pop_values u ts ps) ≡ Some s' → Follows C labels o a (operands u ts) s'
replace_sound C labels o a ps rs u ts s' g e = by (pop_values u ts ps) refl e
  where
    by : (m : Option (List OperandType)) → pop_values u ts ps ≡ m → push u (values rs) m ≡ Some s' → Follows C labels o a (operands u ts) s'
    by None is e = absurd (none-some s' e)
    by (Some rest) is e = along C labels o a (operands u ts) (operands u (rest ++ values rs)) s' e (λ (below : List OperandType) (ok : Below u below).
        let t = pop_values_sound u ts ps rest is below ok in
        record {
          under = t.under;
          ps = values ps;
          rs = values rs;
          allowed = t.allowed;
          plain = g;
          replaces = record { below = below ++ rest; taken = t.taken; before = t.is; match = t.match; after = sym (append_assoc below rest (values rs)) };
        })

leave_sound : (C : Context) (labels : Labels) (o : Opcode) (a : Argument) (ps : List ValueType) (u : Bool) (ts : List OperandType) (s' : Operands) → ((below rs : List OperandType) → PlainIs C labels o a (below ++ values ps) rs) → leave (pop_values u ts ps) ≡ Some s' → Follows C labels o a (operands u ts) s'
leave_sound C labels o a ps u ts s' g e = by (pop_values u ts ps) refl e
  where
    by : (m : Option (List OperandType)) → pop_values u ts ps ≡ m → leave m ≡ Some s' → Follows C labels o a (operands u ts) s'
    by None is e = absurd (none-some s' e)
    by (Some rest) is e = along C labels o a (operands u ts) (operands true []) s' e (λ (below : List OperandType) (ok : Below true below).
        let t = pop_values_sound u ts ps rest is [] (λ no. refl) in
        record {
          under = t.under;
          ps = rest ++ values ps;
          rs = below ++ [];
          allowed = t.allowed;
          plain = g rest (below ++ []);
          replaces = record { below = []; taken = rest ++ t.taken; before = t.is; match = all_match_append rest rest t.taken (values ps) (all_match_same rest) t.match; after = refl };
        })

drop_sound : (C : Context) (labels : Labels) (o : Opcode) (a : Argument) (u : Bool) (ts : List OperandType) (s' : Operands) → ((t : OperandType) → PlainIs C labels o a (t ∷ []) []) → drop_one u (pop u ts) ≡ Some s' → Follows C labels o a (operands u ts) s'
drop_sound C labels o a u ts s' g e = by (pop u ts) refl e
  where
    by : (m : Option (List OperandType × OperandType)) → pop u ts ≡ m → drop_one u m ≡ Some s' → Follows C labels o a (operands u ts) s'
    by None is e = absurd (none-some s' e)
    by (Some (rest, t)) is e = along C labels o a (operands u ts) (operands u rest) s' e (λ (below : List OperandType) (ok : Below u below).
        let p = pop_sound u ts rest t is below ok in
        record {
          under = p.under;
          ps = t ∷ [];
          rs = [];
          allowed = p.allowed;
          plain = g t;
          replaces = record { below = below ++ rest; taken = t ∷ []; before = p.is; match = all_match_same (t ∷ []); after = sym (append-nil (below ++ rest)) };
        })

some_reference : (t : OperandType) → is_reference t ≡ true → (r : ReferenceType) × Matches t (operand.Value (value.Reference r))
some_reference operand.Bottom e = (reference.Func, tt)
some_reference (operand.Value (value.Reference r)) e = (r, refl)
some_reference (operand.Value value.I32) e = cc
some_reference (operand.Value value.I64) e = cc
some_reference (operand.Value value.F32) e = cc
some_reference (operand.Value value.F64) e = cc
some_reference (operand.Value value.V128) e = cc

null_sound : (C : Context) (labels : Labels) (o : Opcode) (a : Argument) (u : Bool) (ts : List OperandType) (s' : Operands) → ((r : ReferenceType) → PlainIs C labels o a (ref r) int) → test_null u (pop u ts) ≡ Some s' → Follows C labels o a (operands u ts) s'
null_sound C labels o a u ts s' g e = by (pop u ts) refl e
  where
    by : (m : Option (List OperandType × OperandType)) → pop u ts ≡ m → test_null u m ≡ Some s' → Follows C labels o a (operands u ts) s'
    by None is e = absurd (none-some s' e)
    by (Some (rest, t)) is e =
        let q = cond_some (is_reference t) (operands u (rest ++ int)) s' e in
        let r = some_reference t q.0 in
        along C labels o a (operands u ts) (operands u (rest ++ int)) s' (ap Some q.1) (λ (below : List OperandType) (ok : Below u below).
        let p = pop_sound u ts rest t is below ok in
        record {
          under = p.under;
          ps = ref r.0;
          rs = int;
          allowed = p.allowed;
          plain = g r.0;
          replaces = record { below = below ++ rest; taken = t ∷ []; before = p.is; match = (r.1, tt); after = sym (append_assoc below rest int) };
        })

-- select

numeric : (t : OperandType) → is_numeric t ≡ true → IsNumeric t
numeric operand.Bottom e = tt
numeric (operand.Value (value.Reference r)) e = cc
numeric (operand.Value value.I32) e = tt
numeric (operand.Value value.I64) e = tt
numeric (operand.Value value.F32) e = tt
numeric (operand.Value value.F64) e = tt
numeric (operand.Value value.V128) e = tt

joins : (t u j : OperandType) → joined t u ≡ Some j → Matches t j × Matches u j
joins operand.Bottom u j e = (tt, subst (λ (x : OperandType). Matches u x) (same_Some u j e) (matches_same u))
joins (operand.Value t) operand.Bottom j e = (same_Some (operand.Value t) j e, tt)
joins (operand.Value t) (operand.Value u) j e =
    let q = cond_some (type_byte t == type_byte u) (operand.Value t) j e in
    (q.1, ap operand.Value (sym (same_type_byte t u q.0)) ∙ q.1)

three_after : (xs ys : List OperandType) (a b c : OperandType) → ((((xs ++ ys) ++ a ∷ []) ++ b ∷ []) ++ c ∷ []) ≡ (xs ++ ys) ++ (a ∷ b ∷ c ∷ [])
three_after xs ys a b c = append_assoc ((xs ++ ys) ++ a ∷ []) (b ∷ []) (c ∷ []) ∙ append_assoc (xs ++ ys) (a ∷ []) (b ∷ c ∷ [])

select_sound : (C : Context) (labels : Labels) (o : Opcode) (a : Argument) (u : Bool) (ts : List OperandType) (s' : Operands) → ((t : OperandType) → IsNumeric t → PlainIs C labels o a (t ∷ t ∷ int) (t ∷ [])) → select_one u (pop_value u ts value.I32) ≡ Some s' → Follows C labels o a (operands u ts) s'
select_sound C labels o a u ts s' g e = one (pop_value u ts value.I32) refl e
  where
    four : (ts1 ts2 ts3 : List OperandType) (c b d j : OperandType) → pop u ts ≡ Some (ts1, c) → is_value c value.I32 ≡ true → pop u ts1 ≡ Some (ts2, b) → pop u ts2 ≡ Some (ts3, d) → joined d b ≡ Some j → is_numeric j ≡ true → Follows C labels o a (operands u ts) (operands u (ts3 ++ j ∷ []))
    four ts1 ts2 ts3 c b d j e1 ic e2 e3 ej n below ok =
        let p3 = pop_sound u ts2 ts3 d e3 below ok in
        let p2 = pop_sound u ts1 ts2 b e2 p3.under p3.allowed in
        let p1 = pop_sound u ts ts1 c e1 p2.under p2.allowed in
        let m = joins d b j ej in
        record {
          under = p1.under;
          ps = j ∷ j ∷ int;
          rs = j ∷ [];
          allowed = p1.allowed;
          plain = g j (numeric j n);
          replaces = record {
            below = below ++ ts3;
            taken = d ∷ b ∷ c ∷ [];
            before = p1.is ∙ (ap (λ (xs : List OperandType). xs ++ c ∷ []) (p2.is ∙ ap (λ (xs : List OperandType). xs ++ b ∷ []) p3.is) ∙ three_after below ts3 d b c);
            match = (m.0, (m.1, (value_matches c value.I32 ic, tt)));
            after = sym (append_assoc below ts3 (j ∷ []));
          };
        }

    joining : (ts1 ts2 ts3 : List OperandType) (c b d : OperandType) (j : Option OperandType) → pop u ts ≡ Some (ts1, c) → is_value c value.I32 ≡ true → pop u ts1 ≡ Some (ts2, b) → pop u ts2 ≡ Some (ts3, d) → joined d b ≡ j → select_joined u ts3 j ≡ Some s' → Follows C labels o a (operands u ts) s'
    joining ts1 ts2 ts3 c b d None e1 ic e2 e3 ej e = absurd (none-some s' e)
    joining ts1 ts2 ts3 c b d (Some j) e1 ic e2 e3 ej e =
        let q = cond_some (is_numeric j) (operands u (ts3 ++ j ∷ [])) s' e in
        along C labels o a (operands u ts) (operands u (ts3 ++ j ∷ [])) s' (ap Some q.1) (four ts1 ts2 ts3 c b d j e1 ic e2 e3 ej q.0)

    third : (ts1 ts2 : List OperandType) (c b : OperandType) (m : Option (List OperandType × OperandType)) → pop u ts ≡ Some (ts1, c) → is_value c value.I32 ≡ true → pop u ts1 ≡ Some (ts2, b) → pop u ts2 ≡ m → select_second u b m ≡ Some s' → Follows C labels o a (operands u ts) s'
    third ts1 ts2 c b None e1 ic e2 e3 e = absurd (none-some s' e)
    third ts1 ts2 c b (Some (ts3, d)) e1 ic e2 e3 e = joining ts1 ts2 ts3 c b d (joined d b) e1 ic e2 e3 refl e

    second : (ts1 : List OperandType) (c : OperandType) (m : Option (List OperandType × OperandType)) → pop u ts ≡ Some (ts1, c) → is_value c value.I32 ≡ true → pop u ts1 ≡ m → select_first u m ≡ Some s' → Follows C labels o a (operands u ts) s'
    second ts1 c None e1 ic e2 e = absurd (none-some s' e)
    second ts1 c (Some (ts2, b)) e1 ic e2 e = third ts1 ts2 c b (pop u ts2) e1 ic e2 refl e

    one : (m : Option (List OperandType)) → pop_value u ts value.I32 ≡ m → select_one u m ≡ Some s' → Follows C labels o a (operands u ts) s'
    one None is e = absurd (none-some s' e)
    one (Some ts1) is e = let v = pop_value_parts u ts value.I32 ts1 is in second ts1 v.0 (pop u ts1) v.1 v.2 refl e

-- `br_table`: the same operands match each label

abbrev Bottoms : List OperandType → Type 0
Bottoms ts = AllByRecursion (λ t. t ≡ operand.Bottom) ts

bottoms : (n : ℕ) → Bottoms (replicate n operand.Bottom)
bottoms zero = tt
bottoms (suc n) = (refl, bottoms n)

bottoms_length : (n : ℕ) → length (replicate n operand.Bottom) ≡ n
bottoms_length zero = refl
bottoms_length (suc n) = ap suc (bottoms_length n)

bottoms_front : (xs : List OperandType) (x : OperandType) → Bottoms (xs ++ x ∷ []) → Bottoms xs × (x ≡ operand.Bottom)
bottoms_front [] x b = (tt, b.0)
bottoms_front (y ∷ ys) x b = by (bottoms_front ys x b.1)
  where
    by : Bottoms ys × (x ≡ operand.Bottom) → Bottoms (y ∷ ys) × (x ≡ operand.Bottom)
    by q = ((b.0, q.0), q.1)

-- operands that a pop of values leaves, along a given list of operand types
record Along (u : Bool) (mid rest taken : List OperandType) (ps : List ValueType) : Type 0 where
  under : List OperandType
  bottom : Bottoms under
  is : under ++ mid ≡ rest
  match : AllMatch taken (values ps)

along_one : (u : Bool) (mid next rest : List OperandType) (t s : OperandType) (under : List OperandType) → Bottoms under → under ++ mid ≡ rest ++ t ∷ [] → pop u mid ≡ Some (next, s) → (under' : List OperandType) × Bottoms under' × (under' ++ next ≡ rest) × ((p : ValueType) → is_value s p ≡ true → Matches t (operand.Value p))
along_one u mid next rest t s under b is e = by (last_cases mid)
  where
    Goal : Type 0
    Goal = (under' : List OperandType) × Bottoms under' × (under' ++ next ≡ rest) × ((p : ValueType) → is_value s p ≡ true → Matches t (operand.Value p))

    by_empty : (v : Bool) → u ≡ v → mid ≡ [] → (under' : List OperandType) × Bottoms under' × (under' ++ next ≡ rest) × ((p : ValueType) → is_value s p ≡ true → Matches t (operand.Value p))
    by_empty true unreachable empty =
        let p : Some ([], operand.Bottom) ≡ Some (next, s) = subst (λ (us : List OperandType). pop true us ≡ Some (next, s)) empty (subst (λ (w : Bool). pop w mid ≡ Some (next, s)) unreachable e) in
        let all : under ≡ rest ++ t ∷ [] = sym (append-nil under) ∙ (ap (λ (us : List OperandType). under ++ us) (sym empty) ∙ is) in
        let q = bottoms_front rest t (subst (λ (us : List OperandType). Bottoms us) all b) in
        (rest, q.0, ap (λ (us : List OperandType). rest ++ us) (ap (λ (o : List OperandType × OperandType). o.0) (sym (same_Some ([], operand.Bottom) (next, s) p))) ∙ append-nil rest, λ (x : ValueType) (v : is_value s x ≡ true). subst (λ (w : OperandType). Matches w (operand.Value x)) (sym q.1) tt)
    by_empty false unreachable empty = absurd (none-some (next, s) (subst (λ (us : List OperandType). pop false us ≡ Some (next, s)) empty (subst (λ (w : Bool). pop w mid ≡ Some (next, s)) unreachable e)))

    by : (mid ≡ []) ⊎ ((ys : List OperandType) × (y : OperandType) × (mid ≡ ys ++ y ∷ [])) → (under' : List OperandType) × Bottoms under' × (under' ++ next ≡ rest) × ((p : ValueType) → is_value s p ≡ true → Matches t (operand.Value p))
    by (inl empty) = by_empty u refl empty
    by (inr (ys, y, last)) =
        let p : Some (ys, y) ≡ Some (next, s) = sym (ap (pop_by u) (split_push ys y)) ∙ subst (λ (us : List OperandType). pop u us ≡ Some (next, s)) last e in
        let parts = same_Some (ys, y) (next, s) p in
        let q = push_parts (under ++ ys) rest y t (append_assoc under ys (y ∷ []) ∙ (ap (λ (us : List OperandType). under ++ us) (sym last) ∙ is)) in
        (under, b, ap (λ (o : List OperandType × OperandType). under ++ o.0) (sym parts) ∙ q.0, λ (x : ValueType) (v : is_value s x ≡ true). subst (λ (w : OperandType). Matches w (operand.Value x)) (sym (ap (λ (o : List OperandType × OperandType). o.1) parts) ∙ q.1) (value_matches s x v))

along_values : (u : Bool) (ts under rest taken mid : List OperandType) (ps : List ValueType) → Bottoms under → under ++ ts ≡ rest ++ taken → length taken ≡ length ps → pop_values u ts ps ≡ Some mid → Along u mid rest taken ps
along_values u ts under rest [] mid [] b is l e = record { under = under; bottom = b; is = ap (λ (us : List OperandType). under ++ us) (sym (same_Some ts mid e)) ∙ (is ∙ append-nil rest); match = tt }
along_values u ts under rest [] mid (p ∷ ps) b is l e = absurd (omega arith)
along_values u ts under rest (t ∷ taken) mid [] b is l e = absurd (omega arith)
along_values u ts under rest (t ∷ taken) mid (p ∷ ps) b is l e = by (pop_values u ts ps) refl (λ (next : List OperandType) (n : pop_values u ts ps ≡ Some next). along_values u ts under (rest ++ t ∷ []) taken next ps b (is ∙ sym (append_assoc rest (t ∷ []) taken)) (omega arith) n)
  where
    by : (m : Option (List OperandType)) → pop_values u ts ps ≡ m → ((next : List OperandType) → pop_values u ts ps ≡ Some next → Along u next (rest ++ t ∷ []) taken ps) → Along u mid rest (t ∷ taken) (p ∷ ps)
    by None at earlier = absurd (none-some mid (subst (λ (m : Option (List OperandType)). and_pop u p m ≡ Some mid) at e))
    by (Some next) at earlier =
        let before = earlier next at in
        let v = pop_value_parts u next p mid (subst (λ (m : Option (List OperandType)). and_pop u p m ≡ Some mid) at e) in
        let one = along_one u next mid rest t v.0 before.under before.bottom before.is v.1 in
        record { under = one.0; bottom = one.1; is = one.2; match = (one.3 p v.2, before.match) }

-- operands of which the last are as many as a label has
record Tops (u : Bool) (ts : List OperandType) (n : ℕ) : Type 0 where
  under : List OperandType
  rest : List OperandType
  taken : List OperandType
  bottom : Bottoms under
  allowed : Below u under
  is : under ++ ts ≡ rest ++ taken
  long : length taken ≡ n

match_length : (ts : List OperandType) (ps : List ValueType) → AllMatch ts (values ps) → length ts ≡ length ps
match_length [] [] m = refl
match_length (t ∷ ts) (p ∷ ps) m = ap suc (match_length ts ps m.1)
match_length [] (p ∷ ps) m = absurd m
match_length (t ∷ ts) [] m = absurd m

tops : (u : Bool) (ts mid : List OperandType) (ps : List ValueType) → pop_values u ts ps ≡ Some mid → Tops u ts (length ps)
tops true ts mid ps e =
    let all = replicate (length ps) operand.Bottom ++ ts in
    let long = length-append (replicate (length ps) operand.Bottom) ts in
    let many = bottoms_length (length ps) in
    let dropped = length-drop (length ts) all in
    record { under = replicate (length ps) operand.Bottom; rest = take (length ts) all; taken = drop (length ts) all; bottom = bottoms (length ps); allowed = λ no. cc; is = sym (take-append-drop (length ts) all); long = omega (arith, long, many, dropped) }
tops false ts mid ps e =
    let t = pop_values_sound false ts ps mid e [] (λ no. refl) in
    let none : t.under ≡ [] = t.allowed refl in
    record { under = []; rest = mid; taken = t.taken; bottom = tt; allowed = λ no. refl; is = ap (λ (us : List OperandType). us ++ ts) (sym none) ∙ t.is; long = match_length t.taken ps t.match }

label_matches : (u : Bool) (ts : List OperandType) (default : List ValueType) (k : Tops u ts (length default)) (r : List ValueType) → fits_label u ts default r ≡ true → AllMatch k.taken (values r)
label_matches u ts default k r e = by (pop_values u ts r) refl
  where
    by : (m : Option (List OperandType)) → pop_values u ts r ≡ m → AllMatch k.taken (values r)
    by None is =
        let b = both (length r == length default) (is_some (pop_values u ts r)) e in
        let no : false ≡ true = sym (ap is_some is) ∙ b.1 in cc
    by (Some mid) is =
        let b = both (length r == length default) (is_some (pop_values u ts r)) e in
        let same : length r ≡ length default = grind (arith, b) in
        (along_values u ts k.under k.rest k.taken mid r k.bottom k.is (k.long ∙ sym same) is).match

labels_match : (u : Bool) (ts : List OperandType) (default : List ValueType) (k : Tops u ts (length default)) (results : List (List ValueType)) → list_all (fits_label u ts default) results ≡ true → AllByRecursion (λ r. AllMatch k.taken (values r)) results
labels_match u ts default k [] e = tt
labels_match u ts default k (r ∷ rs) e = let b = both (fits_label u ts default r) (list_all (fits_label u ts default) rs) e in (label_matches u ts default k r b.0, labels_match u ts default k rs b.1)

table_sound : (C : Context) (labels : Labels) (o : Opcode) (a : Argument) (results : List (List ValueType)) (default : List ValueType) (u : Bool) (ts : List OperandType) (s' : Operands) → ((below xs rs : List OperandType) → AllByRecursion (λ r. AllMatch xs (values r)) results → AllMatch xs (values default) → PlainIs C labels o a (below ++ (xs ++ int)) rs) → leave_table u results default (pop_value u ts value.I32) ≡ Some s' → Follows C labels o a (operands u ts) s'
table_sound C labels o a results default u ts s' g e = by (pop_value u ts value.I32) refl e
  where
    found : (ts1 : List OperandType) (t : OperandType) (mid : List OperandType) → pop u ts ≡ Some (ts1, t) → is_value t value.I32 ≡ true → pop_values u ts1 default ≡ Some mid → list_all (fits_label u ts1 default) results ≡ true → fits_label u ts1 default default ≡ true → Follows C labels o a (operands u ts) (operands true [])
    found ts1 t mid e1 it em all last below ok =
        let k = tops u ts1 mid default em in
        let p = pop_sound u ts ts1 t e1 k.under k.allowed in
        record {
          under = p.under;
          ps = k.rest ++ (k.taken ++ int);
          rs = below ++ [];
          allowed = p.allowed;
          plain = g k.rest k.taken (below ++ []) (labels_match u ts1 default k results all) (label_matches u ts1 default k default last);
          replaces = record {
            below = [];
            taken = k.rest ++ (k.taken ++ t ∷ []);
            before = p.is ∙ (ap (λ (us : List OperandType). us ++ t ∷ []) k.is ∙ append_assoc k.rest k.taken (t ∷ []));
            match = all_match_append k.rest k.rest (k.taken ++ t ∷ []) (k.taken ++ int) (all_match_same k.rest) (all_match_append k.taken k.taken (t ∷ []) int (all_match_same k.taken) (value_matches t value.I32 it, tt));
            after = refl;
          };
        }

    popped : (ts1 : List OperandType) (t : OperandType) (m : Option (List OperandType)) → pop_values u ts1 default ≡ m → pop u ts ≡ Some (ts1, t) → is_value t value.I32 ≡ true → list_all (fits_label u ts1 default) results ≡ true → fits_label u ts1 default default ≡ true → Follows C labels o a (operands u ts) (operands true [])
    popped ts1 t None em e1 it all last =
        let b = both (length default == length default) (is_some (pop_values u ts1 default)) last in
        let no : false ≡ true = sym (ap is_some em) ∙ b.1 in cc
    popped ts1 t (Some mid) em e1 it all last = found ts1 t mid e1 it em all last

    by : (m : Option (List OperandType)) → pop_value u ts value.I32 ≡ m → leave_table u results default m ≡ Some s' → Follows C labels o a (operands u ts) s'
    by None is e = absurd (none-some s' e)
    by (Some ts1) is e =
        let q = cond_some (list_all (fits_label u ts1 default) results && fits_label u ts1 default default) (operands true []) s' e in
        let b = both (list_all (fits_label u ts1 default) results) (fits_label u ts1 default default) q.0 in
        let v = pop_value_parts u ts value.I32 ts1 is in
        along C labels o a (operands u ts) (operands true []) s' (ap Some q.1) (popped ts1 v.0 (pop_values u ts1 default) refl v.1 v.2 b.0 b.1)

pub apply_sound : (C : Context) (labels : Labels) (o : Opcode) (a : Argument) (e : Effect) (s s' : Operands) → Gives C labels o a e → apply e s ≡ Some s' → Follows C labels o a s s'
apply_sound C labels o a (Replace ps rs) s s' g e = replace_sound C labels o a ps rs s.unreachable s.types s' g e
apply_sound C labels o a (Leave ps) s s' g e = leave_sound C labels o a ps s.unreachable s.types s' g e
apply_sound C labels o a (LeaveTable results default) s s' g e = table_sound C labels o a results default s.unreachable s.types s' g e
apply_sound C labels o a Drop s s' g e = drop_sound C labels o a s.unreachable s.types s' g e
apply_sound C labels o a Select s s' g e = select_sound C labels o a s.unreachable s.types s' g e
apply_sound C labels o a TestNull s s' g e = null_sound C labels o a s.unreachable s.types s' g e

-- completeness

pub record Succeeds (e : Effect) (s : Operands) (vs : List OperandType) : Type 0 where
  pub next : Operands
  pub is : apply e s ≡ Some next
  pub fits : Fits next.unreachable next.types vs

pub push_matching : (u : Bool) (own us rs ss : List OperandType) → Fits u own us → AllMatch rs ss → Fits u (own ++ rs) (us ++ ss)
push_matching u own us rs ss f m = record {
  below = f.below;
  top = f.top ++ ss;
  is = ap (λ (xs : List OperandType). xs ++ ss) f.is ∙ append_assoc f.below f.top ss;
  match = all_match_append own f.top rs ss f.match m;
  none = f.none;
}

any_fits : (vs : List OperandType) → Fits true [] vs
any_fits vs = record { below = vs; top = []; is = sym (append-nil vs); match = tt; none = λ no. cc }

-- a list that matches two lists, one after another
record Split (ts us vs : List OperandType) : Type 0 where
  front : List OperandType
  back : List OperandType
  is : ts ≡ front ++ back
  first : AllMatch front us
  second : AllMatch back vs

split : (ts us vs : List OperandType) → AllMatch ts (us ++ vs) → Split ts us vs
split ts [] vs m = record { front = []; back = ts; is = refl; first = tt; second = m }
split [] (u ∷ us) vs m = absurd m
split (t ∷ ts) (u ∷ us) vs m = by (split ts us vs m.1)
  where
    by : Split ts us vs → Split (t ∷ ts) (u ∷ us) vs
    by s = record { front = t ∷ s.front; back = s.back; is = ap (λ (xs : List OperandType). t ∷ xs) s.is; first = (m.0, s.first); second = s.second }

one_matches : (ts : List OperandType) (u : OperandType) → AllMatch ts (u ∷ []) → (t : OperandType) × (ts ≡ t ∷ []) × Matches t u
one_matches [] u m = absurd m
one_matches (t ∷ []) u m = (t, refl, m.0)
one_matches (t ∷ v ∷ ts) u m = absurd m.1

three_match : (ts : List OperandType) (u v w : OperandType) → AllMatch ts (u ∷ v ∷ w ∷ []) → (a b c : OperandType) × (ts ≡ a ∷ b ∷ c ∷ []) × Matches a u × Matches b v × Matches c w
three_match [] u v w m = absurd m
three_match (a ∷ []) u v w m = absurd m.1
three_match (a ∷ b ∷ []) u v w m = absurd m.1.1
three_match (a ∷ b ∷ c ∷ []) u v w m = (a, b, c, refl, m.0, m.1.0, m.1.1.0)
three_match (a ∷ b ∷ c ∷ d ∷ ts) u v w m = absurd m.1.1.1

replace_complete : (ps rs : List ValueType) (us vs : List OperandType) (s : Operands) → Replaces (values ps) (values rs) us vs → Fits s.unreachable s.types us → Succeeds (Replace ps rs) s vs
replace_complete ps rs us vs s r f = by (pop_values_complete s.unreachable s.types r.below r.taken ps (fits_at r.before f) r.match)
  where
    by : Takes s.unreachable s.types r.below ps → Succeeds (Replace ps rs) s vs
    by t = record { next = operands s.unreachable (t.rest ++ values rs); is = ap (push s.unreachable (values rs)) t.is; fits = fits_at (sym r.after) (push_matching s.unreachable t.rest r.below (values rs) (values rs) t.fits (all_match_same (values rs))) }

leave_complete : (ps : List ValueType) (qs rs us vs below : List OperandType) (s : Operands) → qs ≡ below ++ values ps → Replaces qs rs us vs → Fits s.unreachable s.types us → Succeeds (Leave ps) s vs
leave_complete ps qs rs us vs below s e r f = by (split r.taken below (values ps) (subst (λ (xs : List OperandType). AllMatch r.taken xs) e r.match))
  where
    done : Takes s.unreachable s.types us ps → Succeeds (Leave ps) s vs
    done t = record { next = operands true []; is = ap leave t.is; fits = any_fits vs }

    by : Split r.taken below (values ps) → Succeeds (Leave ps) s vs
    by k =
        let whole : us ≡ (r.below ++ k.front) ++ k.back = r.before ∙ (ap (λ (xs : List OperandType). r.below ++ xs) k.is ∙ sym (append_assoc r.below k.front k.back)) in
        let t = pop_values_complete s.unreachable s.types (r.below ++ k.front) k.back ps (fits_at whole f) k.second in
        record { next = operands true []; is = ap leave t.is; fits = any_fits vs }

label_fits : (u : Bool) (own us ts xs : List OperandType) (default r : List ValueType) → Fits u own (us ++ xs) → AllMatch xs ts → AllMatch ts (values r) → AllMatch ts (values default) → fits_label u own default r ≡ true
label_fits u own us ts xs default r f m n d =
    let t = pop_values_complete u own us xs r f (all_match_on xs ts (values r) m n) in
    let same : length r ≡ length default = sym (match_length ts r n) ∙ match_length ts default d in
    let test : length r == length default ≡ true = grind arith in
    and_true (length r == length default) (is_some (pop_values u own r)) test (ap is_some t.is)

labels_fit : (u : Bool) (own us ts xs : List OperandType) (default : List ValueType) (results : List (List ValueType)) → Fits u own (us ++ xs) → AllMatch xs ts → AllByRecursion (λ r. AllMatch ts (values r)) results → AllMatch ts (values default) → list_all (fits_label u own default) results ≡ true
labels_fit u own us ts xs default [] f m n d = refl
labels_fit u own us ts xs default (r ∷ rs) f m n d = and_true (fits_label u own default r) (list_all (fits_label u own default) rs) (label_fits u own us ts xs default r f m n.0 d) (labels_fit u own us ts xs default rs f m n.1 d)

table_complete : (results : List (List ValueType)) (default : List ValueType) (qs rs us vs below ts : List OperandType) (s : Operands) → qs ≡ below ++ (ts ++ int) → AllByRecursion (λ r. AllMatch ts (values r)) results → AllMatch ts (values default) → Replaces qs rs us vs → Fits s.unreachable s.types us → Succeeds (LeaveTable results default) s vs
table_complete results default qs rs us vs below ts s e all last r f = by (split r.taken below (ts ++ int) (subst (λ (xs : List OperandType). AllMatch r.taken xs) e r.match))
  where
    inner : (front back xs : List OperandType) (t : OperandType) → us ≡ ((r.below ++ front) ++ xs) ++ t ∷ [] → AllMatch xs ts → Matches t (operand.Value value.I32) → Succeeds (LeaveTable results default) s vs
    inner front back xs t whole m mt =
        let p = pop_value_complete s.unreachable s.types ((r.below ++ front) ++ xs) t value.I32 (fits_at whole f) mt in
        let a = labels_fit s.unreachable p.0 (r.below ++ front) ts xs default results p.2 m all last in
        let d = label_fits s.unreachable p.0 (r.below ++ front) ts xs default default p.2 m last last in
        let test = and_true (list_all (fits_label s.unreachable p.0 default) results) (fits_label s.unreachable p.0 default default) a d in
        record { next = operands true []; is = ap (leave_table s.unreachable results default) p.1 ∙ ap (λ (b : Bool). if b then Some (operands true []) else None) test; fits = any_fits vs }

    by : Split r.taken below (ts ++ int) → Succeeds (LeaveTable results default) s vs
    by k =
        let l = split k.back ts int k.second in
        let x = one_matches l.back (operand.Value value.I32) l.second in
        let whole : us ≡ ((r.below ++ k.front) ++ l.front) ++ x.0 ∷ [] =
        r.before ∙ (ap (λ (xs : List OperandType). r.below ++ xs) (k.is ∙ ap (λ (xs : List OperandType). k.front ++ xs) (l.is ∙ ap (λ (xs : List OperandType). l.front ++ xs) x.1))
        ∙ (sym (append_assoc r.below k.front (l.front ++ x.0 ∷ [])) ∙ sym (append_assoc (r.below ++ k.front) l.front (x.0 ∷ [])))) in
        inner k.front k.back l.front x.0 whole l.first x.2

drop_complete : (qs rs us vs : List OperandType) (t : OperandType) (s : Operands) → qs ≡ t ∷ [] → rs ≡ [] → Replaces qs rs us vs → Fits s.unreachable s.types us → Succeeds Drop s vs
drop_complete qs rs us vs t s e n r f =
    let x = one_matches r.taken t (subst (λ (xs : List OperandType). AllMatch r.taken xs) e r.match) in
    let whole : us ≡ r.below ++ x.0 ∷ [] = r.before ∙ ap (λ (xs : List OperandType). r.below ++ xs) x.1 in
    let p = pop_complete s.unreachable s.types r.below x.0 (fits_at whole f) in
    let left : r.below ≡ vs = sym (append-nil r.below) ∙ (ap (λ (xs : List OperandType). r.below ++ xs) (sym n) ∙ sym r.after) in
    record { next = operands s.unreachable p.rest; is = ap (drop_one s.unreachable) p.is; fits = fits_at left p.fits }

is_a_reference : (t : OperandType) (r : ReferenceType) → Matches t (operand.Value (value.Reference r)) → is_reference t ≡ true
is_a_reference operand.Bottom r m = refl
is_a_reference (operand.Value t) r m = ap is_reference m

null_complete : (qs rs us vs : List OperandType) (t : ReferenceType) (s : Operands) → qs ≡ ref t → rs ≡ int → Replaces qs rs us vs → Fits s.unreachable s.types us → Succeeds TestNull s vs
null_complete qs rs us vs t s e n r f =
    let x = one_matches r.taken (operand.Value (value.Reference t)) (subst (λ (xs : List OperandType). AllMatch r.taken xs) e r.match) in
    let whole : us ≡ r.below ++ x.0 ∷ [] = r.before ∙ ap (λ (xs : List OperandType). r.below ++ xs) x.1 in
    let p = pop_complete s.unreachable s.types r.below x.0 (fits_at whole f) in
    let test = is_a_reference p.type t (matches_on p.type x.0 (operand.Value (value.Reference t)) p.match x.2) in
    let left : r.below ++ int ≡ vs = ap (λ (xs : List OperandType). r.below ++ xs) (sym n) ∙ sym r.after in
    record { next = operands s.unreachable (p.rest ++ int); is = ap (test_null s.unreachable) p.is ∙ ap (λ (b : Bool). if b then Some (operands s.unreachable (p.rest ++ int)) else None) test; fits = fits_at left (push_matching s.unreachable p.rest r.below int int p.fits (all_match_same int)) }

is_a_number : (t : OperandType) → IsNumeric t → is_numeric t ≡ true
is_a_number operand.Bottom n = refl
is_a_number (operand.Value (value.Reference r)) n = absurd n
is_a_number (operand.Value value.I32) n = refl
is_a_number (operand.Value value.I64) n = refl
is_a_number (operand.Value value.F32) n = refl
is_a_number (operand.Value value.F64) n = refl
is_a_number (operand.Value value.V128) n = refl

record Join (a b t : OperandType) : Type 0 where
  type : OperandType
  is : joined a b ≡ Some type
  match : Matches type t
  number : is_numeric type ≡ true

join : (a b t : OperandType) → Matches a t → Matches b t → IsNumeric t → Join a b t
join operand.Bottom operand.Bottom t m n k = record { type = operand.Bottom; is = refl; match = tt; number = refl }
join operand.Bottom (operand.Value b) t m n k = record { type = operand.Value b; is = refl; match = n; number = ap is_numeric n ∙ is_a_number t k }
join (operand.Value a) operand.Bottom t m n k = record { type = operand.Value a; is = refl; match = m; number = ap is_numeric m ∙ is_a_number t k }
join (operand.Value a) (operand.Value b) t m n k =
    let same : a ≡ b = cc in
    record { type = operand.Value a; is = ap (λ (x : Bool). if x then Some (operand.Value a) else None) (subst (λ (c : ValueType). type_byte a == type_byte c ≡ true) same (type_byte_same a)); match = m; number = ap is_numeric m ∙ is_a_number t k }

select_complete : (qs rs us vs : List OperandType) (t : OperandType) (s : Operands) → IsNumeric t → qs ≡ t ∷ t ∷ int → rs ≡ t ∷ [] → Replaces qs rs us vs → Fits s.unreachable s.types us → Succeeds Select s vs
select_complete qs rs us vs t s k e n r f =
    let x = three_match r.taken t t (operand.Value value.I32) (subst (λ (xs : List OperandType). AllMatch r.taken xs) e r.match) in
    let whole : us ≡ ((r.below ++ x.0 ∷ []) ++ x.1 ∷ []) ++ x.2 ∷ [] =
    r.before ∙ (ap (λ (xs : List OperandType). r.below ++ xs) x.3 ∙ sym (append_assoc ((r.below ++ x.0 ∷ [])) (x.1 ∷ []) (x.2 ∷ []) ∙ append_assoc r.below (x.0 ∷ []) (x.1 ∷ x.2 ∷ []))) in
    let one = pop_value_complete s.unreachable s.types ((r.below ++ x.0 ∷ []) ++ x.1 ∷ []) x.2 value.I32 (fits_at whole f) x.6 in
    let two = pop_complete s.unreachable one.0 (r.below ++ x.0 ∷ []) x.1 one.2 in
    let three = pop_complete s.unreachable two.rest r.below x.0 two.fits in
    let j = join three.type two.type t (matches_on three.type x.0 t three.match x.4) (matches_on two.type x.1 t two.match x.5) k in
    let left : r.below ++ t ∷ [] ≡ vs = ap (λ (xs : List OperandType). r.below ++ xs) (sym n) ∙ sym r.after in
    record {
      next = operands s.unreachable (three.rest ++ j.type ∷ []);
      is = ap (select_one s.unreachable) one.1 ∙ (ap (select_first s.unreachable) two.is ∙ (ap (select_second s.unreachable two.type) three.is ∙ (ap (select_joined s.unreachable three.rest) j.is ∙ ap (λ (b : Bool). if b then Some (operands s.unreachable (three.rest ++ j.type ∷ [])) else None) j.number)));
      fits = fits_at left (push_matching s.unreachable three.rest r.below (j.type ∷ []) (t ∷ []) three.fits (j.match, tt));
    }

pub apply_complete : (e : Effect) (s : Operands) (qs rs us vs : List OperandType) → Covers e qs rs → Replaces qs rs us vs → Fits s.unreachable s.types us → Succeeds e s vs
apply_complete (Replace ps os) s qs rs us vs c r f = replace_complete ps os us vs s (subst (λ (xs : List OperandType). Replaces (values ps) xs us vs) c.1 (subst (λ (xs : List OperandType). Replaces xs rs us vs) c.0 r)) f
apply_complete (Leave ps) s qs rs us vs c r f = leave_complete ps qs rs us vs c.0 s c.1 r f
apply_complete (LeaveTable results default) s qs rs us vs c r f = table_complete results default qs rs us vs c.0 c.1 s c.2 c.3 c.4 r f
apply_complete Drop s qs rs us vs c r f = drop_complete qs rs us vs c.0 s c.1 c.2 r f
apply_complete Select s qs rs us vs c r f = select_complete qs rs us vs c.0 s c.1 c.2 c.3 r f
apply_complete TestNull s qs rs us vs c r f = null_complete qs rs us vs c.0 s c.1 c.2 r f
