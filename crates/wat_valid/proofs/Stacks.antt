-- Operands: what is popped and pushed, by the operand types of a derivation.
use Rattle.std.proofs.Common.{◌≡◌, ℕ, Bool, true, false, List, [], ◌∷◌, ◌++◌, Option, Some, None, ◌⊎◌, inl, inr, refl, sym, ◌∙◌, ap, subst, append_assoc, append-nil, arith}
use Rattle.std.proofs.lemmas.Option.{some_pair_parts, same_Some, none-some, cond_some}
use Rattle.std.specs.Prelude.{◌==◌, if◌then◌else◌}
use Rattle.wat_module_ast.specs.declared.instruction.ReferenceType.{ReferenceType}
use Rattle.wat_module_ast.specs.declared.instruction.ReferenceType.TheVariants as reference
use Rattle.wat_module_ast.specs.declared.instruction.ValueType.{ValueType}
use Rattle.wat_module_ast.specs.declared.instruction.ValueType.TheVariants as value
use Rattle.wat_module_ast.specs.Types.{reference_byte, type_byte}
use Rattle.wat_valid.specs.declared.operands.OperandType.{OperandType}
use Rattle.wat_valid.specs.declared.operands.OperandType.TheVariants as operand
use Rattle.wat_valid.specs.Contexts.{AllMatch, Matches, values}
use Rattle.wat_valid.specs.Algorithm.{split_last, split_after, pop, pop_by, pop_value, pop_values, and_pop, expect, is_value}

-- the last element

split_after_push : {A : Type 0} (x : A) (xs : List A) (y : A) → split_after x (xs ++ y ∷ []) ≡ (x ∷ xs, y)
split_after_push x [] y = refl
split_after_push x (z ∷ zs) y = rw (split_after_push z zs y) refl

pub split_push : {A : Type 0} (xs : List A) (x : A) → split_last (xs ++ x ∷ []) ≡ Some (xs, x)
split_push [] x = refl
split_push (z ∷ zs) x = rw (split_after_push z zs x) refl

split_after_is : {A : Type 0} (x : A) (xs : List A) → x ∷ xs ≡ (split_after x xs).0 ++ (split_after x xs).1 ∷ []
split_after_is x [] = refl
split_after_is x (y ∷ ys) = ap (λ zs. x ∷ zs) (split_after_is y ys)

pub last_cases : {A : Type 0} (xs : List A) → (xs ≡ []) ⊎ ((ys : List A) × (y : A) × (xs ≡ ys ++ y ∷ []))
last_cases [] = inl refl
last_cases (x ∷ xs) = inr ((split_after x xs).0, (split_after x xs).1, split_after_is x xs)

pub push_parts : {A : Type 0} (xs ys : List A) (x y : A) → xs ++ x ∷ [] ≡ ys ++ y ∷ [] → (xs ≡ ys) × (x ≡ y)
push_parts xs ys x y e = some_pair_parts xs ys x y (sym (split_push xs x) ∙ (ap split_last e ∙ split_push ys y))

pub push_something : {A : Type 0} (xs : List A) (x : A) → xs ++ x ∷ [] ≡ [] → ⊥
push_something [] x e = cc
push_something (y ∷ ys) x e = cc

-- value types

pub same_reference_byte : (t u : ReferenceType) → reference_byte t == reference_byte u ≡ true → t ≡ u
same_reference_byte reference.Func reference.Func e = refl
same_reference_byte reference.Func reference.Extern e = cc
same_reference_byte reference.Extern reference.Func e = cc
same_reference_byte reference.Extern reference.Extern e = refl

pub reference_byte_same : (t : ReferenceType) → reference_byte t == reference_byte t ≡ true
reference_byte_same reference.Func = refl
reference_byte_same reference.Extern = refl

pub type_byte_same : (t : ValueType) → type_byte t == type_byte t ≡ true
type_byte_same value.I32 = refl
type_byte_same value.I64 = refl
type_byte_same value.F32 = refl
type_byte_same value.F64 = refl
type_byte_same value.V128 = refl
type_byte_same (value.Reference reference.Func) = refl
type_byte_same (value.Reference reference.Extern) = refl

-- the value type of a byte
of_byte : ℕ → ValueType
of_byte b = if b == 0x7F then value.I32 else if b == 0x7E then value.I64 else if b == 0x7D then value.F32 else if b == 0x7C then value.F64 else if b == 0x7B then value.V128 else if b == 0x70 then value.Reference reference.Func else value.Reference reference.Extern

of_type_byte : (t : ValueType) → of_byte (type_byte t) ≡ t
unfolding of_byte
of_type_byte value.I32 = refl
of_type_byte value.I64 = refl
of_type_byte value.F32 = refl
of_type_byte value.F64 = refl
of_type_byte value.V128 = refl
of_type_byte (value.Reference reference.Func) = refl
of_type_byte (value.Reference reference.Extern) = refl

pub same_type_byte : (t u : ValueType) → type_byte t == type_byte u ≡ true → t ≡ u
same_type_byte t u e = let same : type_byte t ≡ type_byte u = grind arith in sym (of_type_byte t) ∙ (ap of_byte same ∙ of_type_byte u)

pub value_matches : (t : OperandType) (p : ValueType) → is_value t p ≡ true → Matches t (operand.Value p)
value_matches operand.Bottom p e = tt
value_matches (operand.Value t) p e = ap operand.Value (same_type_byte t p e)

pub same_value : (t u : ValueType) → operand.Value t ≡ operand.Value u → t ≡ u
same_value t u e = cc

pub matches_value : (t : OperandType) (p : ValueType) → Matches t (operand.Value p) → is_value t p ≡ true
matches_value operand.Bottom p m = refl
matches_value (operand.Value t) p m = subst (λ (u : ValueType). type_byte t == type_byte u ≡ true) (same_value t p m) (type_byte_same t)

pub matches_same : (t : OperandType) → Matches t t
matches_same operand.Bottom = tt
matches_same (operand.Value t) = refl

pub matches_on : (t u v : OperandType) → Matches t u → Matches u v → Matches t v
matches_on operand.Bottom u v m n = tt
matches_on (operand.Value t) u v m n = subst (λ (w : OperandType). Matches w v) (sym m) n

-- lists that match

pub all_match_same : (ts : List OperandType) → AllMatch ts ts
all_match_same [] = tt
all_match_same (t ∷ ts) = (matches_same t, all_match_same ts)

pub all_match_on : (ts us vs : List OperandType) → AllMatch ts us → AllMatch us vs → AllMatch ts vs
all_match_on [] [] vs m n = n
all_match_on (t ∷ ts) (u ∷ us) (v ∷ vs) m n = (matches_on t u v m.0 n.0, all_match_on ts us vs m.1 n.1)
all_match_on [] (u ∷ us) vs m n = absurd m
all_match_on (t ∷ ts) [] vs m n = absurd m
all_match_on (t ∷ ts) (u ∷ us) [] m n = absurd n

pub all_match_append : (ts us vs ws : List OperandType) → AllMatch ts us → AllMatch vs ws → AllMatch (ts ++ vs) (us ++ ws)
all_match_append [] [] vs ws m n = n
all_match_append (t ∷ ts) (u ∷ us) vs ws m n = (m.0, all_match_append ts us vs ws m.1 n)
all_match_append [] (u ∷ us) vs ws m n = absurd m
all_match_append (t ∷ ts) [] vs ws m n = absurd m

pub none_match : (us : List OperandType) → AllMatch [] us → us ≡ []
none_match [] m = refl
none_match (u ∷ us) m = absurd m

pub match_none : (ts : List OperandType) → AllMatch ts [] → ts ≡ []
match_none [] m = refl
match_none (t ∷ ts) m = absurd m

-- the last of the types that match
pub record Last (ts : List OperandType) (t : OperandType) (us : List OperandType) : Type 0 where
  pub front : List OperandType
  pub last : OperandType
  pub is : us ≡ front ++ last ∷ []
  pub before : AllMatch ts front
  pub match : Matches t last

pub match_last : (ts : List OperandType) (t : OperandType) (us : List OperandType) → AllMatch (ts ++ t ∷ []) us → Last ts t us
match_last [] t [] m = absurd m
match_last [] t (u ∷ []) m = record { front = []; last = u; is = refl; before = tt; match = m.0 }
match_last [] t (u ∷ v ∷ us) m = absurd m.1
match_last (s ∷ ts) t [] m = absurd m
match_last (s ∷ ts) t (u ∷ us) m = by (match_last ts t us m.1)
  where
    by : Last ts t us → Last (s ∷ ts) t (u ∷ us)
    by l = record { front = u ∷ l.front; last = l.last; is = ap (λ vs. u ∷ vs) l.is; before = (m.0, l.before); match = l.match }

-- operands of a frame below those that it has: none if its code can be reached
abbrev pub Below : Bool → List OperandType → Type 0
Below u below = u ≡ false → below ≡ []

-- the operands `own` of a frame match the last of the operand types `us`
pub record Fits (u : Bool) (own us : List OperandType) : Type 0 where
  pub below : List OperandType
  pub top : List OperandType
  pub is : us ≡ below ++ top
  pub match : AllMatch own top
  pub none : Below u below

-- pop

pub record Popped (u : Bool) (ts rest : List OperandType) (t : OperandType) (below : List OperandType) : Type 0 where
  pub under : List OperandType
  pub allowed : Below u under
  pub is : under ++ ts ≡ (below ++ rest) ++ t ∷ []

pub pop_sound : (u : Bool) (ts rest : List OperandType) (t : OperandType) → pop u ts ≡ Some (rest, t) → (below : List OperandType) → Below u below → Popped u ts rest t below
pop_sound u ts rest t e below ok = by (last_cases ts)
  where
    by_empty : (v : Bool) → u ≡ v → ts ≡ [] → Popped u ts rest t below
    by_empty true is empty =
        let p : pop true [] ≡ Some (rest, t) = subst (λ (us : List OperandType). pop true us ≡ Some (rest, t)) empty (subst (λ (w : Bool). pop w ts ≡ Some (rest, t)) is e) in
        let q = some_pair_parts [] rest operand.Bottom t p in
        record {
          under = below ++ operand.Bottom ∷ [];
          allowed = λ no. cc;
          is = subst (λ (us : List OperandType). (below ++ operand.Bottom ∷ []) ++ us ≡ (below ++ rest) ++ t ∷ []) (sym empty)
              (subst (λ (us : List OperandType). (below ++ operand.Bottom ∷ []) ++ [] ≡ (below ++ us) ++ t ∷ []) q.0
              (subst (λ (s : OperandType). (below ++ operand.Bottom ∷ []) ++ [] ≡ (below ++ []) ++ s ∷ []) q.1
              (append-nil (below ++ operand.Bottom ∷ []) ∙ ap (λ (us : List OperandType). us ++ operand.Bottom ∷ []) (sym (append-nil below)))));
        }
    by_empty false is empty =
        let p : pop false [] ≡ Some (rest, t) = subst (λ (us : List OperandType). pop false us ≡ Some (rest, t)) empty (subst (λ (w : Bool). pop w ts ≡ Some (rest, t)) is e) in
        absurd (none-some (rest, t) p)

    by : (ts ≡ []) ⊎ ((ys : List OperandType) × (y : OperandType) × (ts ≡ ys ++ y ∷ [])) → Popped u ts rest t below
    by (inl empty) = by_empty u refl empty
    by (inr (ys, y, is)) =
        let p : Some (ys, y) ≡ Some (rest, t) = sym (ap (pop_by u) (split_push ys y)) ∙ subst (λ (us : List OperandType). pop u us ≡ Some (rest, t)) is e in
        let q = some_pair_parts ys rest y t p in
        record {
          under = below;
          allowed = ok;
          is = subst (λ (us : List OperandType). below ++ us ≡ (below ++ rest) ++ t ∷ []) (sym is)
              (subst (λ (us : List OperandType). below ++ (ys ++ y ∷ []) ≡ (below ++ us) ++ t ∷ []) q.0
              (subst (λ (s : OperandType). below ++ (ys ++ y ∷ []) ≡ (below ++ ys) ++ s ∷ []) q.1 (sym (append_assoc below ys (y ∷ [])))));
        }

pub record Pops (u : Bool) (ts us : List OperandType) (s : OperandType) : Type 0 where
  pub rest : List OperandType
  pub type : OperandType
  pub is : pop u ts ≡ Some (rest, type)
  pub fits : Fits u rest us
  pub match : Matches type s

pub pop_complete : (u : Bool) (ts us : List OperandType) (s : OperandType) → Fits u ts (us ++ s ∷ []) → Pops u ts us s
pop_complete u ts us s fits = by (last_cases ts)
  where
    by_empty : (v : Bool) → u ≡ v → ts ≡ [] → Pops u ts us s
    by_empty true is empty = record {
      rest = [];
      type = operand.Bottom;
      is = subst (λ (w : Bool). pop w ts ≡ Some ([], operand.Bottom)) (sym is) (subst (λ (xs : List OperandType). pop true xs ≡ Some ([], operand.Bottom)) (sym empty) refl);
      fits = record { below = us; top = []; is = sym (append-nil us); match = tt; none = λ no. cc };
      match = tt;
    }
    by_empty false is empty =
        let top : fits.top ≡ [] = none_match fits.top (subst (λ (xs : List OperandType). AllMatch xs fits.top) empty fits.match) in
        let none : us ++ s ∷ [] ≡ [] = fits.is ∙ (ap (λ (xs : List OperandType). xs ++ fits.top) (fits.none is) ∙ top) in
        absurd (push_something us s none)

    by : (ts ≡ []) ⊎ ((ys : List OperandType) × (y : OperandType) × (ts ≡ ys ++ y ∷ [])) → Pops u ts us s
    by (inl empty) = by_empty u refl empty
    by (inr (ys, y, is)) =
        let l = match_last ys y fits.top (subst (λ (xs : List OperandType). AllMatch xs fits.top) is fits.match) in
        let e : us ++ s ∷ [] ≡ (fits.below ++ l.front) ++ l.last ∷ [] = fits.is ∙ (ap (λ (xs : List OperandType). fits.below ++ xs) l.is ∙ sym (append_assoc fits.below l.front (l.last ∷ []))) in
        let q = push_parts us (fits.below ++ l.front) s l.last e in
        record {
          rest = ys;
          type = y;
          is = ap (pop u) is ∙ ap (pop_by u) (split_push ys y);
          fits = record { below = fits.below; top = l.front; is = q.0; match = l.before; none = fits.none };
          match = subst (λ (w : OperandType). Matches y w) (sym q.1) l.match;
        }

-- pop values

pub record Taken (u : Bool) (ts rest : List OperandType) (ps : List ValueType) (below : List OperandType) : Type 0 where
  pub under : List OperandType
  pub taken : List OperandType
  pub allowed : Below u under
  pub is : under ++ ts ≡ (below ++ rest) ++ taken
  pub match : AllMatch taken (values ps)

expected : (p : ValueType) (o : Option (List OperandType × OperandType)) (rest : List OperandType) → expect p o ≡ Some rest → (t : OperandType) × (o ≡ Some (rest, t)) × (is_value t p ≡ true)
expected p None rest e = absurd (none-some rest e)
expected p (Some (ts, t)) rest e = let q = cond_some (is_value t p) ts rest e in (t, ap (λ (us : List OperandType). Some (us, t)) q.1, q.0)

pub pop_value_parts : (u : Bool) (ts : List OperandType) (p : ValueType) (rest : List OperandType) → pop_value u ts p ≡ Some rest → (t : OperandType) × (pop u ts ≡ Some (rest, t)) × (is_value t p ≡ true)
pop_value_parts u ts p rest e = expected p (pop u ts) rest e

pub pop_values_sound : (u : Bool) (ts : List OperandType) (ps : List ValueType) (rest : List OperandType) → pop_values u ts ps ≡ Some rest → (below : List OperandType) → Below u below → Taken u ts rest ps below
pop_values_sound u ts [] rest e below ok = record {
  under = below;
  taken = [];
  allowed = ok;
  is = ap (λ (us : List OperandType). below ++ us) (same_Some ts rest e) ∙ sym (append-nil (below ++ rest));
  match = tt;
}
pop_values_sound u ts (p ∷ ps) rest e below ok = by (pop_values u ts ps) refl (λ (mid : List OperandType). pop_values_sound u ts ps mid)
  where
    by : (o : Option (List OperandType)) → pop_values u ts ps ≡ o → ((mid : List OperandType) → pop_values u ts ps ≡ Some mid → (under : List OperandType) → Below u under → Taken u ts mid ps under) → Taken u ts rest (p ∷ ps) below
    by None is earlier = absurd (none-some rest (subst (λ (o : Option (List OperandType)). and_pop u p o ≡ Some rest) is e))
    by (Some mid) is earlier =
        let v = pop_value_parts u mid p rest (subst (λ (o : Option (List OperandType)). and_pop u p o ≡ Some rest) is e) in
        let one = pop_sound u mid rest v.0 v.1 below ok in
        let more = earlier mid is one.under one.allowed in
        record {
          under = more.under;
          taken = v.0 ∷ more.taken;
          allowed = more.allowed;
          is = more.is ∙ (ap (λ (us : List OperandType). us ++ more.taken) one.is ∙ append_assoc (below ++ rest) (v.0 ∷ []) more.taken);
          match = (value_matches v.0 p v.2, more.match);
        }

pub record Takes (u : Bool) (ts us : List OperandType) (ps : List ValueType) : Type 0 where
  pub rest : List OperandType
  pub is : pop_values u ts ps ≡ Some rest
  pub fits : Fits u rest us

pub fits_at : {u : Bool} {own us vs : List OperandType} → us ≡ vs → Fits u own us → Fits u own vs
fits_at {u} {own} e f = subst (λ (xs : List OperandType). Fits u own xs) e f

pub pop_value_complete : (u : Bool) (ts us : List OperandType) (s : OperandType) (p : ValueType) → Fits u ts (us ++ s ∷ []) → Matches s (operand.Value p) → (rest : List OperandType) × (pop_value u ts p ≡ Some rest) × Fits u rest us
pop_value_complete u ts us s p fits m = by (pop_complete u ts us s fits)
  where
    by : Pops u ts us s → (rest : List OperandType) × (pop_value u ts p ≡ Some rest) × Fits u rest us
    by c =
        let ok : is_value c.type p ≡ true = matches_value c.type p (matches_on c.type s (operand.Value p) c.match m) in
        (c.rest, ap (expect p) c.is ∙ ap (λ (b : Bool). if b then Some c.rest else None) ok, c.fits)

pub pop_values_complete : (u : Bool) (ts us taken : List OperandType) (ps : List ValueType) → Fits u ts (us ++ taken) → AllMatch taken (values ps) → Takes u ts us ps
pop_values_complete u ts us [] [] fits m = record { rest = ts; is = refl; fits = fits_at (append-nil us) fits }
pop_values_complete u ts us [] (p ∷ ps) fits m = absurd m
pop_values_complete u ts us (t ∷ taken) [] fits m = absurd m
pop_values_complete u ts us (t ∷ taken) (p ∷ ps) fits m = by (pop_values_complete u ts (us ++ t ∷ []) taken ps (fits_at (sym (append_assoc us (t ∷ []) taken)) fits) m.1)
  where
    by : Takes u ts (us ++ t ∷ []) ps → Takes u ts us (p ∷ ps)
    by k =
        let c = pop_value_complete u k.rest us t p k.fits m.0 in
        record { rest = c.0; is = ap (and_pop u p) k.is ∙ c.1; fits = c.2 }

-- push

pub push_fits : (u : Bool) (own us rs : List OperandType) → Fits u own us → Fits u (own ++ rs) (us ++ rs)
push_fits u own us rs f = record {
  below = f.below;
  top = f.top ++ rs;
  is = ap (λ (xs : List OperandType). xs ++ rs) f.is ∙ append_assoc f.below f.top rs;
  match = all_match_append own f.top rs rs f.match (all_match_same rs);
  none = f.none;
}
