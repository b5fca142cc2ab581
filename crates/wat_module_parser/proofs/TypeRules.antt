-- Parser and grammar agree on limits, types and indices; and the number of tokens that these have.
use Rattle.std.proofs.Common.{◌≡◌, ◌<◌, ℕ, Bool, true, false, List, [], ◌∷◌, length, Option, Some, None, Ok, Err, refl, sym, ap, subst, ◌∙◌, arith}
use Rattle.std.specs.Prelude.{◌^◌, if◌then◌else◌, bytes_eq, codes}
use Rattle.wat_module_ast.specs.declared.error.Expected.{Expected}
use Rattle.wat_module_ast.specs.declared.error.Expected.TheVariants as expected
use Rattle.wat_module_ast.specs.declared.error.Range.TheVariants as range
use Rattle.wat_module_ast.specs.declared.error.Space.{Space}
use Rattle.wat_module_ast.specs.declared.error.FaultKind.TheVariants.{Unexpected, OutOfRange}
use Rattle.wat_module_tokens.specs.declared.token.Sign.{Sign}
use Rattle.wat_module_tokens.specs.declared.token.Sign.TheVariants as sign
use Rattle.wat_module_ast.specs.declared.instruction.ValueType.{ValueType}
use Rattle.wat_module_ast.specs.Grammar.{index, named, position, small, value_type, reference_type}
use Rattle.wat_module_instructions.specs.Law.{past}
use Rattle.wat_module_tokens.specs.Terminals.{Terminal, Open, Close, Word, Id, Integer, Text, Float, Other, Label}
use Rattle.wat_module_ast.specs.declared.fields.GlobalType.{GlobalType}
use Rattle.wat_module_ast.specs.declared.fields.Limits.{Limits}
use Rattle.wat_module_ast.specs.declared.instruction.ReferenceType.{ReferenceType}
use Rattle.wat_module_ast.specs.declared.fields.TableType.{TableType}
use Rattle.wat_module_ast.specs.Fields.{IndexIs, by_number, by_identifier, LimitsAre, by_min, by_min_max, GlobalTypeIs, by_constant, by_mutable, is_u32}
use Rattle.wat_module_parser.specs.Reading.{and_then, closed, limits, max_at, limits_at, reference_by, reference_at, table_type, table_type_at, global_type, constant_by, mutable_by, mutable_type, mutable_at, global_type_at, skip_two_closes, after, export_item, after_table_limits, skip_two_closes_or}
use Rattle.wat_module_parser.proofs.Items.{GivesAll, closing_inv, closed_is, word_is, is_word}
use Rattle.wat_module_parser.proofs.Manies.{Gives, gives_of, and_then_inv}

-- Numbers of 32 bits.

small_inv : (s : Sign) (n m : ℕ) (all ts us : List Terminal) → Gives (small s n all ts) m us → (s ≡ sign.Absent) × (is_u32 n ≡ true) × (n ≡ m) × (ts ≡ us)
small_inv sign.Absent n m all ts us h = by (is_u32 n) refl h
  where
    by : (b : Bool) → is_u32 n ≡ b → Gives (if b then Ok (n, ts) else Err (OutOfRange (range.Unsigned (2 ^ 31)), all)) m us → (sign.Absent ≡ sign.Absent) × (is_u32 n ≡ true) × (n ≡ m) × (ts ≡ us)
    by true e g = (refl, e, g.0, g.1)
    by false e g = absurd g
small_inv sign.Plus n m all ts us h = absurd h
small_inv sign.Minus n m all ts us h = absurd h

small_is : (n : ℕ) (all ts : List Terminal) → is_u32 n ≡ true → small sign.Absent n all ts ≡ Ok (n, ts)
small_is n all ts e = ap (λ (b : Bool). if b then Ok (n, ts) else Err (OutOfRange (range.Unsigned (2 ^ 31)), all)) e

-- Limits.

max_sound : (n : ℕ) (ts : List Terminal) (l : Limits) (us : List Terminal) → is_u32 n ≡ true → Gives (max_at n ts) l us → LimitsAre (Integer sign.Absent n ∷ ts) l us
max_sound n (Integer s m ∷ ts) l us e h =
    let (k, vs, read, end) = and_then_inv (small s m (Integer s m ∷ ts) ts) (λ m us. Ok (limits n (Some m), us)) l us h in
    let (absent, low, same, rest) = small_inv s m k (Integer s m ∷ ts) ts vs (gives_of _ k vs read) in
    subst (λ x. LimitsAre (Integer sign.Absent n ∷ Integer x m ∷ ts) l us) (sym absent)
    (subst (λ x. LimitsAre (Integer sign.Absent n ∷ Integer sign.Absent m ∷ ts) x us) end.0
    (subst (λ x. LimitsAre (Integer sign.Absent n ∷ Integer sign.Absent m ∷ ts) (limits n (Some x)) us) same
    (subst (λ x. LimitsAre (Integer sign.Absent n ∷ Integer sign.Absent m ∷ ts) (limits n (Some m)) x) (rest ∙ end.1) (by_min_max e low))))
max_sound n [] l us e h = subst (λ x. LimitsAre (Integer sign.Absent n ∷ []) x us) h.0 (subst (λ x. LimitsAre (Integer sign.Absent n ∷ []) (limits n None) x) h.1 (by_min e))
max_sound n (Open ∷ ts) l us e h = subst (λ x. LimitsAre (Integer sign.Absent n ∷ Open ∷ ts) x us) h.0 (subst (λ x. LimitsAre (Integer sign.Absent n ∷ Open ∷ ts) (limits n None) x) h.1 (by_min e))
max_sound n (Close ∷ ts) l us e h = subst (λ x. LimitsAre (Integer sign.Absent n ∷ Close ∷ ts) x us) h.0 (subst (λ x. LimitsAre (Integer sign.Absent n ∷ Close ∷ ts) (limits n None) x) h.1 (by_min e))
max_sound n (Word w ∷ ts) l us e h = subst (λ x. LimitsAre (Integer sign.Absent n ∷ Word w ∷ ts) x us) h.0 (subst (λ x. LimitsAre (Integer sign.Absent n ∷ Word w ∷ ts) (limits n None) x) h.1 (by_min e))
max_sound n (Id y ∷ ts) l us e h = subst (λ x. LimitsAre (Integer sign.Absent n ∷ Id y ∷ ts) x us) h.0 (subst (λ x. LimitsAre (Integer sign.Absent n ∷ Id y ∷ ts) (limits n None) x) h.1 (by_min e))
max_sound n (Text v ∷ ts) l us e h = subst (λ x. LimitsAre (Integer sign.Absent n ∷ Text v ∷ ts) x us) h.0 (subst (λ x. LimitsAre (Integer sign.Absent n ∷ Text v ∷ ts) (limits n None) x) h.1 (by_min e))
max_sound n (Float narrow wide ∷ ts) l us e h = subst (λ x. LimitsAre (Integer sign.Absent n ∷ Float narrow wide ∷ ts) x us) h.0 (subst (λ x. LimitsAre (Integer sign.Absent n ∷ Float narrow wide ∷ ts) (limits n None) x) h.1 (by_min e))
max_sound n (Other ∷ ts) l us e h = subst (λ x. LimitsAre (Integer sign.Absent n ∷ Other ∷ ts) x us) h.0 (subst (λ x. LimitsAre (Integer sign.Absent n ∷ Other ∷ ts) (limits n None) x) h.1 (by_min e))

pub limits_sound : (x : Expected) (ts : List Terminal) (l : Limits) (us : List Terminal) → limits_at x ts ≡ Ok (l, us) → LimitsAre ts l us
unfolding limits_at
limits_sound y (Integer s n ∷ ts) l us e =
    let (k, vs, read, end) = and_then_inv (small s n (Integer s n ∷ ts) ts) (λ n us. max_at n us) l us (gives_of _ l us e) in
    let (absent, low, same, rest) = small_inv s n k (Integer s n ∷ ts) ts vs (gives_of _ k vs read) in
    subst (λ x. LimitsAre (Integer x n ∷ ts) l us) (sym absent) (max_sound n ts l us low (subst (λ x. Gives (max_at n x) l us) (sym rest) (subst (λ x. Gives (max_at x vs) l us) (sym same) end)))
limits_sound y [] l us e = cc
limits_sound y (Open ∷ ts) l us e = cc
limits_sound y (Close ∷ ts) l us e = cc
limits_sound y (Word w ∷ ts) l us e = cc
limits_sound y (Id x ∷ ts) l us e = cc
limits_sound y (Text v ∷ ts) l us e = cc
limits_sound y (Float narrow wide ∷ ts) l us e = cc
limits_sound y (Other ∷ ts) l us e = cc

-- no number comes next
abbrev pub NoNumber : List Terminal → Type 0
NoNumber us = (n : ℕ) → max_at n us ≡ Ok (limits n None, us)

pub limits_complete : (x : Expected) (ts : List Terminal) (l : Limits) (us : List Terminal) → LimitsAre ts l us → NoNumber us → limits_at x ts ≡ Ok (l, us)
unfolding limits_at
limits_complete x _ _ us (by_min {n = n} e) k = ap (λ q. and_then q (λ n us. max_at n us)) (small_is n (Integer sign.Absent n ∷ us) us e) ∙ k n
limits_complete x _ _ us (by_min_max {n = n} {m = m} e f) k =
    ap (λ q. and_then q (λ n us. max_at n us)) (small_is n (Integer sign.Absent n ∷ Integer sign.Absent m ∷ us) (Integer sign.Absent m ∷ us) e)
    ∙ ap (λ q. and_then q (λ m us. Ok (limits n (Some m), us))) (small_is m (Integer sign.Absent m ∷ us) us f)

-- after these tokens, which open and close nothing, come those
pub record Passes (ts us : List Terminal) : Type 0 where
  pub short : length us < length ts
  pub same : (d : ℕ) → past d ts ≡ past d us

pub limits_pass : (ts : List Terminal) (l : Limits) (us : List Terminal) → LimitsAre ts l us → Passes ts us
limits_pass _ _ us (by_min e) = record { short = omega arith; same = λ d. refl }
limits_pass _ _ us (by_min_max e f) = record { short = omega arith; same = λ d. refl }

pub limits_no_import : (ts : List Terminal) (l : Limits) (us : List Terminal) → LimitsAre ts l us → after (codes "import") ts ≡ None
limits_no_import _ _ us (by_min e) = refl
limits_no_import _ _ us (by_min_max e f) = refl

pub limits_no_data : (ts : List Terminal) (l : Limits) (us : List Terminal) → LimitsAre ts l us → after (codes "data") ts ≡ None
limits_no_data _ _ us (by_min e) = refl
limits_no_data _ _ us (by_min_max e f) = refl

pub limits_no_export : (ts : List Terminal) (l : Limits) (us : List Terminal) → LimitsAre ts l us → export_item ts ≡ None
unfolding export_item
limits_no_export _ _ us (by_min e) = refl
limits_no_export _ _ us (by_min_max e f) = refl

-- Reference types.

pub reference_sound : (x : Expected) (ts : List Terminal) (t : ReferenceType) (us : List Terminal) → Gives (reference_at x ts) t us → (v : List ℕ) × (ts ≡ Word v ∷ us) × (reference_type v ≡ Some t)
unfolding reference_at
reference_sound y (Word w ∷ ts) t us h = by (reference_type w) refl h
  where
    by : (o : Option ReferenceType) → reference_type w ≡ o → Gives (reference_by y o (Word w ∷ ts) ts) t us → (v : List ℕ) × (Word w ∷ ts ≡ Word v ∷ us) × (reference_type v ≡ Some t)
    by (Some u) e g = (w, ap (λ x. Word w ∷ x) g.1, e ∙ ap (λ x. Some x) g.0)
    by None e g = absurd g
reference_sound y [] t us h = absurd h
reference_sound y (Open ∷ ts) t us h = absurd h
reference_sound y (Close ∷ ts) t us h = absurd h
reference_sound y (Id x ∷ ts) t us h = absurd h
reference_sound y (Integer s n ∷ ts) t us h = absurd h
reference_sound y (Text v ∷ ts) t us h = absurd h
reference_sound y (Float narrow wide ∷ ts) t us h = absurd h
reference_sound y (Other ∷ ts) t us h = absurd h

reference_complete : (x : Expected) (v : List ℕ) (t : ReferenceType) (us : List Terminal) → reference_type v ≡ Some t → reference_at x (Word v ∷ us) ≡ Ok (t, us)
unfolding reference_at
reference_complete x v t us e = ap (λ o. reference_by x o (Word v ∷ us) us) e

-- Types of tables.

pub record IsTableType (ts : List Terminal) (t : TableType) (us : List Terminal) : Type 0 where
  pub v : List ℕ
  pub limits : LimitsAre ts t.limits (Word v ∷ us)
  pub element : reference_type v ≡ Some t.element

pub table_type_sound : (y : Expected) (ts : List Terminal) (t : TableType) (us : List Terminal) → Gives (table_type_at y ts) t us → IsTableType ts t us
unfolding table_type_at
table_type_sound y ts t us g =
    let (l, hs, e1, g1) = and_then_inv (limits_at y ts) (λ limits us. and_then (reference_at (after_table_limits limits.max) us) (λ t vs. Ok (table_type limits t, vs))) t us g in
    let (r, xs, e2, g2) = and_then_inv (reference_at (after_table_limits l.max) hs) (λ t vs. Ok (table_type l t, vs)) t us g1 in
    let (v, is, type) = reference_sound (after_table_limits l.max) hs r xs (gives_of _ r xs e2) in
    subst (λ x. IsTableType ts x us) g2.0 (subst (λ x. IsTableType ts (table_type l r) x) g2.1 (record { v = v; limits = subst (λ x. LimitsAre ts l x) is (limits_sound y ts l hs e1); element = type }))

pub table_type_complete : (x : Expected) (ts : List Terminal) (t : TableType) (us : List Terminal) → IsTableType ts t us → table_type_at x ts ≡ Ok (t, us)
unfolding table_type_at
table_type_complete x ts t us k =
    ap (λ q. and_then q (λ limits us. and_then (reference_at (after_table_limits limits.max) us) (λ t vs. Ok (table_type limits t, vs)))) (limits_complete x ts t.limits (Word k.v ∷ us) k.limits (λ n. refl))
    ∙ ap (λ q. and_then q (λ e vs. Ok (table_type t.limits e, vs))) (reference_complete (after_table_limits t.limits.max) k.v t.element us k.element)

pub table_type_pass : (ts : List Terminal) (t : TableType) (us : List Terminal) → IsTableType ts t us → Passes ts us
table_type_pass ts t us k = let p = limits_pass ts t.limits (Word k.v ∷ us) k.limits in let s = p.short in record { short = omega arith; same = λ d. p.same d }

-- Types of globals.

constant_sound : (y : Expected) (w : List ℕ) (ts : List Terminal) (g : GlobalType) (us : List Terminal) (o : Option ValueType) → value_type w ≡ o → Gives (constant_by y o (Word w ∷ ts) ts) g us → GlobalTypeIs (Word w ∷ ts) g us
constant_sound y w ts g us (Some t) e h = subst (λ x. GlobalTypeIs (Word w ∷ ts) x us) h.0 (subst (λ x. GlobalTypeIs (Word w ∷ ts) (global_type false t) x) h.1 (by_constant e))
constant_sound y w ts g us None e h = absurd h

mutable_by_sound : (v w : List ℕ) (ts : List Terminal) (g : GlobalType) (us : List Terminal) (o : Option ValueType) → v ≡ codes "mut" → value_type w ≡ o → Gives (mutable_by o (Word w ∷ ts) ts) g us → GlobalTypeIs (Open ∷ Word v ∷ Word w ∷ ts) g us
mutable_by_sound v w ts g us (Some t) m e h =
    let (same, shut) = closing_inv (global_type true t) g (closed ts) us h in
    subst (λ x. GlobalTypeIs (Open ∷ Word v ∷ Word w ∷ x) g us) (sym (closed_is ts us shut)) (subst (λ x. GlobalTypeIs (Open ∷ Word v ∷ Word w ∷ Close ∷ us) x us) same (by_mutable m e))
mutable_by_sound v w ts g us None m e h = absurd h

mutable_type_sound : (v : List ℕ) (ts : List Terminal) (g : GlobalType) (us : List Terminal) → v ≡ codes "mut" → Gives (mutable_type ts) g us → GlobalTypeIs (Open ∷ Word v ∷ ts) g us
mutable_type_sound v (Word w ∷ ts) g us m h = mutable_by_sound v w ts g us (value_type w) m refl h
mutable_type_sound v [] g us m h = absurd h
mutable_type_sound v (Open ∷ ts) g us m h = absurd h
mutable_type_sound v (Close ∷ ts) g us m h = absurd h
mutable_type_sound v (Id x ∷ ts) g us m h = absurd h
mutable_type_sound v (Integer s n ∷ ts) g us m h = absurd h
mutable_type_sound v (Text x ∷ ts) g us m h = absurd h
mutable_type_sound v (Float narrow wide ∷ ts) g us m h = absurd h
mutable_type_sound v (Other ∷ ts) g us m h = absurd h

mutable_word_sound : (v : List ℕ) (ts : List Terminal) (g : GlobalType) (us : List Terminal) (b : Bool) → bytes_eq v (codes "mut") ≡ b → Gives (if b then mutable_type ts else Err (Unexpected expected.Mut, Word v ∷ ts)) g us → GlobalTypeIs (Open ∷ Word v ∷ ts) g us
mutable_word_sound v ts g us true e h = mutable_type_sound v ts g us (word_is v (codes "mut") e) h
mutable_word_sound v ts g us false e h = absurd h

mutable_sound : (ts : List Terminal) (g : GlobalType) (us : List Terminal) → Gives (mutable_at ts) g us → GlobalTypeIs (Open ∷ ts) g us
mutable_sound (Word v ∷ ts) g us h = mutable_word_sound v ts g us (bytes_eq v (codes "mut")) refl h
mutable_sound [] g us h = absurd h
mutable_sound (Open ∷ ts) g us h = absurd h
mutable_sound (Close ∷ ts) g us h = absurd h
mutable_sound (Id x ∷ ts) g us h = absurd h
mutable_sound (Integer s n ∷ ts) g us h = absurd h
mutable_sound (Text v ∷ ts) g us h = absurd h
mutable_sound (Float narrow wide ∷ ts) g us h = absurd h
mutable_sound (Other ∷ ts) g us h = absurd h

pub global_type_sound : (y : Expected) (ts : List Terminal) (g : GlobalType) (us : List Terminal) → Gives (global_type_at y ts) g us → GlobalTypeIs ts g us
unfolding global_type_at
global_type_sound y (Word w ∷ ts) g us h = constant_sound y w ts g us (value_type w) refl h
global_type_sound y (Open ∷ ts) g us h = mutable_sound ts g us h
global_type_sound y [] g us h = absurd h
global_type_sound y (Close ∷ ts) g us h = absurd h
global_type_sound y (Id x ∷ ts) g us h = absurd h
global_type_sound y (Integer s n ∷ ts) g us h = absurd h
global_type_sound y (Text v ∷ ts) g us h = absurd h
global_type_sound y (Float narrow wide ∷ ts) g us h = absurd h
global_type_sound y (Other ∷ ts) g us h = absurd h

pub global_type_complete : (y : Expected) (ts : List Terminal) (g : GlobalType) (us : List Terminal) → GlobalTypeIs ts g us → global_type_at y ts ≡ Ok (g, us)
unfolding global_type_at
global_type_complete y _ _ us (by_constant {w = w} e) = ap (λ o. constant_by y o (Word w ∷ us) us) e
global_type_complete y _ _ us (by_mutable {v = v} {w = w} m e) =
    ap (λ (b : Bool). if b then mutable_type (Word w ∷ Close ∷ us) else Err (Unexpected expected.Mut, Word v ∷ Word w ∷ Close ∷ us)) (is_word v (codes "mut") m) ∙ ap (λ o. mutable_by o (Word w ∷ Close ∷ us) (Close ∷ us)) e

pub global_type_pass : (ts : List Terminal) (g : GlobalType) (us : List Terminal) → GlobalTypeIs ts g us → Passes ts us
global_type_pass _ _ us (by_constant e) = record { short = omega arith; same = λ d. refl }
global_type_pass _ _ us (by_mutable m e) = record { short = omega arith; same = λ d. refl }

pub global_type_no_import : (ts : List Terminal) (g : GlobalType) (us : List Terminal) → GlobalTypeIs ts g us → after (codes "import") ts ≡ None
global_type_no_import _ _ us (by_constant e) = refl
global_type_no_import _ _ us (by_mutable {v = v} {w = w} m e) = subst (λ x. after (codes "import") (Open ∷ Word x ∷ Word w ∷ Close ∷ us) ≡ None) (sym m) refl

pub global_type_no_export : (ts : List Terminal) (g : GlobalType) (us : List Terminal) → GlobalTypeIs ts g us → export_item ts ≡ None
unfolding export_item
global_type_no_export _ _ us (by_constant e) = refl
global_type_no_export _ _ us (by_mutable {v = v} {w = w} m e) = subst (λ x. export_item (Open ∷ Word x ∷ Word w ∷ Close ∷ us) ≡ None) (sym m) refl

-- Indices.

named_sound : (k : Space) (ls : List Label) (x : List ℕ) (ts : List Terminal) (i : ℕ) (us : List Terminal) (o : Option ℕ) → position 0 x ls ≡ o → Gives (named k o (Id x ∷ ts) ts) i us → IndexIs ls (Id x ∷ ts) i us
named_sound k ls x ts i us (Some n) e h = subst (λ y. IndexIs ls (Id x ∷ ts) y us) h.0 (subst (λ y. IndexIs ls (Id x ∷ ts) n y) h.1 (by_identifier e))
named_sound k ls x ts i us None e h = absurd h

number_sound : (ls : List Label) (s : Sign) (n : ℕ) (ts : List Terminal) (i : ℕ) (us : List Terminal) → (s ≡ sign.Absent) × (is_u32 n ≡ true) × (n ≡ i) × (ts ≡ us) → IndexIs ls (Integer s n ∷ ts) i us
number_sound ls s n ts i us (a, l, e, f) = subst (λ x. IndexIs ls (Integer x n ∷ ts) i us) (sym a) (subst (λ x. IndexIs ls (Integer sign.Absent n ∷ ts) x us) e (subst (λ x. IndexIs ls (Integer sign.Absent n ∷ ts) n x) f (by_number l)))

pub index_sound : (k : Space) (ls : List Label) (ts : List Terminal) (i : ℕ) (us : List Terminal) → Gives (index k ls ts) i us → IndexIs ls ts i us
index_sound k ls (Integer s n ∷ ts) i us h = number_sound ls s n ts i us (small_inv s n i (Integer s n ∷ ts) ts us h)
index_sound k ls (Id x ∷ ts) i us h = named_sound k ls x ts i us (position 0 x ls) refl h
index_sound k ls [] i us h = absurd h
index_sound k ls (Open ∷ ts) i us h = absurd h
index_sound k ls (Close ∷ ts) i us h = absurd h
index_sound k ls (Word w ∷ ts) i us h = absurd h
index_sound k ls (Text v ∷ ts) i us h = absurd h
index_sound k ls (Float narrow wide ∷ ts) i us h = absurd h
index_sound k ls (Other ∷ ts) i us h = absurd h

pub index_complete : (k : Space) (ls : List Label) (ts : List Terminal) (i : ℕ) (us : List Terminal) → IndexIs ls ts i us → index k ls ts ≡ Ok (i, us)
index_complete k ls _ i us (by_number e) = small_is i (Integer sign.Absent i ∷ us) us e
index_complete k ls _ i us (by_identifier {x = x} e) = ap (λ o. named k o (Id x ∷ us) us) e

pub index_pass : (ls : List Label) (ts : List Terminal) (i : ℕ) (us : List Terminal) → IndexIs ls ts i us → Passes ts us
index_pass ls _ i us (by_number e) = record { short = omega arith; same = λ d. refl }
index_pass ls _ i us (by_identifier e) = record { short = omega arith; same = λ d. refl }

-- `)` and `)`.

pub twice_closed_or_is : (e : Expected) (ts r : List Terminal) → GivesAll (skip_two_closes_or e ts) r → ts ≡ Close ∷ Close ∷ r
twice_closed_or_is e (Close ∷ ts) r h = ap (λ x. Close ∷ x) (closed_is ts r h)
twice_closed_or_is e [] r h = absurd h
twice_closed_or_is e (Open ∷ ts) r h = absurd h
twice_closed_or_is e (Word w ∷ ts) r h = absurd h
twice_closed_or_is e (Id x ∷ ts) r h = absurd h
twice_closed_or_is e (Integer s n ∷ ts) r h = absurd h
twice_closed_or_is e (Text v ∷ ts) r h = absurd h
twice_closed_or_is e (Float narrow wide ∷ ts) r h = absurd h
twice_closed_or_is e (Other ∷ ts) r h = absurd h

pub twice_closed_is : (ts r : List Terminal) → GivesAll (skip_two_closes ts) r → ts ≡ Close ∷ Close ∷ r
twice_closed_is ts r h = twice_closed_or_is expected.Close ts r h
