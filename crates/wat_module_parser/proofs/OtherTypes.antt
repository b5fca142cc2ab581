-- Fields in a context with other types: with more types they are the same; without types they add the same types.
use Rattle.std.proofs.Common.{◌≡◌, ◌⊎◌, inl, inr, ℕ, zero, suc, Bool, true, false, List, [], ◌∷◌, ◌++◌, length, Some, None, refl, sym, ap, subst, ◌∙◌, map, append-nil}
use Rattle.std.specs.Prelude.{if◌then◌else◌, codes, slice_get}
use Rattle.std.specs.List.{flat_map}
use Rattle.std.proofs.lemmas.Grind.{flat_map-append}
use Rattle.wat_module_ast.specs.declared.instruction.Instruction.{Instruction}
use Rattle.wat_module_ast.specs.declared.instruction.ReferenceType.{ReferenceType}
use Rattle.wat_module_ast.specs.declared.instruction.ReferenceType.TheVariants as reference
use Rattle.wat_module_ast.specs.declared.instruction.ValueType.{ValueType}
use Rattle.wat_module_ast.specs.Grammar.{Context, by_group, Instructions, is_name, label_of, position}
use Rattle.wat_module_ast.specs.Names.{are_distinct}
use Rattle.wat_module_tokens.specs.Terminals.{Terminal, Open, Close, Label}
use Rattle.wat_module_ast.specs.Types.{FunctionType, Types, added_types}
use Rattle.wat_module_ast.specs.Uses.{AreAmong, MoreTypesKeep, UnknownTypesBring, with_more_types, expression_types, unknown, retyped}
use Rattle.wat_module_ast.specs.declared.fields.IndexSpace.{IndexSpace}
use Rattle.wat_module_ast.specs.Fields.{Variable, NamedUse, named_use, unnamed, name_of, type_of, without_names, label_associations, local_associations, ExternType, FuncType, Elements, target, Many, by_none, by_more, TypeUseIs, by_lists, by_index, by_both, by_unknown, ExternIs, by_type_use, by_table_type, by_memory_type, by_global_type, ExpressionIs, by_word_expression, by_instruction, ItemIs, by_item, FunctionIs, by_function, ElementsAre, by_items, by_functions, Field, Function, Func, Import, Global, Table, Elem, Passive, Active, Declarative, Data, is_u32, table_of, FieldIs, by_type, by_import, by_inline_import, by_func, by_table, by_table_items, by_table_functions, by_memory, by_memory_data, by_global, by_export, by_start, by_passive_elem, by_declarative_elem, by_active_elem, by_function_elem, by_passive_data, by_active_data}
use Rattle.wat_module_ast.specs.ImplicitTypes.{extern_types, field_types}

never : {A : Type 0} (same : Bool) → same ≡ false → same ≡ true → A
never true e k = cc
never false e k = cc

-- Names.

found_from : (x : List ℕ) (k j n : ℕ) (ls : List Label) → position k x ls ≡ Some n → (m : ℕ) × (position j x ls ≡ Some m)
found_from x k j n [] e = cc
found_from x k j n (l ∷ ls) e = by (is_name x l) (λ f. found_from x (suc k) (suc j) n ls f) e
  where
    by : (b : Bool) → (position (suc k) x ls ≡ Some n → (m : ℕ) × (position (suc j) x ls ≡ Some m)) → (if b then Some k else position (suc k) x ls) ≡ Some n → (m : ℕ) × ((if b then Some j else position (suc j) x ls) ≡ Some m)
    by true g f = (j, refl)
    by false g f = g f

nameless_among : (types : List ValueType) (vs : List Variable) → AreAmong (map name_of (map unnamed types ++ vs)) (map name_of vs)
nameless_among [] vs x n e = (n, e)
nameless_among (t ∷ types) vs x n e = let m = found_from x 1 0 n (map name_of (map unnamed types ++ vs)) e in nameless_among types vs x m.0 m.1

nameless_distinct : (types : List ValueType) (vs : List Variable) → are_distinct (map name_of (map unnamed types ++ vs)) ≡ are_distinct (map name_of vs)
nameless_distinct [] vs = refl
nameless_distinct (t ∷ types) vs = nameless_distinct types vs

-- the same parameters; or, where that is not asked, some without names, and none
abbrev LikeParams : Bool → List Variable → List Variable → Type 0
LikeParams same ps qs = (ps ≡ qs) ⊎ ((same ≡ false) × (types : List ValueType) × (ps ≡ map unnamed types) × (qs ≡ []))

params_among : (same : Bool) (ps qs vs : List Variable) → LikeParams same ps qs → AreAmong (map name_of (ps ++ vs)) (map name_of (qs ++ vs))
params_among same ps qs vs (inl e) = subst (λ x. AreAmong (map name_of (ps ++ vs)) (map name_of (x ++ vs))) e (λ x n f. (n, f))
params_among same ps qs vs (inr (f, types, e, g)) = subst (λ x. AreAmong (map name_of (x ++ vs)) (map name_of (qs ++ vs))) (sym e) (subst (λ x. AreAmong (map name_of (map unnamed types ++ vs)) (map name_of (x ++ vs))) (sym g) (nameless_among types vs))

params_distinct : (same : Bool) (ps qs vs : List Variable) → LikeParams same ps qs → are_distinct (map name_of (ps ++ vs)) ≡ true → are_distinct (map name_of (qs ++ vs)) ≡ true
params_distinct same ps qs vs (inl e) d = subst (λ x. are_distinct (map name_of (x ++ vs)) ≡ true) e d
params_distinct same ps qs vs (inr (f, types, e, g)) d = ap (λ x. are_distinct (map name_of (x ++ vs))) g ∙ sym (nameless_distinct types vs) ∙ sym (ap (λ x. are_distinct (map name_of (x ++ vs))) e) ∙ d

alone_distinct : (same : Bool) (ps qs : List Variable) → LikeParams same ps qs → are_distinct (map name_of ps) ≡ true → are_distinct (map name_of qs) ≡ true
alone_distinct same ps qs l d = subst (λ x. are_distinct (map name_of x) ≡ true) (append-nil qs) (params_distinct same ps qs [] l (subst (λ x. are_distinct (map name_of x) ≡ true) (sym (append-nil ps)) d))

names_equal : (same : Bool) (ps qs vs : List Variable) → (same ≡ true → ps ≡ qs) → same ≡ true → map name_of (ps ++ vs) ≡ map name_of (qs ++ vs)
names_equal same ps qs vs e k = ap (λ x. map name_of (x ++ vs)) (e k)

-- Type uses.

record LikeUse (same : Bool) (others : Types) (ts : List Terminal) (u : NamedUse) (us : List Terminal) : Type 0 where
  v : NamedUse
  spelled : TypeUseIs others ts v us
  equal : same ≡ true → u ≡ v
  brings : added_types (without_names u) ≡ added_types (without_names v)
  params : LikeParams same u.params v.params

get_more : (ts more : List FunctionType) (i : ℕ) (t : FunctionType) → slice_get ts i ≡ Some t → slice_get (ts ++ more) i ≡ Some t
get_more [] more i t e = cc
get_more (u ∷ us) more zero t e = e
get_more (u ∷ us) more (suc i) t e = get_more us more i t e

the_same : (same : Bool) (others : Types) (ts : List Terminal) (u : NamedUse) (us : List Terminal) → TypeUseIs others ts u us → LikeUse same others ts u us
the_same same others ts u us h = record { v = u; spelled = h; equal = λ k. refl; brings = refl; params = inl refl }

uses_more : (types : Types) (more : List FunctionType) (ts : List Terminal) (u : NamedUse) (us : List Terminal) → TypeUseIs types ts u us → LikeUse true (with_more_types more types) ts u us
uses_more types more _ _ us (by_lists a b) = the_same true (with_more_types more types) _ _ us (by_lists a b)
uses_more types more _ _ us (by_index {i = i} {t = t} q e n s a b) = the_same true (with_more_types more types) _ _ us (by_index q e n (get_more types.types more i t s) a b)
uses_more types more _ _ us (by_both {i = i} q e n s a b) = the_same true (with_more_types more types) _ _ us (by_both q e n (get_more types.types more i _ s) a b)
uses_more types more _ _ us (by_unknown q e n a b) = the_same true (with_more_types more types) _ _ us (by_unknown q e n a b)

uses_unknown : (types : Types) (ts : List Terminal) (u : NamedUse) (us : List Terminal) → TypeUseIs types ts u us → LikeUse false (unknown types) ts u us
uses_unknown types _ _ us (by_lists a b) = the_same false (unknown types) _ _ us (by_lists a b)
uses_unknown types _ _ us (by_index {i = i} {t = t} q e n s a b) = record { v = named_use (Some i) [] []; spelled = by_unknown refl e n a b; equal = λ k. never false refl k; brings = refl; params = inr (refl, t.params, refl, refl) }
uses_unknown types _ _ us (by_both q e n s a b) = the_same false (unknown types) _ _ us (by_unknown refl e n a b)
uses_unknown types _ _ us (by_unknown q e n a b) = the_same false (unknown types) _ _ us (by_unknown refl e n a b)

-- Instructions.

record LikeCode (same : Bool) (context : Context) (ls : List Label) (folded : Bool) (ts : List Terminal) (is : List Instruction) (r : List Terminal) : Type 0 where
  js : List Instruction
  spelled : Instructions context ls folded ts js r
  equal : same ≡ true → is ≡ js
  brings : expression_types is ≡ expression_types js

-- Other types instead of those of a context.
pub record Change (same : Bool) (context : Context) (others : Types) : Type 0 where
  uses : (ts : List Terminal) (u : NamedUse) (us : List Terminal) → TypeUseIs context.types ts u us → LikeUse same others ts u us
  code : (ls ms labels : List Label) (folded : Bool) (ts : List Terminal) (is : List Instruction) (r : List Terminal) → (same ≡ true → ls ≡ ms) → AreAmong ls ms → Instructions (retyped context.types ls context) labels folded ts is r → LikeCode same (retyped others ms context) labels folded ts is r

pub more_types : MoreTypesKeep → (context : Context) (more : List FunctionType) → Change true context (with_more_types more context.types)
more_types law context more = record {
  uses = uses_more context.types more;
  code = λ ls ms labels folded ts is r e a h. record {
    js = is;
    spelled = subst (λ x. Instructions (retyped (with_more_types more context.types) x context) labels folded ts is r) (e refl) (law (retyped context.types ls context) more labels folded ts is r h);
    equal = λ k. refl;
    brings = refl;
  };
}

pub no_types : UnknownTypesBring → (context : Context) → Change false context (unknown context.types)
no_types law context = record {
  uses = uses_unknown context.types;
  code = λ ls ms labels folded ts is r e a h. let f = law (retyped context.types ls context) ms labels folded ts is r a h in record { js = f.others; spelled = f.spelled; equal = λ k. never false refl k; brings = f.brings };
}

-- the same without local variables
own_code : (same : Bool) (context : Context) (others : Types) → Change same context others → (labels : List Label) (folded : Bool) (ts : List Terminal) (is : List Instruction) (r : List Terminal) → Instructions context labels folded ts is r → LikeCode same (retyped others context.locals context) labels folded ts is r
own_code same context others c labels folded ts is r h = c.code context.locals context.locals labels folded ts is r (λ k. refl) (λ x n e. (n, e)) h

abbrev changed : Types → Context → Context
changed others context = retyped others context.locals context

-- What is imported.

record LikeExtern (same : Bool) (others : Types) (s : IndexSpace) (ts : List Terminal) (t : ExternType) (us : List Terminal) : Type 0 where
  u : ExternType
  spelled : ExternIs others s ts u us
  equal : same ≡ true → t ≡ u
  brings : extern_types t ≡ extern_types u

extern_like : (same : Bool) (context : Context) (others : Types) → Change same context others → (s : IndexSpace) (ts : List Terminal) (t : ExternType) (us : List Terminal) → ExternIs context.types s ts t us → LikeExtern same others s ts t us
extern_like same context others c _ _ _ us (by_type_use {ts = ts} {u = u} h d) =
    let l = c.uses ts u us h in record { u = FuncType (without_names l.v); spelled = by_type_use l.spelled (alone_distinct same u.params l.v.params l.params d); equal = λ k. ap (λ x. FuncType (without_names x)) (l.equal k); brings = l.brings }
extern_like same context others c _ _ _ us (by_table_type a b) = record { u = _; spelled = by_table_type a b; equal = λ k. refl; brings = refl }
extern_like same context others c _ _ _ us (by_memory_type a) = record { u = _; spelled = by_memory_type a; equal = λ k. refl; brings = refl }
extern_like same context others c _ _ _ us (by_global_type a) = record { u = _; spelled = by_global_type a; equal = λ k. refl; brings = refl }

-- Expressions and elements.

record LikeExpression (same : Bool) (word : List ℕ) (context : Context) (ts : List Terminal) (is : List Instruction) (r : List Terminal) : Type 0 where
  js : List Instruction
  spelled : ExpressionIs word context ts js r
  equal : same ≡ true → is ≡ js
  brings : expression_types is ≡ expression_types js

expression_like : (same : Bool) (context : Context) (others : Types) → Change same context others → (word : List ℕ) (ts : List Terminal) (is : List Instruction) (r : List Terminal) → ExpressionIs word context ts is r → LikeExpression same word (changed others context) ts is r
expression_like same context others c word _ _ r (by_word_expression {ts = ts} {is = is} e h) = let l = own_code same context others c (None ∷ []) false ts is (Close ∷ r) h in record { js = l.js; spelled = by_word_expression e l.spelled; equal = l.equal; brings = l.brings }
expression_like same context others c word _ _ r (by_instruction (by_group {ts = ts} {is = is} h e)) = let l = own_code same context others c [] true (Open ∷ ts) is r h in record { js = l.js; spelled = by_instruction (by_group l.spelled e); equal = l.equal; brings = l.brings }

record LikeElements (same : Bool) (context : Context) (ts : List Terminal) (es : Elements) (r : List Terminal) : Type 0 where
  fs : Elements
  spelled : Many (ItemIs context) ts fs r
  equal : same ≡ true → es ≡ fs
  count : length es ≡ length fs
  brings : flat_map expression_types es ≡ flat_map expression_types fs

items_like : (same : Bool) (context : Context) (others : Types) → Change same context others → (ts : List Terminal) (es : Elements) (r : List Terminal) → Many (ItemIs context) ts es r → LikeElements same (changed others context) ts es r
items_like same context others c _ _ r by_none = record { fs = []; spelled = by_none; equal = λ k. refl; count = refl; brings = refl }
items_like same context others c _ _ r (by_more {us = us} {ws = es} (by_item {ts = ts} {is = is} h) rest) =
    let l = expression_like same context others c (codes "item") ts is us h in
    let m = items_like same context others c us es r rest in record {
      fs = l.js ∷ m.fs;
      spelled = by_more (by_item l.spelled) m.spelled;
      equal = λ k. ap (λ x. x ∷ es) (l.equal k) ∙ ap (λ x. l.js ∷ x) (m.equal k);
      count = ap suc m.count;
      brings = ap (λ x. x ++ flat_map expression_types es) l.brings ∙ ap (λ x. expression_types l.js ++ x) m.brings;
    }

functions_kept : (context : Context) (others : Types) (ts : List Terminal) (es : Elements) (r : List Terminal) → Many (FunctionIs context) ts es r → Many (FunctionIs (changed others context)) ts es r
functions_kept context others _ _ r by_none = by_none
functions_kept context others _ _ r (by_more {us = us} {ws = es} (by_function h) rest) = by_more (by_function h) (functions_kept context others us es r rest)

record LikeList (same : Bool) (context : Context) (ts : List Terminal) (t : ReferenceType) (es : Elements) (r : List Terminal) : Type 0 where
  fs : Elements
  spelled : ElementsAre context ts t fs r
  equal : same ≡ true → es ≡ fs
  brings : flat_map expression_types es ≡ flat_map expression_types fs

list_like : (same : Bool) (context : Context) (others : Types) → Change same context others → (ts : List Terminal) (t : ReferenceType) (es : Elements) (r : List Terminal) → ElementsAre context ts t es r → LikeList same (changed others context) ts t es r
list_like same context others c _ t _ r (by_items {ts = ts} {es = es} e m) = let l = items_like same context others c ts es r m in record { fs = l.fs; spelled = by_items e l.spelled; equal = l.equal; brings = l.brings }
list_like same context others c _ _ _ r (by_functions {ts = ts} {es = es} e m) = record { fs = es; spelled = by_functions e (functions_kept context others ts es r m); equal = λ k. refl; brings = refl }

-- Fields.

record LikeFields (same : Bool) (others : Types) (context : Context) (ts : List Terminal) (fs : List Field) (r : List Terminal) : Type 0 where
  gs : List Field
  spelled : FieldIs others (changed others context) ts gs r
  equal : same ≡ true → fs ≡ gs
  brings : flat_map field_types fs ≡ flat_map field_types gs

abbrev function : Label → List (List ℕ) → List Variable → List Terminal → NamedUse → List Instruction → Function
function l ns ls ts u is = record { name = l; exports = ns; uses = without_names u; locals = map type_of ls; body = is; local_names = local_associations u.params ls; label_names = label_associations ts }

one : (f g : Field) → field_types f ≡ field_types g → flat_map field_types (f ∷ []) ≡ flat_map field_types (g ∷ [])
one f g e = ap (λ x. x ++ []) e

kept : (same : Bool) (others : Types) (context : Context) (ts : List Terminal) (fs : List Field) (r : List Terminal) → FieldIs others (changed others context) ts fs r → LikeFields same others context ts fs r
kept same others context ts fs r h = record { gs = fs; spelled = h; equal = λ k. refl; brings = refl }

field_like : (same : Bool) (context : Context) (others : Types) → Change same context others → (ts : List Terminal) (fs : List Field) (r : List Terminal) → FieldIs context.types context ts fs r → LikeFields same others context ts fs r
field_like same context others c _ _ r (by_type a b d e f) = kept same others context _ _ r (by_type a b d e f)
field_like same context others c _ _ r (by_import {m = m} {n = n} {ts = ts} {s = s} {t = t} e a b k x) =
    let l = extern_like same context others c s (label_of ts).1 t (Close ∷ Close ∷ r) x in
    record { gs = Import m n (label_of ts).0 [] l.u ∷ []; spelled = by_import e a b k l.spelled; equal = λ k. ap (λ x. Import m n (label_of ts).0 [] x ∷ []) (l.equal k); brings = one (Import m n (label_of ts).0 [] t) (Import m n (label_of ts).0 [] l.u) l.brings }
field_like same context others c _ _ r (by_inline_import {m = m} {n = n} {ts = ts} {us = us} {names = ns} {s = s} {t = t} e k i a b x) =
    let l = extern_like same context others c s us t (Close ∷ r) x in
    record { gs = Import m n (label_of ts).0 ns l.u ∷ []; spelled = by_inline_import e k i a b l.spelled; equal = λ k. ap (λ x. Import m n (label_of ts).0 ns x ∷ []) (l.equal k); brings = one (Import m n (label_of ts).0 ns t) (Import m n (label_of ts).0 ns l.u) l.brings }
field_like same context others c _ _ r (by_func {ts = ts} {hs = hs} {bs = bs} {ds = ds} {names = ns} {u = u} {locals = ls} {is = is} e k t a d b) =
    let l = c.uses hs u bs t in
    let m = c.code (map name_of (u.params ++ ls)) (map name_of (l.v.params ++ ls)) (None ∷ []) false ds is (Close ∷ r) (names_equal same u.params l.v.params ls (λ k. ap (λ x. x.params) (l.equal k))) (params_among same u.params l.v.params ls l.params) b in record {
      gs = Func (function (label_of ts).0 ns ls ds l.v m.js) ∷ [];
      spelled = by_func e k l.spelled a (params_distinct same u.params l.v.params ls l.params d) m.spelled;
      equal = λ k. ap (λ x. Func (function (label_of ts).0 ns ls ds x is) ∷ []) (l.equal k) ∙ ap (λ x. Func (function (label_of ts).0 ns ls ds l.v x) ∷ []) (m.equal k);
      brings = one (Func (function (label_of ts).0 ns ls ds u is)) (Func (function (label_of ts).0 ns ls ds l.v m.js)) (ap (λ x. x ++ expression_types is) l.brings ∙ ap (λ x. added_types (without_names l.v) ++ x) m.brings);
    }
field_like same context others c _ _ r (by_table a b d e) = kept same others context _ _ r (by_table a b d e)
field_like same context others c _ _ r (by_table_items {ts = ts} {hs = hs} {names = ns} {t = t} {es = es} e a k b m low) =
    let l = items_like same context others c hs es (Close ∷ Close ∷ r) m in record {
      gs = Table (label_of ts).0 ns (table_of t l.fs) (Some l.fs) ∷ [];
      spelled = by_table_items e a k b l.spelled (subst (λ x. is_u32 x ≡ true) l.count low);
      equal = λ k. ap (λ x. Table (label_of ts).0 ns (table_of t x) (Some x) ∷ []) (l.equal k);
      brings = one (Table (label_of ts).0 ns (table_of t es) (Some es)) (Table (label_of ts).0 ns (table_of t l.fs) (Some l.fs)) l.brings;
    }
field_like same context others c _ _ r (by_table_functions {hs = hs} {es = es} e a k b m low) = kept same others context _ _ r (by_table_functions e a k b (functions_kept context others hs es (Close ∷ Close ∷ r) m) low)
field_like same context others c _ _ r (by_memory a b d) = kept same others context _ _ r (by_memory a b d)
field_like same context others c _ _ r (by_memory_data a b d e f) = kept same others context _ _ r (by_memory_data a b d e f)
field_like same context others c _ _ r (by_global {ts = ts} {bs = bs} {names = ns} {t = t} {is = is} e a b d) =
    let l = own_code same context others c (None ∷ []) false bs is (Close ∷ r) d in
    record { gs = Global (label_of ts).0 ns t l.js ∷ []; spelled = by_global e a b l.spelled; equal = λ k. ap (λ x. Global (label_of ts).0 ns t x ∷ []) (l.equal k); brings = one (Global (label_of ts).0 ns t is) (Global (label_of ts).0 ns t l.js) l.brings }
field_like same context others c _ _ r (by_export a b d e) = kept same others context _ _ r (by_export a b d e)
field_like same context others c _ _ r (by_start a b) = kept same others context _ _ r (by_start a b)
field_like same context others c _ _ r (by_passive_elem {ts = ts} {t = t} {es = es} e a) =
    let l = list_like same context others c (label_of ts).1 t es (Close ∷ r) a in
    record { gs = Elem (label_of ts).0 Passive t l.fs ∷ []; spelled = by_passive_elem e l.spelled; equal = λ k. ap (λ x. Elem (label_of ts).0 Passive t x ∷ []) (l.equal k); brings = one (Elem (label_of ts).0 Passive t es) (Elem (label_of ts).0 Passive t l.fs) l.brings }
field_like same context others c _ _ r (by_declarative_elem {ts = ts} {ds = ds} {t = t} {es = es} e a b d) =
    let l = list_like same context others c ds t es (Close ∷ r) d in
    record { gs = Elem (label_of ts).0 Declarative t l.fs ∷ []; spelled = by_declarative_elem e a b l.spelled; equal = λ k. ap (λ x. Elem (label_of ts).0 Declarative t x ∷ []) (l.equal k); brings = one (Elem (label_of ts).0 Declarative t es) (Elem (label_of ts).0 Declarative t l.fs) l.brings }
field_like same context others c _ _ r (by_active_elem {ts = ts} {os = os} {bs = bs} {i = i} {is = is} {t = t} {es = es} e u o a) =
    let m = expression_like same context others c (codes "offset") os is bs o in
    let l = list_like same context others c bs t es (Close ∷ r) a in record {
      gs = Elem (label_of ts).0 (Active (target i m.js)) t l.fs ∷ [];
      spelled = by_active_elem e u m.spelled l.spelled;
      equal = λ k. ap (λ x. Elem (label_of ts).0 (Active (target i x)) t es ∷ []) (m.equal k) ∙ ap (λ x. Elem (label_of ts).0 (Active (target i m.js)) t x ∷ []) (l.equal k);
      brings = one (Elem (label_of ts).0 (Active (target i is)) t es) (Elem (label_of ts).0 (Active (target i m.js)) t l.fs) (ap (λ x. x ++ flat_map expression_types es) m.brings ∙ ap (λ x. expression_types m.js ++ x) l.brings);
    }
field_like same context others c _ _ r (by_function_elem {ts = ts} {bs = bs} {is = is} {es = es} e o a) =
    let m = expression_like same context others c (codes "offset") (label_of ts).1 is bs o in record {
      gs = Elem (label_of ts).0 (Active (target 0 m.js)) reference.Func es ∷ [];
      spelled = by_function_elem e m.spelled (functions_kept context others bs es (Close ∷ r) a);
      equal = λ k. ap (λ x. Elem (label_of ts).0 (Active (target 0 x)) reference.Func es ∷ []) (m.equal k);
      brings = one (Elem (label_of ts).0 (Active (target 0 is)) reference.Func es) (Elem (label_of ts).0 (Active (target 0 m.js)) reference.Func es) (ap (λ x. x ++ flat_map expression_types es) m.brings);
    }
field_like same context others c _ _ r (by_passive_data a b) = kept same others context _ _ r (by_passive_data a b)
field_like same context others c _ _ r (by_active_data {ts = ts} {os = os} {bs = bs} {i = i} {is = is} {bytes = bytes} e u o a) =
    let m = expression_like same context others c (codes "offset") os is bs o in
    record { gs = Data (label_of ts).0 (Some (target i m.js)) bytes ∷ []; spelled = by_active_data e u m.spelled a; equal = λ k. ap (λ x. Data (label_of ts).0 (Some (target i x)) bytes ∷ []) (m.equal k); brings = one (Data (label_of ts).0 (Some (target i is)) bytes) (Data (label_of ts).0 (Some (target i m.js)) bytes) m.brings }

-- All fields.
pub record LikeMany (same : Bool) (others : Types) (context : Context) (ts : List Terminal) (fs : List Field) (r : List Terminal) : Type 0 where
  pub gs : List Field
  pub spelled : Many (FieldIs others (changed others context)) ts gs r
  pub equal : same ≡ true → fs ≡ gs
  pub brings : flat_map field_types fs ≡ flat_map field_types gs

fields_like : (same : Bool) (context : Context) (others : Types) → Change same context others → (ts : List Terminal) (fs : List Field) (r : List Terminal) → Many (FieldIs context.types context) ts fs r → LikeMany same others context ts fs r
fields_like same context others c _ _ r by_none = record { gs = []; spelled = by_none; equal = λ k. refl; brings = refl }
fields_like same context others c _ _ r (by_more {ts = ts} {us = us} {vs = fs} {ws = hs} x rest) =
    let l = field_like same context others c ts fs us x in
    let m = fields_like same context others c us hs r rest in record {
      gs = l.gs ++ m.gs;
      spelled = by_more l.spelled m.spelled;
      equal = λ k. ap (λ x. x ++ hs) (l.equal k) ∙ ap (λ x. l.gs ++ x) (m.equal k);
      brings = flat_map-append field_types fs hs ∙ ap (λ x. x ++ flat_map field_types hs) l.brings ∙ ap (λ x. flat_map field_types l.gs ++ x) m.brings ∙ sym (flat_map-append field_types l.gs m.gs);
    }

-- with more types
pub more_fields : MoreTypesKeep → (context : Context) (more : List FunctionType) (ts : List Terminal) (fs : List Field) (r : List Terminal) → Many (FieldIs context.types context) ts fs r → Many (FieldIs (with_more_types more context.types) (retyped (with_more_types more context.types) context.locals context)) ts fs r
more_fields law context more ts fs r h =
    let l = fields_like true context (with_more_types more context.types) (more_types law context more) ts fs r h in
    let others = with_more_types more context.types in subst (λ x. Many (FieldIs others (changed others context)) ts x r) (sym (l.equal refl)) l.spelled

-- without the types
pub unknown_fields : UnknownTypesBring → (context : Context) (ts : List Terminal) (fs : List Field) (r : List Terminal) → Many (FieldIs context.types context) ts fs r → LikeMany false (unknown context.types) context ts fs r
unknown_fields law context ts fs r h = fields_like false context (unknown context.types) (no_types law context) ts fs r h
