-- Immediates, labels and block types have no structured control instruction.
use Rattle.std.proofs.Common.{◌≡◌, ℕ, zero, suc, Bool, true, false, List, [], ◌∷◌, Option, Some, None, Result, Ok, Err, refl, sym, ap, subst}
use Rattle.std.specs.Prelude.{if◌then◌else◌, not, is_some, bytes_eq, codes, nat_lt, slice_get, ◌||◌, ◌^◌, ℤ}
use Rattle.std.specs.Float.{binary32, binary64}
use Rattle.wat_floats.specs.Literals.{of_integer}
use Rattle.wat_module_ast.specs.declared.instruction.Argument.{Argument}
use Rattle.wat_module_ast.specs.declared.instruction.Argument.TheVariants as argument
use Rattle.wat_module_ast.specs.declared.instruction.Instruction.{Instruction}
use Rattle.wat_module_ast.specs.declared.instruction.Opcode.{Opcode}
use Rattle.wat_module_ast.specs.declared.error.Space.{Space}
use Rattle.wat_module_ast.specs.declared.error.Space.TheVariants as space
use Rattle.wat_module_ast.specs.declared.error.Range.{Range}
use Rattle.wat_module_ast.specs.declared.error.Range.TheVariants as range
use Rattle.wat_module_ast.specs.declared.error.FaultKind.TheVariants.{WrongLabel, OutOfRange, OtherType}
use Rattle.wat_module_tokens.specs.declared.token.Sign.{Sign}
use Rattle.wat_module_tokens.specs.declared.token.Sign.TheVariants as sign
use Rattle.wat_module_ast.specs.declared.instruction.ReferenceType.{ReferenceType}
use Rattle.wat_module_ast.specs.declared.instruction.ValueType.{ValueType}
use Rattle.wat_module_ast.specs.declared.table.Immediate.{Immediate}
use Rattle.wat_module_ast.specs.Branches.{Branches}
use Rattle.wat_module_ast.specs.declared.table.Immediate.TheVariants as immediate
use Rattle.wat_module_ast.specs.declared.vectors.Lane.TheVariants as lane
use Rattle.wat_module_ast.specs.Table.{Mnemonic, found, mnemonics}
use Rattle.wat_module_ast.specs.Types.{FunctionType, Types, TypeUse, Indexed, same_type}
use Rattle.wat_module_tokens.specs.Terminals.{Terminal, Open, Close, Word, Id, Integer, Text, Float, Other, Label}
use Rattle.wat_module_ast.specs.Grammar.{Context, Fault, plain, label_of, end_label, block_type}
use Rattle.wat_module_ast.specs.Grammar as grammar
use Rattle.wat_module_ast.specs.Memory as memory
use Rattle.wat_module_names_theorems.specs.BlockLabels as blocks
use Rattle.wat_module_names_theorems.specs.BlockLabels.{Structure, Structured, is_opaque, is_structural}
use Rattle.wat_module_names_theorems.specs.Bodies.{opcodes_in, structured_opcode}
use Rattle.wat_module_annotations.specs.declared.reading.Role.TheVariants as role
use Rattle.wat_module_annotations.specs.Items.{role_of}
use Rattle.wat_module_names_theorems.proofs.Filling.{Declares, Fills, IsWithin, close_declares, group_are, is_other, keyword_are, list_are, list_role, token_are, type_declares}
use Rattle.wat_module_names_theorems.proofs.Keywords.{same_word}
use Rattle.wat_module_names_theorems.proofs.PlainWords.{IsPlainRow, align_word, found_row, heap_word, offset_word, shape_word, value_word}

-- `Passes ts us`: the tokens `ts`, up to the rest `us`, have no structured control instruction, and their items can precede
-- instructions.
pub record Passes (ts us : List Terminal) : Type 0 where
  pub before : (xs : List Structured) (r : List Terminal) → Structure us xs r → Structure ts xs r
  pub fills : Fills ts us

-- `Ends ts us`: the same of the tokens up to the `)` of a group, and of those after it up to the rest `us`.
pub record Ends (ts us : List Terminal) : Type 0 where
  pub rest : List Terminal
  pub inner : Structure ts [] (Close ∷ rest)
  pub fills : Fills ts (Close ∷ rest)
  pub more : Passes rest us

-- `ListEnds ts us`: likewise, and the tokens up to the `)` are types.
pub record ListEnds (ts us : List Terminal) : Type 0 where
  pub ends : Ends ts us
  pub declares : Declares ts ends.rest

pub stay : (ts : List Terminal) → Passes ts ts
stay ts = record { before = λ xs r h. h; fills = λ r h. h }

is_within : (t : Terminal) → is_opaque t ≡ true → IsWithin t
is_within Open e = cc
is_within Close e = cc
is_within (Word w) e = tt
is_within (Id x) e = tt
is_within (Integer s n) e = tt
is_within (Text v) e = tt
is_within (Float narrow wide) e = tt
is_within Other e = tt

after_token : (t : Terminal) (ts us : List Terminal) → is_opaque t ≡ true → Passes ts us → Passes (t ∷ ts) us
after_token t ts us o h = record { before = λ xs r k. blocks.by_token o (h.before xs r k); fills = λ r k. token_are t ts r (is_within t o) (h.fills r k) }

after_id : (x : List ℕ) (ts : List Terminal) → Passes (Id x ∷ ts) ts
after_id x ts = after_token (Id x) ts ts refl (stay ts)

after_integer : (s : Sign) (n : ℕ) (ts : List Terminal) → Passes (Integer s n ∷ ts) ts
after_integer s n ts = after_token (Integer s n) ts ts refl (stay ts)

abbrev pub Keeps : {A : Type 0} → Result (A × List Terminal) Fault → List Terminal → Type 0
Keeps (Ok (a, us)) ts = Passes ts us
Keeps (Err f) ts = Unit {0}

abbrev pub Closing : {A : Type 0} → Result (A × List Terminal) Fault → List Terminal → Type 0
Closing (Ok (a, us)) ts = Ends ts us
Closing (Err f) ts = Unit {0}

named_keeps : (k : Space) (o : Option ℕ) (all ts : List Terminal) → Passes all ts → Keeps (grammar.named k o all ts) all
named_keeps k None all ts h = tt
named_keeps k (Some n) all ts h = h

small_by : (b : Bool) (r : Range) (n : ℕ) (all ts : List Terminal) → Passes all ts → Keeps (if b then Ok (n, ts) else Err (OutOfRange r, all)) all
small_by true r n all ts h = h
small_by false r n all ts h = tt

small_keeps : (s : Sign) (n : ℕ) (all ts : List Terminal) → Passes all ts → Keeps (grammar.small s n all ts) all
small_keeps sign.Absent n all ts h = small_by (nat_lt n (2 ^ 32)) (range.Unsigned (2 ^ 31)) n all ts h
small_keeps sign.Plus n all ts h = tt
small_keeps sign.Minus n all ts h = tt

index_keeps : (k : Space) (ls : List Label) (ts : List Terminal) → Keeps (grammar.index k ls ts) ts
index_keeps k ls [] = tt
index_keeps k ls (Integer s n ∷ ts) = small_keeps s n (Integer s n ∷ ts) ts (after_integer s n ts)
index_keeps k ls (Id x ∷ ts) = named_keeps k (grammar.position 0 x ls) (Id x ∷ ts) ts (after_id x ts)
index_keeps k ls (Open ∷ ts) = tt
index_keeps k ls (Close ∷ ts) = tt
index_keeps k ls (Word w ∷ ts) = tt
index_keeps k ls (Text v ∷ ts) = tt
index_keeps k ls (Float narrow wide ∷ ts) = tt
index_keeps k ls (Other ∷ ts) = tt

with_index_keeps : (q : Result (ℕ × List Terminal) Fault) (ts : List Terminal) → Keeps q ts → Keeps (grammar.with_index q) ts
with_index_keeps (Ok (n, us)) ts h = h
with_index_keeps (Err f) ts h = tt

i32_by_keeps : (s : Sign) (o : Option ℤ) (all ts : List Terminal) → Passes all ts → Keeps (grammar.i32_by s o all ts) all
i32_by_keeps s (Some n) all ts h = h
i32_by_keeps s None all ts h = tt

i64_by_keeps : (s : Sign) (o : Option ℤ) (all ts : List Terminal) → Passes all ts → Keeps (grammar.i64_by s o all ts) all
i64_by_keeps s (Some n) all ts h = h
i64_by_keeps s None all ts h = tt

i32_keeps : (ts : List Terminal) → Keeps (grammar.i32 ts) ts
i32_keeps [] = tt
i32_keeps (Integer s n ∷ ts) = i32_by_keeps s (grammar.signed (2 ^ 31) s n) (Integer s n ∷ ts) ts (after_integer s n ts)
i32_keeps (Id x ∷ ts) = tt
i32_keeps (Open ∷ ts) = tt
i32_keeps (Close ∷ ts) = tt
i32_keeps (Word w ∷ ts) = tt
i32_keeps (Text v ∷ ts) = tt
i32_keeps (Float narrow wide ∷ ts) = tt
i32_keeps (Other ∷ ts) = tt

i64_keeps : (ts : List Terminal) → Keeps (grammar.i64 ts) ts
i64_keeps [] = tt
i64_keeps (Integer s n ∷ ts) = i64_by_keeps s (grammar.signed (2 ^ 63) s n) (Integer s n ∷ ts) ts (after_integer s n ts)
i64_keeps (Id x ∷ ts) = tt
i64_keeps (Open ∷ ts) = tt
i64_keeps (Close ∷ ts) = tt
i64_keeps (Word w ∷ ts) = tt
i64_keeps (Text v ∷ ts) = tt
i64_keeps (Float narrow wide ∷ ts) = tt
i64_keeps (Other ∷ ts) = tt

bits_by_keeps : (of : Range) (o : Option ℕ) (all ts : List Terminal) → Passes all ts → Keeps (grammar.bits_by of o all ts) all
bits_by_keeps of (Some n) all ts h = h
bits_by_keeps of None all ts h = tt

after_float : (narrow wide : Option ℕ) (ts : List Terminal) → Passes (Float narrow wide ∷ ts) ts
after_float narrow wide ts = after_token (Float narrow wide) ts ts refl (stay ts)

f32_keeps : (ts : List Terminal) → Keeps (grammar.f32 ts) ts
f32_keeps [] = tt
f32_keeps (Integer s n ∷ ts) = bits_by_keeps range.Float32 (of_integer binary32 (grammar.is_minus s) n) (Integer s n ∷ ts) ts (after_integer s n ts)
f32_keeps (Float narrow wide ∷ ts) = bits_by_keeps range.Float32 narrow (Float narrow wide ∷ ts) ts (after_float narrow wide ts)
f32_keeps (Id x ∷ ts) = tt
f32_keeps (Open ∷ ts) = tt
f32_keeps (Close ∷ ts) = tt
f32_keeps (Word w ∷ ts) = tt
f32_keeps (Text v ∷ ts) = tt
f32_keeps (Other ∷ ts) = tt

f64_keeps : (ts : List Terminal) → Keeps (grammar.f64 ts) ts
f64_keeps [] = tt
f64_keeps (Integer s n ∷ ts) = bits_by_keeps range.Float64 (of_integer binary64 (grammar.is_minus s) n) (Integer s n ∷ ts) ts (after_integer s n ts)
f64_keeps (Float narrow wide ∷ ts) = bits_by_keeps range.Float64 wide (Float narrow wide ∷ ts) ts (after_float narrow wide ts)
f64_keeps (Id x ∷ ts) = tt
f64_keeps (Open ∷ ts) = tt
f64_keeps (Close ∷ ts) = tt
f64_keeps (Word w ∷ ts) = tt
f64_keeps (Text v ∷ ts) = tt
f64_keeps (Other ∷ ts) = tt

with_f32_keeps : (q : Result (ℕ × List Terminal) Fault) (ts : List Terminal) → Keeps q ts → Keeps (grammar.with_f32 q) ts
with_f32_keeps (Ok (n, us)) ts h = h
with_f32_keeps (Err f) ts h = tt

with_f64_keeps : (q : Result (ℕ × List Terminal) Fault) (ts : List Terminal) → Keeps q ts → Keeps (grammar.with_f64 q) ts
with_f64_keeps (Ok (n, us)) ts h = h
with_f64_keeps (Err f) ts h = tt

on : (ts us vs : List Terminal) → Passes ts us → Passes us vs → Passes ts vs
on ts us vs h k = record { before = λ xs r m. h.before xs r (k.before xs r m); fills = λ r m. h.fills r (k.fills r m) }

after_word : (w : List ℕ) (ts us : List Terminal) → is_structural w ≡ false → Passes ts us → Passes (Word w ∷ ts) us
after_word w ts us o h = after_token (Word w) ts us (ap not o) h

on_keeps : {A : Type 0} (q : Result (A × List Terminal) Fault) (ts us : List Terminal) → Passes ts us → Keeps q us → Keeps q ts
on_keeps (Ok (a, vs)) ts us h k = on ts us vs h k
on_keeps (Err f) ts us h k = tt

number_passes : (n : ℕ) (o : Option ℕ) (w : List ℕ) (ts : List Terminal) → (is_some o ≡ true → is_structural w ≡ false) → Passes (Word w ∷ ts) (grammar.number_or n o (Word w ∷ ts) ts).1
number_passes n (Some m) w ts f = after_word w ts ts (f refl) (stay ts)
number_passes n None w ts f = stay (Word w ∷ ts)

offset_passes : (ts : List Terminal) → Passes ts (grammar.offset_of ts).1
offset_passes (Word w ∷ ts) = number_passes 0 (memory.offset w) w ts (offset_word w)
offset_passes [] = stay []
offset_passes (Open ∷ ts) = stay (Open ∷ ts)
offset_passes (Close ∷ ts) = stay (Close ∷ ts)
offset_passes (Id x ∷ ts) = stay (Id x ∷ ts)
offset_passes (Integer s n ∷ ts) = stay (Integer s n ∷ ts)
offset_passes (Text v ∷ ts) = stay (Text v ∷ ts)
offset_passes (Float narrow wide ∷ ts) = stay (Float narrow wide ∷ ts)
offset_passes (Other ∷ ts) = stay (Other ∷ ts)

align_passes : (n : ℕ) (ts : List Terminal) → Passes ts (grammar.align_of n ts).1
align_passes n (Word w ∷ ts) = number_passes n (memory.align w) w ts (align_word w)
align_passes n [] = stay []
align_passes n (Open ∷ ts) = stay (Open ∷ ts)
align_passes n (Close ∷ ts) = stay (Close ∷ ts)
align_passes n (Id x ∷ ts) = stay (Id x ∷ ts)
align_passes n (Integer s m ∷ ts) = stay (Integer s m ∷ ts)
align_passes n (Text v ∷ ts) = stay (Text v ∷ ts)
align_passes n (Float narrow wide ∷ ts) = stay (Float narrow wide ∷ ts)
align_passes n (Other ∷ ts) = stay (Other ∷ ts)

memory_keeps : (n : ℕ) (ts : List Terminal) → Passes ts (grammar.memory_of n ts).1
memory_keeps n ts = on ts (grammar.offset_of ts).1 (grammar.align_of n (grammar.offset_of ts).1).1 (offset_passes ts) (align_passes n (grammar.offset_of ts).1)

before_keeps : (n : ℕ) (q : Result (Branches × List Terminal) Fault) (all ts : List Terminal) → Passes all ts → Keeps q ts → Keeps (grammar.before_labels n q) all
before_keeps n (Ok (b, us)) all ts h k = on all ts us h k
before_keeps n (Err f) all ts h k = tt

and_labels_keeps : (n : ℕ) (q : Result (ℕ × List Terminal) Fault) (others : ℕ → Result (Branches × List Terminal) Fault) (all ts : List Terminal) → Passes all ts → ((m : ℕ) → Keeps (others m) ts) → Keeps (grammar.and_labels n q others) all
and_labels_keeps n (Ok (m, us)) others all ts h k = before_keeps n (others m) all ts h (k m)
and_labels_keeps n (Err f) others all ts h k = tt

labels_keeps : (ls : List Label) (n : ℕ) (ts : List Terminal) → Keeps (grammar.labels_from ls n ts) ts
unfolding grammar.labels_from
labels_keeps ls n (Integer s m ∷ ts) = and_labels_keeps n (grammar.small s m (Integer s m ∷ ts) ts) (λ k. grammar.labels_from ls k ts) (Integer s m ∷ ts) ts (after_integer s m ts) (λ k. labels_keeps ls k ts)
labels_keeps ls n (Id x ∷ ts) = and_labels_keeps n (grammar.named space.Label (grammar.position 0 x ls) (Id x ∷ ts) ts) (λ k. grammar.labels_from ls k ts) (Id x ∷ ts) ts (after_id x ts) (λ k. labels_keeps ls k ts)
labels_keeps ls n [] = stay []
labels_keeps ls n (Open ∷ ts) = stay (Open ∷ ts)
labels_keeps ls n (Close ∷ ts) = stay (Close ∷ ts)
labels_keeps ls n (Word w ∷ ts) = stay (Word w ∷ ts)
labels_keeps ls n (Text v ∷ ts) = stay (Text v ∷ ts)
labels_keeps ls n (Float narrow wide ∷ ts) = stay (Float narrow wide ∷ ts)
labels_keeps ls n (Other ∷ ts) = stay (Other ∷ ts)

with_labels_keeps : (q : Result (Branches × List Terminal) Fault) (all ts : List Terminal) → Passes all ts → Keeps q ts → Keeps (grammar.with_labels q) all
with_labels_keeps (Ok (b, us)) all ts h k = on all ts us h k
with_labels_keeps (Err f) all ts h k = tt

labels_by_keeps : (ls : List Label) (q : Result (ℕ × List Terminal) Fault) (ts : List Terminal) → Keeps q ts → Keeps (grammar.labels_by ls q) ts
labels_by_keeps ls (Ok (n, us)) ts h = with_labels_keeps (grammar.labels_from ls n us) ts us h (labels_keeps ls n us)
labels_by_keeps ls (Err f) ts h = tt

-- Type uses.

abbrev ListClosing : {A : Type 0} → Result (A × List Terminal) Fault → List Terminal → Type 0
ListClosing (Ok (a, us)) ts = ListEnds ts us
ListClosing (Err f) ts = Unit {0}

-- a group with an index
opened : {A : Type 0} (w : List ℕ) (q : Result (A × List Terminal) Fault) (ts : List Terminal) → role_of w ≡ role.Field → is_structural w ≡ false → Closing q ts → Keeps q (Open ∷ Word w ∷ ts)
opened w (Ok (a, us)) ts e o h = record { before = λ xs r k. blocks.by_group {inner = []} o h.inner (h.more.before xs r k); fills = λ r k. group_are w role.Field ts h.rest r e tt h.fills (h.more.fills r k) }
opened w (Err f) ts e o h = tt

-- a group of types
listed : {A : Type 0} (p : Bool) (w : List ℕ) (q : Result (A × List Terminal) Fault) (ts : List Terminal) → role_of w ≡ list_role p → is_structural w ≡ false → ListClosing q ts → Keeps q (Open ∷ Word w ∷ ts)
listed p w (Ok (a, us)) ts e o h = record { before = λ xs r k. blocks.by_group {inner = []} o h.ends.inner (h.ends.more.before xs r k); fills = λ r k. list_are p w ts h.ends.rest r e h.declares h.ends.fills (h.ends.more.fills r k) }
listed p w (Err f) ts e o h = tt

shut : {A : Type 0} (q : Result (A × List Terminal) Fault) (ts : List Terminal) → Keeps q ts → Closing q (Close ∷ ts)
shut (Ok (a, us)) ts h = record { rest = ts; inner = blocks.by_none; fills = λ r k. k; more = h }
shut (Err f) ts h = tt

list_shut : {A : Type 0} (q : Result (A × List Terminal) Fault) (ts : List Terminal) → Keeps q ts → ListClosing q (Close ∷ ts)
list_shut (Ok (a, us)) ts h = record { ends = record { rest = ts; inner = blocks.by_none; fills = λ r k. k; more = h }; declares = close_declares ts }
list_shut (Err f) ts h = tt

on_closing : {A : Type 0} (q : Result (A × List Terminal) Fault) (ts us : List Terminal) → Passes ts us → Closing q us → Closing q ts
on_closing (Ok (a, vs)) ts us h k = record { rest = k.rest; inner = h.before [] (Close ∷ k.rest) k.inner; fills = λ r m. h.fills r (k.fills r m); more = k.more }
on_closing (Err f) ts us h k = tt

abbrev ListedKeeps : Bool → Result (List ValueType × List Terminal) Fault → List Terminal → Type 0
ListedKeeps false q ts = Keeps q ts
ListedKeeps true q ts = ListClosing q ts

-- a keyword of a group of types: `true` for `param`, `false` for `result`
record IsListWord (p : Bool) (word : List ℕ) : Type 0 where
  role : role_of word ≡ list_role p
  plain : is_structural word ≡ false

param_word : IsListWord true (codes "param")
unfolding role_of
param_word = record { role = refl; plain = refl }

result_word : IsListWord false (codes "result")
unfolding role_of
result_word = record { role = refl; plain = refl }

group_keeps : (p b : Bool) (w word : List ℕ) (ts : List Terminal) → (b ≡ true → IsListWord p w) → ListClosing (grammar.listed word true ts) ts → Keeps (if b then grammar.listed word true ts else Ok ([], Open ∷ Word w ∷ ts)) (Open ∷ Word w ∷ ts)
group_keeps p true w word ts f h = let l = f refl in listed p w (grammar.listed word true ts) ts l.role l.plain h
group_keeps p false w word ts f h = stay (Open ∷ Word w ∷ ts)

types_end : (o : Option ValueType) (w : List ℕ) (q : Result (List ValueType × List Terminal) Fault) (ts : List Terminal) → (is_some o ≡ true → is_structural w ≡ false) → ListClosing q ts → ListClosing (grammar.before_types o (Word w ∷ ts) q) (Word w ∷ ts)
types_end None w q ts f h = tt
types_end (Some t) w (Ok (us, vs)) ts f h = record {
  ends = record { rest = h.ends.rest; inner = blocks.by_token (ap not (f refl)) h.ends.inner; fills = λ r k. keyword_are w ts r (h.ends.fills r k); more = h.ends.more };
  declares = type_declares w ts h.ends.rest h.declares;
}
types_end (Some t) w (Err f) ts g h = tt

listed_keeps : (p : Bool) (word : List ℕ) (inside : Bool) (ts : List Terminal) → IsListWord p word → ListedKeeps inside (grammar.listed word inside ts) ts
unfolding grammar.listed
listed_keeps p word false (Open ∷ Word w ∷ ts) o = group_keeps p (bytes_eq w word) w word ts (λ f. subst (IsListWord p) (sym (same_word w word f)) o) (listed_keeps p word true ts o)
listed_keeps p word false [] o = stay []
listed_keeps p word false (Open ∷ []) o = stay (Open ∷ [])
listed_keeps p word false (Open ∷ Open ∷ ts) o = stay (Open ∷ Open ∷ ts)
listed_keeps p word false (Open ∷ Close ∷ ts) o = stay (Open ∷ Close ∷ ts)
listed_keeps p word false (Open ∷ Id x ∷ ts) o = stay (Open ∷ Id x ∷ ts)
listed_keeps p word false (Open ∷ Integer s n ∷ ts) o = stay (Open ∷ Integer s n ∷ ts)
listed_keeps p word false (Open ∷ Text v ∷ ts) o = stay (Open ∷ Text v ∷ ts)
listed_keeps p word false (Open ∷ Float narrow wide ∷ ts) o = stay (Open ∷ Float narrow wide ∷ ts)
listed_keeps p word false (Open ∷ Other ∷ ts) o = stay (Open ∷ Other ∷ ts)
listed_keeps p word false (Close ∷ ts) o = stay (Close ∷ ts)
listed_keeps p word false (Word v ∷ ts) o = stay (Word v ∷ ts)
listed_keeps p word false (Id x ∷ ts) o = stay (Id x ∷ ts)
listed_keeps p word false (Integer s n ∷ ts) o = stay (Integer s n ∷ ts)
listed_keeps p word false (Text v ∷ ts) o = stay (Text v ∷ ts)
listed_keeps p word false (Float narrow wide ∷ ts) o = stay (Float narrow wide ∷ ts)
listed_keeps p word false (Other ∷ ts) o = stay (Other ∷ ts)
listed_keeps p word true (Word w ∷ ts) o = types_end (grammar.value_type w) w (grammar.listed word true ts) ts (value_word w) (listed_keeps p word true ts o)
listed_keeps p word true (Close ∷ ts) o = list_shut (grammar.listed word false ts) ts (listed_keeps p word false ts o)
listed_keeps p word true [] o = tt
listed_keeps p word true (Open ∷ ts) o = tt
listed_keeps p word true (Id x ∷ ts) o = tt
listed_keeps p word true (Integer s n ∷ ts) o = tt
listed_keeps p word true (Text v ∷ ts) o = tt
listed_keeps p word true (Float narrow wide ∷ ts) o = tt
listed_keeps p word true (Other ∷ ts) o = tt

with_results_keeps : (ps : List ValueType) (q : Result (List ValueType × List Terminal) Fault) (ts us : List Terminal) → Passes ts us → Keeps q us → Keeps (grammar.with_results ps q) ts
with_results_keeps ps (Ok (rs, vs)) ts us h k = on ts us vs h k
with_results_keeps ps (Err f) ts us h k = tt

and_results_keeps : (q : Result (List ValueType × List Terminal) Fault) (ts : List Terminal) → Keeps q ts → Keeps (grammar.and_results q) ts
and_results_keeps (Ok (ps, us)) ts h = with_results_keeps ps (grammar.listed (codes "result") false us) ts us h (listed_keeps false (codes "result") false us result_word)
and_results_keeps (Err f) ts h = tt

lists_keeps : (ts : List Terminal) → Keeps (grammar.lists_of ts) ts
unfolding grammar.lists_of
lists_keeps ts = and_results_keeps (grammar.listed (codes "param") false ts) ts (listed_keeps true (codes "param") false ts param_word)

listed_use_keeps : (q : Result (FunctionType × List Terminal) Fault) (ts : List Terminal) → Keeps q ts → Keeps (grammar.listed_use q) ts
listed_use_keeps (Ok (t, us)) ts h = h
listed_use_keeps (Err f) ts h = tt

agreed_by : (b : Bool) (i : ℕ) (all ts us : List Terminal) → Passes ts us → Keeps (if b then Ok (Indexed i, us) else Err (OtherType, all)) ts
agreed_by true i all ts us h = h
agreed_by false i all ts us h = tt

agreed_keeps : (i : ℕ) (t : FunctionType) (all : List Terminal) (q : Result (FunctionType × List Terminal) Fault) (ts : List Terminal) → Keeps q ts → Keeps (grammar.agreed i t all q) ts
agreed_keeps i t all (Ok (u, us)) ts h = agreed_by (grammar.list_nothing u.params u.results || same_type u t) i all ts us h
agreed_keeps i t all (Err f) ts h = tt

indexed_by_keeps : (i : ℕ) (o : Option FunctionType) (all ts : List Terminal) → Keeps (grammar.indexed_by i o all ts) ts
indexed_by_keeps i None all ts = tt
indexed_by_keeps i (Some t) all ts = agreed_keeps i t all (grammar.lists_of ts) ts (lists_keeps ts)

assumed_keeps : (q : Result (FunctionType × List Terminal) Fault) (ts : List Terminal) → Keeps q ts → Keeps (grammar.assumed q) ts
assumed_keeps (Ok (t, us)) ts h = h
assumed_keeps (Err f) ts h = tt

known_keeps : (b : Bool) (i : ℕ) (o : Option FunctionType) (all ts : List Terminal) → Keeps (if b then grammar.indexed_by i o all ts else grammar.assumed (grammar.lists_of ts)) ts
known_keeps true i o all ts = indexed_by_keeps i o all ts
known_keeps false i o all ts = assumed_keeps (grammar.lists_of ts) ts (lists_keeps ts)

closed_index_ends : (types : Types) (i : ℕ) (all ts : List Terminal) → Closing (grammar.closed_index types i all ts) ts
closed_index_ends types i all (Close ∷ ts) = shut (if types.are_known then grammar.indexed_by i (slice_get types.types i) all ts else grammar.assumed (grammar.lists_of ts)) ts (known_keeps types.are_known i (slice_get types.types i) all ts)
closed_index_ends types i all [] = tt
closed_index_ends types i all (Open ∷ ts) = tt
closed_index_ends types i all (Word w ∷ ts) = tt
closed_index_ends types i all (Id x ∷ ts) = tt
closed_index_ends types i all (Integer s n ∷ ts) = tt
closed_index_ends types i all (Text v ∷ ts) = tt
closed_index_ends types i all (Float narrow wide ∷ ts) = tt
closed_index_ends types i all (Other ∷ ts) = tt

indexed_ends : (types : Types) (all : List Terminal) (q : Result (ℕ × List Terminal) Fault) (ts : List Terminal) → Keeps q ts → Closing (grammar.indexed_use types all q) ts
indexed_ends types all (Ok (i, us)) ts h = on_closing (grammar.closed_index types i all us) ts us h (closed_index_ends types i all us)
indexed_ends types all (Err f) ts h = tt

listed_alone : (types : Types) (ts : List Terminal) → Keeps (grammar.use_by types None ts) ts
listed_alone types ts = listed_use_keeps (grammar.lists_of ts) ts (lists_keeps ts)

-- the keyword of an index
record IsTypeWord (w : List ℕ) : Type 0 where
  role : role_of w ≡ role.Field
  plain : is_structural w ≡ false

type_word : IsTypeWord (codes "type")
unfolding role_of
type_word = record { role = refl; plain = refl }

use_word : (types : Types) (b : Bool) (w : List ℕ) (ts : List Terminal) → (b ≡ true → IsTypeWord w) → Keeps (grammar.use_by types (if b then Some ts else None) (Open ∷ Word w ∷ ts)) (Open ∷ Word w ∷ ts)
use_word types true w ts f = let l = f refl in opened w (grammar.indexed_use types ts (grammar.index space.Type types.names ts)) ts l.role l.plain (indexed_ends types ts (grammar.index space.Type types.names ts) ts (index_keeps space.Type types.names ts))
use_word types false w ts f = listed_alone types (Open ∷ Word w ∷ ts)

use_keeps : (types : Types) (ts : List Terminal) → Keeps (grammar.use_of types ts) ts
unfolding grammar.use_of
use_keeps types (Open ∷ Word w ∷ ts) = use_word types (bytes_eq w (codes "type")) w ts (λ f. subst IsTypeWord (sym (same_word w (codes "type") f)) type_word)
use_keeps types [] = listed_alone types []
use_keeps types (Open ∷ []) = listed_alone types (Open ∷ [])
use_keeps types (Open ∷ Open ∷ ts) = listed_alone types (Open ∷ Open ∷ ts)
use_keeps types (Open ∷ Close ∷ ts) = listed_alone types (Open ∷ Close ∷ ts)
use_keeps types (Open ∷ Id x ∷ ts) = listed_alone types (Open ∷ Id x ∷ ts)
use_keeps types (Open ∷ Integer s n ∷ ts) = listed_alone types (Open ∷ Integer s n ∷ ts)
use_keeps types (Open ∷ Text v ∷ ts) = listed_alone types (Open ∷ Text v ∷ ts)
use_keeps types (Open ∷ Float narrow wide ∷ ts) = listed_alone types (Open ∷ Float narrow wide ∷ ts)
use_keeps types (Open ∷ Other ∷ ts) = listed_alone types (Open ∷ Other ∷ ts)
use_keeps types (Close ∷ ts) = listed_alone types (Close ∷ ts)
use_keeps types (Word v ∷ ts) = listed_alone types (Word v ∷ ts)
use_keeps types (Id x ∷ ts) = listed_alone types (Id x ∷ ts)
use_keeps types (Integer s n ∷ ts) = listed_alone types (Integer s n ∷ ts)
use_keeps types (Text v ∷ ts) = listed_alone types (Text v ∷ ts)
use_keeps types (Float narrow wide ∷ ts) = listed_alone types (Float narrow wide ∷ ts)
use_keeps types (Other ∷ ts) = listed_alone types (Other ∷ ts)

block_by_keeps : (q : Result (TypeUse × List Terminal) Fault) (ts : List Terminal) → Keeps q ts → Keeps (grammar.block_by q) ts
block_by_keeps (Ok (u, us)) ts h = h
block_by_keeps (Err f) ts h = tt

block_type_keeps : (types : Types) (ts : List Terminal) → Keeps (block_type types ts) ts
block_type_keeps types ts = block_by_keeps (grammar.use_of types ts) ts (use_keeps types ts)

table_keeps : (ls : List Label) (ts : List Terminal) → Keeps (grammar.table_of ls ts) ts
table_keeps ls (Integer s n ∷ ts) = small_keeps s n (Integer s n ∷ ts) ts (after_integer s n ts)
table_keeps ls (Id x ∷ ts) = named_keeps space.Table (grammar.position 0 x ls) (Id x ∷ ts) ts (after_id x ts)
table_keeps ls [] = stay []
table_keeps ls (Open ∷ ts) = stay (Open ∷ ts)
table_keeps ls (Close ∷ ts) = stay (Close ∷ ts)
table_keeps ls (Word w ∷ ts) = stay (Word w ∷ ts)
table_keeps ls (Text v ∷ ts) = stay (Text v ∷ ts)
table_keeps ls (Float narrow wide ∷ ts) = stay (Float narrow wide ∷ ts)
table_keeps ls (Other ∷ ts) = stay (Other ∷ ts)

with_use_keeps : (n : ℕ) (q : Result (TypeUse × List Terminal) Fault) (ts us : List Terminal) → Passes ts us → Keeps q us → Keeps (grammar.with_use n q) ts
with_use_keeps n (Ok (u, vs)) ts us h k = on ts us vs h k
with_use_keeps n (Err f) ts us h k = tt

indirect_keeps : (types : Types) (q : Result (ℕ × List Terminal) Fault) (ts : List Terminal) → Keeps q ts → Keeps (grammar.indirect_by types q) ts
indirect_keeps types (Ok (n, us)) ts h = with_use_keeps n (grammar.use_of types us) ts us h (use_keeps types us)
indirect_keeps types (Err f) ts h = tt

heap_by_keeps : (o : Option ReferenceType) (w : List ℕ) (ts : List Terminal) → (is_some o ≡ true → is_structural w ≡ false) → Keeps (grammar.heap_by o (Word w ∷ ts) ts) (Word w ∷ ts)
heap_by_keeps (Some t) w ts f = after_word w ts ts (f refl) (stay ts)
heap_by_keeps None w ts f = tt

heap_keeps : (ts : List Terminal) → Keeps (grammar.heap_of ts) ts
heap_keeps (Word w ∷ ts) = heap_by_keeps (grammar.heap_type w) w ts (heap_word w)
heap_keeps [] = tt
heap_keeps (Open ∷ ts) = tt
heap_keeps (Close ∷ ts) = tt
heap_keeps (Id x ∷ ts) = tt
heap_keeps (Integer s n ∷ ts) = tt
heap_keeps (Text v ∷ ts) = tt
heap_keeps (Float narrow wide ∷ ts) = tt
heap_keeps (Other ∷ ts) = tt

with_types_keeps : (q : Result (List ValueType × List Terminal) Fault) (ts : List Terminal) → Keeps q ts → Keeps (grammar.with_types q) ts
with_types_keeps (Ok (us, vs)) ts h = h
with_types_keeps (Err f) ts h = tt

select_keeps : (o : Option (List Terminal)) (ts : List Terminal) → Keeps (grammar.select_by o ts) ts
select_keeps None ts = stay ts
select_keeps (Some us) ts = with_types_keeps (grammar.listed (codes "result") false ts) ts (listed_keeps false (codes "result") false ts result_word)

-- Tables and segments.

with_zero_keeps : (q : Result (ℕ × List Terminal) Fault) (ts : List Terminal) → Keeps q ts → Keeps (grammar.with_zero q) ts
with_zero_keeps (Ok (n, us)) ts h = h
with_zero_keeps (Err f) ts h = tt

with_source_keeps : (n : ℕ) (q : Result (ℕ × List Terminal) Fault) (ts us : List Terminal) → Passes ts us → Keeps q us → Keeps (grammar.with_source n q) ts
with_source_keeps n (Ok (m, vs)) ts us h k = on ts us vs h k
with_source_keeps n (Err f) ts us h k = tt

copy_by_keeps : (ls : List Label) (q : Result (ℕ × List Terminal) Fault) (ts : List Terminal) → Keeps q ts → Keeps (grammar.copy_by ls q) ts
copy_by_keeps ls (Ok (n, us)) ts h = with_source_keeps n (grammar.index space.Table ls us) ts us h (index_keeps space.Table ls us)
copy_by_keeps ls (Err f) ts h = tt

copy_keeps : (b : Bool) (ls : List Label) (ts : List Terminal) → Keeps (if b then grammar.copy_by ls (grammar.index space.Table ls ts) else Ok (argument.Pair (0, 0), ts)) ts
copy_keeps true ls ts = copy_by_keeps ls (grammar.index space.Table ls ts) ts (index_keeps space.Table ls ts)
copy_keeps false ls ts = stay ts

init_table_keeps : (b : Bool) (ls : List Label) (ts : List Terminal) → Keeps (if b then grammar.index space.Table ls ts else Ok (0, ts)) ts
init_table_keeps true ls ts = index_keeps space.Table ls ts
init_table_keeps false ls ts = stay ts

with_elements_keeps : (n : ℕ) (q : Result (ℕ × List Terminal) Fault) (ts us : List Terminal) → Passes ts us → Keeps q us → Keeps (grammar.with_elements n q) ts
with_elements_keeps n (Ok (m, vs)) ts us h k = on ts us vs h k
with_elements_keeps n (Err f) ts us h k = tt

init_keeps : (ls : List Label) (q : Result (ℕ × List Terminal) Fault) (ts : List Terminal) → Keeps q ts → Keeps (grammar.init_by ls q) ts
init_keeps ls (Ok (n, us)) ts h = with_elements_keeps n (grammar.index space.Elem ls us) ts us h (index_keeps space.Elem ls us)
init_keeps ls (Err f) ts h = tt

-- Vectors.

lane_index_keeps : (ts : List Terminal) → Keeps (grammar.lane_index ts) ts
lane_index_keeps [] = tt
lane_index_keeps (Integer sign.Absent n ∷ ts) = small_by (nat_lt n (2 ^ 8)) (range.Unsigned (2 ^ 7)) n (Integer sign.Absent n ∷ ts) ts (after_integer sign.Absent n ts)
lane_index_keeps (Integer sign.Plus n ∷ ts) = tt
lane_index_keeps (Integer sign.Minus n ∷ ts) = tt
lane_index_keeps (Id x ∷ ts) = tt
lane_index_keeps (Open ∷ ts) = tt
lane_index_keeps (Close ∷ ts) = tt
lane_index_keeps (Word w ∷ ts) = tt
lane_index_keeps (Text v ∷ ts) = tt
lane_index_keeps (Float narrow wide ∷ ts) = tt
lane_index_keeps (Other ∷ ts) = tt

with_lane_keeps : (q : Result (ℕ × List Terminal) Fault) (ts : List Terminal) → Keeps q ts → Keeps (grammar.with_lane q) ts
with_lane_keeps (Ok (n, us)) ts h = h
with_lane_keeps (Err f) ts h = tt

with_memory_keeps : (align offset : ℕ) (q : Result (ℕ × List Terminal) Fault) (ts us : List Terminal) → Passes ts us → Keeps q us → Keeps (grammar.with_memory align offset q) ts
with_memory_keeps align offset (Ok (n, vs)) ts us h k = on ts us vs h k
with_memory_keeps align offset (Err f) ts us h k = tt

memory_lane_keeps : (n : ℕ) (ts : List Terminal) → Keeps (grammar.memory_lane n ts) ts
memory_lane_keeps n ts =
    let us = (grammar.align_of n (grammar.offset_of ts).1).1 in with_memory_keeps (grammar.align_of n (grammar.offset_of ts).1).0 (grammar.offset_of ts).0 (grammar.lane_index us) ts us (memory_keeps n ts) (lane_index_keeps us)

integer_keeps : (half : ℕ) (ts : List Terminal) → Keeps (grammar.integer half ts) ts
integer_keeps half [] = tt
integer_keeps half (Integer s n ∷ ts) = bits_by_keeps (grammar.integer_range half s) (grammar.integer_bits half s n) (Integer s n ∷ ts) ts (after_integer s n ts)
integer_keeps half (Id x ∷ ts) = tt
integer_keeps half (Open ∷ ts) = tt
integer_keeps half (Close ∷ ts) = tt
integer_keeps half (Word w ∷ ts) = tt
integer_keeps half (Text v ∷ ts) = tt
integer_keeps half (Float narrow wide ∷ ts) = tt
integer_keeps half (Other ∷ ts) = tt

lane_keeps : (k : grammar.Lane) (ts : List Terminal) → Keeps (grammar.lane_of k ts) ts
lane_keeps lane.I8 ts = integer_keeps (2 ^ 7) ts
lane_keeps lane.I16 ts = integer_keeps (2 ^ 15) ts
lane_keeps lane.I32 ts = integer_keeps (2 ^ 31) ts
lane_keeps lane.I64 ts = integer_keeps (2 ^ 63) ts
lane_keeps lane.F32 ts = f32_keeps ts
lane_keeps lane.F64 ts = f64_keeps ts

before_bytes_keeps : (bs : List ℕ) (q : Result (List ℕ × List Terminal) Fault) (ts us : List Terminal) → Passes ts us → Keeps q us → Keeps (grammar.before_bytes bs q) ts
before_bytes_keeps bs (Ok (cs, vs)) ts us h k = on ts us vs h k
before_bytes_keeps bs (Err f) ts us h k = tt

and_lanes_keeps : (k : grammar.Lane) (q : Result (ℕ × List Terminal) Fault) (others : List Terminal → Result (List ℕ × List Terminal) Fault) (ts : List Terminal) → Keeps q ts → ((us : List Terminal) → Keeps (others us) us) → Keeps (grammar.and_lanes k q others) ts
and_lanes_keeps k (Ok (n, us)) others ts h each = before_bytes_keeps (grammar.lane_bytes k n) (others us) ts us h (each us)
and_lanes_keeps k (Err f) others ts h each = tt

lanes_keep : (k : grammar.Lane) (n : ℕ) (ts : List Terminal) → Keeps (grammar.lanes_from k n ts) ts
unfolding grammar.lanes_from
lanes_keep k zero ts = stay ts
lanes_keep k (suc n) ts = and_lanes_keeps k (grammar.lane_of k ts) (grammar.lanes_from k n) ts (lane_keeps k ts) (λ us. lanes_keep k n us)

with_bytes_keeps : (q : Result (List ℕ × List Terminal) Fault) (ts : List Terminal) → Keeps q ts → Keeps (grammar.with_bytes q) ts
with_bytes_keeps (Ok (bs, us)) ts h = h
with_bytes_keeps (Err f) ts h = tt

and_indices_keeps : (q : Result (ℕ × List Terminal) Fault) (others : List Terminal → Result (List ℕ × List Terminal) Fault) (ts : List Terminal) → Keeps q ts → ((us : List Terminal) → Keeps (others us) us) → Keeps (grammar.and_indices q others) ts
and_indices_keeps (Ok (n, us)) others ts h each = before_bytes_keeps (n ∷ []) (others us) ts us h (each us)
and_indices_keeps (Err f) others ts h each = tt

lane_indices_keep : (n : ℕ) (ts : List Terminal) → Keeps (grammar.lane_indices n ts) ts
unfolding grammar.lane_indices
lane_indices_keep zero ts = stay ts
lane_indices_keep (suc n) ts = and_indices_keeps (grammar.lane_index ts) (grammar.lane_indices n) ts (lane_index_keeps ts) (λ us. lane_indices_keep n us)

vector_keeps : (k : grammar.Lane) (ts : List Terminal) → Keeps (grammar.vector_of k ts) ts
vector_keeps k ts = with_bytes_keeps (grammar.lanes_from k (grammar.lane_count k) ts) ts (lanes_keep k (grammar.lane_count k) ts)

constant_by_keeps : (o : Option grammar.Lane) (w : List ℕ) (ts : List Terminal) → (is_some o ≡ true → is_structural w ≡ false) → Keeps (grammar.constant_by o (Word w ∷ ts) ts) (Word w ∷ ts)
constant_by_keeps None w ts f = tt
constant_by_keeps (Some k) w ts f = on_keeps (grammar.vector_of k ts) (Word w ∷ ts) ts (after_word w ts ts (f refl) (stay ts)) (vector_keeps k ts)

constant_keeps : (ts : List Terminal) → Keeps (grammar.constant ts) ts
constant_keeps [] = tt
constant_keeps (Word w ∷ ts) = constant_by_keeps (grammar.shape w) w ts (shape_word w)
constant_keeps (Integer s n ∷ ts) = tt
constant_keeps (Id x ∷ ts) = tt
constant_keeps (Open ∷ ts) = tt
constant_keeps (Close ∷ ts) = tt
constant_keeps (Text v ∷ ts) = tt
constant_keeps (Float narrow wide ∷ ts) = tt
constant_keeps (Other ∷ ts) = tt

immediate_keeps : (context : Context) (ls : List Label) (k : Immediate) (ts : List Terminal) → Keeps (grammar.immediate_of context ls k ts) ts
immediate_keeps context ls immediate.No ts = stay ts
immediate_keeps context ls immediate.Local ts = with_index_keeps (grammar.index space.Local context.locals ts) ts (index_keeps space.Local context.locals ts)
immediate_keeps context ls immediate.Label ts = with_index_keeps (grammar.index space.Label ls ts) ts (index_keeps space.Label ls ts)
immediate_keeps context ls immediate.Labels ts = labels_by_keeps ls (grammar.index space.Label ls ts) ts (index_keeps space.Label ls ts)
immediate_keeps context ls immediate.Func ts = with_index_keeps (grammar.index space.Func context.funcs ts) ts (index_keeps space.Func context.funcs ts)
immediate_keeps context ls immediate.Indirect ts = indirect_keeps context.types (grammar.table_of context.tables ts) ts (table_keeps context.tables ts)
immediate_keeps context ls immediate.Global ts = with_index_keeps (grammar.index space.Global context.globals ts) ts (index_keeps space.Global context.globals ts)
immediate_keeps context ls immediate.I32 ts = i32_keeps ts
immediate_keeps context ls immediate.I64 ts = i64_keeps ts
immediate_keeps context ls immediate.F32 ts = with_f32_keeps (grammar.f32 ts) ts (f32_keeps ts)
immediate_keeps context ls immediate.F64 ts = with_f64_keeps (grammar.f64 ts) ts (f64_keeps ts)
immediate_keeps context ls (immediate.Memory natural) ts = memory_keeps natural ts
immediate_keeps context ls immediate.Zero ts = stay ts
immediate_keeps context ls immediate.HeapType ts = heap_keeps ts
immediate_keeps context ls immediate.Select ts = select_keeps (grammar.after (codes "result") ts) ts
immediate_keeps context ls immediate.Zeros ts = stay ts
immediate_keeps context ls immediate.Data ts = with_index_keeps (grammar.index space.Data context.datas ts) ts (index_keeps space.Data context.datas ts)
immediate_keeps context ls immediate.MemoryInit ts = with_zero_keeps (grammar.index space.Data context.datas ts) ts (index_keeps space.Data context.datas ts)
immediate_keeps context ls immediate.Elem ts = with_index_keeps (grammar.index space.Elem context.elems ts) ts (index_keeps space.Elem context.elems ts)
immediate_keeps context ls immediate.Table ts = with_index_keeps (grammar.table_of context.tables ts) ts (table_keeps context.tables ts)
immediate_keeps context ls immediate.TableCopy ts = copy_keeps (grammar.is_index ts) context.tables ts
immediate_keeps context ls immediate.TableInit ts = init_keeps context.elems (grammar.init_table context.tables ts) ts (init_table_keeps (grammar.are_indices ts) context.tables ts)
immediate_keeps context ls immediate.Lane ts = with_lane_keeps (grammar.lane_index ts) ts (lane_index_keeps ts)
immediate_keeps context ls (immediate.MemoryLane natural) ts = memory_lane_keeps natural ts
immediate_keeps context ls immediate.Shuffle ts = with_bytes_keeps (grammar.lane_indices 16 ts) ts (lane_indices_keep 16 ts)
immediate_keeps context ls immediate.Vector ts = constant_keeps ts

-- What a plain instruction has: a keyword that is not structural, an immediate without structured control instructions, and
-- the opcode of no such instruction.
pub record IsPlain (i : Instruction) (w : List ℕ) (ts us : List Terminal) : Type 0 where
  pub word : is_structural w ≡ false
  pub role : is_other (role_of w) ≡ true
  pub immediate : Passes ts us
  pub opcode : opcodes_in i ≡ []

abbrev Plain : Result (Instruction × List Terminal) Fault → List ℕ → List Terminal → Type 0
Plain (Ok (i, us)) w ts = IsPlain i w ts us
Plain (Err f) w ts = Unit {0}

opcode_of_plain : (o : Opcode) (a : Argument) → structured_opcode o ≡ [] → structured_opcode (grammar.opcode_of o a) ≡ []
opcode_of_plain o (argument.Select ts) e = refl
opcode_of_plain o a e = e

with_opcode_plain : (o : Opcode) (q : Result (Argument × List Terminal) Fault) (w : List ℕ) (ts : List Terminal) → is_structural w ≡ false → is_other (role_of w) ≡ true → structured_opcode o ≡ [] → Keeps q ts → Plain (grammar.with_opcode o q) w ts
with_opcode_plain o (Ok (a, us)) w ts f k e h = record { word = f; role = k; immediate = h; opcode = opcode_of_plain o a e }
with_opcode_plain o (Err f) w ts g k e h = tt

plain_by_plain : (context : Context) (ls : List Label) (o : Option Mnemonic) (w : List ℕ) (ts : List Terminal) → found w mnemonics ≡ o → Plain (grammar.plain_by context ls o (Word w ∷ ts) ts) w ts
plain_by_plain context ls None w ts e = tt
plain_by_plain context ls (Some m) w ts e =
    let row : IsPlainRow w m = found_row w m e in with_opcode_plain m.opcode (grammar.immediate_of context ls m.immediate ts) w ts row.word row.role row.opcode (immediate_keeps context ls m.immediate ts)

plain_at : (context : Context) (ls : List Label) (w : List ℕ) (ts : List Terminal) → Plain (plain context ls (Word w ∷ ts)) w ts
unfolding plain
plain_at context ls w ts = plain_by_plain context ls (found w mnemonics) w ts refl

pub is_plain : (context : Context) (ls : List Label) (w : List ℕ) (ts : List Terminal) (i : Instruction) (us : List Terminal) → plain context ls (Word w ∷ ts) ≡ Ok (i, us) → IsPlain i w ts us
is_plain context ls w ts i us e = let K : Result (Instruction × List Terminal) Fault → Type 0 = λ q. Plain q w ts in subst K e (plain_at context ls w ts)

pub block_passes : (types : Types) (ts bs : List Terminal) (a : Argument) → block_type types ts ≡ Ok (a, bs) → Passes ts bs
block_passes types ts bs a e = let K : Result (Argument × List Terminal) Fault → Type 0 = λ q. Keeps q ts in subst K e (block_type_keeps types ts)

-- the label after `end` or `else`

abbrev Leaves : Result (List Terminal) Fault → List Terminal → Type 0
Leaves (Ok us) ts = us ≡ (label_of ts).1
Leaves (Err f) ts = Unit {0}

id_leaves : (b : Bool) (x : List ℕ) (ts : List Terminal) → Leaves (if b then Ok ts else Err (WrongLabel, Id x ∷ ts)) (Id x ∷ ts)
id_leaves true x ts = refl
id_leaves false x ts = tt

end_leaves : (l : Label) (ts : List Terminal) → Leaves (end_label l ts) ts
end_leaves l [] = refl
end_leaves l (Id x ∷ ts) = id_leaves (grammar.is_name x l) x ts
end_leaves l (Open ∷ ts) = refl
end_leaves l (Close ∷ ts) = refl
end_leaves l (Word w ∷ ts) = refl
end_leaves l (Integer s n ∷ ts) = refl
end_leaves l (Text v ∷ ts) = refl
end_leaves l (Float narrow wide ∷ ts) = refl
end_leaves l (Other ∷ ts) = refl

pub end_rest : (l : Label) (ts us : List Terminal) → end_label l ts ≡ Ok us → us ≡ (label_of ts).1
end_rest l ts us e = let K : Result (List Terminal) Fault → Type 0 = λ q. Leaves q ts in subst K e (end_leaves l ts)
