-- The items of the fields and modules that the grammar derives have the form of a module.
use Rattle.std.proofs.Common.{◌≡◌, ◌∙◌, ◌≤◌, ℕ, zero, suc, Bool, true, false, List, [], ◌∷◌, ◌++◌, length, Option, Some, None, refl, sym, ap, subst, arith}
use Rattle.std.specs.Prelude.{if◌then◌else◌, bytes_eq, codes}
use Rattle.wat_module_ast.specs.declared.fields.GlobalType.{GlobalType}
use Rattle.wat_module_ast.specs.declared.fields.IndexSpace.{IndexSpace}
use Rattle.wat_module_ast.specs.declared.fields.IndexSpace.TheVariants as space
use Rattle.wat_module_ast.specs.declared.fields.Limits.{Limits}
use Rattle.wat_module_ast.specs.declared.instruction.Instruction.{Instruction}
use Rattle.wat_module_ast.specs.declared.instruction.ReferenceType.{ReferenceType}
use Rattle.wat_module_tokens.specs.declared.token.Sign.{Sign}
use Rattle.wat_module_tokens.specs.declared.token.Sign.TheVariants.{Absent}
use Rattle.wat_module_ast.specs.Fields as fields
use Rattle.wat_module_ast.specs.Fields.{Elements, ElementsAre, ExpressionIs, ExternIs, ExternType, Field, FieldIs, FunctionIs, GlobalTypeIs, IndexIs, InlineExport, ItemIs, LimitsAre, Many, StringIs, names_of, space_of, with_locals}
use Rattle.wat_module_ast.specs.Grammar as grammar
use Rattle.wat_module_ast.specs.Grammar.{Context, Folded, Instructions, label_of}
use Rattle.wat_module_ast.specs.Modules as modules
use Rattle.wat_module_ast.specs.Modules.{Module, own_context, own_types}
use Rattle.wat_module_ast.specs.Types.{Types}
use Rattle.wat_module_annotations.specs.declared.reading.Role.{Role}
use Rattle.wat_module_annotations.specs.declared.reading.Role.TheVariants as role
use Rattle.wat_module_annotations.specs.Items as item
use Rattle.wat_module_annotations.specs.Items.{Item, role_of}
use Rattle.wat_module_annotations.specs.Names.{FieldNames, module_names}
use Rattle.wat_module_annotations.specs.Placed as placed
use Rattle.wat_module_annotations.specs.Placed.{FieldsAre, NamesArePlaced, ends_header, field_names, without_strays}
use Rattle.wat_module_names_theorems.specs.TokenForms.{AnnotatedModulesHaveForm, ModulesHaveForm}
use Rattle.wat_module_names_theorems.specs.TokenItems.{Next, has_label, is_func, items, of_keyword, opening, within}
use Rattle.wat_module_names_theorems.proofs.Annotated.{module_kept}
use Rattle.wat_module_names_theorems.proofs.Filling.{Are, Fills, Form, close_are, group_are, group_items, keyword_are, other_role, token_are}
use Rattle.wat_module_names_theorems.proofs.Forms.{instructions_fill}
use Rattle.wat_module_names_theorems.proofs.Headers.{Header, HeaderAre, HeaderFills, after_id, close_header, export_role, exports_fill, extern_fills, import_role, in_group, label_header, locals_fill, mut_role, params_fill, results_fill, strings_fill, type_role, use_fills, used_fills}
use Rattle.wat_module_names_theorems.proofs.Keywords.{block_role, if_role, same_word}
use Rattle.wat_module_names_theorems.proofs.Opaque.{is_plain}
use Rattle.wat_module_tokens.specs.Terminals.{Terminal, Open, Close, Word, Id, Integer, Text, Float, Other, Label, past}

-- Roles.

pub func_role : role_of (codes "func") ≡ role.Func
unfolding role_of
func_role = refl

table_role : role_of (codes "table") ≡ role.Field
unfolding role_of
table_role = refl

memory_role : role_of (codes "memory") ≡ role.Field
unfolding role_of
memory_role = refl

global_role : role_of (codes "global") ≡ role.Field
unfolding role_of
global_role = refl

elem_role : role_of (codes "elem") ≡ role.Field
unfolding role_of
elem_role = refl

data_role : role_of (codes "data") ≡ role.Field
unfolding role_of
data_role = refl

start_role : role_of (codes "start") ≡ role.Other
unfolding role_of
start_role = refl

offset_role : role_of (codes "offset") ≡ role.Other
unfolding role_of
offset_role = refl

item_role : role_of (codes "item") ≡ role.Other
unfolding role_of
item_role = refl

module_role : role_of (codes "module") ≡ role.Module
unfolding role_of
module_role = refl

-- the keyword of an item: `func`, or that of a table, memory or global
record IsItemWord (w : List ℕ) : Type 0 where
  is_func : Bool
  is : role_of w ≡ (if is_func then role.Func else role.Field)

abbrev func_by : (b c d e : Bool) → Option IndexSpace
func_by b c d e = if b then Some space.Func else if c then Some space.Table else if d then Some space.Mem else if e then Some space.Global else None

item_word_by : (w : List ℕ) (b c d e : Bool) (s : IndexSpace) → bytes_eq w (codes "func") ≡ b → bytes_eq w (codes "table") ≡ c → bytes_eq w (codes "memory") ≡ d → bytes_eq w (codes "global") ≡ e → func_by b c d e ≡ Some s → IsItemWord w
item_word_by w true c d e s i j k l o = record { is_func = true; is = ap role_of (same_word w (codes "func") i) ∙ func_role }
item_word_by w false true d e s i j k l o = record { is_func = false; is = ap role_of (same_word w (codes "table") j) ∙ table_role }
item_word_by w false false true e s i j k l o = record { is_func = false; is = ap role_of (same_word w (codes "memory") k) ∙ memory_role }
item_word_by w false false false true s i j k l o = record { is_func = false; is = ap role_of (same_word w (codes "global") l) ∙ global_role }
item_word_by w false false false false s i j k l o = cc

item_word : (w : List ℕ) (s : IndexSpace) → space_of w ≡ Some s → IsItemWord w
item_word w s e = item_word_by w (bytes_eq w (codes "func")) (bytes_eq w (codes "table")) (bytes_eq w (codes "memory")) (bytes_eq w (codes "global")) s refl refl refl refl e

-- What follows a header.

-- `Starts ts`: the tokens `ts` do not continue a header, nor begin with an identifier
record Starts (ts : List Terminal) : Type 0 where
  plain : (b : Bool) → items (Next b) ts ≡ items (Next false) ts
  ends : ends_header (items (Next false) ts) ≡ true

keyword_ends : (k : Role) (is : List Item) → ends_header (of_keyword k ∷ is) ≡ true
keyword_ends role.Block is = refl
keyword_ends role.If is = refl
keyword_ends role.Open is = refl
keyword_ends role.Close is = refl
keyword_ends role.Module is = refl
keyword_ends role.Func is = refl
keyword_ends role.Field is = refl
keyword_ends role.Import is = refl
keyword_ends role.Header is = refl
keyword_ends role.Param is = refl
keyword_ends role.Local is = refl
keyword_ends role.Then is = refl
keyword_ends role.Other is = refl

close_starts : (ts : List Terminal) → Starts (Close ∷ ts)
unfolding items
close_starts ts = record { plain = λ b. refl; ends = refl }

word_starts : (w : List ℕ) (ts : List Terminal) → Starts (Word w ∷ ts)
unfolding items
word_starts w ts = record { plain = λ b. refl; ends = keyword_ends (role_of w) (items (Next (has_label (role_of w))) ts) }

integer_starts : (s : Sign) (n : ℕ) (ts : List Terminal) → Starts (Integer s n ∷ ts)
unfolding items
integer_starts s n ts = record { plain = λ b. refl; ends = refl }

text_starts : (v : List ℕ) (ts : List Terminal) → Starts (Text v ∷ ts)
unfolding items
text_starts v ts = record { plain = λ b. refl; ends = refl }

-- the roles of keywords whose groups follow headers
IsAfterHeader : Role → Type 0
IsAfterHeader role.Block = Unit {0}
IsAfterHeader role.If = Unit {0}
IsAfterHeader role.Other = Unit {0}
IsAfterHeader k = ⊥

group_ends : (k : Role) (ts : List Terminal) → IsAfterHeader k → ends_header (opening k ++ items (within k) ts) ≡ true
unfolding IsAfterHeader
group_ends role.Block ts o = refl
group_ends role.If ts o = refl
group_ends role.Other ts o = refl
group_ends k ts o = absurd o

group_starts : (w : List ℕ) (k : Role) (ts : List Terminal) → role_of w ≡ k → IsAfterHeader k → Starts (Open ∷ Word w ∷ ts)
unfolding items
group_starts w k ts e o = record { plain = λ b. refl; ends = ap ends_header (group_items false w k ts e) ∙ group_ends k ts o }

other_starts : (w : List ℕ) (ts : List Terminal) → role_of w ≡ role.Other → Starts (Open ∷ Word w ∷ ts)
unfolding IsAfterHeader
other_starts w ts e = group_starts w role.Other ts e tt

block_starts : (w : List ℕ) (ts : List Terminal) → role_of w ≡ role.Block → Starts (Open ∷ Word w ∷ ts)
unfolding IsAfterHeader
block_starts w ts e = group_starts w role.Block ts e tt

if_starts : (w : List ℕ) (ts : List Terminal) → role_of w ≡ role.If → Starts (Open ∷ Word w ∷ ts)
unfolding IsAfterHeader
if_starts w ts e = group_starts w role.If ts e tt

instructions_start : (context : Context) (ls : List Label) (folded : Bool) (ts : List Terminal) (is : List Instruction) (r : List Terminal) → Instructions context ls folded ts is r → (ts ≡ r → Starts ts) → Starts ts
instructions_start context ls folded ts is r grammar.by_none h = h refl
instructions_start context _ _ _ _ r (grammar.by_plain {w = w} {ts = ts} s n more) h = word_starts w ts
instructions_start context _ _ _ _ r (grammar.by_block {w = w} {ts = ts} s n b e l more) h = word_starts w ts
instructions_start context _ _ _ _ r (grammar.by_if_else {w = w} {ts = ts} s c n b e l k f m more) h = word_starts w ts
instructions_start context _ _ _ _ r (grammar.by_folded {ls = ls} {w = w} {ts = ts} {us = us} {i = i} s n inner more) h = let p = is_plain context ls w ts i us n in other_starts w ts (other_role (role_of w) p.role)
instructions_start context _ _ _ _ r (grammar.by_folded_block {w = w} {o = o} {ts = ts} s c n inner more) h = block_starts w ts (block_role w o s c)
instructions_start context _ _ _ _ r (grammar.by_folded_if {w = w} {o = o} {ts = ts} s c n inner k m more) h = if_starts w ts (if_role w o s c)
instructions_start context _ _ _ _ r (grammar.by_folded_if_else {w = w} {o = o} {ts = ts} s c n inner k m f d more) h = if_starts w ts (if_role w o s c)

body_starts : (context : Context) (ls : List Label) (ts : List Terminal) (is : List Instruction) (r : List Terminal) → Instructions context ls false ts is (Close ∷ r) → Starts ts
body_starts context ls ts is r d = instructions_start context ls false ts is (Close ∷ r) d (λ e. subst Starts (sym e) (close_starts r))

-- a group is longer than what follows it

longer : (k n : ℕ) → k ≤ n → k ≤ suc n
longer k n h = omega arith

past_length : (d : ℕ) (us : List Terminal) → length (past d us) ≤ length us
past_length d [] = omega arith
past_length d (Open ∷ us) = longer (length (past (suc d) us)) (length us) (past_length (suc d) us)
past_length zero (Close ∷ us) = omega arith
past_length (suc d) (Close ∷ us) = longer (length (past d us)) (length us) (past_length d us)
past_length d (Word w ∷ us) = longer (length (past d us)) (length us) (past_length d us)
past_length d (Id x ∷ us) = longer (length (past d us)) (length us) (past_length d us)
past_length d (Integer s n ∷ us) = longer (length (past d us)) (length us) (past_length d us)
past_length d (Text v ∷ us) = longer (length (past d us)) (length us) (past_length d us)
past_length d (Float narrow wide ∷ us) = longer (length (past d us)) (length us) (past_length d us)
past_length d (Other ∷ us) = longer (length (past d us)) (length us) (past_length d us)

too_long : (k n : ℕ) → k ≤ n → suc n ≡ k → ⊥
too_long k n h e = omega arith

not_past : (ts r : List Terminal) → r ≡ past 0 ts → Open ∷ ts ≡ r → Starts (Open ∷ ts)
not_past ts r p e = absurd (too_long (length (past 0 ts)) (length ts) (past_length 0 ts) (ap length (e ∙ p)))

folded_start : (context : Context) (ts : List Terminal) (is : List Instruction) (r : List Terminal) → Folded context ts is r → Starts ts
folded_start context _ is r (grammar.by_group {ts = ts} d p) = instructions_start context [] true (Open ∷ ts) is r d (not_past ts r p)

folded_fills : (context : Context) (ts : List Terminal) (is : List Instruction) (r : List Terminal) → Folded context ts is r → Fills ts r
folded_fills context _ is r (grammar.by_group {ts = ts} d p) = instructions_fill context [] true (Open ∷ ts) is r d

expression_start : (word : List ℕ) (context : Context) → role_of word ≡ role.Other → (ts : List Terminal) (is : List Instruction) (r : List Terminal) → ExpressionIs word context ts is r → Starts ts
expression_start word context o _ is r (fields.by_word_expression {w = w} {ts = ts} e d) = other_starts w ts (ap role_of e ∙ o)
expression_start word context o ts is r (fields.by_instruction f) = folded_start context ts is r f

expression_fills : (word : List ℕ) (context : Context) → role_of word ≡ role.Other → (ts : List Terminal) (is : List Instruction) (r : List Terminal) → ExpressionIs word context ts is r → Fills ts r
expression_fills word context o _ is r (fields.by_word_expression {w = w} {ts = ts} e d) q g = group_are w role.Other ts r q (ap role_of e ∙ o) tt (instructions_fill context (None ∷ []) false ts is (Close ∷ r) d) g
expression_fills word context o ts is r (fields.by_instruction f) q g = folded_fills context ts is r f q g

-- Parts after a header.

pub many_are : {V : Type 0} (R : List Terminal → List V → List Terminal → Type 0) → ((ts : List Terminal) (vs : List V) (us : List Terminal) → R ts vs us → Fills ts us) → (ts : List Terminal) (vs : List V) (r : List Terminal) → Many R ts vs r → Fills ts r
many_are R k _ _ r fields.by_none q g = g
many_are R k _ _ r (fields.by_more {ts = ts} {us = us} {vs = vs} {ws = ws} one more) q g = k ts vs us one q (many_are R k us ws r more q g)

item_fills : (context : Context) (ts : List Terminal) (es : Elements) (r : List Terminal) → ItemIs context ts es r → Fills ts r
item_fills context ts _ r (fields.by_item {is = is} e) = expression_fills (codes "item") context item_role ts is r e

items_fill : (context : Context) (ts : List Terminal) (es : Elements) (r : List Terminal) → Many (ItemIs context) ts es r → Fills ts r
items_fill context = many_are (ItemIs context) (item_fills context)

index_fills : (ls : List Label) (ts : List Terminal) (i : ℕ) (us : List Terminal) → IndexIs ls ts i us → Fills ts us
index_fills ls _ i us (fields.by_number e) q g = token_are (Integer Absent i) us q tt g
index_fills ls _ i us (fields.by_identifier {x = x} e) q g = token_are (Id x) us q tt g

function_fills : (context : Context) (ts : List Terminal) (es : Elements) (r : List Terminal) → FunctionIs context ts es r → Fills ts r
function_fills context ts _ r (fields.by_function {x = x} n) = index_fills context.funcs ts x r n

functions_fill : (context : Context) (ts : List Terminal) (es : Elements) (r : List Terminal) → Many (FunctionIs context) ts es r → Fills ts r
functions_fill context = many_are (FunctionIs context) (function_fills context)

string_fills : (ts : List Terminal) (vs : List ℕ) (us : List Terminal) → StringIs ts vs us → Fills ts us
string_fills _ _ us (fields.by_string {v = v}) q g = token_are (Text v) us q tt g

strings_are : (ts : List Terminal) (vs : List ℕ) (us : List Terminal) → Many StringIs ts vs us → Fills ts us
strings_are = many_are StringIs string_fills

limits_fill : (ts : List Terminal) (l : Limits) (us : List Terminal) → LimitsAre ts l us → Fills ts us
limits_fill _ _ us (fields.by_min {n = n} e) q g = token_are (Integer Absent n) us q tt g
limits_fill _ _ us (fields.by_min_max {n = n} {m = m} e f) q g = token_are (Integer Absent n) (Integer Absent m ∷ us) q tt (token_are (Integer Absent m) us q tt g)

limits_start : (ts : List Terminal) (l : Limits) (us : List Terminal) → LimitsAre ts l us → Starts ts
limits_start _ _ us (fields.by_min {n = n} e) = integer_starts Absent n us
limits_start _ _ us (fields.by_min_max {n = n} {m = m} e f) = integer_starts Absent n (Integer Absent m ∷ us)

global_fills : (ts : List Terminal) (t : GlobalType) (us : List Terminal) → GlobalTypeIs ts t us → Fills ts us
global_fills _ _ us (fields.by_constant {w = w} e) q g = keyword_are w us q g
global_fills _ _ us (fields.by_mutable {v = v} {w = w} e type) q g = group_are v role.Other (Word w ∷ Close ∷ us) us q (ap role_of e ∙ mut_role) tt (λ r k. keyword_are w (Close ∷ us) r k) g

global_start : (ts : List Terminal) (t : GlobalType) (us : List Terminal) → GlobalTypeIs ts t us → Starts ts
global_start _ _ us (fields.by_constant {w = w} e) = word_starts w us
global_start _ _ us (fields.by_mutable {v = v} {w = w} e type) = other_starts v (Word w ∷ Close ∷ us) (ap role_of e ∙ mut_role)

elements_fill : (context : Context) (ts : List Terminal) (t : ReferenceType) (es : Elements) (r : List Terminal) → ElementsAre context ts t es r → Fills ts r
elements_fill context _ t es r (fields.by_items {w = w} {ts = ts} e m) q g = keyword_are w ts q (items_fill context ts es r m q g)
elements_fill context _ _ es r (fields.by_functions {w = w} {ts = ts} e m) q g = keyword_are w ts q (functions_fill context ts es r m q g)

elements_start : (context : Context) (ts : List Terminal) (t : ReferenceType) (es : Elements) (r : List Terminal) → ElementsAre context ts t es r → Starts ts
elements_start context _ t es r (fields.by_items {w = w} {ts = ts} e m) = word_starts w ts
elements_start context _ _ es r (fields.by_functions {w = w} {ts = ts} e m) = word_starts w ts

string_starts : (ts : List Terminal) (vs : List ℕ) (us : List Terminal) → StringIs ts vs us → Starts ts
string_starts _ _ us (fields.by_string {v = v}) = text_starts v us

strings_start : (ts : List Terminal) (vs : List ℕ) (r us : List Terminal) → Many StringIs ts vs r → r ≡ Close ∷ us → Starts ts
strings_start _ _ r us fields.by_none e = subst Starts (sym e) (close_starts us)
strings_start _ _ r us (fields.by_more {ts = ts} {us = vs} {vs = bytes} {ws = more} one m) e = string_starts ts bytes vs one

-- Fields.

-- The items of the tokens `ts` are a field, up to the rest `r`.
FieldForm : List Terminal → List Terminal → Type 0
FieldForm ts r = (b : Bool) → (ns : FieldNames) × placed.FieldIs false (items (Next b) ts) ns (items (Next false) r)

-- the roles of keywords of fields with an identifier
IsField : Role → Type 0
IsField role.Func = Unit {0}
IsField role.Field = Unit {0}
IsField k = ⊥

-- a field after its `(` and keyword
opened_field : (k : Role) (ts hs r : List Terminal) → IsField k → Header false (items (Next true) ts) (items (Next false) hs) → Starts hs → Form (items (Next false) hs) (item.Close ∷ items (Next false) r)
    → (ns : FieldNames) × placed.FieldIs false (opening k ++ items (within k) ts) ns (items (Next false) r)
unfolding IsField
opened_field role.Func ts hs r o h s f = (field_names None h.0 h.1 f.0, placed.by_item h.2 s.ends f.1)
opened_field role.Field ts hs r o h s f = (field_names None h.0 h.1 f.0, placed.by_item h.2 s.ends f.1)
opened_field k ts hs r o h s f = absurd o

header_end : (hs : List Terminal) → Starts hs → HeaderAre false hs (items (Next false) hs)
header_end hs s b = (false, [], subst (λ is. placed.HeaderIs false false is false [] (items (Next false) hs)) (sym (s.plain b)) placed.by_no_header)

-- a field whose header are the tokens up to `hs`
field_form : (w : List ℕ) (k : Role) (ts hs r : List Terminal) → role_of w ≡ k → IsField k → HeaderFills false (label_of ts).1 hs → Starts hs → Fills hs (Close ∷ r) → FieldForm (Open ∷ Word w ∷ ts) r
unfolding FieldForm
field_form w k ts hs r e o h s f b =
    let header = label_header false ts (items (Next false) hs) (h (items (Next false) hs) (header_end hs s)) in
    let body = f (item.Close ∷ items (Next false) r) (close_are r) false in
    let q = opened_field k ts hs r o header s body in
    (q.0, subst (λ is. placed.FieldIs false is q.0 (items (Next false) r)) (sym (group_items b w k ts e)) q.1)

item_field : (w : List ℕ) (k : Role) (ts hs r : List Terminal) → role_of w ≡ k → k ≡ role.Field → HeaderFills false (label_of ts).1 hs → Starts hs → Fills hs (Close ∷ r) → FieldForm (Open ∷ Word w ∷ ts) r
unfolding IsField
item_field w k ts hs r e o h s f = field_form w role.Field ts hs r (e ∙ o) tt h s f

func_field : (w : List ℕ) (ts hs r : List Terminal) → role_of w ≡ role.Func → HeaderFills false (label_of ts).1 hs → Starts hs → Fills hs (Close ∷ r) → FieldForm (Open ∷ Word w ∷ ts) r
unfolding IsField
func_field w ts hs r e h s f = field_form w role.Func ts hs r e tt h s f

either_field : (b : Bool) (w : List ℕ) (ts hs r : List Terminal) → role_of w ≡ (if b then role.Func else role.Field) → HeaderFills false (label_of ts).1 hs → Starts hs → Fills hs (Close ∷ r) → FieldForm (Open ∷ Word w ∷ ts) r
either_field true w ts hs r e h s f = func_field w ts hs r e h s f
either_field false w ts hs r e h s f = item_field w role.Field ts hs r e refl h s f

-- an inline import, `(import name name)`
import_header : (v m n : List ℕ) (us : List Terminal) → role_of v ≡ role.Import → HeaderFills false (Open ∷ Word v ∷ Text m ∷ Text n ∷ Close ∷ us) us
unfolding items
import_header v m n us e r k b = let q = k false in subst (λ is. Header false is r) (sym (group_items b v role.Import (Text m ∷ Text n ∷ Close ∷ us) e)) (q.0, q.1, placed.by_header_group refl placed.by_no_header q.2)

-- the rest of an inline import: a type use is still a part of the header
record AfterImport (us r : List Terminal) : Type 0 where
  rest : List Terminal
  header : HeaderFills false us rest
  starts : Starts rest
  fills : Fills rest (Close ∷ r)

extern_after : (types : Types) (s : IndexSpace) (us : List Terminal) (t : ExternType) (q r : List Terminal) → ExternIs types s us t q → q ≡ Close ∷ r → AfterImport us r
extern_after types _ us _ q r (fields.by_type_use {u = u} k d) e = record { rest = q; header = use_fills false types us u q k; starts = subst Starts (sym e) (close_starts r); fills = λ x g. subst (λ z. Are z x) (sym e) g }
extern_after types _ us _ q r (fields.by_table_type {v = v} {limits = limits} l x) e = record { rest = us; header = λ x g. g; starts = limits_start us limits (Word v ∷ q) l; fills = λ x g. limits_fill us limits (Word v ∷ q) l x (keyword_are v q x (subst (λ z. Are z x) (sym e) g)) }
extern_after types _ us _ q r (fields.by_memory_type {limits = limits} l) e = record { rest = us; header = λ x g. g; starts = limits_start us limits q l; fills = λ x g. limits_fill us limits q l x (subst (λ z. Are z x) (sym e) g) }
extern_after types _ us _ q r (fields.by_global_type {t = t} k) e = record { rest = us; header = λ x g. g; starts = global_start us t q k; fills = λ x g. global_fills us t q k x (subst (λ z. Are z x) (sym e) g) }

other_label : (ts : List Terminal) (r : List Item) → HeaderAre true (label_of ts).1 r → Header true (items (Next false) ts) r
other_label [] r h = h false
other_label (Id x ∷ ts) r h = after_id x ts r h false
other_label (Open ∷ ts) r h = h false
other_label (Close ∷ ts) r h = h false
other_label (Word w ∷ ts) r h = h false
other_label (Integer s n ∷ ts) r h = h false
other_label (Text v ∷ ts) r h = h false
other_label (Float narrow wide ∷ ts) r h = h false
other_label (Other ∷ ts) r h = h false

-- the description of an import: an identifier is part of the occurrence of a function, and another token of other items
imported_header : (ts : List Terminal) (r : List Item) → HeaderAre true (label_of ts).1 r → (b : Bool) → Header true (items (Next b) ts) r
imported_header ts r h true = label_header true ts r h
imported_header ts r h false = other_label ts r h

-- `(import name name (func id? ..))`
import_form : (w v m n : List ℕ) (ts r : List Terminal) → role_of w ≡ role.Import → HeaderFills true (label_of ts).1 (Close ∷ Close ∷ r) → FieldForm (Open ∷ Word w ∷ Text m ∷ Text n ∷ Open ∷ Word v ∷ ts) r
unfolding FieldForm items
import_form w v m n ts r e h b =
    let q = imported_header ts (item.Close ∷ items (Next false) (Close ∷ r)) (h (item.Close ∷ items (Next false) (Close ∷ r)) (close_header true (Close ∷ r))) (is_func (role_of v)) in
    (field_names None q.0 q.1 [], subst (λ is. placed.FieldIs false is (field_names None q.0 q.1 []) (items (Next false) r)) (sym (group_items b w role.Import (Text m ∷ Text n ∷ Open ∷ Word v ∷ ts) e)) (placed.by_import q.2))

-- a reference, `(func index)`
reference_are : (b : Bool) (w : List ℕ) (ts us : List Terminal) (r : List Item) → role_of w ≡ (if b then role.Func else role.Field) → Fills ts (Close ∷ us) → Are us r → Are (Open ∷ Word w ∷ ts) r
reference_are true w ts us r e f g = group_are w role.Func ts us r e tt f g
reference_are false w ts us r e f g = group_are w role.Field ts us r e tt f g

-- `(export name (func index))`
export_form : (w n v : List ℕ) (ts r : List Terminal) (k : Bool) → role_of w ≡ role.Header → role_of v ≡ (if k then role.Func else role.Field) → Fills ts (Close ∷ Close ∷ r) → FieldForm (Open ∷ Word w ∷ Text n ∷ Open ∷ Word v ∷ ts) r
unfolding FieldForm items
export_form w n v ts r k e o f b =
    let inner = reference_are k v ts (Close ∷ r) (item.Close ∷ items (Next false) r) o f (close_are r) false in
    (field_names None false [] inner.0, subst (λ is. placed.FieldIs false is (field_names None false [] inner.0) (items (Next false) r)) (sym (group_items b w role.Header (Text n ∷ Open ∷ Word v ∷ ts) e)) (placed.by_export refl (placed.by_token inner.1)))

start_form : (w : List ℕ) (ts r : List Terminal) → role_of w ≡ role.Other → ends_header (items (Next false) ts) ≡ true → Fills ts (Close ∷ r) → FieldForm (Open ∷ Word w ∷ ts) r
unfolding FieldForm
start_form w ts r e s f b =
    let inner = f (item.Close ∷ items (Next false) r) (close_are r) false in
    (field_names None false [] inner.0, subst (λ is. placed.FieldIs false is (field_names None false [] inner.0) (items (Next false) r)) (sym (group_items b w role.Other ts e)) (placed.by_start s inner.1))

index_ends : (ls : List Label) (ts : List Terminal) (i : ℕ) (us : List Terminal) → IndexIs ls ts i us → ends_header (items (Next false) ts) ≡ true
unfolding items
index_ends ls _ i us (fields.by_number e) = refl
index_ends ls _ i us (fields.by_identifier {x = x} e) = refl

field_forms : (types : Types) (context : Context) (ts : List Terminal) (fs : List Field) (r : List Terminal) → FieldIs types context ts fs r → FieldForm ts r
field_forms types context _ _ r (fields.by_type {w = w} {v = v} {ts = ts} {hs = hs} {bs = bs} {params = ps} {results = rs} e o k a b) =
    item_field w role.Field ts (Close ∷ r) r (ap role_of e ∙ type_role) refl
    (subst (λ x. HeaderFills false x (Close ∷ r)) (sym o) (in_group false v role.Func hs (Close ∷ r) (ap role_of k ∙ func_role) tt (λ q g. params_fill true hs ps bs a q (results_fill true bs rs (Close ∷ Close ∷ r) b q g))))
    (close_starts r) (λ q g. g)
field_forms types context _ _ r (fields.by_import {w = w} {m = m} {n = n} {v = v} {ts = ts} {s = s} {t = t} e a b k x) = import_form w v m n ts r (ap role_of e ∙ import_role) (extern_fills types s (label_of ts).1 t (Close ∷ Close ∷ r) x)
field_forms types context _ _ r (fields.by_inline_import {w = w} {v = v} {m = m} {n = n} {ts = ts} {us = us} {names = ns} {s = s} {t = t} e k i a b x) =
    let word = item_word w s e in
    let after = extern_after types s us t (Close ∷ r) r x refl in
    either_field word.is_func w ts after.rest r word.is
    (λ q g. exports_fill false (label_of ts).1 ns (Open ∷ Word v ∷ Text m ∷ Text n ∷ Close ∷ us) k q (import_header v m n us (ap role_of i ∙ import_role) q (after.header q g))) after.starts after.fills
field_forms types context _ _ r (fields.by_func {w = w} {ts = ts} {hs = hs} {bs = bs} {ds = ds} {names = ns} {u = u} {locals = ls} {is = is} e a b c d k) =
    func_field w ts ds r (ap role_of e ∙ func_role) (λ q g. exports_fill false (label_of ts).1 ns hs a q (use_fills false types hs u bs b q (locals_fill false bs ls ds c q g)))
    (body_starts (with_locals context (u.params ++ ls)) (None ∷ []) ds is r k) (instructions_fill (with_locals context (u.params ++ ls)) (None ∷ []) false ds is (Close ∷ r) k)
field_forms types context _ _ r (fields.by_table {w = w} {v = v} {ts = ts} {hs = hs} {names = ns} {limits = limits} {t = t} e a b c) =
    item_field w role.Field ts hs r (ap role_of e ∙ table_role) refl (exports_fill false (label_of ts).1 ns hs a) (limits_start hs limits (Word v ∷ Close ∷ r) b) (λ q g. limits_fill hs limits (Word v ∷ Close ∷ r) b q (keyword_are v (Close ∷ r) q g))
field_forms types context _ _ r (fields.by_table_items {w = w} {u = u} {v = v} {ts = ts} {hs = hs} {names = ns} {t = t} {es = es} e a b c m l) =
    item_field w role.Field ts (Word u ∷ Open ∷ Word v ∷ hs) r (ap role_of e ∙ table_role) refl (exports_fill false (label_of ts).1 ns (Word u ∷ Open ∷ Word v ∷ hs) a) (word_starts u (Open ∷ Word v ∷ hs))
    (λ q g. keyword_are u (Open ∷ Word v ∷ hs) q (group_are v role.Field hs (Close ∷ r) q (ap role_of c ∙ elem_role) tt (items_fill context hs es (Close ∷ Close ∷ r) m) g))
field_forms types context _ _ r (fields.by_table_functions {w = w} {u = u} {v = v} {ts = ts} {hs = hs} {names = ns} {t = t} {es = es} e a b c m l) =
    item_field w role.Field ts (Word u ∷ Open ∷ Word v ∷ hs) r (ap role_of e ∙ table_role) refl (exports_fill false (label_of ts).1 ns (Word u ∷ Open ∷ Word v ∷ hs) a) (word_starts u (Open ∷ Word v ∷ hs))
    (λ q g. keyword_are u (Open ∷ Word v ∷ hs) q (group_are v role.Field hs (Close ∷ r) q (ap role_of c ∙ elem_role) tt (functions_fill context hs es (Close ∷ Close ∷ r) m) g))
field_forms types context _ _ r (fields.by_memory {w = w} {ts = ts} {hs = hs} {names = ns} {limits = limits} e a b) =
    item_field w role.Field ts hs r (ap role_of e ∙ memory_role) refl (exports_fill false (label_of ts).1 ns hs a) (limits_start hs limits (Close ∷ r) b) (limits_fill hs limits (Close ∷ r) b)
field_forms types context _ _ r (fields.by_memory_data {w = w} {v = v} {ts = ts} {hs = hs} {names = ns} {bytes = bytes} e a b m l) =
    item_field w role.Field ts (Close ∷ r) r (ap role_of e ∙ memory_role) refl
    (λ q g. exports_fill false (label_of ts).1 ns (Open ∷ Word v ∷ hs) a q (in_group false v role.Field hs (Close ∷ r) (ap role_of b ∙ data_role) tt (strings_fill hs bytes (Close ∷ Close ∷ r) m) q g)) (close_starts r) (λ q g. g)
field_forms types context _ _ r (fields.by_global {w = w} {ts = ts} {hs = hs} {bs = bs} {names = ns} {t = t} {is = is} e a b k) =
    item_field w role.Field ts hs r (ap role_of e ∙ global_role) refl (exports_fill false (label_of ts).1 ns hs a) (global_start hs t bs b) (λ q g. global_fills hs t bs b q (instructions_fill context (None ∷ []) false bs is (Close ∷ r) k q g))
field_forms types context _ _ r (fields.by_export {w = w} {n = n} {v = v} {ts = ts} {s = s} {i = i} e u k x) =
    let word = item_word v s k in export_form w n v ts r word.is_func (ap role_of e ∙ export_role) word.is (index_fills (names_of context s) ts i (Close ∷ Close ∷ r) x)
field_forms types context _ _ r (fields.by_start {w = w} {ts = ts} {i = i} e x) = start_form w ts r (ap role_of e ∙ start_role) (index_ends context.funcs ts i (Close ∷ r) x) (index_fills context.funcs ts i (Close ∷ r) x)
field_forms types context _ _ r (fields.by_passive_elem {w = w} {ts = ts} {t = t} {es = es} e k) =
    item_field w role.Field ts (label_of ts).1 r (ap role_of e ∙ elem_role) refl (λ q g. g) (elements_start context (label_of ts).1 t es (Close ∷ r) k) (elements_fill context (label_of ts).1 t es (Close ∷ r) k)
field_forms types context _ _ r (fields.by_declarative_elem {w = w} {v = v} {ts = ts} {ds = ds} {t = t} {es = es} e o d k) =
    item_field w role.Field ts (Word v ∷ ds) r (ap role_of e ∙ elem_role) refl (subst (λ x. HeaderFills false x (Word v ∷ ds)) (sym o) (λ q g. g)) (word_starts v ds) (λ q g. keyword_are v ds q (elements_fill context ds t es (Close ∷ r) k q g))
field_forms types context _ _ r (fields.by_active_elem {w = w} {ts = ts} {os = os} {bs = bs} {i = i} {is = is} {t = t} {es = es} e u x k) =
    item_field w role.Field ts os r (ap role_of e ∙ elem_role) refl (used_fills (codes "table") context.tables table_role (label_of ts).1 i os u) (expression_start (codes "offset") context offset_role os is bs x)
    (λ q g. expression_fills (codes "offset") context offset_role os is bs x q (elements_fill context bs t es (Close ∷ r) k q g))
field_forms types context _ _ r (fields.by_function_elem {w = w} {ts = ts} {bs = bs} {is = is} {es = es} e x k) =
    item_field w role.Field ts (label_of ts).1 r (ap role_of e ∙ elem_role) refl (λ q g. g) (expression_start (codes "offset") context offset_role (label_of ts).1 is bs x)
    (λ q g. expression_fills (codes "offset") context offset_role (label_of ts).1 is bs x q (functions_fill context bs es (Close ∷ r) k q g))
field_forms types context _ _ r (fields.by_passive_data {w = w} {ts = ts} {bytes = bytes} e m) =
    item_field w role.Field ts (label_of ts).1 r (ap role_of e ∙ data_role) refl (λ q g. g) (strings_start (label_of ts).1 bytes (Close ∷ r) r m refl) (strings_are (label_of ts).1 bytes (Close ∷ r) m)
field_forms types context _ _ r (fields.by_active_data {w = w} {ts = ts} {os = os} {bs = bs} {i = i} {is = is} {bytes = bytes} e u x m) =
    item_field w role.Field ts os r (ap role_of e ∙ data_role) refl (used_fills (codes "memory") context.memories memory_role (label_of ts).1 i os u) (expression_start (codes "offset") context offset_role os is bs x)
    (λ q g. expression_fills (codes "offset") context offset_role os is bs x q (strings_are bs bytes (Close ∷ r) m q g))

-- Modules.

FieldsForm : List Terminal → List Item → Type 0
FieldsForm ts r = (b : Bool) → (ns : List FieldNames) × FieldsAre false (items (Next b) ts) ns r

fields_forms : (types : Types) (context : Context) (ts : List Terminal) (fs : List Field) (r : List Terminal) (q : List Item) → Many (FieldIs types context) ts fs r → ((b : Bool) → items (Next b) r ≡ q) → FieldsForm ts q
unfolding FieldsForm FieldForm
fields_forms types context _ _ r q fields.by_none h b = ([], subst (λ is. FieldsAre false is [] q) (sym (h b)) placed.by_no_field)
fields_forms types context _ _ r q (fields.by_more {ts = ts} {us = us} {vs = fs} {ws = gs} one more) h b =
    let f = field_forms types context ts fs us one b in
    let g = fields_forms types context us gs r q more h false in
    (f.0 ∷ g.0, placed.by_field f.1 g.1)

-- after `(module`, an identifier
named_fields : (ts : List Terminal) (r : List Item) → FieldsForm (label_of ts).1 r → (ns : List FieldNames) × FieldsAre false (items (Next true) ts) ns r
unfolding FieldsForm items
named_fields [] r h = h true
named_fields (Id x ∷ ts) r h = h false
named_fields (Open ∷ ts) r h = h true
named_fields (Close ∷ ts) r h = h true
named_fields (Word w ∷ ts) r h = h true
named_fields (Integer s n ∷ ts) r h = h true
named_fields (Text v ∷ ts) r h = h true
named_fields (Float narrow wide ∷ ts) r h = h true
named_fields (Other ∷ ts) r h = h true

close_items : (b : Bool) → items (Next b) (Close ∷ []) ≡ item.Close ∷ []
unfolding items
close_items b = refl

no_items : (b : Bool) → items (Next b) [] ≡ []
unfolding items
no_items b = refl

pub modules_have_form : ModulesHaveForm
unfolding FieldsForm
modules_have_form _ fs (modules.by_module {w = w} {ts = ts} e a) =
    let f = named_fields ts (item.Close ∷ []) (fields_forms (own_types fs) (own_context fs) (label_of ts).1 fs (Close ∷ []) (item.Close ∷ []) a.spelled close_items) in
    (module_names None f.0, subst (λ is. placed.ModuleIs false is (module_names None f.0)) (sym (group_items false w role.Module ts (ap role_of e ∙ module_role))) (placed.by_module f.1))
modules_have_form ts fs (modules.by_fields a) = let f = fields_forms (own_types fs) (own_context fs) ts fs [] [] a.spelled no_items false in (module_names None f.0, placed.by_fields f.1)

-- Modules with annotations.

pub annotated_modules_have_form : NamesArePlaced → AnnotatedModulesHaveForm
annotated_modules_have_form theorem = record {
  form = λ ts fs is m h. let f = modules_have_form ts fs m in module_kept (items (Next false) ts) f.0 f.1 (without_strays is) h;
  placed = λ text ts fs is ns m h e. let f = modules_have_form ts fs m in let k = module_kept (items (Next false) ts) f.0 f.1 (without_strays is) h in theorem.placed text is ns k.0 k.1 e;
}
