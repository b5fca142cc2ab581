-- The items of the headers of fields.
use Rattle.std.proofs.Common.{◌≡◌, ◌∙◌, ℕ, Bool, true, false, ◌&&◌, ◌||◌, List, [], ◌∷◌, ◌++◌, None, refl, sym, ap, subst}
use Rattle.std.specs.Prelude.{if◌then◌else◌, bytes_eq, codes, is_some}
use Rattle.wat_module_ast.specs.declared.fields.IndexSpace.{IndexSpace}
use Rattle.wat_module_ast.specs.declared.fields.Limits.{Limits}
use Rattle.wat_module_ast.specs.declared.fields.GlobalType.{GlobalType}
use Rattle.wat_module_ast.specs.declared.instruction.ValueType.{ValueType}
use Rattle.wat_module_tokens.specs.declared.token.Sign.{Sign}
use Rattle.wat_module_tokens.specs.declared.token.Sign.TheVariants.{Absent}
use Rattle.wat_module_ast.specs.Fields as fields
use Rattle.wat_module_ast.specs.Fields.{ExternIs, ExternType, GlobalTypeIs, Group, IndexIs, InlineExport, LimitsAre, Many, NamedUse, StringIs, TypeUseIs, UseIs, ValueTypeIs, Variable}
use Rattle.wat_module_ast.specs.Grammar.{label_of}
use Rattle.wat_module_ast.specs.Types.{Types}
use Rattle.wat_module_annotations.specs.declared.reading.Role.{Role}
use Rattle.wat_module_annotations.specs.declared.reading.Role.TheVariants as role
use Rattle.wat_module_annotations.specs.Items as item
use Rattle.wat_module_annotations.specs.Items.{Item, role_of}
use Rattle.wat_module_annotations.specs.Names.{declares}
use Rattle.wat_module_annotations.specs.Placed as placed
use Rattle.wat_module_annotations.specs.Placed.{HeaderIs, opens_header}
use Rattle.wat_module_names_theorems.specs.BlockLabels.{is_structural}
use Rattle.wat_module_names_theorems.specs.TokenItems.{Declaring, Next, bare, has_label, items, of_keyword, opening, within}
use Rattle.wat_module_names_theorems.proofs.Filling.{Declares, close_declares, group_items, type_declares}
use Rattle.wat_module_names_theorems.proofs.Keywords.{not_structured, opcode}
use Rattle.wat_module_names_theorems.proofs.PlainWords.{reference_word, value_word}
use Rattle.wat_module_tokens.specs.Terminals.{Terminal, Open, Close, Word, Id, Integer, Text, Float, Other, Label}

-- A header, with the names that it declares.
abbrev pub Header : Bool → List Item → List Item → Type 0
Header inner is r = (p : Bool) × (vs : List Label) × HeaderIs false inner is p vs r

-- The items of the tokens `ts`, up to the rest `r`, are a header, also if an identifier is still part of an item before.
abbrev pub HeaderAre : Bool → List Terminal → List Item → Type 0
HeaderAre inner ts r = (b : Bool) → Header inner (items (Next b) ts) r

-- The tokens `ts`, up to the rest `us`, can precede a header.
abbrev pub HeaderFills : Bool → List Terminal → List Terminal → Type 0
HeaderFills inner ts us = (r : List Item) → HeaderAre inner us r → HeaderAre inner ts r

-- Keywords that are not `block`, `loop` or `if`.

unlabeled_by : (a b c d e f g h i j : Bool) → a ≡ false → b ≡ false
    → has_label (if a then role.Block else if b then role.If else if c then role.Then else if d then role.Param else if e then role.Local else if f then role.Header else if g then role.Func else if h then role.Field else if i then role.Import else if j then role.Module else role.Other) ≡ false
unlabeled_by true b c d e f g h i j p q = cc
unlabeled_by false true c d e f g h i j p q = cc
unlabeled_by false false true d e f g h i j p q = refl
unlabeled_by false false false true e f g h i j p q = refl
unlabeled_by false false false false true f g h i j p q = refl
unlabeled_by false false false false false true g h i j p q = refl
unlabeled_by false false false false false false true h i j p q = refl
unlabeled_by false false false false false false false true i j p q = refl
unlabeled_by false false false false false false false false true j p q = refl
unlabeled_by false false false false false false false false false true p q = refl
unlabeled_by false false false false false false false false false false p q = refl

no_block : (b c d : Bool) → opcode b c d ≡ None → (b || c) ≡ false
no_block true c d e = cc
no_block false true d e = cc
no_block false false d e = refl

no_if : (b c d : Bool) → opcode b c d ≡ None → d ≡ false
no_if true c d e = cc
no_if false true d e = cc
no_if false false true e = cc
no_if false false false e = refl

pub unlabeled : (w : List ℕ) → is_structural w ≡ false → has_label (role_of w) ≡ false
unfolding role_of
unlabeled w e =
    let o = not_structured w e in
    unlabeled_by (bytes_eq w (codes "block") || bytes_eq w (codes "loop")) (bytes_eq w (codes "if")) (bytes_eq w (codes "then")) (bytes_eq w (codes "param")) (bytes_eq w (codes "local"))
    (bytes_eq w (codes "result") || bytes_eq w (codes "export")) (bytes_eq w (codes "func"))
    (bytes_eq w (codes "type") || bytes_eq w (codes "table") || bytes_eq w (codes "memory") || bytes_eq w (codes "global") || bytes_eq w (codes "elem") || bytes_eq w (codes "data")) (bytes_eq w (codes "import")) (bytes_eq w (codes "module"))
    (no_block (bytes_eq w (codes "block")) (bytes_eq w (codes "loop")) (bytes_eq w (codes "if")) o) (no_if (bytes_eq w (codes "block")) (bytes_eq w (codes "loop")) (bytes_eq w (codes "if")) o)

-- Tokens in groups.

keyword_items : (k : Role) (ts : List Terminal) → has_label k ≡ false → of_keyword k ∷ items (Next (has_label k)) ts ≡ item.Other ∷ items (Next false) ts
keyword_items role.Block ts e = cc
keyword_items role.If ts e = cc
keyword_items role.Open ts e = refl
keyword_items role.Close ts e = refl
keyword_items role.Module ts e = refl
keyword_items role.Func ts e = refl
keyword_items role.Field ts e = refl
keyword_items role.Import ts e = refl
keyword_items role.Header ts e = refl
keyword_items role.Param ts e = refl
keyword_items role.Local ts e = refl
keyword_items role.Then ts e = refl
keyword_items role.Other ts e = refl

token_header : (is r : List Item) → Header true is r → Header true (item.Other ∷ is) r
token_header is r h = (h.0, h.1, placed.by_header_token h.2)

pub after_keyword : (w : List ℕ) (ts us : List Terminal) → is_structural w ≡ false → HeaderFills true ts us → HeaderFills true (Word w ∷ ts) us
unfolding items
after_keyword w ts us e h r k b = subst (λ is. Header true is r) (sym (keyword_items (role_of w) ts (unlabeled w e))) (token_header (items (Next false) ts) r (h r k false))

pub after_integer : (s : Sign) (n : ℕ) (ts : List Terminal) → HeaderFills true (Integer s n ∷ ts) ts
unfolding items
after_integer s n ts r k b = token_header (items (Next false) ts) r (k false)

pub after_text : (v : List ℕ) (ts : List Terminal) → HeaderFills true (Text v ∷ ts) ts
unfolding items
after_text v ts r k b = token_header (items (Next false) ts) r (k false)

pub after_id : (x : List ℕ) (ts : List Terminal) → HeaderFills true (Id x ∷ ts) ts
unfolding items
after_id x ts r k true = k false
after_id x ts r k false = token_header (items (Next false) ts) r (k false)

pub close_header : (inner : Bool) (ts : List Terminal) → HeaderAre inner (Close ∷ ts) (item.Close ∷ items (Next false) ts)
unfolding items
close_header inner ts b = (false, [], placed.by_no_header)

-- after the keyword of a binding occurrence, its identifier
pub label_header : (inner : Bool) (ts : List Terminal) (r : List Item) → HeaderAre inner (label_of ts).1 r → Header inner (items (Next true) ts) r
unfolding items
label_header inner [] r h = h true
label_header inner (Id x ∷ ts) r h = h false
label_header inner (Open ∷ ts) r h = h true
label_header inner (Close ∷ ts) r h = h true
label_header inner (Word w ∷ ts) r h = h true
label_header inner (Integer s n ∷ ts) r h = h true
label_header inner (Text v ∷ ts) r h = h true
label_header inner (Float narrow wide ∷ ts) r h = h true
label_header inner (Other ∷ ts) r h = h true

-- Groups.

-- the roles of keywords whose groups are in headers
abbrev pub IsInHeader : Role → Type 0
IsInHeader role.Func = Unit {0}
IsInHeader role.Field = Unit {0}
IsInHeader role.Header = Unit {0}
IsInHeader k = ⊥

grouped : (inner : Bool) (i : Item) (is us r : List Item) → opens_header false inner i ≡ true → Header true is (item.Close ∷ us) → Header inner us r → Header inner (i ∷ is) r
grouped inner i is us r o f g = (f.0 || g.0, f.1 ++ g.1, placed.by_header_group o f.2 g.2)

group_header : (inner : Bool) (k : Role) (ts us : List Terminal) (r : List Item) → IsInHeader k → HeaderAre true ts (item.Close ∷ items (Next false) us) → HeaderAre inner us r → Header inner (opening k ++ items (within k) ts) r
group_header inner role.Func ts us r o f g = grouped inner (item.Field bare) (items (Next true) ts) (items (Next false) us) r refl (f true) (g false)
group_header inner role.Field ts us r o f g = grouped inner (item.Field bare) (items (Next true) ts) (items (Next false) us) r refl (f true) (g false)
group_header inner role.Header ts us r o f g = grouped inner item.Header (items (Next false) ts) (items (Next false) us) r refl (f false) (g false)
group_header inner k ts us r o f g = absurd o

pub in_group : (inner : Bool) (w : List ℕ) (k : Role) (ts us : List Terminal) → role_of w ≡ k → IsInHeader k → HeaderFills true ts (Close ∷ us) → HeaderFills inner (Open ∷ Word w ∷ ts) us
in_group inner w k ts us e o f r g b = subst (λ is. Header inner is r) (sym (group_items b w k ts e)) (group_header inner k ts us r o (f (item.Close ∷ items (Next false) us) (close_header true us)) g)

-- Parameters, locals and results.

abbrev pub variable_role : Bool → Role
variable_role true = role.Param
variable_role false = role.Local

variable_items : (p : Bool) (ts : List Terminal) → opening (variable_role p) ++ items (within (variable_role p)) ts ≡ items (Declaring p []) ts
variable_items true ts = refl
variable_items false ts = refl

declared : (inner p : Bool) (w : List ℕ) (ts us : List Terminal) → role_of w ≡ variable_role p → Declares ts us → HeaderFills inner (Open ∷ Word w ∷ ts) us
declared inner p w ts us e d r g b =
    let m = d p [] in
    let q = g false in
    subst (λ is. Header inner is r) (sym (group_items b w (variable_role p) ts e ∙ variable_items p ts ∙ m.1)) ((p && declares m.0) || q.0, m.0 ++ q.1, placed.by_variables q.2)

type_declare : (ts : List Terminal) (types : List ValueType) (us vs : List Terminal) → ValueTypeIs ts types us → Declares us vs → Declares ts vs
type_declare _ _ us vs (fields.by_word {w = w} {t = t} e) d = type_declares w us vs d

pub types_declare : (ts : List Terminal) (types : List ValueType) (r us : List Terminal) → Many ValueTypeIs ts types r → r ≡ Close ∷ us → Declares ts us
types_declare _ _ r us fields.by_none e = subst (λ x. Declares x us) (sym e) (close_declares us)
types_declare _ _ r us (fields.by_more {ts = ts} {us = vs} {vs = types} {ws = more} one m) e = type_declare ts types vs us one (types_declare vs more r us m e)

type_fills : (ts : List Terminal) (types : List ValueType) (us : List Terminal) → ValueTypeIs ts types us → HeaderFills true ts us
type_fills _ _ us (fields.by_word {w = w} {t = t} e) = after_keyword w us us (value_word w (ap is_some e)) (λ r k. k)

pub many_fill : {V : Type 0} (inner : Bool) (R : List Terminal → List V → List Terminal → Type 0) → ((ts : List Terminal) (vs : List V) (us : List Terminal) → R ts vs us → HeaderFills inner ts us) → (ts : List Terminal) (vs : List V) (r : List Terminal) → Many R ts vs r → HeaderFills inner ts r
many_fill inner R k _ _ r fields.by_none q g = g
many_fill inner R k _ _ r (fields.by_more {ts = ts} {us = us} {vs = vs} {ws = ws} one more) q g = k ts vs us one q (many_fill inner R k us ws r more q g)

named_declares : (x w : List ℕ) (ts : List Terminal) → Declares (Id x ∷ Word w ∷ Close ∷ ts) ts
unfolding items
named_declares x w ts p ns = (ns ++ (None ∷ []), refl)

-- `true` for parameters
variables_fill : (inner p : Bool) (word : List ℕ) → role_of word ≡ variable_role p → (ts : List Terminal) (vs : List Variable) (us : List Terminal) → Group word true ts vs us → HeaderFills inner ts us
variables_fill inner p word o _ _ us (fields.by_named {v = v} {x = x} {w = w} {t = t} m e type) = declared inner p v (Id x ∷ Word w ∷ Close ∷ us) us (ap role_of e ∙ o) (named_declares x w us)
variables_fill inner p word o _ _ us (fields.by_listed {ts = ts} {v = v} {types = types} e m) = declared inner p v ts us (ap role_of e ∙ o) (types_declare ts types (Close ∷ us) us m refl)

results_in : (inner : Bool) (word : List ℕ) → role_of word ≡ role.Header → (ts : List Terminal) (vs : List Variable) (us : List Terminal) → Group word false ts vs us → HeaderFills inner ts us
results_in inner word o _ _ us (fields.by_named {v = v} {x = x} {w = w} {t = t} m e type) = cc
results_in inner word o _ _ us (fields.by_listed {ts = ts} {v = v} {types = types} e m) = in_group inner v role.Header ts us (ap role_of e ∙ o) tt (many_fill true ValueTypeIs type_fills ts types (Close ∷ us) m)

param_role : role_of (codes "param") ≡ role.Param
unfolding role_of
param_role = refl

local_role : role_of (codes "local") ≡ role.Local
unfolding role_of
local_role = refl

result_role : role_of (codes "result") ≡ role.Header
unfolding role_of
result_role = refl

pub export_role : role_of (codes "export") ≡ role.Header
unfolding role_of
export_role = refl

pub type_role : role_of (codes "type") ≡ role.Field
unfolding role_of
type_role = refl

pub import_role : role_of (codes "import") ≡ role.Import
unfolding role_of
import_role = refl

pub mut_role : role_of (codes "mut") ≡ role.Other
unfolding role_of
mut_role = refl

pub params_fill : (inner : Bool) (ts : List Terminal) (vs : List Variable) (us : List Terminal) → Many (Group (codes "param") true) ts vs us → HeaderFills inner ts us
params_fill inner = many_fill inner (Group (codes "param") true) (variables_fill inner true (codes "param") param_role)

pub locals_fill : (inner : Bool) (ts : List Terminal) (vs : List Variable) (us : List Terminal) → Many (Group (codes "local") true) ts vs us → HeaderFills inner ts us
locals_fill inner = many_fill inner (Group (codes "local") true) (variables_fill inner false (codes "local") local_role)

pub results_fill : (inner : Bool) (ts : List Terminal) (vs : List Variable) (us : List Terminal) → Many (Group (codes "result") false) ts vs us → HeaderFills inner ts us
results_fill inner = many_fill inner (Group (codes "result") false) (results_in inner (codes "result") result_role)

export_fills : (inner : Bool) (ts : List Terminal) (vs : List (List ℕ)) (us : List Terminal) → InlineExport ts vs us → HeaderFills inner ts us
export_fills inner _ _ us (fields.by_inline_export {v = v} {n = n} e u) = in_group inner v role.Header (Text n ∷ Close ∷ us) us (ap role_of e ∙ export_role) tt (after_text n (Close ∷ us))

pub exports_fill : (inner : Bool) (ts : List Terminal) (vs : List (List ℕ)) (us : List Terminal) → Many InlineExport ts vs us → HeaderFills inner ts us
exports_fill inner = many_fill inner InlineExport (export_fills inner)

pub index_fills : (ls : List Label) (ts : List Terminal) (i : ℕ) (us : List Terminal) → IndexIs ls ts i us → HeaderFills true ts us
index_fills ls _ i us (fields.by_number e) = after_integer Absent i us
index_fills ls _ i us (fields.by_identifier {x = x} e) = after_id x us

pub used_fills : (word : List ℕ) (ls : List Label) → role_of word ≡ role.Field → (ts : List Terminal) (i : ℕ) (us : List Terminal) → UseIs word ls ts i us → HeaderFills false ts us
used_fills word ls o _ i us (fields.by_use {w = w} {ts = ts} e n) = in_group false w role.Field ts us (ap role_of e ∙ o) tt (index_fills ls ts i (Close ∷ us) n)
used_fills word ls o _ i us fields.by_no_use = λ r k. k

typed : (inner : Bool) (w : List ℕ) (ls : List Label) (i : ℕ) (ts us vs ws : List Terminal) → w ≡ codes "type" → IndexIs ls ts i (Close ∷ us) → HeaderFills inner us vs → HeaderFills inner vs ws → HeaderFills inner (Open ∷ Word w ∷ ts) ws
typed inner w ls i ts us vs ws e n p q r k = in_group inner w role.Field ts us (ap role_of e ∙ type_role) tt (index_fills ls ts i (Close ∷ us) n) r (p r (q r k))

pub use_fills : (inner : Bool) (types : Types) (ts : List Terminal) (u : NamedUse) (us : List Terminal) → TypeUseIs types ts u us → HeaderFills inner ts us
use_fills inner types ts _ us (fields.by_lists {us = ds} {params = ps} {results = rs} p q) = λ r k. params_fill inner ts ps ds p r (results_fill inner ds rs us q r k)
use_fills inner types _ _ ws (fields.by_index {w = w} {ts = ts} {us = us} {vs = vs} {i = i} a e n t p q) = typed inner w types.names i ts us vs ws e n (params_fill inner us [] vs p) (results_fill inner vs [] ws q)
use_fills inner types _ _ ws (fields.by_both {w = w} {ts = ts} {us = us} {vs = vs} {i = i} {params = ps} {results = rs} a e n t p q) = typed inner w types.names i ts us vs ws e n (params_fill inner us ps vs p) (results_fill inner vs rs ws q)
use_fills inner types _ _ ws (fields.by_unknown {w = w} {ts = ts} {us = us} {vs = vs} {i = i} {params = ps} {results = rs} a e n p q) = typed inner w types.names i ts us vs ws e n (params_fill inner us ps vs p) (results_fill inner vs rs ws q)

-- Import descriptions in their groups.

limits_fill : (ts : List Terminal) (l : Limits) (us : List Terminal) → LimitsAre ts l us → HeaderFills true ts us
limits_fill _ _ us (fields.by_min {n = n} e) = after_integer Absent n us
limits_fill _ _ us (fields.by_min_max {n = n} {m = m} e f) = λ r k. after_integer Absent n (Integer Absent m ∷ us) r (after_integer Absent m us r k)

-- `(mut type)`
mutable_fills : (v w : List ℕ) (us : List Terminal) → role_of v ≡ role.Other → is_structural w ≡ false → HeaderFills true (Open ∷ Word v ∷ Word w ∷ Close ∷ us) us
mutable_fills v w us e o r k b =
    subst (λ is. Header true is r) (sym (group_items b v role.Other (Word w ∷ Close ∷ us) e))
    (grouped true item.Open (items (Next false) (Word w ∷ Close ∷ us)) (items (Next false) us) r refl (after_keyword w (Close ∷ us) (Close ∷ us) o (λ r k. k) (item.Close ∷ items (Next false) us) (close_header true us) false) (k false))

global_fills : (ts : List Terminal) (t : GlobalType) (us : List Terminal) → GlobalTypeIs ts t us → HeaderFills true ts us
global_fills _ _ us (fields.by_constant {w = w} {t = t} e) = after_keyword w us us (value_word w (ap is_some e)) (λ r k. k)
global_fills _ _ us (fields.by_mutable {v = v} {w = w} {t = t} e type) = mutable_fills v w us (ap role_of e ∙ mut_role) (value_word w (ap is_some type))

pub extern_fills : (types : Types) (s : IndexSpace) (ts : List Terminal) (t : ExternType) (us : List Terminal) → ExternIs types s ts t us → HeaderFills true ts us
extern_fills types _ ts _ us (fields.by_type_use {u = u} k d) = use_fills true types ts u us k
extern_fills types _ ts _ us (fields.by_table_type {v = v} {limits = limits} {t = t} l e) = λ r k. limits_fill ts limits (Word v ∷ us) l r (after_keyword v us us (reference_word v (ap is_some e)) (λ r k. k) r k)
extern_fills types _ ts _ us (fields.by_memory_type {limits = limits} l) = limits_fill ts limits us l
extern_fills types _ ts _ us (fields.by_global_type {t = t} g) = global_fills ts t us g

strings_in : (ts : List Terminal) (vs : List ℕ) (us : List Terminal) → StringIs ts vs us → HeaderFills true ts us
strings_in _ _ us (fields.by_string {v = v}) = after_text v us

pub strings_fill : (ts : List Terminal) (vs : List ℕ) (us : List Terminal) → Many StringIs ts vs us → HeaderFills true ts us
strings_fill = many_fill true StringIs strings_in
