-- Parts of a field, with the positions of their instructions.
use Rattle.std.proofs.Common.{◌≡◌, ◌∙◌, ℕ, suc, Bool, true, false, List, [], ◌∷◌, ◌++◌, map, Some, None, refl, sym, ap}
use Rattle.std.proofs.lemmas.List.{map-append}
use Rattle.std.specs.Prelude.{codes, is_some}
use Rattle.wat_module_ast.specs.declared.fields.GlobalType.{GlobalType}
use Rattle.wat_module_ast.specs.declared.fields.IndexSpace.{IndexSpace}
use Rattle.wat_module_ast.specs.declared.fields.Limits.{Limits}
use Rattle.wat_module_ast.specs.declared.instruction.Instruction.{Instruction}
use Rattle.wat_module_ast.specs.declared.instruction.ReferenceType.{ReferenceType}
use Rattle.wat_module_ast.specs.declared.instruction.ValueType.{ValueType}
use Rattle.wat_module_tokens.specs.declared.token.Sign.TheVariants.{Absent}
use Rattle.wat_module_ast.specs.Fields as fields
use Rattle.wat_module_ast.specs.Fields.{Elements, ElementsAre, ExpressionIs, ExternIs, ExternType, FunctionIs, GlobalTypeIs, Group, IndexIs, InlineExport, ItemIs, LimitsAre, Many, NamedUse, StringIs, TypeUseIs, UseIs, ValueTypeIs, Variable}
use Rattle.wat_module_ast.specs.Grammar as grammar
use Rattle.wat_module_ast.specs.Grammar.{Context, Folded, Instructions, reference_type, value_type}
use Rattle.wat_module_ast.specs.Types.{Types}
use Rattle.wat_module_places.specs.declared.keywords.Keyword.TheVariants as keyword
use Rattle.wat_module_places.specs.Law.{place_of}
use Rattle.wat_module_places.specs.Places.{Placed, placed, placed_elements, placed_expression, placed_folded, placed_item, placed_items}
use Rattle.wat_module_places.specs.Walk as steps
use Rattle.wat_module_places.specs.Walk.{Unplaced, kind, opened, walk}
use Rattle.wat_module_places.proofs.Passing.{Passes, after_close, after_id, after_integer, after_text, after_word, in_group, on, stay, to_end}
use Rattle.wat_module_places.proofs.Walking as walking
use Rattle.wat_module_places.proofs.Words.{export_word, func_word, local_word, mut_word, param_word, reference_word, result_word, type_word, value_word}
use Rattle.wat_module_tokens.specs.Terminals.{Terminal, Open, Close, Word, Id, Integer, Text, Label, past}

-- `Finds ts ps us`: the instructions `ps` are in the tokens `ts` up to the rest `us`, and the same groups are open.
pub record Finds (ts : List Terminal) (ps : List Placed) (us : List Terminal) : Type 0 where
  pub same : (gs : List steps.Group) → walk gs ts ≡ map place_of ps ++ walk gs us
  pub level : (d : ℕ) → past d ts ≡ past d us

append_assoc : (xs ys zs : List (List Terminal)) → xs ++ (ys ++ zs) ≡ (xs ++ ys) ++ zs
append_assoc [] ys zs = refl
append_assoc (x ∷ xs) ys zs = ap (λ ls. x ∷ ls) (append_assoc xs ys zs)

-- One part after another.

pub passed : (ts us : List Terminal) → Passes ts us → Finds ts [] us
passed ts us h = record { same = h.same; level = h.level }

pub after_passed : (ts us : List Terminal) (ps : List Placed) (vs : List Terminal) → Passes ts us → Finds us ps vs → Finds ts ps vs
after_passed ts us ps vs h k = record { same = λ gs. h.same gs ∙ k.same gs; level = λ d. h.level d ∙ k.level d }

pub and_then : (ts : List Terminal) (ps : List Placed) (us : List Terminal) (qs : List Placed) (vs : List Terminal) → Finds ts ps us → Finds us qs vs → Finds ts (ps ++ qs) vs
and_then ts ps us qs vs h k = record {
  same = λ gs. h.same gs ∙ ap (λ ls. map place_of ps ++ ls) (k.same gs) ∙ append_assoc (map place_of ps) (map place_of qs) (walk gs vs) ∙ ap (λ ls. ls ++ walk gs vs) (sym (map-append place_of ps qs));
  level = λ d. h.level d ∙ k.level d;
}

pub grouped : (w : List ℕ) (ts : List Terminal) (ps : List Placed) (us : List Terminal) → kind w ≡ keyword.Other → Finds ts ps (Close ∷ us) → Finds (Open ∷ Word w ∷ ts) ps us
unfolding walk
grouped w ts ps us e h = record { same = λ gs. ap (λ k. (opened k (Word w ∷ ts) gs).0 ++ walk (opened k (Word w ∷ ts) gs).1 ts) e ∙ h.same (Unplaced ∷ gs); level = λ d. h.level (suc d) }

pub begins : (w : List ℕ) (ts : List Terminal) (ps : List Placed) (us : List Terminal) → kind w ≡ keyword.Other → Finds ts ps us → Finds (Word w ∷ ts) ps us
begins w ts ps us e h = after_passed (Word w ∷ ts) ts ps us (after_word w ts ts e (stay ts)) h

pub instructions : (context : Context) (ls : List Label) (folded : Bool) (ts : List Terminal) (is : List Instruction) (r : List Terminal) (d : Instructions context ls folded ts is r) → Finds ts (placed d) r
instructions context ls folded ts is r d = record { same = walking.walk_is context ls folded ts is r d; level = walking.level context ls folded ts is r d }

-- Any number of parts without instructions.

pub many_pass : {V : Type 0} (R : List Terminal → List V → List Terminal → Type 0) → ((ts : List Terminal) (vs : List V) (us : List Terminal) → R ts vs us → Passes ts us) → (ts : List Terminal) (vs : List V) (r : List Terminal) → Many R ts vs r → Passes ts r
many_pass R k _ _ r fields.by_none = stay r
many_pass R k _ _ r (fields.by_more {ts = ts} {us = us} {vs = vs} {ws = ws} one more) = on ts us r (k ts vs us one) (many_pass R k us ws r more)

-- a word in its position
word_is : (w v : List ℕ) → w ≡ v → kind v ≡ keyword.Other → kind w ≡ keyword.Other
word_is w v e h = ap kind e ∙ h

pub is_word : (w v : List ℕ) → w ≡ v → kind v ≡ keyword.Other → kind w ≡ keyword.Other
is_word = word_is

value_is : (w : List ℕ) (t : ValueType) → value_type w ≡ Some t → kind w ≡ keyword.Other
value_is w t e = value_word w (ap is_some e)

pub reference_is : (w : List ℕ) (t : ReferenceType) → reference_type w ≡ Some t → kind w ≡ keyword.Other
reference_is w t e = reference_word w (ap is_some e)

-- Headers.

value_pass : (ts : List Terminal) (vs : List ValueType) (us : List Terminal) → ValueTypeIs ts vs us → Passes ts us
value_pass _ _ us (fields.by_word {w = w} {t = t} e) = after_word w us us (value_is w t e) (stay us)

pub group_pass : (word : List ℕ) (may : Bool) → kind word ≡ keyword.Other → (ts : List Terminal) (vs : List Variable) (us : List Terminal) → Group word may ts vs us → Passes ts us
group_pass word may o _ _ us (fields.by_named {v = v} {x = x} {w = w} {t = t} m e type) =
    in_group v (Id x ∷ Word w ∷ Close ∷ us) us (word_is v word e o)
    (to_end (Id x ∷ Word w ∷ Close ∷ us) (Word w ∷ Close ∷ us) us (after_id x (Word w ∷ Close ∷ us)) (to_end (Word w ∷ Close ∷ us) (Close ∷ us) us (after_word w (Close ∷ us) (Close ∷ us) (value_is w t type) (stay (Close ∷ us))) (after_close us us (stay us))))
group_pass word may o _ _ us (fields.by_listed {ts = ts} {v = v} {types = types} e m) = in_group v ts us (word_is v word e o) (to_end ts (Close ∷ us) us (many_pass ValueTypeIs value_pass ts types (Close ∷ us) m) (after_close us us (stay us)))

pub params_pass : (ts : List Terminal) (vs : List Variable) (us : List Terminal) → Many (Group (codes "param") true) ts vs us → Passes ts us
params_pass = many_pass (Group (codes "param") true) (group_pass (codes "param") true param_word)

pub results_pass : (ts : List Terminal) (vs : List Variable) (us : List Terminal) → Many (Group (codes "result") false) ts vs us → Passes ts us
results_pass = many_pass (Group (codes "result") false) (group_pass (codes "result") false result_word)

pub locals_pass : (ts : List Terminal) (vs : List Variable) (us : List Terminal) → Many (Group (codes "local") true) ts vs us → Passes ts us
locals_pass = many_pass (Group (codes "local") true) (group_pass (codes "local") true local_word)

export_pass : (ts : List Terminal) (vs : List (List ℕ)) (us : List Terminal) → InlineExport ts vs us → Passes ts us
export_pass _ _ us (fields.by_inline_export {v = v} {n = n} e u) = in_group v (Text n ∷ Close ∷ us) us (word_is v (codes "export") e export_word) (to_end (Text n ∷ Close ∷ us) (Close ∷ us) us (after_text n (Close ∷ us)) (after_close us us (stay us)))

pub exports_pass : (ts : List Terminal) (vs : List (List ℕ)) (us : List Terminal) → Many InlineExport ts vs us → Passes ts us
exports_pass = many_pass InlineExport export_pass

pub index_pass : (ls : List Label) (ts : List Terminal) (i : ℕ) (us : List Terminal) → IndexIs ls ts i us → Passes ts us
index_pass ls _ i us (fields.by_number e) = after_integer Absent i us
index_pass ls _ i us (fields.by_identifier {x = x} e) = after_id x us

pub limits_pass : (ts : List Terminal) (l : Limits) (us : List Terminal) → LimitsAre ts l us → Passes ts us
limits_pass _ _ us (fields.by_min {n = n} e) = after_integer Absent n us
limits_pass _ _ us (fields.by_min_max {n = n} {m = m} e f) = on (Integer Absent n ∷ Integer Absent m ∷ us) (Integer Absent m ∷ us) us (after_integer Absent n (Integer Absent m ∷ us)) (after_integer Absent m us)

pub global_pass : (ts : List Terminal) (t : GlobalType) (us : List Terminal) → GlobalTypeIs ts t us → Passes ts us
global_pass _ _ us (fields.by_constant {w = w} {t = t} e) = after_word w us us (value_is w t e) (stay us)
global_pass _ _ us (fields.by_mutable {v = v} {w = w} {t = t} e type) =
    in_group v (Word w ∷ Close ∷ us) us (word_is v (codes "mut") e mut_word) (to_end (Word w ∷ Close ∷ us) (Close ∷ us) us (after_word w (Close ∷ us) (Close ∷ us) (value_is w t type) (stay (Close ∷ us))) (after_close us us (stay us)))

-- the index of a type use and its `)`, and what follows
typed : (w : List ℕ) (ls : List Label) (i : ℕ) (ts us vs ws : List Terminal) → w ≡ codes "type" → IndexIs ls ts i (Close ∷ us) → Passes us vs → Passes vs ws → Passes (Open ∷ Word w ∷ ts) ws
typed w ls i ts us vs ws e n p r = in_group w ts ws (word_is w (codes "type") e type_word) (to_end ts (Close ∷ us) ws (index_pass ls ts i (Close ∷ us) n) (after_close us ws (on us vs ws p r)))

pub use_pass : (types : Types) (ts : List Terminal) (u : NamedUse) (us : List Terminal) → TypeUseIs types ts u us → Passes ts us
use_pass types ts _ us (fields.by_lists {us = ds} {params = ps} {results = rs} p r) = on ts ds us (params_pass ts ps ds p) (results_pass ds rs us r)
use_pass types _ _ ws (fields.by_index {w = w} {ts = ts} {us = us} {vs = vs} {i = i} a e n t p r) = typed w types.names i ts us vs ws e n (params_pass us [] vs p) (results_pass vs [] ws r)
use_pass types _ _ ws (fields.by_both {w = w} {ts = ts} {us = us} {vs = vs} {i = i} {params = ps} {results = rs} a e n t p r) = typed w types.names i ts us vs ws e n (params_pass us ps vs p) (results_pass vs rs ws r)
use_pass types _ _ ws (fields.by_unknown {w = w} {ts = ts} {us = us} {vs = vs} {i = i} {params = ps} {results = rs} a e n p r) = typed w types.names i ts us vs ws e n (params_pass us ps vs p) (results_pass vs rs ws r)

pub extern_pass : (types : Types) (s : IndexSpace) (ts : List Terminal) (t : ExternType) (us : List Terminal) → ExternIs types s ts t us → Passes ts us
extern_pass types _ ts _ us (fields.by_type_use {u = u} k d) = use_pass types ts u us k
extern_pass types _ ts _ us (fields.by_table_type {v = v} {limits = limits} {t = t} l e) = on ts (Word v ∷ us) us (limits_pass ts limits (Word v ∷ us) l) (after_word v us us (reference_is v t e) (stay us))
extern_pass types _ ts _ us (fields.by_memory_type {limits = limits} l) = limits_pass ts limits us l
extern_pass types _ ts _ us (fields.by_global_type {t = t} g) = global_pass ts t us g

string_pass : (ts : List Terminal) (vs : List ℕ) (us : List Terminal) → StringIs ts vs us → Passes ts us
string_pass _ _ us (fields.by_string {v = v}) = after_text v us

pub strings_pass : (ts : List Terminal) (vs : List ℕ) (us : List Terminal) → Many StringIs ts vs us → Passes ts us
strings_pass = many_pass StringIs string_pass

pub used_pass : (word : List ℕ) (ls : List Label) → kind word ≡ keyword.Other → (ts : List Terminal) (i : ℕ) (us : List Terminal) → UseIs word ls ts i us → Passes ts us
used_pass word ls o _ i us (fields.by_use {w = w} {ts = ts} e n) = in_group w ts us (word_is w word e o) (to_end ts (Close ∷ us) us (index_pass ls ts i (Close ∷ us) n) (after_close us us (stay us)))
used_pass word ls o _ i us fields.by_no_use = stay us

function_pass : (context : Context) (ts : List Terminal) (es : Elements) (us : List Terminal) → FunctionIs context ts es us → Passes ts us
function_pass context ts _ us (fields.by_function {x = x} n) = index_pass context.funcs ts x us n

pub functions_pass : (context : Context) (ts : List Terminal) (es : Elements) (us : List Terminal) → Many (FunctionIs context) ts es us → Passes ts us
functions_pass context = many_pass (FunctionIs context) (function_pass context)

-- Expressions.

folded_finds : (context : Context) (ts : List Terminal) (is : List Instruction) (r : List Terminal) (f : Folded context ts is r) → Finds ts (placed_folded f) r
unfolding placed_folded
folded_finds context _ is r (grammar.by_group {ts = ts} d p) = instructions context [] true (Open ∷ ts) is r d

pub expression_finds : (word : List ℕ) (context : Context) → kind word ≡ keyword.Other → (ts : List Terminal) (is : List Instruction) (r : List Terminal) (e : ExpressionIs word context ts is r) → Finds ts (placed_expression e) r
unfolding placed_expression
expression_finds word context o _ is r (fields.by_word_expression {w = w} {ts = ts} e d) = grouped w ts (placed d) r (word_is w word e o) (instructions context (None ∷ []) false ts is (Close ∷ r) d)
expression_finds word context o ts is r (fields.by_instruction f) = folded_finds context ts is r f

item_finds : (context : Context) → kind (codes "item") ≡ keyword.Other → (ts : List Terminal) (es : Elements) (r : List Terminal) (i : ItemIs context ts es r) → Finds ts (placed_item i) r
unfolding placed_item
item_finds context o ts _ r (fields.by_item {is = is} e) = expression_finds (codes "item") context o ts is r e

pub items_find : (context : Context) → kind (codes "item") ≡ keyword.Other → (ts : List Terminal) (es : Elements) (r : List Terminal) (m : Many (ItemIs context) ts es r) → Finds ts (placed_items m) r
unfolding placed_items
items_find context o _ _ r fields.by_none = passed r r (stay r)
items_find context o _ _ r (fields.by_more {ts = ts} {us = us} {vs = vs} {ws = ws} one more) = and_then ts (placed_item one) us (placed_items more) r (item_finds context o ts vs us one) (items_find context o us ws r more)

pub elements_find : (context : Context) → kind (codes "item") ≡ keyword.Other → (ts : List Terminal) (t : ReferenceType) (es : Elements) (r : List Terminal) (k : ElementsAre context ts t es r) → Finds ts (placed_elements k) r
unfolding placed_elements
elements_find context o _ t es r (fields.by_items {w = w} {ts = ts} e m) = begins w ts (placed_items m) r (reference_is w t e) (items_find context o ts es r m)
elements_find context o _ _ es r (fields.by_functions {w = w} {ts = ts} e m) = begins w ts [] r (word_is w (codes "func") e func_word) (passed ts r (functions_pass context ts es r m))
