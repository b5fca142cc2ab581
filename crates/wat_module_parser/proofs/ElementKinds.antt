-- Parser and grammar agree on element segments and on the inline elements of tables.
use Rattle.std.proofs.Common.{◌≡◌, ◌<◌, ◌≤◌, ℕ, zero, suc, Bool, true, false, List, [], ◌∷◌, length, Option, Some, None, Ok, Err, refl, sym, ap, subst, ◌∙◌, arith}
use Rattle.std.specs.Prelude.{◌^◌, if◌then◌else◌, bytes_eq, codes}
use Rattle.wat_module_ast.specs.declared.error.Expected.{Expected}
use Rattle.wat_module_ast.specs.declared.error.Expected.TheVariants as expected
use Rattle.wat_module_ast.specs.declared.error.Range.TheVariants as range
use Rattle.wat_module_ast.specs.declared.error.Space.TheVariants as kind
use Rattle.wat_module_ast.specs.declared.error.FaultKind.TheVariants.{Unexpected, OutOfRange}
use Rattle.wat_module_ast.specs.declared.instruction.Instruction.{Instruction}
use Rattle.wat_module_tokens.specs.declared.token.Sign.TheVariants as sign
use Rattle.wat_module_ast.specs.Grammar.{Context, Folded, index, label_of, past, reference_type}
use Rattle.wat_module_ast.specs.Grammar as grammar
use Rattle.wat_module_ast.specs.Table.{mnemonics, low, high, prefixed, low_vectors, high_vectors}
use Rattle.wat_module_tokens.specs.Terminals.{Terminal, Open, Close, Word, Id, Integer, Text, Float, Other, Label}
use Rattle.wat_module_ast.specs.declared.instruction.ReferenceType.{ReferenceType}
use Rattle.wat_module_ast.specs.declared.instruction.ReferenceType.TheVariants as reference
use Rattle.wat_module_ast.specs.declared.fields.Limits.{Limits}
use Rattle.wat_module_ast.specs.Fields.{Many, by_none, by_more, by_number, by_identifier, LimitsAre, by_min, by_min_max, UseIs, by_use, by_no_use, ExpressionIs, by_word_expression, by_instruction, Elements, ElemMode, Passive, Active, Declarative, target, ItemIs, by_item, FunctionIs, by_function, ElementsAre, by_items, by_functions, ref_func, table_of, Field, Table, Elem, FieldIs, by_passive_elem, by_declarative_elem, by_active_elem, by_function_elem, is_u32}
use Rattle.wat_module_ast.specs.Types.{Types}
use Rattle.wat_module_parser.specs.Reading.{Read, and_then, after, all, closing, expression_at, one_element, element_item, one_function, function_item, either_at, table_limits, table_with, table_elements, table_open, table_by, table_at, used_at, elements_by, elements_at, elem_list, functions_list, implicit_table, given_table, active_elem, elem_word, elem_after, elem_at, closed_or, skip_two_closes_or, after_either, after_elements, after_functions}
use Rattle.wat_module_parser.proofs.Headers.{IsNoInstruction}
use Rattle.wat_module_parser.proofs.Items.{word_is, is_word, closing_inv, after_is, closed_or_is}
use Rattle.wat_module_parser.proofs.Manies.{Gives, gives_of, and_then_inv, Brings, Reads, all_sound, all_complete, many_takes, many_past}
use Rattle.wat_module_parser.proofs.SegmentKinds.{Laws, Keeps, used_sound, used_complete, expression_sound, expression_complete, ends_expression, expression_keeps, expression_opens, offset_is_none}
use Rattle.wat_module_parser.proofs.TypeRules.{index_sound, index_complete, index_pass, twice_closed_or_is}

pub table_is_none : IsNoInstruction (codes "table")
unfolding grammar.plain mnemonics low high prefixed low_vectors high_vectors
table_is_none = record { plain_not = λ context ls ts. refl; structured_not = refl }

pub item_is_none : IsNoInstruction (codes "item")
unfolding grammar.plain mnemonics low high prefixed low_vectors high_vectors
item_is_none = record { plain_not = λ context ls ts. refl; structured_not = refl }

past_short : (d : ℕ) (ts : List Terminal) → length (past d ts) ≤ length ts
past_short d [] = omega arith
past_short d (Open ∷ ts) = omega (arith, past_short (suc d) ts)
past_short zero (Close ∷ ts) = omega arith
past_short (suc d) (Close ∷ ts) = omega (arith, past_short d ts)
past_short zero (Word w ∷ ts) = omega (arith, past_short zero ts)
past_short (suc d) (Word w ∷ ts) = omega (arith, past_short (suc d) ts)
past_short zero (Id x ∷ ts) = omega (arith, past_short zero ts)
past_short (suc d) (Id x ∷ ts) = omega (arith, past_short (suc d) ts)
past_short zero (Integer s n ∷ ts) = omega (arith, past_short zero ts)
past_short (suc d) (Integer s n ∷ ts) = omega (arith, past_short (suc d) ts)
past_short zero (Text v ∷ ts) = omega (arith, past_short zero ts)
past_short (suc d) (Text v ∷ ts) = omega (arith, past_short (suc d) ts)
past_short zero (Float narrow wide ∷ ts) = omega (arith, past_short zero ts)
past_short (suc d) (Float narrow wide ∷ ts) = omega (arith, past_short (suc d) ts)
past_short zero (Other ∷ ts) = omega (arith, past_short zero ts)
past_short (suc d) (Other ∷ ts) = omega (arith, past_short (suc d) ts)

folded_takes : (context : Context) (ts : List Terminal) (is : List Instruction) (r : List Terminal) → Folded context ts is r → length r < length ts
folded_takes context _ is r (grammar.by_group {ts = ts} h p) = let a = past_short 0 ts in let b : length r ≡ length (past 0 ts) = ap length p in omega arith

expression_takes : Laws → (word : List ℕ) (context : Context) (ts : List Terminal) (is : List Instruction) (r : List Terminal) → ExpressionIs word context ts is r → length r < length ts
expression_takes laws word context _ is r (by_word_expression {ts = ts} e b) = let t = laws.taken context (None ∷ []) false ts is (Close ∷ r) b in omega arith
expression_takes laws word context ts is r (by_instruction f) = folded_takes context ts is r f

-- Elements by their instructions.

one_element_inv : (q : Read (List Instruction)) (es : Elements) (us : List Terminal) → Gives (one_element q) es us → (is : List Instruction) × (q ≡ Ok (is, us)) × (es ≡ is ∷ [])
one_element_inv (Ok (is, ts)) es us h = (is, ap (λ x. Ok (is, x)) h.1, sym h.0)
one_element_inv (Err f) es us h = absurd h

item_sound : Laws → (context : Context) (ts : List Terminal) (es : Elements) (us : List Terminal) → Brings (element_item context ts) es us → ItemIs context ts es us
unfolding element_item
item_sound laws context (Open ∷ ts) es us h =
    let (is, e, k) = one_element_inv (expression_at (codes "item") context (Open ∷ ts)) es us h in subst (λ x. ItemIs context (Open ∷ ts) x us) (sym k) (by_item (expression_sound laws (codes "item") context (Open ∷ ts) is us (gives_of _ is us e)))
item_sound laws context [] es us h = absurd h
item_sound laws context (Close ∷ ts) es us h = absurd h
item_sound laws context (Word w ∷ ts) es us h = absurd h
item_sound laws context (Id x ∷ ts) es us h = absurd h
item_sound laws context (Integer s n ∷ ts) es us h = absurd h
item_sound laws context (Text v ∷ ts) es us h = absurd h
item_sound laws context (Float narrow wide ∷ ts) es us h = absurd h
item_sound laws context (Other ∷ ts) es us h = absurd h

item_opened : (context : Context) (ts vs : List Terminal) (is : List Instruction) (us : List Terminal) → ts ≡ Open ∷ vs → expression_at (codes "item") context ts ≡ Ok (is, us) → Brings (element_item context ts) (is ∷ []) us
unfolding element_item
item_opened context ts vs is us o e = subst (λ y. Brings (element_item context y) (is ∷ []) us) (sym o) (gives_of (one_element (expression_at (codes "item") context (Open ∷ vs))) (is ∷ []) us (ap one_element (ap (expression_at (codes "item") context) (sym o) ∙ e)))

item_complete : Laws → (context : Context) (ts : List Terminal) (es : Elements) (us : List Terminal) → ItemIs context ts es us → Brings (element_item context ts) es us
item_complete laws context ts _ us (by_item {is = is} x) = let o = expression_opens (codes "item") context ts is us x in item_opened context ts o.0 is us o.1 (expression_complete laws (codes "item") item_is_none context ts is us x)

item_takes : Laws → (context : Context) (ts : List Terminal) (es : Elements) (us : List Terminal) → ItemIs context ts es us → length us < length ts
item_takes laws context ts _ us (by_item {is = is} x) = expression_takes laws (codes "item") context ts is us x

pub items_read : Laws → (context : Context) → Reads (element_item context) (ItemIs context)
items_read laws context = record { sound = item_sound laws context; complete = item_complete laws context; takes = item_takes laws context }

item_past : Laws → (context : Context) (d : ℕ) (ts : List Terminal) (es : Elements) (us : List Terminal) → ItemIs context ts es us → past d ts ≡ past d us
item_past laws context d ts _ us (by_item {is = is} x) = (expression_keeps laws (codes "item") context ts is us x).same d

pub items_keep : Laws → (context : Context) (ts : List Terminal) (es : Elements) (us : List Terminal) → Many (ItemIs context) ts es us → Keeps ts us
items_keep laws context ts es us m = record { short = many_takes (ItemIs context) (item_takes laws context) ts es us m; same = λ d. many_past (ItemIs context) d (item_past laws context d) ts es us m }

-- Elements by their functions.

one_function_inv : (q : Read ℕ) (es : Elements) (us : List Terminal) → Gives (one_function q) es us → (x : ℕ) × (q ≡ Ok (x, us)) × (es ≡ ref_func x ∷ [])
one_function_inv (Ok (x, ts)) es us h = (x, ap (λ y. Ok (x, y)) h.1, sym h.0)
one_function_inv (Err f) es us h = absurd h

function_by : (context : Context) (ts : List Terminal) (es : Elements) (us : List Terminal) → Gives (one_function (index kind.Func context.funcs ts)) es us → FunctionIs context ts es us
function_by context ts es us h = let (x, e, k) = one_function_inv (index kind.Func context.funcs ts) es us h in subst (λ y. FunctionIs context ts y us) (sym k) (by_function (index_sound kind.Func context.funcs ts x us (gives_of _ x us e)))

function_sound : (context : Context) (ts : List Terminal) (es : Elements) (us : List Terminal) → Brings (function_item context ts) es us → FunctionIs context ts es us
unfolding function_item
function_sound context (Integer s n ∷ ts) es us h = function_by context (Integer s n ∷ ts) es us h
function_sound context (Id x ∷ ts) es us h = function_by context (Id x ∷ ts) es us h
function_sound context [] es us h = absurd h
function_sound context (Open ∷ ts) es us h = absurd h
function_sound context (Close ∷ ts) es us h = absurd h
function_sound context (Word w ∷ ts) es us h = absurd h
function_sound context (Text v ∷ ts) es us h = absurd h
function_sound context (Float narrow wide ∷ ts) es us h = absurd h
function_sound context (Other ∷ ts) es us h = absurd h

function_complete : (context : Context) (ts : List Terminal) (es : Elements) (us : List Terminal) → FunctionIs context ts es us → Brings (function_item context ts) es us
unfolding function_item
function_complete context _ _ us (by_function (by_number {n = n} e)) = gives_of (one_function (index kind.Func context.funcs (Integer sign.Absent n ∷ us))) (ref_func n ∷ []) us (ap one_function (index_complete kind.Func context.funcs (Integer sign.Absent n ∷ us) n us (by_number e)))
function_complete context _ _ us (by_function (by_identifier {x = y} {n = n} e)) = gives_of (one_function (index kind.Func context.funcs (Id y ∷ us))) (ref_func n ∷ []) us (ap one_function (index_complete kind.Func context.funcs (Id y ∷ us) n us (by_identifier e)))

function_takes : (context : Context) (ts : List Terminal) (es : Elements) (us : List Terminal) → FunctionIs context ts es us → length us < length ts
function_takes context ts _ us (by_function {x = x} n) = (index_pass context.funcs ts x us n).short

pub functions_read : (context : Context) → Reads (function_item context) (FunctionIs context)
functions_read context = record { sound = function_sound context; complete = function_complete context; takes = function_takes context }

function_past : (context : Context) (d : ℕ) (ts : List Terminal) (es : Elements) (us : List Terminal) → FunctionIs context ts es us → past d ts ≡ past d us
function_past context d ts _ us (by_function {x = x} n) = (index_pass context.funcs ts x us n).same d

pub functions_keep : (context : Context) (ts : List Terminal) (es : Elements) (us : List Terminal) → Many (FunctionIs context) ts es us → Keeps ts us
functions_keep context ts es us m = record { short = many_takes (FunctionIs context) (function_takes context) ts es us m; same = λ d. many_past (FunctionIs context) d (function_past context d) ts es us m }

-- Lists of elements.

func_sound : (y : Expected) (context : Context) (w : List ℕ) (ts : List Terminal) (e : ReferenceType × Elements) (us : List Terminal) (b : Bool) → bytes_eq w (codes "func") ≡ b → Gives (if b then and_then (all (function_item context) ts) (λ es us. Ok ((reference.Func, es), us)) else Err (Unexpected y, Word w ∷ ts)) e us → ElementsAre context (Word w ∷ ts) e.0 e.1 us
func_sound y context w ts e us true k g =
    let (es, xs, e1, g1) = and_then_inv (all (function_item context) ts) (λ es us. Ok ((reference.Func, es), us)) e us g in
    subst (λ x. ElementsAre context (Word w ∷ ts) e.0 e.1 x) g1.1
    (subst (λ (x : ReferenceType × Elements). ElementsAre context (Word w ∷ ts) x.0 x.1 xs) g1.0 (by_functions (word_is w (codes "func") k) (all_sound (function_item context) (FunctionIs context) (functions_read context) es ts xs e1).0))
func_sound y context w ts e us false k g = absurd g

list_sound : Laws → (y : Expected) (context : Context) (w : List ℕ) (ts : List Terminal) (e : ReferenceType × Elements) (us : List Terminal) (o : Option ReferenceType) → reference_type w ≡ o → Gives (elements_by y context w o (Word w ∷ ts) ts) e us → ElementsAre context (Word w ∷ ts) e.0 e.1 us
list_sound laws y context w ts e us (Some t) k g =
    let (es, xs, e1, g1) = and_then_inv (all (element_item context) ts) (λ es us. Ok ((t, es), us)) e us g in
    subst (λ x. ElementsAre context (Word w ∷ ts) e.0 e.1 x) g1.1
    (subst (λ (x : ReferenceType × Elements). ElementsAre context (Word w ∷ ts) x.0 x.1 xs) g1.0 (by_items k (all_sound (element_item context) (ItemIs context) (items_read laws context) es ts xs e1).0))
list_sound laws y context w ts e us None k g = func_sound y context w ts e us (bytes_eq w (codes "func")) refl g

elements_sound : Laws → (y : Expected) (context : Context) (ts : List Terminal) (e : ReferenceType × Elements) (us : List Terminal) → Gives (elements_at y context ts) e us → ElementsAre context ts e.0 e.1 us
unfolding elements_at
elements_sound laws y context (Word w ∷ ts) e us g = list_sound laws y context w ts e us (reference_type w) refl g
elements_sound laws y context [] e us g = absurd g
elements_sound laws y context (Open ∷ ts) e us g = absurd g
elements_sound laws y context (Close ∷ ts) e us g = absurd g
elements_sound laws y context (Id x ∷ ts) e us g = absurd g
elements_sound laws y context (Integer s n ∷ ts) e us g = absurd g
elements_sound laws y context (Text v ∷ ts) e us g = absurd g
elements_sound laws y context (Float narrow wide ∷ ts) e us g = absurd g
elements_sound laws y context (Other ∷ ts) e us g = absurd g

elements_complete : Laws → (y : Expected) (context : Context) (ts : List Terminal) (t : ReferenceType) (es : Elements) (r : List Terminal) → ElementsAre context ts t es (Close ∷ r) → elements_at y context ts ≡ Ok ((t, es), Close ∷ r)
unfolding elements_at element_item function_item
elements_complete laws y context _ t es r (by_items {w = w} {ts = ts} k m) =
    ap (λ o. elements_by y context w o (Word w ∷ ts) ts) k ∙ ap (λ q. and_then q (λ es us. Ok ((t, es), us))) (all_complete (element_item context) (ItemIs context) (items_read laws context) es ts (Close ∷ r) m refl)
elements_complete laws y context _ _ es r (by_functions {w = w} {ts = ts} k m) =
    ap (λ x. elements_by y context x (reference_type x) (Word x ∷ ts) ts) k ∙ ap (λ q. and_then q (λ es us. Ok ((reference.Func, es), us))) (all_complete (function_item context) (FunctionIs context) (functions_read context) es ts (Close ∷ r) m refl)

pub elements_keep : Laws → (context : Context) (ts : List Terminal) (t : ReferenceType) (es : Elements) (us : List Terminal) → ElementsAre context ts t es us → Keeps ts us
elements_keep laws context _ t es us (by_items {ts = ts} k m) = let p = items_keep laws context ts es us m in let s = p.short in record { short = omega arith; same = λ d. p.same d }
elements_keep laws context _ _ es us (by_functions {ts = ts} k m) = let p = functions_keep context ts es us m in let s = p.short in record { short = omega arith; same = λ d. p.same d }

record IsList (context : Context) (l : Label) (m : ElemMode) (ts : List Terminal) (fs : List Field) (r : List Terminal) : Type 0 where
  type : ReferenceType
  es : Elements
  list : ElementsAre context ts type es (Close ∷ r)
  is : Elem l m type es ∷ [] ≡ fs

elem_list_sound : Laws → (y : Expected) (context : Context) (l : Label) (m : ElemMode) (ts : List Terminal) (fs : List Field) (r : List Terminal) → Gives (elem_list y context l m ts) fs r → IsList context l m ts fs r
elem_list_sound laws y context l m ts fs r g =
    let (e, us, e1, g1) = and_then_inv (elements_at y context ts) (λ e us. closing (Elem l m e.0 e.1 ∷ []) (closed_or (after_elements ts) us)) fs r g in
    let (same, shut) = closing_inv (Elem l m e.0 e.1 ∷ []) fs (closed_or (after_elements ts) us) r g1 in
    record { type = e.0; es = e.1; list = subst (λ x. ElementsAre context ts e.0 e.1 x) (closed_or_is (after_elements ts) us r shut) (elements_sound laws y context ts e us (gives_of _ e us e1)); is = same }

elem_list_complete : Laws → (y : Expected) (context : Context) (l : Label) (m : ElemMode) (ts : List Terminal) (t : ReferenceType) (es : Elements) (r : List Terminal) → ElementsAre context ts t es (Close ∷ r) → elem_list y context l m ts ≡ Ok (Elem l m t es ∷ [], r)
elem_list_complete laws y context l m ts t es r k = ap (λ q. and_then q (λ e us. closing (Elem l m e.0 e.1 ∷ []) (closed_or (after_elements ts) us))) (elements_complete laws y context ts t es r k)

record AreFunctions (context : Context) (l : Label) (m : ElemMode) (ts : List Terminal) (fs : List Field) (r : List Terminal) : Type 0 where
  es : Elements
  list : Many (FunctionIs context) ts es (Close ∷ r)
  is : Elem l m reference.Func es ∷ [] ≡ fs

functions_list_sound : (context : Context) (l : Label) (m : ElemMode) (ts : List Terminal) (fs : List Field) (r : List Terminal) → Gives (functions_list context l m ts) fs r → AreFunctions context l m ts fs r
functions_list_sound context l m ts fs r g =
    let (es, us, e1, g1) = and_then_inv (all (function_item context) ts) (λ es us. closing (Elem l m reference.Func es ∷ []) (closed_or (after_functions ts) us)) fs r g in
    let (same, shut) = closing_inv (Elem l m reference.Func es ∷ []) fs (closed_or (after_functions ts) us) r g1 in
    record { es = es; list = subst (λ x. Many (FunctionIs context) ts es x) (closed_or_is (after_functions ts) us r shut) (all_sound (function_item context) (FunctionIs context) (functions_read context) es ts us e1).0; is = same }

functions_list_complete : (context : Context) (l : Label) (m : ElemMode) (ts : List Terminal) (es : Elements) (r : List Terminal) → Many (FunctionIs context) ts es (Close ∷ r) → functions_list context l m ts ≡ Ok (Elem l m reference.Func es ∷ [], r)
unfolding function_item
functions_list_complete context l m ts es r k = ap (λ q. and_then q (λ es us. closing (Elem l m reference.Func es ∷ []) (closed_or (after_functions ts) us))) (all_complete (function_item context) (FunctionIs context) (functions_read context) es ts (Close ∷ r) k refl)

-- Element segments: what is parsed matches the grammar.

word_first : Laws → (types : Types) (context : Context) (w : List ℕ) (ts : List Terminal) (is : List Instruction) (bs : List Terminal) (fs : List Field) (r : List Terminal) → w ≡ codes "elem" → ExpressionIs (codes "offset") context (label_of ts).1 is bs → Gives (elem_list expected.ElementListOrFunction context (label_of ts).0 (Active (target 0 is)) bs) fs r → FieldIs types context (Open ∷ Word w ∷ ts) fs r
word_first laws types context w ts is bs fs r e x g = let k = elem_list_sound laws expected.ElementListOrFunction context (label_of ts).0 (Active (target 0 is)) bs fs r g in subst (λ y. FieldIs types context (Open ∷ Word w ∷ ts) y r) k.is (by_active_elem e by_no_use x k.list)

other_first : (types : Types) (context : Context) (w : List ℕ) (ts : List Terminal) (is : List Instruction) (bs : List Terminal) (fs : List Field) (r : List Terminal) → w ≡ codes "elem" → ExpressionIs (codes "offset") context (label_of ts).1 is bs → Gives (functions_list context (label_of ts).0 (Active (target 0 is)) bs) fs r → FieldIs types context (Open ∷ Word w ∷ ts) fs r
other_first types context w ts is bs fs r e x g = let k = functions_list_sound context (label_of ts).0 (Active (target 0 is)) bs fs r g in subst (λ y. FieldIs types context (Open ∷ Word w ∷ ts) y r) k.is (by_function_elem e x k.list)

first_sound : Laws → (types : Types) (context : Context) (w : List ℕ) (ts : List Terminal) (is : List Instruction) (bs : List Terminal) (fs : List Field) (r : List Terminal) → w ≡ codes "elem" → ExpressionIs (codes "offset") context (label_of ts).1 is bs → Gives (implicit_table context (label_of ts).0 (Active (target 0 is)) bs) fs r → FieldIs types context (Open ∷ Word w ∷ ts) fs r
unfolding implicit_table
first_sound laws types context w ts is (Word u ∷ bs) fs r e x g = word_first laws types context w ts is (Word u ∷ bs) fs r e x g
first_sound laws types context w ts is [] fs r e x g = other_first types context w ts is [] fs r e x g
first_sound laws types context w ts is (Open ∷ bs) fs r e x g = other_first types context w ts is (Open ∷ bs) fs r e x g
first_sound laws types context w ts is (Close ∷ bs) fs r e x g = other_first types context w ts is (Close ∷ bs) fs r e x g
first_sound laws types context w ts is (Id y ∷ bs) fs r e x g = other_first types context w ts is (Id y ∷ bs) fs r e x g
first_sound laws types context w ts is (Integer s n ∷ bs) fs r e x g = other_first types context w ts is (Integer s n ∷ bs) fs r e x g
first_sound laws types context w ts is (Text v ∷ bs) fs r e x g = other_first types context w ts is (Text v ∷ bs) fs r e x g
first_sound laws types context w ts is (Float narrow wide ∷ bs) fs r e x g = other_first types context w ts is (Float narrow wide ∷ bs) fs r e x g
first_sound laws types context w ts is (Other ∷ bs) fs r e x g = other_first types context w ts is (Other ∷ bs) fs r e x g

said_sound : Laws → (types : Types) (context : Context) (w : List ℕ) (ts : List Terminal) (fs : List Field) (r : List Terminal) → w ≡ codes "elem" → Gives (given_table context (label_of ts).0 (label_of ts).1) fs r → FieldIs types context (Open ∷ Word w ∷ ts) fs r
said_sound laws types context w ts fs r e g =
    let l = (label_of ts).0 in
    let hs = (label_of ts).1 in
    let (i, os, e1, g1) = and_then_inv (used_at (codes "table") kind.Table context.tables hs) (λ i us. and_then (expression_at (codes "offset") context us) (λ is vs. elem_list expected.ElementList context l (Active (target i is)) vs)) fs r g in
    let (is, bs, e2, g2) = and_then_inv (expression_at (codes "offset") context os) (λ is vs. elem_list expected.ElementList context l (Active (target i is)) vs) fs r g1 in
    let k = elem_list_sound laws expected.ElementList context l (Active (target i is)) bs fs r g2 in
    subst (λ y. FieldIs types context (Open ∷ Word w ∷ ts) y r) k.is (by_active_elem e (used_sound (codes "table") kind.Table context.tables hs i os (gives_of _ i os e1)) (expression_sound laws (codes "offset") context os is bs (gives_of _ is bs e2)) k.list)

active_elem_sound : Laws → (types : Types) (context : Context) (w : List ℕ) (ts : List Terminal) (fs : List Field) (r : List Terminal) (o : Option (List Terminal)) → w ≡ codes "elem" → Gives (active_elem context (label_of ts).0 o (label_of ts).1) fs r → FieldIs types context (Open ∷ Word w ∷ ts) fs r
active_elem_sound laws types context w ts fs r None e g =
    let (is, bs, e1, g1) = and_then_inv (expression_at (codes "offset") context (label_of ts).1) (λ is us. implicit_table context (label_of ts).0 (Active (target 0 is)) us) fs r g in
    first_sound laws types context w ts is bs fs r e (expression_sound laws (codes "offset") context (label_of ts).1 is bs (gives_of _ is bs e1)) g1
active_elem_sound laws types context w ts fs r (Some us) e g = said_sound laws types context w ts fs r e g

elem_word_sound : Laws → (types : Types) (context : Context) (w u : List ℕ) (ts hs : List Terminal) (fs : List Field) (r : List Terminal) (b : Bool) → w ≡ codes "elem" → (label_of ts).1 ≡ Word u ∷ hs → bytes_eq u (codes "declare") ≡ b → Gives (if b then elem_list expected.ElementList context (label_of ts).0 Declarative hs else elem_list expected.ElementSegment context (label_of ts).0 Passive (Word u ∷ hs)) fs r
    → FieldIs types context (Open ∷ Word w ∷ ts) fs r
elem_word_sound laws types context w u ts hs fs r true e k d g =
    let x = elem_list_sound laws expected.ElementList context (label_of ts).0 Declarative hs fs r g in subst (λ y. FieldIs types context (Open ∷ Word w ∷ ts) y r) x.is (by_declarative_elem e k (word_is u (codes "declare") d) x.list)
elem_word_sound laws types context w u ts hs fs r false e k d g =
    let x = elem_list_sound laws expected.ElementSegment context (label_of ts).0 Passive (Word u ∷ hs) fs r g in subst (λ y. FieldIs types context (Open ∷ Word w ∷ ts) y r) x.is (by_passive_elem e (subst (λ y. ElementsAre context y x.type x.es (Close ∷ r)) (sym k) x.list))

elem_after_sound : Laws → (types : Types) (context : Context) (w : List ℕ) (ts hs : List Terminal) (fs : List Field) (r : List Terminal) → w ≡ codes "elem" → (label_of ts).1 ≡ hs → Gives (elem_after context (label_of ts).0 hs) fs r → FieldIs types context (Open ∷ Word w ∷ ts) fs r
unfolding elem_after
elem_after_sound laws types context w ts (Open ∷ hs) fs r e k g =
    active_elem_sound laws types context w ts fs r (after (codes "table") (Open ∷ hs)) e (subst (λ y. Gives (active_elem context (label_of ts).0 (after (codes "table") (Open ∷ hs)) y) fs r) (sym k) g)
elem_after_sound laws types context w ts (Word u ∷ hs) fs r e k g = elem_word_sound laws types context w u ts hs fs r (bytes_eq u (codes "declare")) e k refl g
elem_after_sound laws types context w ts [] fs r e k g = absurd g
elem_after_sound laws types context w ts (Close ∷ hs) fs r e k g = absurd g
elem_after_sound laws types context w ts (Id x ∷ hs) fs r e k g = absurd g
elem_after_sound laws types context w ts (Integer s n ∷ hs) fs r e k g = absurd g
elem_after_sound laws types context w ts (Text v ∷ hs) fs r e k g = absurd g
elem_after_sound laws types context w ts (Float narrow wide ∷ hs) fs r e k g = absurd g
elem_after_sound laws types context w ts (Other ∷ hs) fs r e k g = absurd g

pub elem_sound : Laws → (types : Types) (context : Context) (w : List ℕ) (ts : List Terminal) (fs : List Field) (r : List Terminal) → w ≡ codes "elem" → Gives (elem_at context (label_of ts)) fs r → FieldIs types context (Open ∷ Word w ∷ ts) fs r
elem_sound laws types context w ts fs r e g = elem_after_sound laws types context w ts (label_of ts).1 fs r e refl g

-- Element segments: what matches the grammar is parsed.

no_declare : (w : List ℕ) (t : ReferenceType) → reference_type w ≡ Some t → (b : Bool) → bytes_eq w (codes "declare") ≡ b → b ≡ false
no_declare w t k true h = let f : reference_type w ≡ None = ap reference_type (word_is w (codes "declare") h) in cc
no_declare w t k false h = refl

record BeginsList (ts : List Terminal) : Type 0 where
  w : List ℕ
  us : List Terminal
  is : ts ≡ Word w ∷ us
  no : bytes_eq w (codes "declare") ≡ false

begins_list : (context : Context) (ts : List Terminal) (t : ReferenceType) (es : Elements) (us : List Terminal) → ElementsAre context ts t es us → BeginsList ts
begins_list context _ t es us (by_items {w = w} {ts = ts} k m) = record { w = w; us = ts; is = refl; no = no_declare w t k (bytes_eq w (codes "declare")) refl }
begins_list context _ _ es us (by_functions {w = w} {ts = ts} k m) = record { w = w; us = ts; is = refl; no = ap (λ x. bytes_eq x (codes "declare")) k }

at_word : (context : Context) (l : Label) (hs : List Terminal) (w : List ℕ) (us : List Terminal) → hs ≡ Word w ∷ us → elem_after context l hs ≡ elem_word context l w hs us
unfolding elem_after
at_word context l hs w us e = subst (λ x. elem_after context l x ≡ elem_word context l w x us) (sym e) refl

at_open : (context : Context) (l : Label) (hs us : List Terminal) → hs ≡ Open ∷ us → elem_after context l hs ≡ active_elem context l (after (codes "table") hs) hs
unfolding elem_after
at_open context l hs us e = subst (λ x. elem_after context l x ≡ active_elem context l (after (codes "table") x) x) (sym e) refl

first_list : (context : Context) (l : Label) (m : ElemMode) (bs : List Terminal) (w : List ℕ) (us : List Terminal) → bs ≡ Word w ∷ us → implicit_table context l m bs ≡ elem_list expected.ElementListOrFunction context l m bs
unfolding implicit_table
first_list context l m bs w us e = subst (λ x. implicit_table context l m x ≡ elem_list expected.ElementListOrFunction context l m x) (sym e) refl

first_functions : (context : Context) (l : Label) (m : ElemMode) (bs : List Terminal) (es : Elements) (r : List Terminal) → Many (FunctionIs context) bs es (Close ∷ r) → implicit_table context l m bs ≡ functions_list context l m bs
unfolding implicit_table
first_functions context l m _ _ r by_none = refl
first_functions context l m _ _ r (by_more (by_function (by_number e)) rest) = refl
first_functions context l m _ _ r (by_more (by_function (by_identifier e)) rest) = refl

pub passive_elem_complete : Laws → (context : Context) (l : Label) (hs : List Terminal) (t : ReferenceType) (es : Elements) (r : List Terminal) → ElementsAre context hs t es (Close ∷ r) → elem_after context l hs ≡ Ok (Elem l Passive t es ∷ [], r)
passive_elem_complete laws context l hs t es r k =
    let b = begins_list context hs t es (Close ∷ r) k in at_word context l hs b.w b.us b.is ∙ ap (λ (x : Bool). if x then elem_list expected.ElementList context l Declarative b.us else elem_list expected.ElementSegment context l Passive hs) b.no ∙ elem_list_complete laws expected.ElementSegment context l Passive hs t es r k

pub declarative_elem_complete : Laws → (context : Context) (l : Label) (hs : List Terminal) (v : List ℕ) (ds : List Terminal) (t : ReferenceType) (es : Elements) (r : List Terminal) → hs ≡ Word v ∷ ds → v ≡ codes "declare" → ElementsAre context ds t es (Close ∷ r) → elem_after context l hs ≡ Ok (Elem l Declarative t es ∷ [], r)
declarative_elem_complete laws context l hs v ds t es r o e k =
    at_word context l hs v ds o ∙ ap (λ (x : Bool). if x then elem_list expected.ElementList context l Declarative ds else elem_list expected.ElementSegment context l Passive hs) (is_word v (codes "declare") e) ∙ elem_list_complete laws expected.ElementList context l Declarative ds t es r k

first_complete : Laws → (context : Context) (l : Label) (hs : List Terminal) (is : List Instruction) (bs : List Terminal) → ExpressionIs (codes "offset") context hs is bs → elem_after context l hs ≡ implicit_table context l (Active (target 0 is)) bs
first_complete laws context l hs is bs x =
    let o = expression_opens (codes "offset") context hs is bs x in
    at_open context l hs o.0 o.1 ∙ ap (λ y. active_elem context l y hs) (ends_expression laws (codes "table") (codes "offset") table_is_none refl context hs is bs x)
    ∙ ap (λ q. and_then q (λ is us. implicit_table context l (Active (target 0 is)) us)) (expression_complete laws (codes "offset") offset_is_none context hs is bs x)

pub active_elem_complete : Laws → (context : Context) (l : Label) (hs os bs : List Terminal) (i : ℕ) (is : List Instruction) (t : ReferenceType) (es : Elements) (r : List Terminal) → UseIs (codes "table") context.tables hs i os → ExpressionIs (codes "offset") context os is bs → ElementsAre context bs t es (Close ∷ r)
    → elem_after context l hs ≡ Ok (Elem l (Active (target i is)) t es ∷ [], r)
active_elem_complete laws context l _ os bs i is t es r (by_use {w = w} {ts = us} e n) x k =
    let hs = Open ∷ Word w ∷ us in
    at_open context l hs (Word w ∷ us) refl ∙ ap (λ y. active_elem context l y hs) (after_is (codes "table") w us e)
    ∙ ap (λ q. and_then q (λ i us. and_then (expression_at (codes "offset") context us) (λ is vs. elem_list expected.ElementList context l (Active (target i is)) vs))) (used_complete (codes "table") kind.Table context.tables hs i os (by_use e n) (ends_expression laws (codes "table") (codes "offset") table_is_none refl context os is bs x))
    ∙ ap (λ q. and_then q (λ is vs. elem_list expected.ElementList context l (Active (target i is)) vs)) (expression_complete laws (codes "offset") offset_is_none context os is bs x) ∙ elem_list_complete laws expected.ElementList context l (Active (target i is)) bs t es r k
active_elem_complete laws context l hs _ bs _ is t es r by_no_use x k =
    let b = begins_list context bs t es (Close ∷ r) k in first_complete laws context l hs is bs x ∙ first_list context l (Active (target 0 is)) bs b.w b.us b.is ∙ elem_list_complete laws expected.ElementListOrFunction context l (Active (target 0 is)) bs t es r k

pub function_elem_complete : Laws → (context : Context) (l : Label) (hs bs : List Terminal) (is : List Instruction) (es : Elements) (r : List Terminal) → ExpressionIs (codes "offset") context hs is bs → Many (FunctionIs context) bs es (Close ∷ r) → elem_after context l hs ≡ Ok (Elem l (Active (target 0 is)) reference.Func es ∷ [], r)
function_elem_complete laws context l hs bs is es r x k = first_complete laws context l hs is bs x ∙ first_functions context l (Active (target 0 is)) bs es r k ∙ functions_list_complete context l (Active (target 0 is)) bs es r k

-- Tables that bring their elements.

pub data Elems (context : Context) (ts : List Terminal) (es : Elements) (r : List Terminal) : Type 0 where
  of_items : Many (ItemIs context) ts es r → Elems context ts es r
  of_functions : Many (FunctionIs context) ts es r → Elems context ts es r

functions_sound : (context : Context) (ts : List Terminal) (es : Elements) (us : List Terminal) → all (function_item context) ts ≡ Ok (es, us) → Elems context ts es us
functions_sound context ts es us e = of_functions (all_sound (function_item context) (FunctionIs context) (functions_read context) es ts us e).0

either_sound : Laws → (context : Context) (ts : List Terminal) (es : Elements) (us : List Terminal) → either_at context ts ≡ Ok (es, us) → Elems context ts es us
unfolding either_at
either_sound laws context (Open ∷ ts) es us e = of_items (all_sound (element_item context) (ItemIs context) (items_read laws context) es (Open ∷ ts) us e).0
either_sound laws context [] es us e = functions_sound context [] es us e
either_sound laws context (Close ∷ ts) es us e = functions_sound context (Close ∷ ts) es us e
either_sound laws context (Word w ∷ ts) es us e = functions_sound context (Word w ∷ ts) es us e
either_sound laws context (Id x ∷ ts) es us e = functions_sound context (Id x ∷ ts) es us e
either_sound laws context (Integer s n ∷ ts) es us e = functions_sound context (Integer s n ∷ ts) es us e
either_sound laws context (Text v ∷ ts) es us e = functions_sound context (Text v ∷ ts) es us e
either_sound laws context (Float narrow wide ∷ ts) es us e = functions_sound context (Float narrow wide ∷ ts) es us e
either_sound laws context (Other ∷ ts) es us e = functions_sound context (Other ∷ ts) es us e

table_with_sound : (l : Label) (ns : List (List ℕ)) (t : ReferenceType) (xs : List Terminal) (es : Elements) (ts : List Terminal) (fs : List Field) (r : List Terminal) (b : Bool) → is_u32 (length es) ≡ b → Gives (if b then Ok (Table l ns (table_of t es) (Some es) ∷ [], ts) else Err (OutOfRange (range.Unsigned (2 ^ 31)), xs)) fs r
    → (is_u32 (length es) ≡ true) × (Table l ns (table_of t es) (Some es) ∷ [] ≡ fs) × (ts ≡ r)
table_with_sound l ns t xs es ts fs r true e g = (e, g.0, g.1)
table_with_sound l ns t xs es ts fs r false e g = absurd g

pub record IsTableElements (context : Context) (l : Label) (ns : List (List ℕ)) (t : ReferenceType) (xs : List Terminal) (fs : List Field) (r : List Terminal) : Type 0 where
  pub es : Elements
  pub list : Elems context xs es (Close ∷ Close ∷ r)
  pub low : is_u32 (length es) ≡ true
  pub is : Table l ns (table_of t es) (Some es) ∷ [] ≡ fs

pub table_elements_sound : Laws → (context : Context) (l : Label) (ns : List (List ℕ)) (t : ReferenceType) (xs : List Terminal) (fs : List Field) (r : List Terminal) → Gives (table_elements context l ns t xs) fs r → IsTableElements context l ns t xs fs r
table_elements_sound laws context l ns t xs fs r g =
    let (first, us, e1, g1) = and_then_inv (either_at context xs) (λ es us. and_then (closing es (skip_two_closes_or (after_either xs) us)) (λ es vs. table_with l ns t xs es vs)) fs r g in
    let (es, vs, e2, g2) = and_then_inv (closing first (skip_two_closes_or (after_either xs) us)) (λ es vs. table_with l ns t xs es vs) fs r g1 in
    let (same, shut) = closing_inv first es (skip_two_closes_or (after_either xs) us) vs (gives_of _ es vs e2) in
    let (low, is, end) = table_with_sound l ns t xs es vs fs r (is_u32 (length es)) refl g2 in record {
      es = es;
      list = subst (λ x. Elems context xs x (Close ∷ Close ∷ r)) same (subst (λ x. Elems context xs first (Close ∷ Close ∷ x)) end (subst (λ x. Elems context xs first x) (twice_closed_or_is (after_either xs) us vs shut) (either_sound laws context xs first us e1)));
      low = low;
      is = is;
    }

open_either : (context : Context) (ts us : List Terminal) → ts ≡ Open ∷ us → either_at context ts ≡ all (element_item context) ts
unfolding either_at
open_either context ts us e = subst (λ x. either_at context x ≡ all (element_item context) x) (sym e) refl

pub either_items : Laws → (context : Context) (ts : List Terminal) (es : Elements) (r : List Terminal) → Many (ItemIs context) ts es (Close ∷ Close ∷ r) → either_at context ts ≡ Ok (es, Close ∷ Close ∷ r)
unfolding either_at element_item function_item
either_items laws context _ _ r by_none = all_complete (function_item context) (FunctionIs context) (functions_read context) [] (Close ∷ Close ∷ r) (Close ∷ Close ∷ r) by_none refl
either_items laws context ts _ r (by_more {us = us} (by_item {is = is} x) rest) =
    let o = expression_opens (codes "item") context ts is us x in open_either context ts o.0 o.1 ∙ all_complete (element_item context) (ItemIs context) (items_read laws context) _ ts (Close ∷ Close ∷ r) (by_more (by_item x) rest) refl

pub either_functions : (context : Context) (ts : List Terminal) (es : Elements) (r : List Terminal) → Many (FunctionIs context) ts es (Close ∷ Close ∷ r) → either_at context ts ≡ Ok (es, Close ∷ Close ∷ r)
unfolding either_at function_item
either_functions context _ _ r by_none = all_complete (function_item context) (FunctionIs context) (functions_read context) [] (Close ∷ Close ∷ r) (Close ∷ Close ∷ r) by_none refl
either_functions context _ _ r (by_more (by_function (by_number e)) rest) = all_complete (function_item context) (FunctionIs context) (functions_read context) _ _ (Close ∷ Close ∷ r) (by_more (by_function (by_number e)) rest) refl
either_functions context _ _ r (by_more (by_function (by_identifier e)) rest) = all_complete (function_item context) (FunctionIs context) (functions_read context) _ _ (Close ∷ Close ∷ r) (by_more (by_function (by_identifier e)) rest) refl

pub table_word_complete : (context : Context) (l : Label) (ns : List (List ℕ)) (u v : List ℕ) (hs : List Terminal) (t : ReferenceType) (es : Elements) (r : List Terminal) → reference_type u ≡ Some t → v ≡ codes "elem" → either_at context hs ≡ Ok (es, Close ∷ Close ∷ r) → is_u32 (length es) ≡ true
    → table_at context l ns (Word u ∷ Open ∷ Word v ∷ hs) ≡ Ok (Table l ns (table_of t es) (Some es) ∷ [], r)
unfolding table_at
table_word_complete context l ns u v hs t es r k e q low =
    ap (λ o. table_by context l ns o (Word u ∷ Open ∷ Word v ∷ hs) (Open ∷ Word v ∷ hs)) k ∙ ap (λ o. table_open context l ns t o (Open ∷ Word v ∷ hs)) (after_is (codes "elem") v hs e)
    ∙ ap (λ q. and_then q (λ es us. and_then (closing es (skip_two_closes_or (after_either hs) us)) (λ es vs. table_with l ns t hs es vs))) q ∙ ap (λ (b : Bool). if b then Ok (Table l ns (table_of t es) (Some es) ∷ [], r) else Err (OutOfRange (range.Unsigned (2 ^ 31)), hs)) low

pub limits_first : (context : Context) (l : Label) (ns : List (List ℕ)) (hs : List Terminal) (limits : Limits) (us : List Terminal) → LimitsAre hs limits us → table_at context l ns hs ≡ table_limits l ns hs
unfolding table_at
limits_first context l ns _ _ us (by_min e) = refl
limits_first context l ns _ _ us (by_min_max e f) = refl
