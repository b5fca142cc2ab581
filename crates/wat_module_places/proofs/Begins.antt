-- Each instruction, and each field, is at its own tokens.
use Rattle.std.proofs.Common.{◌≡◌, ◌∙◌, ℕ, Bool, true, false, List, [], ◌∷◌, ◌++◌, codes, drop, length, Some, None, inl, inr, refl, sym, ap, subst}
use Rattle.std.proofs.lemmas.List.Elements.{All-append, All-cons, All-nil}
use Rattle.std.specs.List.{All}
use Rattle.wat_module_ast.specs.declared.fields.IndexSpace.{IndexSpace}
use Rattle.wat_module_ast.specs.declared.instruction.Instruction.{Instruction}
use Rattle.wat_module_ast.specs.declared.instruction.ReferenceType.{ReferenceType}
use Rattle.wat_module_ast.specs.Fields as fields
use Rattle.wat_module_ast.specs.Fields.{Elements, ElementsAre, ExpressionIs, ExternIs, ExternType, Field, FieldIs, ItemIs, Many, Variable, extern_space, with_locals}
use Rattle.wat_module_ast.specs.Grammar as grammar
use Rattle.wat_module_ast.specs.Grammar.{Context, Folded, Instructions, end, instruction, label_of, otherwise}
use Rattle.wat_module_ast.specs.Types.{Types}
use Rattle.wat_module_places.specs.Places.{Placed, at, placed, placed_elements, placed_expression, placed_folded, placed_in, placed_item, placed_items}
use Rattle.wat_module_places.specs.Positions as positions
use Rattle.wat_module_places.specs.Positions.{BeginsField, BeginsWith, IsAtInstruction}
use Rattle.wat_module_tokens.specs.Terminals.{Terminal, Open, Close, Word, Label}

abbrev pub AllAt : Context → List Placed → Type 0
AllAt context ps = All (IsAtInstruction context) ps

none : (context : Context) → AllAt context []
none context = All-nil (IsAtInstruction context)

one_more : (context : Context) (i : Instruction) (p : List Terminal) (ps : List Placed) → BeginsWith context i p → AllAt context ps → AllAt context (at i p ∷ ps)
one_more context i p ps h more = All-cons (IsAtInstruction context) (at i p) ps h more

both : (context : Context) (ps qs : List Placed) → AllAt context ps → AllAt context qs → AllAt context (ps ++ qs)
both context ps qs = All-append (IsAtInstruction context) ps qs

pub instructions_at : (context : Context) (ls : List Label) (folded : Bool) (ts : List Terminal) (is : List Instruction) (r : List Terminal) (d : Instructions context ls folded ts is r) → AllAt context (placed d)
unfolding placed
instructions_at context _ _ _ _ r grammar.by_none = none context
instructions_at context _ _ _ _ r (grammar.by_plain {ls = ls} {w = w} {ts = ts} {us = us} {i = i} {is = is} s h more) =
    one_more context i (Word w ∷ ts) (placed more) (positions.by_plain ls us s h) (instructions_at context ls false us is r more)
instructions_at context _ _ _ _ r (grammar.by_block {ls = ls} {w = w} {v = v} {o = o} {a = a} {ts = ts} {bs = bs} {us = us} {vs = vs} {body = body} {is = is} s n h e l more) =
    one_more context (instruction o a) (Word w ∷ ts) (placed h ++ (at end (Word v ∷ us) ∷ placed more)) (positions.by_block bs s n)
    (both context (placed h) (at end (Word v ∷ us) ∷ placed more) (instructions_at context ((label_of ts).0 ∷ ls) false bs body (Word v ∷ us) h)
    (one_more context end (Word v ∷ us) (placed more) (positions.by_end e) (instructions_at context ls false vs is r more)))
instructions_at context _ _ _ _ r (grammar.by_if_else {ls = ls} {w = w} {v = v} {x = x} {o = o} {a = a} {ts = ts} {bs = bs} {us = us} {xs = xs} {ys = ys} {vs = vs} {body = body} {other = other} {is = is} s c n h e l k f m more) =
    one_more context (instruction o a) (Word w ∷ ts) (placed h ++ (at otherwise (Word v ∷ us) ∷ (placed k ++ (at end (Word x ∷ ys) ∷ placed more)))) (positions.by_block bs s n)
    (both context (placed h) (at otherwise (Word v ∷ us) ∷ (placed k ++ (at end (Word x ∷ ys) ∷ placed more))) (instructions_at context ((label_of ts).0 ∷ ls) false bs body (Word v ∷ us) h)
    (one_more context otherwise (Word v ∷ us) (placed k ++ (at end (Word x ∷ ys) ∷ placed more)) (positions.by_else e)
    (both context (placed k) (at end (Word x ∷ ys) ∷ placed more) (instructions_at context ((label_of ts).0 ∷ ls) false xs other (Word x ∷ ys) k)
    (one_more context end (Word x ∷ ys) (placed more) (positions.by_end f) (instructions_at context ls false vs is r more)))))
instructions_at context _ _ _ _ r (grammar.by_folded {ls = ls} {folded = folded} {w = w} {ts = ts} {us = us} {vs = vs} {i = i} {operands = operands} {is = is} s h inner more) =
    both context (placed inner) (at i (Word w ∷ ts) ∷ placed more) (instructions_at context ls true us operands (Close ∷ vs) inner)
    (one_more context i (Word w ∷ ts) (placed more) (positions.by_plain ls us s h) (instructions_at context ls folded vs is r more))
instructions_at context _ _ _ _ r (grammar.by_folded_block {ls = ls} {folded = folded} {w = w} {o = o} {a = a} {ts = ts} {bs = bs} {vs = vs} {body = body} {is = is} s c n inner more) =
    one_more context (instruction o a) (Word w ∷ ts) (placed inner ++ (at end (Close ∷ vs) ∷ placed more)) (positions.by_block bs s n)
    (both context (placed inner) (at end (Close ∷ vs) ∷ placed more) (instructions_at context ((label_of ts).0 ∷ ls) false bs body (Close ∷ vs) inner)
    (one_more context end (Close ∷ vs) (placed more) positions.by_close (instructions_at context ls folded vs is r more)))
instructions_at context _ _ _ _ r (grammar.by_folded_if {ls = ls} {folded = folded} {w = w} {t = t} {o = o} {a = a} {ts = ts} {bs = bs} {cs = cs} {vs = vs} {condition = condition} {body = body} {is = is} s c n inner k g more) =
    both context (placed inner) (at (instruction o a) (Word w ∷ ts) ∷ (placed g ++ (at end (Close ∷ vs) ∷ placed more))) (instructions_at context ls true bs condition (Open ∷ Word t ∷ cs) inner)
    (one_more context (instruction o a) (Word w ∷ ts) (placed g ++ (at end (Close ∷ vs) ∷ placed more)) (positions.by_block bs s n)
    (both context (placed g) (at end (Close ∷ vs) ∷ placed more) (instructions_at context ((label_of ts).0 ∷ ls) false cs body (Close ∷ Close ∷ vs) g)
    (one_more context end (Close ∷ vs) (placed more) positions.by_close (instructions_at context ls folded vs is r more))))
instructions_at context _ _ _ _ r (grammar.by_folded_if_else {ls = ls} {folded = folded} {w = w} {t = t} {e = e} {o = o} {a = a} {ts = ts} {bs = bs} {cs = cs} {es = es} {vs = vs} {condition = condition} {body = body} {other = other} {is = is} s c n inner k g f m more) =
    both context (placed inner) (at (instruction o a) (Word w ∷ ts) ∷ (placed g ++ (at otherwise (Word e ∷ es) ∷ (placed m ++ (at end (Close ∷ vs) ∷ placed more))))) (instructions_at context ls true bs condition (Open ∷ Word t ∷ cs) inner)
    (one_more context (instruction o a) (Word w ∷ ts) (placed g ++ (at otherwise (Word e ∷ es) ∷ (placed m ++ (at end (Close ∷ vs) ∷ placed more)))) (positions.by_block bs s n)
    (both context (placed g) (at otherwise (Word e ∷ es) ∷ (placed m ++ (at end (Close ∷ vs) ∷ placed more))) (instructions_at context ((label_of ts).0 ∷ ls) false cs body (Close ∷ Open ∷ Word e ∷ es) g)
    (one_more context otherwise (Word e ∷ es) (placed m ++ (at end (Close ∷ vs) ∷ placed more)) (positions.by_else f)
    (both context (placed m) (at end (Close ∷ vs) ∷ placed more) (instructions_at context ((label_of ts).0 ∷ ls) false es other (Close ∷ Close ∷ vs) m)
    (one_more context end (Close ∷ vs) (placed more) positions.by_close (instructions_at context ls folded vs is r more))))))

-- Expressions and elements.

folded_at : (context : Context) (ts : List Terminal) (is : List Instruction) (r : List Terminal) (f : Folded context ts is r) → AllAt context (placed_folded f)
unfolding placed_folded
folded_at context _ is r (grammar.by_group {ts = ts} d p) = instructions_at context [] true (Open ∷ ts) is r d

expression_at : (word : List ℕ) (context : Context) (ts : List Terminal) (is : List Instruction) (r : List Terminal) (e : ExpressionIs word context ts is r) → AllAt context (placed_expression e)
unfolding placed_expression
expression_at word context _ is r (fields.by_word_expression {w = w} {ts = ts} e d) = instructions_at context (None ∷ []) false ts is (Close ∷ r) d
expression_at word context ts is r (fields.by_instruction f) = folded_at context ts is r f

item_at : (context : Context) (ts : List Terminal) (es : Elements) (r : List Terminal) (i : ItemIs context ts es r) → AllAt context (placed_item i)
unfolding placed_item
item_at context ts _ r (fields.by_item {is = is} e) = expression_at (codes "item") context ts is r e

items_at : (context : Context) (ts : List Terminal) (es : Elements) (r : List Terminal) (m : Many (ItemIs context) ts es r) → AllAt context (placed_items m)
unfolding placed_items
items_at context _ _ r fields.by_none = none context
items_at context _ _ r (fields.by_more {ts = ts} {us = us} {vs = vs} {ws = ws} one more) = both context (placed_item one) (placed_items more) (item_at context ts vs us one) (items_at context us ws r more)

elements_at : (context : Context) (ts : List Terminal) (t : ReferenceType) (es : Elements) (r : List Terminal) (k : ElementsAre context ts t es r) → AllAt context (placed_elements k)
unfolding placed_elements
elements_at context _ t es r (fields.by_items {ts = ts} e m) = items_at context ts es r m
elements_at context _ _ es r (fields.by_functions {ts = ts} e m) = none context

-- Fields.

-- Instructions in the context of a module, with some parameters and locals.
abbrev pub AllAtIn : Context → List Placed → Type 0
AllAtIn context ps = (variables : List Variable) × AllAt (with_locals context variables) ps

-- a context without locals is that without parameters and locals
no_locals : (context : Context) → context.locals ≡ [] → with_locals context [] ≡ context
no_locals context e = ap (λ ls. record { types = context.types; locals = ls; funcs = context.funcs; tables = context.tables; memories = context.memories; globals = context.globals; elems = context.elems; datas = context.datas }) (sym e)

plainly : (context : Context) (ps : List Placed) → context.locals ≡ [] → AllAt context ps → AllAtIn context ps
plainly context ps e h = ([], subst (λ c. AllAt c ps) (sym (no_locals context e)) h)

nowhere : (context : Context) → AllAtIn context []
nowhere context = ([], none (with_locals context []))

pub field_at : (types : Types) (context : Context) → context.locals ≡ [] → (ts : List Terminal) (fs : List Field) (r : List Terminal) (f : FieldIs types context ts fs r) → AllAtIn context (placed_in f)
unfolding placed_in
field_at types context e _ _ r (fields.by_func {ds = ds} {u = u} {locals = ls} {is = is} w names uses locals d body) = (u.params ++ ls, instructions_at (with_locals context (u.params ++ ls)) (None ∷ []) false ds is (Close ∷ r) body)
field_at types context e _ _ r (fields.by_global {bs = bs} {is = is} w names t value) = plainly context (placed value) e (instructions_at context (None ∷ []) false bs is (Close ∷ r) value)
field_at types context e _ _ r (fields.by_table_items {hs = hs} {es = es} w names t k items n) = plainly context (placed_items items) e (items_at context hs es (Close ∷ Close ∷ r) items)
field_at types context e _ _ r (fields.by_passive_elem {ts = ts} {t = t} {es = es} w elements) = plainly context (placed_elements elements) e (elements_at context (label_of ts).1 t es (Close ∷ r) elements)
field_at types context e _ _ r (fields.by_declarative_elem {ds = ds} {t = t} {es = es} w l d elements) = plainly context (placed_elements elements) e (elements_at context ds t es (Close ∷ r) elements)
field_at types context e _ _ r (fields.by_active_elem {os = os} {bs = bs} {is = is} {t = t} {es = es} w table offset elements) =
    plainly context (placed_expression offset ++ placed_elements elements) e (both context (placed_expression offset) (placed_elements elements) (expression_at (codes "offset") context os is bs offset) (elements_at context bs t es (Close ∷ r) elements))
field_at types context e _ _ r (fields.by_function_elem {ts = ts} {bs = bs} {is = is} w offset indices) = plainly context (placed_expression offset) e (expression_at (codes "offset") context (label_of ts).1 is bs offset)
field_at types context e _ _ r (fields.by_active_data {os = os} {bs = bs} {is = is} w memory offset strings) = plainly context (placed_expression offset) e (expression_at (codes "offset") context os is bs offset)
field_at types context e ts fs r f = nowhere context

-- The keyword of a field.

extern_is : (types : Types) (s : IndexSpace) (ts : List Terminal) (t : ExternType) (r : List Terminal) → ExternIs types s ts t r → s ≡ extern_space t
extern_is types _ ts _ r (fields.by_type_use k d) = refl
extern_is types _ ts _ r (fields.by_table_type l e) = refl
extern_is types _ ts _ r (fields.by_memory_type l) = refl
extern_is types _ ts _ r (fields.by_global_type g) = refl

pub field_begins : (types : Types) (context : Context) (ts : List Terminal) (fs : List Field) (r : List Terminal) → FieldIs types context ts fs r → BeginsField fs (drop 1 ts)
field_begins types context _ _ r (fields.by_type e o k a b) = e
field_begins types context _ _ r (fields.by_import e a b k x) = inl e
field_begins types context _ _ r (fields.by_inline_import {us = us} {s = s} {t = t} e k i a b x) = inr (e ∙ ap Some (extern_is types s us t (Close ∷ r) x))
field_begins types context _ _ r (fields.by_func e a b c d k) = e
field_begins types context _ _ r (fields.by_table e a b c) = e
field_begins types context _ _ r (fields.by_table_items e a b c m l) = e
field_begins types context _ _ r (fields.by_table_functions e a b c m l) = e
field_begins types context _ _ r (fields.by_memory e a b) = e
field_begins types context _ _ r (fields.by_memory_data e a b m l) = e
field_begins types context _ _ r (fields.by_global e a b k) = e
field_begins types context _ _ r (fields.by_export e u k x) = e
field_begins types context _ _ r (fields.by_start e x) = e
field_begins types context _ _ r (fields.by_passive_elem e k) = e
field_begins types context _ _ r (fields.by_declarative_elem e o d k) = e
field_begins types context _ _ r (fields.by_active_elem e u x k) = e
field_begins types context _ _ r (fields.by_function_elem e x k) = e
field_begins types context _ _ r (fields.by_passive_data e m) = e
field_begins types context _ _ r (fields.by_active_data e u x m) = e

-- There is one field.

pub field_is_one : (types : Types) (context : Context) (ts : List Terminal) (fs : List Field) (r : List Terminal) → FieldIs types context ts fs r → length fs ≡ 1
field_is_one types context _ _ r (fields.by_type e o k a b) = refl
field_is_one types context _ _ r (fields.by_import e a b k x) = refl
field_is_one types context _ _ r (fields.by_inline_import e k i a b x) = refl
field_is_one types context _ _ r (fields.by_func e a b c d k) = refl
field_is_one types context _ _ r (fields.by_table e a b c) = refl
field_is_one types context _ _ r (fields.by_table_items e a b c m l) = refl
field_is_one types context _ _ r (fields.by_table_functions e a b c m l) = refl
field_is_one types context _ _ r (fields.by_memory e a b) = refl
field_is_one types context _ _ r (fields.by_memory_data e a b m l) = refl
field_is_one types context _ _ r (fields.by_global e a b k) = refl
field_is_one types context _ _ r (fields.by_export e u k x) = refl
field_is_one types context _ _ r (fields.by_start e x) = refl
field_is_one types context _ _ r (fields.by_passive_elem e k) = refl
field_is_one types context _ _ r (fields.by_declarative_elem e o d k) = refl
field_is_one types context _ _ r (fields.by_active_elem e u x k) = refl
field_is_one types context _ _ r (fields.by_function_elem e x k) = refl
field_is_one types context _ _ r (fields.by_passive_data e m) = refl
field_is_one types context _ _ r (fields.by_active_data e u x m) = refl
