-- The code finds the fields of a module and the positions in each.
use Rattle.std.proofs.Common.{◌≡◌, ℕ, false, List, [], ◌∷◌, ◌++◌, Some, None, refl, sym, ap, subst}
use Rattle.std.proofs.lemmas.List.{append-nil}
use Rattle.std.specs.Prelude.{codes, is_some}
use Rattle.wat_module_ast.specs.declared.fields.IndexSpace.{IndexSpace}
use Rattle.wat_module_ast.specs.Fields as fields
use Rattle.wat_module_ast.specs.Fields.{Field, FieldIs, Group, InlineExport, Many, space_of, with_locals}
use Rattle.wat_module_ast.specs.Grammar.{Context, label_of}
use Rattle.wat_module_ast.specs.Types.{Types}
use Rattle.wat_module_places.specs.declared.keywords.Keyword.TheVariants as keyword
use Rattle.wat_module_places.specs.Places.{Placed, placed, placed_elements, placed_expression, placed_in, placed_items}
use Rattle.wat_module_places.specs.Walk.{kind}
use Rattle.wat_module_places.proofs.Finding.{Finds, after_passed, and_then, begins, elements_find, exports_pass, expression_finds, extern_pass, functions_pass, global_pass, grouped, index_pass, instructions, is_word, items_find, limits_pass, locals_pass, params_pass, passed, reference_is, results_pass, strings_pass, use_pass, used_pass}
use Rattle.wat_module_places.proofs.Passing.{after_close, after_text, after_word, in_group, label_passes, on, stay, to_end}
use Rattle.wat_module_places.proofs.Words.{data_word, declare_word, elem_word, export_word, func_word, global_word, import_word, item_word, memory_word, offset_word_alone, space_word, start_word, table_word, type_word}
use Rattle.wat_module_tokens.specs.Terminals.{Terminal, Open, Close, Word, Text}

space_is : (w : List ℕ) (s : IndexSpace) → space_of w ≡ Some s → kind w ≡ keyword.Other
space_is w s e = space_word w (ap is_some e)

-- after the keyword of a field, its identifier
named : (w : List ℕ) (ts : List Terminal) (ps : List Placed) (us : List Terminal) → kind w ≡ keyword.Other → Finds (label_of ts).1 ps us → Finds (Word w ∷ ts) ps us
named w ts ps us e h = begins w ts ps us e (after_passed ts (label_of ts).1 ps us (label_passes ts) h)

-- and its inline exports
exported : (w : List ℕ) (ts : List Terminal) (ns : List (List ℕ)) (hs : List Terminal) (ps : List Placed) (us : List Terminal) → kind w ≡ keyword.Other → Many InlineExport (label_of ts).1 ns hs → Finds hs ps us → Finds (Word w ∷ ts) ps us
exported w ts ns hs ps us e m h = named w ts ps us e (after_passed (label_of ts).1 hs ps us (exports_pass (label_of ts).1 ns hs m) h)

-- The tokens of a field from its keyword on, with the positions of its instructions.
pub record Within (ts : List Terminal) (ps : List Placed) (r : List Terminal) : Type 0 where
  pub inside : List Terminal
  pub is : ts ≡ Open ∷ inside
  pub finds : Finds inside ps (Close ∷ r)

within : (inside : List Terminal) (ps : List Placed) (r : List Terminal) → Finds inside ps (Close ∷ r) → Within (Open ∷ inside) ps r
within inside ps r h = record { inside = inside; is = refl; finds = h }

pub field_finds : (types : Types) (context : Context) (ts : List Terminal) (fs : List Field) (r : List Terminal) (f : FieldIs types context ts fs r) → Within ts (placed_in f) r
unfolding placed_in
field_finds types context _ _ r (fields.by_type {w = w} {v = v} {ts = ts} {hs = hs} {bs = bs} {params = ps} {results = rs} e o k a b) =
    within (Word w ∷ ts) [] r (named w ts [] (Close ∷ r) (is_word w (codes "type") e type_word) (subst (λ x. Finds x [] (Close ∷ r)) (sym o)
    (grouped v hs [] (Close ∷ r) (is_word v (codes "func") k func_word) (passed hs (Close ∷ Close ∷ r) (on hs bs (Close ∷ Close ∷ r) (params_pass hs ps bs a) (results_pass bs rs (Close ∷ Close ∷ r) b))))))
field_finds types context _ _ r (fields.by_import {w = w} {m = m} {n = n} {v = v} {ts = ts} {s = s} {t = t} e a b k x) =
    within (Word w ∷ Text m ∷ Text n ∷ Open ∷ Word v ∷ ts) [] r (begins w (Text m ∷ Text n ∷ Open ∷ Word v ∷ ts) [] (Close ∷ r) (is_word w (codes "import") e import_word)
    (after_passed (Text m ∷ Text n ∷ Open ∷ Word v ∷ ts) (Text n ∷ Open ∷ Word v ∷ ts) [] (Close ∷ r) (after_text m (Text n ∷ Open ∷ Word v ∷ ts))
    (after_passed (Text n ∷ Open ∷ Word v ∷ ts) (Open ∷ Word v ∷ ts) [] (Close ∷ r) (after_text n (Open ∷ Word v ∷ ts))
    (grouped v ts [] (Close ∷ r) (space_is v s k) (passed ts (Close ∷ Close ∷ r) (on ts (label_of ts).1 (Close ∷ Close ∷ r) (label_passes ts) (extern_pass types s (label_of ts).1 t (Close ∷ Close ∷ r) x)))))))
field_finds types context _ _ r (fields.by_inline_import {w = w} {v = v} {m = m} {n = n} {ts = ts} {us = us} {names = ns} {s = s} {t = t} e k i a b x) =
    within (Word w ∷ ts) [] r (exported w ts ns (Open ∷ Word v ∷ Text m ∷ Text n ∷ Close ∷ us) [] (Close ∷ r) (space_is w s e) k (passed (Open ∷ Word v ∷ Text m ∷ Text n ∷ Close ∷ us) (Close ∷ r)
    (in_group v (Text m ∷ Text n ∷ Close ∷ us) (Close ∷ r) (is_word v (codes "import") i import_word)
    (to_end (Text m ∷ Text n ∷ Close ∷ us) (Text n ∷ Close ∷ us) (Close ∷ r) (after_text m (Text n ∷ Close ∷ us)) (to_end (Text n ∷ Close ∷ us) (Close ∷ us) (Close ∷ r) (after_text n (Close ∷ us)) (after_close us (Close ∷ r) (extern_pass types s us t (Close ∷ r) x)))))))
field_finds types context _ _ r (fields.by_func {w = w} {ts = ts} {hs = hs} {bs = bs} {ds = ds} {names = ns} {u = u} {locals = ls} {is = is} e a b c d k) =
    within (Word w ∷ ts) (placed k) r (exported w ts ns hs (placed k) (Close ∷ r) (is_word w (codes "func") e func_word) a
    (after_passed hs ds (placed k) (Close ∷ r) (on hs bs ds (use_pass types hs u bs b) (locals_pass bs ls ds c)) (instructions (with_locals context (u.params ++ ls)) (None ∷ []) false ds is (Close ∷ r) k)))
field_finds types context _ _ r (fields.by_table {w = w} {v = v} {ts = ts} {hs = hs} {names = ns} {limits = limits} {t = t} e a b c) =
    within (Word w ∷ ts) [] r (exported w ts ns hs [] (Close ∷ r) (is_word w (codes "table") e table_word) a (passed hs (Close ∷ r) (on hs (Word v ∷ Close ∷ r) (Close ∷ r) (limits_pass hs limits (Word v ∷ Close ∷ r) b) (after_word v (Close ∷ r) (Close ∷ r) (reference_is v t c) (stay (Close ∷ r))))))
field_finds types context _ _ r (fields.by_table_items {w = w} {u = u} {v = v} {ts = ts} {hs = hs} {names = ns} {t = t} {es = es} e a b c m l) =
    within (Word w ∷ ts) (placed_items m) r (exported w ts ns (Word u ∷ Open ∷ Word v ∷ hs) (placed_items m) (Close ∷ r) (is_word w (codes "table") e table_word) a
    (begins u (Open ∷ Word v ∷ hs) (placed_items m) (Close ∷ r) (reference_is u t b) (grouped v hs (placed_items m) (Close ∷ r) (is_word v (codes "elem") c elem_word) (items_find context item_word hs es (Close ∷ Close ∷ r) m))))
field_finds types context _ _ r (fields.by_table_functions {w = w} {u = u} {v = v} {ts = ts} {hs = hs} {names = ns} {t = t} {es = es} e a b c m l) =
    within (Word w ∷ ts) [] r (exported w ts ns (Word u ∷ Open ∷ Word v ∷ hs) [] (Close ∷ r) (is_word w (codes "table") e table_word) a
    (begins u (Open ∷ Word v ∷ hs) [] (Close ∷ r) (reference_is u t b) (grouped v hs [] (Close ∷ r) (is_word v (codes "elem") c elem_word) (passed hs (Close ∷ Close ∷ r) (functions_pass context hs es (Close ∷ Close ∷ r) m)))))
field_finds types context _ _ r (fields.by_memory {w = w} {ts = ts} {hs = hs} {names = ns} {limits = limits} e a b) =
    within (Word w ∷ ts) [] r (exported w ts ns hs [] (Close ∷ r) (is_word w (codes "memory") e memory_word) a (passed hs (Close ∷ r) (limits_pass hs limits (Close ∷ r) b)))
field_finds types context _ _ r (fields.by_memory_data {w = w} {v = v} {ts = ts} {hs = hs} {names = ns} {bytes = bytes} e a b m l) =
    within (Word w ∷ ts) [] r (exported w ts ns (Open ∷ Word v ∷ hs) [] (Close ∷ r) (is_word w (codes "memory") e memory_word) a (grouped v hs [] (Close ∷ r) (is_word v (codes "data") b data_word) (passed hs (Close ∷ Close ∷ r) (strings_pass hs bytes (Close ∷ Close ∷ r) m))))
field_finds types context _ _ r (fields.by_global {w = w} {ts = ts} {hs = hs} {bs = bs} {names = ns} {t = t} {is = is} e a b k) =
    within (Word w ∷ ts) (placed k) r (exported w ts ns hs (placed k) (Close ∷ r) (is_word w (codes "global") e global_word) a (after_passed hs bs (placed k) (Close ∷ r) (global_pass hs t bs b) (instructions context (None ∷ []) false bs is (Close ∷ r) k)))
field_finds types context _ _ r (fields.by_export {w = w} {n = n} {v = v} {ts = ts} {s = s} {i = i} e u k x) =
    within (Word w ∷ Text n ∷ Open ∷ Word v ∷ ts) [] r (begins w (Text n ∷ Open ∷ Word v ∷ ts) [] (Close ∷ r) (is_word w (codes "export") e export_word)
    (after_passed (Text n ∷ Open ∷ Word v ∷ ts) (Open ∷ Word v ∷ ts) [] (Close ∷ r) (after_text n (Open ∷ Word v ∷ ts)) (grouped v ts [] (Close ∷ r) (space_is v s k) (passed ts (Close ∷ Close ∷ r) (index_pass (fields.names_of context s) ts i (Close ∷ Close ∷ r) x)))))
field_finds types context _ _ r (fields.by_start {w = w} {ts = ts} {i = i} e x) = within (Word w ∷ ts) [] r (begins w ts [] (Close ∷ r) (is_word w (codes "start") e start_word) (passed ts (Close ∷ r) (index_pass context.funcs ts i (Close ∷ r) x)))
field_finds types context _ _ r (fields.by_passive_elem {w = w} {ts = ts} {t = t} {es = es} e k) =
    within (Word w ∷ ts) (placed_elements k) r (named w ts (placed_elements k) (Close ∷ r) (is_word w (codes "elem") e elem_word) (elements_find context item_word (label_of ts).1 t es (Close ∷ r) k))
field_finds types context _ _ r (fields.by_declarative_elem {w = w} {v = v} {ts = ts} {ds = ds} {t = t} {es = es} e o d k) =
    within (Word w ∷ ts) (placed_elements k) r (named w ts (placed_elements k) (Close ∷ r) (is_word w (codes "elem") e elem_word)
    (subst (λ x. Finds x (placed_elements k) (Close ∷ r)) (sym o) (begins v ds (placed_elements k) (Close ∷ r) (is_word v (codes "declare") d declare_word) (elements_find context item_word ds t es (Close ∷ r) k))))
field_finds types context _ _ r (fields.by_active_elem {w = w} {ts = ts} {os = os} {bs = bs} {i = i} {is = is} {t = t} {es = es} e u x k) =
    within (Word w ∷ ts) (placed_expression x ++ placed_elements k) r (named w ts (placed_expression x ++ placed_elements k) (Close ∷ r) (is_word w (codes "elem") e elem_word)
    (after_passed (label_of ts).1 os (placed_expression x ++ placed_elements k) (Close ∷ r) (used_pass (codes "table") context.tables table_word (label_of ts).1 i os u)
    (and_then os (placed_expression x) bs (placed_elements k) (Close ∷ r) (expression_finds (codes "offset") context offset_word_alone os is bs x) (elements_find context item_word bs t es (Close ∷ r) k))))
field_finds types context _ _ r (fields.by_function_elem {w = w} {ts = ts} {bs = bs} {is = is} {es = es} e x k) =
    within (Word w ∷ ts) (placed_expression x) r (named w ts (placed_expression x) (Close ∷ r) (is_word w (codes "elem") e elem_word)
    (subst (λ ps. Finds (label_of ts).1 ps (Close ∷ r)) (append-nil (placed_expression x)) (and_then (label_of ts).1 (placed_expression x) bs [] (Close ∷ r) (expression_finds (codes "offset") context offset_word_alone (label_of ts).1 is bs x) (passed bs (Close ∷ r) (functions_pass context bs es (Close ∷ r) k)))))
field_finds types context _ _ r (fields.by_passive_data {w = w} {ts = ts} {bytes = bytes} e m) = within (Word w ∷ ts) [] r (named w ts [] (Close ∷ r) (is_word w (codes "data") e data_word) (passed (label_of ts).1 (Close ∷ r) (strings_pass (label_of ts).1 bytes (Close ∷ r) m)))
field_finds types context _ _ r (fields.by_active_data {w = w} {ts = ts} {os = os} {bs = bs} {i = i} {is = is} {bytes = bytes} e u x m) =
    within (Word w ∷ ts) (placed_expression x) r (named w ts (placed_expression x) (Close ∷ r) (is_word w (codes "data") e data_word)
    (after_passed (label_of ts).1 os (placed_expression x) (Close ∷ r) (used_pass (codes "memory") context.memories memory_word (label_of ts).1 i os u)
    (subst (λ ps. Finds os ps (Close ∷ r)) (append-nil (placed_expression x)) (and_then os (placed_expression x) bs [] (Close ∷ r) (expression_finds (codes "offset") context offset_word_alone os is bs x) (passed bs (Close ∷ r) (strings_pass bs bytes (Close ∷ r) m))))))
