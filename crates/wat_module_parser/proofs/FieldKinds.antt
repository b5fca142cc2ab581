-- Parser and grammar agree on each kind of field.
use Rattle.std.proofs.Common.{◌≡◌, ◌<◌, ◌≤◌, ℕ, suc, Bool, true, false, List, [], ◌∷◌, ◌++◌, length, map, Option, Some, None, Ok, Err, refl, sym, ap, subst, ◌∙◌, arith}
use Rattle.std.specs.Prelude.{if◌then◌else◌, bytes_eq, codes, slice_get}
use Rattle.std.specs.Str.{is_utf8}
use Rattle.wat_module_ast.specs.declared.error.Expected.TheVariants as expected
use Rattle.wat_module_ast.specs.declared.error.Space.TheVariants as kind
use Rattle.wat_module_ast.specs.declared.error.FaultKind.TheVariants.{UnknownWord, NotUtf8, OtherType}
use Rattle.wat_module_ast.specs.declared.instruction.Instruction.{Instruction}
use Rattle.wat_module_ast.specs.Grammar.{Context, Body, index, label_of, reference_type}
use Rattle.wat_module_instructions.specs.Law.{past}
use Rattle.wat_module_instructions.specs.Machine as machine
use Rattle.wat_module_tokens.specs.Terminals.{Terminal, Open, Close, Word, Id, Integer, Text, Float, Other, Label}
use Rattle.wat_module_ast.specs.declared.fields.IndexSpace.{IndexSpace}
use Rattle.wat_module_ast.specs.declared.fields.IndexSpace.TheVariants as space
use Rattle.wat_module_ast.specs.declared.fields.TableType.{TableType}
use Rattle.wat_module_ast.specs.Types.{FunctionType, Types, same_type}
use Rattle.wat_module_ast.specs.declared.instruction.ReferenceType.{ReferenceType}
use Rattle.wat_module_ast.specs.declared.instruction.ReferenceType.TheVariants as reference
use Rattle.wat_module_ast.specs.Fields.{Many, Group, InlineExport, IndexIs, by_number, by_identifier, LimitsAre, TypeUseIs, by_lists, by_index, by_both, by_unknown, ExternIs, by_type_use, by_table_type, by_memory_type, by_global_type, Variable, NamedUse, named_use, function_type, ExternType, FuncType, OfTable, OfMemory, OfGlobal, extern_space, Definition, definition, Field, TypeField, Import, Func, Table, Memory, Global, Export, Start, FieldIs, by_type, by_import, by_inline_import, by_func, by_table, by_memory, by_global, by_export, by_start, name_of, names_of, unnamed, with_locals, without_names, space_of, Data, StringIs, target, Elem, Passive, Active, Declarative, Elements, table_of, is_u32, by_table_items, by_table_functions, by_passive_elem, by_declarative_elem, by_active_elem, by_function_elem, by_memory_data, by_passive_data, by_active_data}
use Rattle.wat_module_ast.specs.Names.{are_distinct}
use Rattle.wat_module_parser.specs.Reading.{and_then, after, all, closed, closing, utf8_text, export, export_item, group_item, group, function, func_at, locals, instructions, agreed, lists_after, assumed_use, either_use, listed_use, indexed_use, use_by, use_at, limits_at, table_type_at, table_limits, table_open, table_by, table_at, elem_at, memory_type, memory_by, memory_at, segment_at, data_at, global_type_at, global_at, defined, import_names, func_type, extern_at, imported, inline_import, item_by, item_at, import_by, import_word, import_open, import_at, type_by, type_at, type_field, skip_two_closes, external_by, external_word, external_at, export_at, start_at, field_by, field, field_item, kind_of, closed_or, skip_two_closes_or, after_memory_limits, after_extern, after_results}
use Rattle.wat_module_parser.specs.Places.{duplicate_variable}
use Rattle.wat_module_parser.proofs.SameTypes.{type_is, type_same}
use Rattle.wat_module_parser.proofs.Headers.{Ends, IsNoInstruction, Listed, NoLists, lists_sound, lists_complete, ends_lists, ends_groups, ends_body, item_ends, other_word, export_is_none, import_is_none, type_is_none, param_is_none, result_is_none, local_is_none}
use Rattle.wat_module_parser.proofs.Items.{exports_read, export_past, groups_read, group_past, group_takes, word_is, closing_inv, closed_is, utf8_inv, begins, after_is, closed_or_is}
use Rattle.wat_module_parser.proofs.Manies.{Gives, gives_of, of_gives, and_then_inv, Brings, Reads, all_sound, all_complete, many_takes, many_past}
pub use Rattle.wat_module_parser.proofs.SegmentKinds.{Laws}
use Rattle.wat_module_parser.proofs.ElementKinds.{Elems, of_items, of_functions, elem_sound, table_elements_sound, table_word_complete, limits_first, either_items, either_functions, items_keep, functions_keep, elements_keep, passive_elem_complete, declarative_elem_complete, active_elem_complete, function_elem_complete}
use Rattle.wat_module_parser.proofs.SegmentKinds.{Keeps, finds_of, data_sound, passive_complete, active_complete, memory_data_sound, memory_data_complete, strings_keep, used_keeps, expression_keeps}
use Rattle.wat_module_parser.proofs.TypeRules.{Passes, IsTableType, limits_sound, limits_complete, limits_pass, limits_no_export, limits_no_import, limits_no_data, table_type_sound, table_type_complete, table_type_pass, global_type_sound, global_type_complete, global_type_pass, global_type_no_export, global_type_no_import, index_sound, index_complete, index_pass, twice_closed_is, twice_closed_or_is}

-- Type uses.

listed_use_sound : (types : Types) (ts : List Terminal) (u : NamedUse) (us : List Terminal) → Gives (listed_use ts) u us → TypeUseIs types ts u us
listed_use_sound types ts u us g =
    let (ps, rs, ds, k, e) = lists_sound (λ ps bs rs vs. Ok (named_use None ps rs, vs)) ts u us g in
    subst (λ x. TypeUseIs types ts x us) e.0 (subst (λ x. TypeUseIs types ts (named_use None ps rs) x) e.1 (by_lists k.params k.results))

both_sound : (types : Types) (w : List ℕ) (hs vs : List Terminal) (i : ℕ) (t : FunctionType) (ps rs : List Variable) (ds : List Terminal) (u : NamedUse) (us : List Terminal) → types.are_known ≡ true → w ≡ codes "type" → IndexIs types.names hs i (Close ∷ vs) → slice_get types.types i ≡ Some t → Listed ps rs vs ds
    → (b : Bool) → same_type (function_type ps rs) t ≡ b → Gives (if b then Ok (named_use (Some i) ps rs, ds) else Err (OtherType, hs)) u us → TypeUseIs types (Open ∷ Word w ∷ hs) u us
both_sound types w hs vs i t ps rs ds u us q e n s k true b g =
    subst (λ x. TypeUseIs types (Open ∷ Word w ∷ hs) x us) g.0
    (subst (λ x. TypeUseIs types (Open ∷ Word w ∷ hs) (named_use (Some i) ps rs) x) g.1
    (by_both q e n (s ∙ ap (λ x. Some x) (sym (type_is (function_type ps rs) t b))) k.params k.results))
both_sound types w hs vs i t ps rs ds u us q e n s k false b g = absurd g

agreed_sound : (types : Types) (w : List ℕ) (hs vs : List Terminal) (i : ℕ) (t : FunctionType) (ps rs : List Variable) (ds : List Terminal) (u : NamedUse) (us : List Terminal) → types.are_known ≡ true → w ≡ codes "type" → IndexIs types.names hs i (Close ∷ vs) → slice_get types.types i ≡ Some t → Listed ps rs vs ds
    → Gives (agreed i t ps rs hs ds) u us → TypeUseIs types (Open ∷ Word w ∷ hs) u us
agreed_sound types w hs vs i t [] [] ds u us q e n s k g =
    subst (λ x. TypeUseIs types (Open ∷ Word w ∷ hs) x us) g.0
    (subst (λ x. TypeUseIs types (Open ∷ Word w ∷ hs) (named_use (Some i) (map unnamed t.params) (map unnamed t.results)) x) g.1
    (by_index q e n s k.params k.results))
agreed_sound types w hs vs i t [] (r ∷ rs) ds u us q e n s k g = both_sound types w hs vs i t [] (r ∷ rs) ds u us q e n s k (same_type (function_type [] (r ∷ rs)) t) refl g
agreed_sound types w hs vs i t (p ∷ ps) rs ds u us q e n s k g = both_sound types w hs vs i t (p ∷ ps) rs ds u us q e n s k (same_type (function_type (p ∷ ps) rs) t) refl g

after_index : (types : Types) (w : List ℕ) (hs vs : List Terminal) (i : ℕ) (o : Option FunctionType) (u : NamedUse) (us : List Terminal) → types.are_known ≡ true → w ≡ codes "type" → IndexIs types.names hs i (Close ∷ vs) → slice_get types.types i ≡ o → Gives (lists_after i o hs vs) u us → TypeUseIs types (Open ∷ Word w ∷ hs) u us
after_index types w hs vs i (Some t) u us q e n s g = let (ps, rs, ds, k, h) = lists_sound (λ ps bs rs ws. agreed i t ps rs hs ws) vs u us g in agreed_sound types w hs vs i t ps rs ds u us q e n s k h
after_index types w hs vs i None u us q e n s g = absurd g

unknown_sound : (types : Types) (w : List ℕ) (hs vs : List Terminal) (i : ℕ) (u : NamedUse) (us : List Terminal) → types.are_known ≡ false → w ≡ codes "type" → IndexIs types.names hs i (Close ∷ vs) → Gives (assumed_use i vs) u us → TypeUseIs types (Open ∷ Word w ∷ hs) u us
unknown_sound types w hs vs i u us q e n g =
    let (ps, rs, ds, k, h) = lists_sound (λ ps bs rs vs. Ok (named_use (Some i) ps rs, vs)) vs u us g in
    subst (λ x. TypeUseIs types (Open ∷ Word w ∷ hs) x us) h.0 (subst (λ x. TypeUseIs types (Open ∷ Word w ∷ hs) (named_use (Some i) ps rs) x) h.1 (by_unknown q e n k.params k.results))

either_sound : (types : Types) (w : List ℕ) (hs vs : List Terminal) (i : ℕ) (u : NamedUse) (us : List Terminal) (b : Bool) → types.are_known ≡ b → w ≡ codes "type" → IndexIs types.names hs i (Close ∷ vs) → Gives (if b then lists_after i (slice_get types.types i) hs vs else assumed_use i vs) u us → TypeUseIs types (Open ∷ Word w ∷ hs) u us
either_sound types w hs vs i u us true q e n g = after_index types w hs vs i (slice_get types.types i) u us q e n refl g
either_sound types w hs vs i u us false q e n g = unknown_sound types w hs vs i u us q e n g

indexed_use_sound : (types : Types) (w : List ℕ) (hs : List Terminal) (u : NamedUse) (us : List Terminal) → w ≡ codes "type" → Gives (indexed_use types hs) u us → TypeUseIs types (Open ∷ Word w ∷ hs) u us
indexed_use_sound types w hs u us e g =
    let (i, xs, e1, g1) = and_then_inv (index kind.Type types.names hs) (λ i us. and_then (closing i (closed us)) (λ i vs. either_use types i hs vs)) u us g in
    let (j, vs, e2, g2) = and_then_inv (closing i (closed xs)) (λ i vs. either_use types i hs vs) u us g1 in
    let (same, shut) = closing_inv i j (closed xs) vs (gives_of _ j vs e2) in
    let n = index_sound kind.Type types.names hs i xs (gives_of _ i xs e1) in
    either_sound types w hs vs j u us types.are_known refl e (subst (λ x. IndexIs types.names hs x (Close ∷ vs)) same (subst (λ x. IndexIs types.names hs i x) (closed_is xs vs shut) n)) g2

use_sound : (types : Types) (ts : List Terminal) (u : NamedUse) (us : List Terminal) → Gives (use_at types ts) u us → TypeUseIs types ts u us
unfolding use_at
use_sound types ts u us g = by (after (codes "type") ts) refl g
  where
    by : (o : Option (List Terminal)) → after (codes "type") ts ≡ o → Gives (use_by types o ts) u us → TypeUseIs types ts u us
    by None e h = listed_use_sound types ts u us h
    by (Some hs) e h = let b = begins (codes "type") ts hs (finds_of (after (codes "type") ts) hs e) in subst (λ x. TypeUseIs types x u us) (sym b.is) (indexed_use_sound types b.spelled hs u us b.same h)

-- The next tokens do not belong to a type use.
record NoUse (ds : List Terminal) : Type 0 where
  lists : NoLists ds
  no_type : Ends (codes "type") ds

agreed_both : (i : ℕ) (ps rs : List Variable) (all ts : List Terminal) → agreed i (function_type ps rs) ps rs all ts ≡ Ok (named_use (Some i) ps rs, ts)
agreed_both i [] [] all ts = refl
agreed_both i [] (r ∷ rs) all ts = ap (λ (b : Bool). if b then Ok (named_use (Some i) [] (r ∷ rs), ts) else Err (OtherType, all)) (type_same (function_type [] (r ∷ rs)))
agreed_both i (p ∷ ps) rs all ts = ap (λ (b : Bool). if b then Ok (named_use (Some i) (p ∷ ps) rs, ts) else Err (OtherType, all)) (type_same (function_type (p ∷ ps) rs))

at_index : (types : Types) (w : List ℕ) (ts us : List Terminal) (i : ℕ) → w ≡ codes "type" → IndexIs types.names ts i (Close ∷ us) → use_at types (Open ∷ Word w ∷ ts) ≡ either_use types i ts us
unfolding use_at
at_index types w ts us i e n =
    ap (λ o. use_by types o (Open ∷ Word w ∷ ts)) (after_is (codes "type") w ts e)
    ∙ ap (λ q. and_then q (λ i us. and_then (closing i (closed us)) (λ i vs. either_use types i ts vs))) (index_complete kind.Type types.names ts i (Close ∷ us) n)

indexed_complete : (types : Types) (w : List ℕ) (ts us : List Terminal) (i : ℕ) (t : FunctionType) (u : NamedUse) (ws : List Terminal) → types.are_known ≡ true → w ≡ codes "type" → IndexIs types.names ts i (Close ∷ us) → slice_get types.types i ≡ Some t → lists_after i (Some t) ts us ≡ Ok (u, ws) → use_at types (Open ∷ Word w ∷ ts) ≡ Ok (u, ws)
indexed_complete types w ts us i t u ws q e n s h =
    at_index types w ts us i e n ∙ ap (λ (b : Bool). if b then lists_after i (slice_get types.types i) ts us else assumed_use i us) q ∙ ap (λ o. lists_after i o ts us) s ∙ h

unknown_complete : (types : Types) (w : List ℕ) (ts us : List Terminal) (i : ℕ) (u : NamedUse) (ws : List Terminal) → types.are_known ≡ false → w ≡ codes "type" → IndexIs types.names ts i (Close ∷ us) → assumed_use i us ≡ Ok (u, ws) → use_at types (Open ∷ Word w ∷ ts) ≡ Ok (u, ws)
unknown_complete types w ts us i u ws q e n h = at_index types w ts us i e n ∙ ap (λ (b : Bool). if b then lists_after i (slice_get types.types i) ts us else assumed_use i us) q ∙ h

listed_complete : (types : Types) (ts : List Terminal) (ps rs : List Variable) (us : List Terminal) → Listed ps rs ts us → NoUse us → use_at types ts ≡ Ok (named_use None ps rs, us)
unfolding use_at
listed_complete types ts ps rs us k n =
    ap (λ o. use_by types o ts) (ends_lists (codes "type") refl refl ps rs ts us k n.no_type) ∙ lists_complete (λ ps bs rs vs. Ok (named_use None ps rs, vs)) ts ps rs us k n.lists

use_complete : (types : Types) (ts : List Terminal) (u : NamedUse) (us : List Terminal) → TypeUseIs types ts u us → NoUse us → use_at types ts ≡ Ok (u, us)
use_complete types ts _ us (by_lists {us = bs} {params = ps} {results = rs} a b) n = listed_complete types ts ps rs us (record { bs = bs; params = a; results = b }) n
use_complete types _ _ us (by_index {w = w} {ts = ts} {us = hs} {vs = bs} {i = i} {t = t} q e k s a b) n =
    indexed_complete types w ts hs i t _ us q e k s (lists_complete (λ ps bs rs ws. agreed i t ps rs ts ws) hs [] [] us (record { bs = bs; params = a; results = b }) n.lists)
use_complete types _ _ us (by_both {w = w} {ts = ts} {us = hs} {vs = bs} {i = i} {params = ps} {results = rs} q e k s a b) n =
    indexed_complete types w ts hs i (function_type ps rs) _ us q e k s (lists_complete (λ ps' bs' rs' ws. agreed i (function_type ps rs) ps' rs' ts ws) hs ps rs us (record { bs = bs; params = a; results = b }) n.lists ∙ agreed_both i ps rs ts us)
use_complete types _ _ us (by_unknown {w = w} {ts = ts} {us = hs} {vs = bs} {i = i} {params = ps} {results = rs} q e k a b) n =
    unknown_complete types w ts hs i _ us q e k (lists_complete (λ ps bs rs vs. Ok (named_use (Some i) ps rs, vs)) hs ps rs us (record { bs = bs; params = a; results = b }) n.lists)

lists_keep : (ps rs : List Variable) (ts us : List Terminal) → Listed ps rs ts us → Keeps ts us
lists_keep ps rs ts us k =
    let y = many_takes (Group (codes "param") true) (group_takes (codes "param") true) ts ps k.bs k.params in
    let z = many_takes (Group (codes "result") false) (group_takes (codes "result") false) k.bs rs us k.results in record {
      short = omega arith;
      same = λ d. many_past (Group (codes "param") true) d (group_past (codes "param") true d) ts ps k.bs k.params ∙ many_past (Group (codes "result") false) d (group_past (codes "result") false d) k.bs rs us k.results;
    }

indexed_keep : (names : List Label) (w : List ℕ) (ts hs us : List Terminal) (i : ℕ) (ps rs : List Variable) → IndexIs names ts i (Close ∷ hs) → Listed ps rs hs us → Keeps (Open ∷ Word w ∷ ts) us
indexed_keep names w ts hs us i ps rs n k =
    let p = index_pass names ts i (Close ∷ hs) n in
    let s = p.short in
    let c = lists_keep ps rs hs us k in let z = c.short in record { short = omega arith; same = λ d. p.same (suc d) ∙ c.same d }

use_keeps : (types : Types) (ts : List Terminal) (u : NamedUse) (us : List Terminal) → TypeUseIs types ts u us → Keeps ts us
use_keeps types ts _ us (by_lists {us = bs} {params = ps} {results = rs} a b) = lists_keep ps rs ts us (record { bs = bs; params = a; results = b })
use_keeps types _ _ us (by_index {w = w} {ts = ts} {us = hs} {vs = bs} {i = i} {t = t} q e k s a b) = indexed_keep types.names w ts hs us i [] [] k (record { bs = bs; params = a; results = b })
use_keeps types _ _ us (by_both {w = w} {ts = ts} {us = hs} {vs = bs} {i = i} {params = ps} {results = rs} q e k s a b) = indexed_keep types.names w ts hs us i ps rs k (record { bs = bs; params = a; results = b })
use_keeps types _ _ us (by_unknown {w = w} {ts = ts} {us = hs} {vs = bs} {i = i} {params = ps} {results = rs} q e k a b) = indexed_keep types.names w ts hs us i ps rs k (record { bs = bs; params = a; results = b })

ends_use : (v : List ℕ) → bytes_eq (codes "param") v ≡ false → bytes_eq (codes "result") v ≡ false → bytes_eq (codes "type") v ≡ false → (types : Types) (ts : List Terminal) (u : NamedUse) (us : List Terminal) → TypeUseIs types ts u us → Ends v us → Ends v ts
ends_use v a b c types ts _ us (by_lists {us = bs} {params = ps} {results = rs} x y) h = ends_lists v a b ps rs ts us (record { bs = bs; params = x; results = y }) h
ends_use v a b c types _ _ us (by_index {w = w} {ts = ts} q e k s x y) h = other_word v (codes "type") w ts c e
ends_use v a b c types _ _ us (by_both {w = w} {ts = ts} q e k s x y) h = other_word v (codes "type") w ts c e
ends_use v a b c types _ _ us (by_unknown {w = w} {ts = ts} q e k x y) h = other_word v (codes "type") w ts c e

-- What is imported.

func_type_sound : (types : Types) (ts us : List Terminal) (u : NamedUse) (t : ExternType) (r : List Terminal) (b : Bool) → TypeUseIs types ts u us → are_distinct (map name_of u.params) ≡ b → Gives (if b then Ok (FuncType (without_names u), us) else Err (duplicate_variable ts)) t r → ExternIs types space.Func ts t r
func_type_sound types ts us u t r true k d g = subst (λ x. ExternIs types space.Func ts x r) g.0 (subst (λ x. ExternIs types space.Func ts (FuncType (without_names u)) x) g.1 (by_type_use k d))
func_type_sound types ts us u t r false k d g = absurd g

extern_sound : (types : Types) (s : IndexSpace) (ts : List Terminal) (t : ExternType) (us : List Terminal) → Gives (extern_at types s ts) t us → ExternIs types s ts t us
unfolding extern_at
extern_sound types space.Func ts t us g =
    let (u, vs, e1, g1) = and_then_inv (use_at types ts) (λ u us. func_type u ts us) t us g in func_type_sound types ts vs u t us (are_distinct (map name_of u.params)) (use_sound types ts u vs (gives_of _ u vs e1)) refl g1
extern_sound types space.Table ts t us g =
    let (x, vs, e1, g1) = and_then_inv (table_type_at expected.Limits ts) (λ t us. Ok (OfTable t, us)) t us g in
    let k = table_type_sound expected.Limits ts x vs (gives_of _ x vs e1) in subst (λ y. ExternIs types space.Table ts y us) g1.0 (subst (λ y. ExternIs types space.Table ts (OfTable x) y) g1.1 (by_table_type k.limits k.element))
extern_sound types space.Mem ts t us g =
    let (x, vs, e1, g1) = and_then_inv (limits_at expected.Limits ts) (λ limits us. Ok (OfMemory limits, us)) t us g in subst (λ y. ExternIs types space.Mem ts y us) g1.0 (subst (λ y. ExternIs types space.Mem ts (OfMemory x) y) g1.1 (by_memory_type (limits_sound expected.Limits ts x vs e1)))
extern_sound types space.Global ts t us g =
    let (x, vs, e1, g1) = and_then_inv (global_type_at expected.GlobalType ts) (λ t us. Ok (OfGlobal t, us)) t us g in
    subst (λ y. ExternIs types space.Global ts y us) g1.0 (subst (λ y. ExternIs types space.Global ts (OfGlobal x) y) g1.1 (by_global_type (global_type_sound expected.GlobalType ts x vs (gives_of _ x vs e1))))

no_use : (us : List Terminal) → NoUse (Close ∷ us)
no_use us = record { lists = record { no_param = refl; no_result = refl }; no_type = refl }

extern_complete : (types : Types) (s : IndexSpace) (ts : List Terminal) (t : ExternType) (us vs : List Terminal) → us ≡ Close ∷ vs → ExternIs types s ts t us → extern_at types s ts ≡ Ok (t, us)
unfolding extern_at
extern_complete types _ ts _ us vs c (by_type_use {u = u} k d) =
    ap (λ q. and_then q (λ u us. func_type u ts us)) (use_complete types ts u us k (subst (λ x. NoUse x) (sym c) (no_use vs))) ∙ ap (λ (b : Bool). if b then Ok (FuncType (without_names u), us) else Err (duplicate_variable ts)) d
extern_complete types _ ts _ us vs c (by_table_type {v = v} {limits = l} {t = t} a b) =
    let k : IsTableType ts (record { limits = l; element = t }) us = record { v = v; limits = a; element = b } in ap (λ q. and_then q (λ t us. Ok (OfTable t, us))) (table_type_complete expected.Limits ts (record { limits = l; element = t }) us k)
extern_complete types _ ts _ us vs c (by_memory_type {limits = l} a) =
    ap (λ q. and_then q (λ limits us. Ok (OfMemory limits, us))) (subst (λ x. LimitsAre ts l x → limits_at expected.Limits ts ≡ Ok (l, x)) (sym c) (λ h. limits_complete expected.Limits ts l (Close ∷ vs) h (λ n. refl)) a)
extern_complete types _ ts _ us vs c (by_global_type {t = t} a) = ap (λ q. and_then q (λ t us. Ok (OfGlobal t, us))) (global_type_complete expected.GlobalType ts t us a)

keeps_of : (ts us : List Terminal) → Passes ts us → Keeps ts us
keeps_of ts us p = let s = p.short in record { short = omega arith; same = p.same }

extern_keeps : (types : Types) (s : IndexSpace) (ts : List Terminal) (t : ExternType) (us : List Terminal) → ExternIs types s ts t us → Keeps ts us
extern_keeps types _ ts _ us (by_type_use {u = u} k d) = use_keeps types ts u us k
extern_keeps types _ ts _ us (by_table_type {v = v} {limits = l} {t = t} a b) = keeps_of ts us (table_type_pass ts (record { limits = l; element = t }) us (record { v = v; limits = a; element = b }))
extern_keeps types _ ts _ us (by_memory_type {limits = l} a) = keeps_of ts us (limits_pass ts l us a)
extern_keeps types _ ts _ us (by_global_type {t = t} a) = keeps_of ts us (global_type_pass ts t us a)

pub extern_space_is : (types : Types) (s : IndexSpace) (ts : List Terminal) (t : ExternType) (us : List Terminal) → ExternIs types s ts t us → extern_space t ≡ s
extern_space_is types _ ts _ us (by_type_use k d) = refl
extern_space_is types _ ts _ us (by_table_type a b) = refl
extern_space_is types _ ts _ us (by_memory_type a) = refl
extern_space_is types _ ts _ us (by_global_type a) = refl

record TwoNames (names : List ℕ × List ℕ) (ts us : List Terminal) : Type 0 where
  is : ts ≡ Text names.0 ∷ Text names.1 ∷ us
  from : is_utf8 names.0 ≡ true
  item : is_utf8 names.1 ≡ true

import_names_sound : (ts : List Terminal) (names : List ℕ × List ℕ) (us : List Terminal) → Gives (import_names ts) names us → TwoNames names ts us
unfolding import_names
import_names_sound ts names us g =
    let (m, hs, e1, g1) = and_then_inv (utf8_text ts) (λ m us. and_then (utf8_text us) (λ n vs. Ok ((m, n), vs))) names us g in
    let (n, vs, e2, g2) = and_then_inv (utf8_text hs) (λ n vs. Ok ((m, n), vs)) names us g1 in
    let (text, good) = utf8_inv ts m hs (gives_of _ m hs e1) in
    let (other, fine) = utf8_inv hs n vs (gives_of _ n vs e2) in
    let two : TwoNames (m, n) ts vs = record { is = text ∙ ap (λ x. Text m ∷ x) other; from = good; item = fine } in subst (λ x. TwoNames x ts us) g2.0 (subst (λ x. TwoNames (m, n) ts x) g2.1 two)

utf8_is : (n : List ℕ) (us : List Terminal) → is_utf8 n ≡ true → utf8_text (Text n ∷ us) ≡ Ok (n, us)
utf8_is n us e = ap (λ (b : Bool). if b then Ok (n, us) else Err (NotUtf8, Text n ∷ us)) e

import_names_complete : (m n : List ℕ) (us : List Terminal) → is_utf8 m ≡ true → is_utf8 n ≡ true → import_names (Text m ∷ Text n ∷ us) ≡ Ok ((m, n), us)
unfolding import_names
import_names_complete m n us e f = ap (λ q. and_then q (λ m us. and_then (utf8_text us) (λ n vs. Ok ((m, n), vs)))) (utf8_is m (Text n ∷ us) e) ∙ ap (λ q. and_then q (λ n vs. Ok ((m, n), vs))) (utf8_is n us f)

-- What is parsed matches the grammar.

body_sound : Laws → (context : Context) (ps ls : List Variable) (hs ds : List Terminal) (is : List Instruction) (r : List Terminal) → instructions context ps ls hs ds ≡ Ok (is, r) → (are_distinct (map name_of (ps ++ ls)) ≡ true) × Body (with_locals context (ps ++ ls)) ds is r
unfolding instructions
body_sound laws context ps ls hs ds is r e = by (are_distinct (map name_of (ps ++ ls))) refl (gives_of _ is r e)
  where
    by : (b : Bool) → are_distinct (map name_of (ps ++ ls)) ≡ b → Gives (if b then machine.body (with_locals context (ps ++ ls)) ds else Err (duplicate_variable hs)) is r → (are_distinct (map name_of (ps ++ ls)) ≡ true) × Body (with_locals context (ps ++ ls)) ds is r
    by true d g = (d, (laws.same (with_locals context (ps ++ ls)) ds is r).0 (of_gives _ is r g))
    by false d g = absurd g

body_complete : Laws → (context : Context) (ps ls : List Variable) (hs ds : List Terminal) (is : List Instruction) (r : List Terminal) → are_distinct (map name_of (ps ++ ls)) ≡ true → Body (with_locals context (ps ++ ls)) ds is r → instructions context ps ls hs ds ≡ Ok (is, r)
unfolding instructions
body_complete laws context ps ls hs ds is r d b = ap (λ (x : Bool). if x then machine.body (with_locals context (ps ++ ls)) ds else Err (duplicate_variable hs)) d ∙ (laws.same (with_locals context (ps ++ ls)) ds is r).1 b

func_sound : Laws → (types : Types) (context : Context) (w : List ℕ) (ts : List Terminal) (ns : List (List ℕ)) (hs : List Terminal) (fs : List Field) (r : List Terminal) → w ≡ codes "func" → Many InlineExport (label_of ts).1 ns hs → Gives (func_at types context (label_of ts).0 ns hs) fs r → FieldIs types context (Open ∷ Word w ∷ ts) fs r
func_sound laws types context w ts ns hs fs r e m g =
    let l = (label_of ts).0 in
    let (u, bs, e1, g1) = and_then_inv (use_at types hs) (λ u us. and_then (locals us) (λ ls vs. and_then (instructions context u.params ls hs vs) (λ is xs. Ok (Func (function l ns u ls vs is) ∷ [], xs)))) fs r g in
    let (ls, ds, e2, g2) = and_then_inv (locals bs) (λ ls vs. and_then (instructions context u.params ls hs vs) (λ is xs. Ok (Func (function l ns u ls vs is) ∷ [], xs))) fs r g1 in
    let (is, us, e3, g3) = and_then_inv (instructions context u.params ls hs ds) (λ is xs. Ok (Func (function l ns u ls ds is) ∷ [], xs)) fs r g2 in
    let b = body_sound laws context u.params ls hs ds is us e3 in
    let k = (all_sound (group_item (codes "local") true) (Group (codes "local") true) (groups_read (codes "local") true) ls bs ds e2).0 in
    subst (λ x. FieldIs types context (Open ∷ Word w ∷ ts) fs x) g3.1 (subst (λ x. FieldIs types context (Open ∷ Word w ∷ ts) x us) g3.0 (by_func e m (use_sound types hs u bs (gives_of _ u bs e1)) k b.0 b.1))

table_limits_sound : (types : Types) (context : Context) (w : List ℕ) (ts : List Terminal) (ns : List (List ℕ)) (hs : List Terminal) (fs : List Field) (r : List Terminal) → w ≡ codes "table" → Many InlineExport (label_of ts).1 ns hs → Gives (table_limits (label_of ts).0 ns hs) fs r → FieldIs types context (Open ∷ Word w ∷ ts) fs r
table_limits_sound types context w ts ns hs fs r e m g =
    let l = (label_of ts).0 in
    let (t, bs, e1, g1) = and_then_inv (table_type_at expected.TableDefinition hs) (λ t us. closing (Table l ns t None ∷ []) (closed us)) fs r g in
    let (same, shut) = closing_inv (Table l ns t None ∷ []) fs (closed bs) r g1 in
    let k = table_type_sound expected.TableDefinition hs t bs (gives_of _ t bs e1) in subst (λ x. FieldIs types context (Open ∷ Word w ∷ ts) x r) same (by_table e m (subst (λ x. LimitsAre hs t.limits (Word k.v ∷ x)) (closed_is bs r shut) k.limits) k.element)

brought_sound : (types : Types) (context : Context) (w u v : List ℕ) (ts : List Terminal) (ns : List (List ℕ)) (xs : List Terminal) (t : ReferenceType) (es : Elements) (r : List Terminal) → w ≡ codes "table" → Many InlineExport (label_of ts).1 ns (Word u ∷ Open ∷ Word v ∷ xs) → reference_type u ≡ Some t → v ≡ codes "elem" → Elems context xs es (Close ∷ Close ∷ r) → is_u32 (length es) ≡ true
    → FieldIs types context (Open ∷ Word w ∷ ts) (Table (label_of ts).0 ns (table_of t es) (Some es) ∷ []) r
brought_sound types context w u v ts ns xs t es r e m k b (of_items x) low = by_table_items e m k b x low
brought_sound types context w u v ts ns xs t es r e m k b (of_functions x) low = by_table_functions e m k b x low

table_open_sound : Laws → (types : Types) (context : Context) (w u : List ℕ) (ts : List Terminal) (ns : List (List ℕ)) (hs : List Terminal) (fs : List Field) (r : List Terminal) (t : ReferenceType) (o : Option (List Terminal)) → w ≡ codes "table" → Many InlineExport (label_of ts).1 ns (Word u ∷ hs) → reference_type u ≡ Some t → after (codes "elem") hs ≡ o
    → Gives (table_open context (label_of ts).0 ns t o hs) fs r → FieldIs types context (Open ∷ Word w ∷ ts) fs r
table_open_sound laws types context w u ts ns hs fs r t None e m k a g = absurd g
table_open_sound laws types context w u ts ns hs fs r t (Some xs) e m k a g =
    let b = begins (codes "elem") hs xs (finds_of (after (codes "elem") hs) xs a) in
    let d = table_elements_sound laws context (label_of ts).0 ns t xs fs r g in
    subst (λ x. FieldIs types context (Open ∷ Word w ∷ ts) x r) d.is (brought_sound types context w u b.spelled ts ns xs t d.es r e (subst (λ x. Many InlineExport (label_of ts).1 ns (Word u ∷ x)) b.is m) k b.same d.list d.low)

table_by_sound : Laws → (types : Types) (context : Context) (w u : List ℕ) (ts : List Terminal) (ns : List (List ℕ)) (hs : List Terminal) (fs : List Field) (r : List Terminal) (o : Option ReferenceType) → w ≡ codes "table" → Many InlineExport (label_of ts).1 ns (Word u ∷ hs) → reference_type u ≡ o
    → Gives (table_by context (label_of ts).0 ns o (Word u ∷ hs) hs) fs r → FieldIs types context (Open ∷ Word w ∷ ts) fs r
table_by_sound laws types context w u ts ns hs fs r None e m k g = absurd g
table_by_sound laws types context w u ts ns hs fs r (Some t) e m k g = table_open_sound laws types context w u ts ns hs fs r t (after (codes "elem") hs) e m k refl g

table_sound : Laws → (types : Types) (context : Context) (w : List ℕ) (ts : List Terminal) (ns : List (List ℕ)) (hs : List Terminal) (fs : List Field) (r : List Terminal) → w ≡ codes "table" → Many InlineExport (label_of ts).1 ns hs → Gives (table_at context (label_of ts).0 ns hs) fs r → FieldIs types context (Open ∷ Word w ∷ ts) fs r
unfolding table_at
table_sound laws types context w ts ns (Word u ∷ hs) fs r e m g = table_by_sound laws types context w u ts ns hs fs r (reference_type u) e m refl g
table_sound laws types context w ts ns [] fs r e m g = table_limits_sound types context w ts ns [] fs r e m g
table_sound laws types context w ts ns (Open ∷ hs) fs r e m g = table_limits_sound types context w ts ns (Open ∷ hs) fs r e m g
table_sound laws types context w ts ns (Close ∷ hs) fs r e m g = table_limits_sound types context w ts ns (Close ∷ hs) fs r e m g
table_sound laws types context w ts ns (Id x ∷ hs) fs r e m g = table_limits_sound types context w ts ns (Id x ∷ hs) fs r e m g
table_sound laws types context w ts ns (Integer s n ∷ hs) fs r e m g = table_limits_sound types context w ts ns (Integer s n ∷ hs) fs r e m g
table_sound laws types context w ts ns (Text v ∷ hs) fs r e m g = table_limits_sound types context w ts ns (Text v ∷ hs) fs r e m g
table_sound laws types context w ts ns (Float narrow wide ∷ hs) fs r e m g = table_limits_sound types context w ts ns (Float narrow wide ∷ hs) fs r e m g
table_sound laws types context w ts ns (Other ∷ hs) fs r e m g = table_limits_sound types context w ts ns (Other ∷ hs) fs r e m g

memory_type_sound : (types : Types) (context : Context) (w : List ℕ) (ts : List Terminal) (ns : List (List ℕ)) (hs : List Terminal) (fs : List Field) (r : List Terminal) → w ≡ codes "memory" → Many InlineExport (label_of ts).1 ns hs → Gives (memory_type (label_of ts).0 ns hs) fs r → FieldIs types context (Open ∷ Word w ∷ ts) fs r
memory_type_sound types context w ts ns hs fs r e m g =
    let l = (label_of ts).0 in
    let (limits, bs, e1, g1) = and_then_inv (limits_at expected.MemoryDefinition hs) (λ limits us. closing (Memory l ns limits None ∷ []) (closed_or (after_memory_limits limits.max) us)) fs r g in
    let (same, shut) = closing_inv (Memory l ns limits None ∷ []) fs (closed_or (after_memory_limits limits.max) bs) r g1 in
    subst (λ x. FieldIs types context (Open ∷ Word w ∷ ts) x r) same (by_memory e m (subst (λ x. LimitsAre hs limits x) (closed_or_is (after_memory_limits limits.max) bs r shut) (limits_sound expected.MemoryDefinition hs limits bs e1)))

memory_sound : (types : Types) (context : Context) (w : List ℕ) (ts : List Terminal) (ns : List (List ℕ)) (hs : List Terminal) (fs : List Field) (r : List Terminal) → w ≡ codes "memory" → Many InlineExport (label_of ts).1 ns hs → Gives (memory_at (label_of ts).0 ns hs) fs r → FieldIs types context (Open ∷ Word w ∷ ts) fs r
memory_sound types context w ts ns hs fs r e m g = by (after (codes "data") hs) refl g
  where
    by : (o : Option (List Terminal)) → after (codes "data") hs ≡ o → Gives (memory_by (label_of ts).0 ns o hs) fs r → FieldIs types context (Open ∷ Word w ∷ ts) fs r
    by None k h = memory_type_sound types context w ts ns hs fs r e m h
    by (Some xs) k h =
        let b = begins (codes "data") hs xs (finds_of (after (codes "data") hs) xs k) in
        let d = memory_data_sound (label_of ts).0 ns xs fs r h in subst (λ x. FieldIs types context (Open ∷ Word w ∷ ts) x r) d.is (by_memory_data e (subst (λ x. Many InlineExport (label_of ts).1 ns x) b.is m) b.same d.strings d.low)

global_sound : Laws → (types : Types) (context : Context) (w : List ℕ) (ts : List Terminal) (ns : List (List ℕ)) (hs : List Terminal) (fs : List Field) (r : List Terminal) → w ≡ codes "global" → Many InlineExport (label_of ts).1 ns hs → Gives (global_at context (label_of ts).0 ns hs) fs r → FieldIs types context (Open ∷ Word w ∷ ts) fs r
global_sound laws types context w ts ns hs fs r e m g =
    let l = (label_of ts).0 in
    let (t, bs, e1, g1) = and_then_inv (global_type_at expected.GlobalDefinition hs) (λ t us. and_then (machine.body context us) (λ is vs. Ok (Global l ns t is ∷ [], vs))) fs r g in
    let (is, us, e2, g2) = and_then_inv (machine.body context bs) (λ is vs. Ok (Global l ns t is ∷ [], vs)) fs r g1 in
    subst (λ x. FieldIs types context (Open ∷ Word w ∷ ts) fs x) g2.1 (subst (λ x. FieldIs types context (Open ∷ Word w ∷ ts) x us) g2.0 (by_global e m (global_type_sound expected.GlobalDefinition hs t bs (gives_of _ t bs e1)) ((laws.same context bs is us).0 e2)))

inline_sound : (types : Types) (context : Context) (s : IndexSpace) (w v : List ℕ) (ts : List Terminal) (ns : List (List ℕ)) (hs xs : List Terminal) (fs : List Field) (r : List Terminal) → space_of w ≡ Some s → v ≡ codes "import" → hs ≡ Open ∷ Word v ∷ xs → Many InlineExport (label_of ts).1 ns hs → Gives (inline_import types s (label_of ts).0 ns xs) fs r
    → FieldIs types context (Open ∷ Word w ∷ ts) fs r
inline_sound types context s w v ts ns hs xs fs r e k b m g =
    let l = (label_of ts).0 in
    let (names, us, e1, g1) = and_then_inv (import_names xs) (λ names us. and_then (closing names (closed us)) (λ names vs. and_then (extern_at types s vs) (λ t xs. closing (imported l ns names t ∷ []) (closed_or (after_extern t vs) xs)))) fs r g in
    let (others, vs, e2, g2) = and_then_inv (closing names (closed us)) (λ names vs. and_then (extern_at types s vs) (λ t xs. closing (imported l ns names t ∷ []) (closed_or (after_extern t vs) xs))) fs r g1 in
    let (t, ys, e3, g3) = and_then_inv (extern_at types s vs) (λ t xs. closing (imported l ns others t ∷ []) (closed_or (after_extern t vs) xs)) fs r g2 in
    let (same, shut) = closing_inv (imported l ns others t ∷ []) fs (closed_or (after_extern t vs) ys) r g3 in
    let (kept, after_names) = closing_inv names others (closed us) vs (gives_of _ others vs e2) in
    let n = subst (λ x. TwoNames x xs us) kept (import_names_sound xs names us (gives_of _ names us e1)) in
    let full : hs ≡ Open ∷ Word v ∷ Text others.0 ∷ Text others.1 ∷ Close ∷ vs = b ∙ ap (λ x. Open ∷ Word v ∷ x) (n.is ∙ ap (λ x. Text others.0 ∷ Text others.1 ∷ x) (closed_is us vs after_names)) in
    subst (λ x. FieldIs types context (Open ∷ Word w ∷ ts) x r) same
    (by_inline_import e (subst (λ x. Many InlineExport (label_of ts).1 ns x) full m) k n.from n.item (subst (λ x. ExternIs types s vs t x) (closed_or_is (after_extern t vs) ys r shut) (extern_sound types s vs t ys (gives_of _ t ys e3))))

-- what is exported, after `(` and its word
external_by_sound : (types : Types) (context : Context) (w n v : List ℕ) (ts : List Terminal) (fs : List Field) (r : List Terminal) (o : Option IndexSpace) → w ≡ codes "export" → is_utf8 n ≡ true → space_of v ≡ o → Gives (external_by context n o (Word v ∷ ts) ts) fs r → FieldIs types context (Open ∷ Word w ∷ Text n ∷ Open ∷ Word v ∷ ts) fs r
external_by_sound types context w n v ts fs r (Some s) e u k g =
    let (i, us, read, end) = and_then_inv (index (kind_of s) (names_of context s) ts) (λ i us. closing (Export n s i ∷ []) (skip_two_closes us)) fs r g in
    let (same, shut) = closing_inv (Export n s i ∷ []) fs (skip_two_closes us) r end in
    subst (λ x. FieldIs types context (Open ∷ Word w ∷ Text n ∷ Open ∷ Word v ∷ ts) x r) same (by_export e u k (subst (λ x. IndexIs (names_of context s) ts i x) (twice_closed_is us r shut) (index_sound (kind_of s) (names_of context s) ts i us (gives_of _ i us read))))
external_by_sound types context w n v ts fs r None e u k g = absurd g

external_word_sound : (types : Types) (context : Context) (w n : List ℕ) (ts : List Terminal) (fs : List Field) (r : List Terminal) → w ≡ codes "export" → is_utf8 n ≡ true → Gives (external_word context n ts) fs r → FieldIs types context (Open ∷ Word w ∷ Text n ∷ Open ∷ ts) fs r
external_word_sound types context w n (Word v ∷ ts) fs r e u g = external_by_sound types context w n v ts fs r (space_of v) e u refl g
external_word_sound types context w n [] fs r e u g = absurd g
external_word_sound types context w n (Open ∷ ts) fs r e u g = absurd g
external_word_sound types context w n (Close ∷ ts) fs r e u g = absurd g
external_word_sound types context w n (Id x ∷ ts) fs r e u g = absurd g
external_word_sound types context w n (Integer s m ∷ ts) fs r e u g = absurd g
external_word_sound types context w n (Text v ∷ ts) fs r e u g = absurd g
external_word_sound types context w n (Float narrow wide ∷ ts) fs r e u g = absurd g
external_word_sound types context w n (Other ∷ ts) fs r e u g = absurd g

external_sound : (types : Types) (context : Context) (w n : List ℕ) (ts : List Terminal) (fs : List Field) (r : List Terminal) → w ≡ codes "export" → is_utf8 n ≡ true → Gives (external_at context n ts) fs r → FieldIs types context (Open ∷ Word w ∷ Text n ∷ ts) fs r
unfolding external_at
external_sound types context w n (Open ∷ ts) fs r e u g = external_word_sound types context w n ts fs r e u g
external_sound types context w n [] fs r e u g = absurd g
external_sound types context w n (Close ∷ ts) fs r e u g = absurd g
external_sound types context w n (Word v ∷ ts) fs r e u g = absurd g
external_sound types context w n (Id x ∷ ts) fs r e u g = absurd g
external_sound types context w n (Integer s m ∷ ts) fs r e u g = absurd g
external_sound types context w n (Text v ∷ ts) fs r e u g = absurd g
external_sound types context w n (Float narrow wide ∷ ts) fs r e u g = absurd g
external_sound types context w n (Other ∷ ts) fs r e u g = absurd g

export_sound : (types : Types) (context : Context) (w : List ℕ) (ts : List Terminal) (fs : List Field) (r : List Terminal) → w ≡ codes "export" → Gives (export_at context ts) fs r → FieldIs types context (Open ∷ Word w ∷ ts) fs r
export_sound types context w ts fs r e g =
    let (n, us, read, end) = and_then_inv (utf8_text ts) (λ n us. external_at context n us) fs r g in
    let (text, good) = utf8_inv ts n us (gives_of (utf8_text ts) n us read) in
    subst (λ x. FieldIs types context (Open ∷ Word w ∷ x) fs r) (sym text) (external_sound types context w n us fs r e good end)

start_sound : (types : Types) (context : Context) (w : List ℕ) (ts : List Terminal) (fs : List Field) (r : List Terminal) → w ≡ codes "start" → Gives (start_at context ts) fs r → FieldIs types context (Open ∷ Word w ∷ ts) fs r
start_sound types context w ts fs r e g =
    let (i, us, read, end) = and_then_inv (index kind.Func context.funcs ts) (λ i us. closing (Start i ∷ []) (closed us)) fs r g in
    let (same, shut) = closing_inv (Start i ∷ []) fs (closed us) r end in
    subst (λ x. FieldIs types context (Open ∷ Word w ∷ ts) x r) same (by_start e (subst (λ x. IndexIs context.funcs ts i x) (closed_is us r shut) (index_sound kind.Func context.funcs ts i us (gives_of _ i us read))))

-- the word of an index space
pub record IsSpaceWord (w : List ℕ) (s : Option IndexSpace) : Type 0 where
  pub func : s ≡ Some space.Func → w ≡ codes "func"
  pub table : s ≡ Some space.Table → w ≡ codes "table"
  pub memory : s ≡ Some space.Mem → w ≡ codes "memory"
  pub global : s ≡ Some space.Global → w ≡ codes "global"

space_by : (w : List ℕ) (a b c d : Bool) → bytes_eq w (codes "func") ≡ a → bytes_eq w (codes "table") ≡ b → bytes_eq w (codes "memory") ≡ c → bytes_eq w (codes "global") ≡ d
    → IsSpaceWord w (if a then Some space.Func else if b then Some space.Table else if c then Some space.Mem else if d then Some space.Global else None)
space_by w true b c d e f g h = record { func = λ k. word_is w (codes "func") e; table = λ k. cc; memory = λ k. cc; global = λ k. cc }
space_by w false true c d e f g h = record { func = λ k. cc; table = λ k. word_is w (codes "table") f; memory = λ k. cc; global = λ k. cc }
space_by w false false true d e f g h = record { func = λ k. cc; table = λ k. cc; memory = λ k. word_is w (codes "memory") g; global = λ k. cc }
space_by w false false false true e f g h = record { func = λ k. cc; table = λ k. cc; memory = λ k. cc; global = λ k. word_is w (codes "global") h }
space_by w false false false false e f g h = record { func = λ k. cc; table = λ k. cc; memory = λ k. cc; global = λ k. cc }

space_words : (w : List ℕ) → IsSpaceWord w (space_of w)
space_words w = space_by w (bytes_eq w (codes "func")) (bytes_eq w (codes "table")) (bytes_eq w (codes "memory")) (bytes_eq w (codes "global")) refl refl refl refl

defined_sound : Laws → (types : Types) (context : Context) (s : IndexSpace) (w : List ℕ) (ts : List Terminal) (ns : List (List ℕ)) (hs : List Terminal) (fs : List Field) (r : List Terminal) → IsSpaceWord w (Some s) → Many InlineExport (label_of ts).1 ns hs → Gives (defined types context s (label_of ts).0 ns hs) fs r → FieldIs types context (Open ∷ Word w ∷ ts) fs r
defined_sound laws types context space.Func w ts ns hs fs r k m g = func_sound laws types context w ts ns hs fs r (k.func refl) m g
defined_sound laws types context space.Table w ts ns hs fs r k m g = table_sound laws types context w ts ns hs fs r (k.table refl) m g
defined_sound laws types context space.Mem w ts ns hs fs r k m g = memory_sound types context w ts ns hs fs r (k.memory refl) m g
defined_sound laws types context space.Global w ts ns hs fs r k m g = global_sound laws types context w ts ns hs fs r (k.global refl) m g

item_by_sound : Laws → (types : Types) (context : Context) (s : IndexSpace) (w : List ℕ) (ts : List Terminal) (ns : List (List ℕ)) (hs : List Terminal) (fs : List Field) (r : List Terminal) (o : Option (List Terminal)) → space_of w ≡ Some s → Many InlineExport (label_of ts).1 ns hs → after (codes "import") hs ≡ o → Gives (item_by types context s (label_of ts).0 ns o hs) fs r
    → FieldIs types context (Open ∷ Word w ∷ ts) fs r
item_by_sound laws types context s w ts ns hs fs r None e m a g = defined_sound laws types context s w ts ns hs fs r (subst (λ x. IsSpaceWord w x) e (space_words w)) m g
item_by_sound laws types context s w ts ns hs fs r (Some xs) e m a g = let b = begins (codes "import") hs xs (finds_of (after (codes "import") hs) xs a) in inline_sound types context s w b.spelled ts ns hs xs fs r e b.same b.is m g

item_sound : Laws → (types : Types) (context : Context) (s : IndexSpace) (w : List ℕ) (ts : List Terminal) (fs : List Field) (r : List Terminal) → space_of w ≡ Some s → Gives (item_at types context s (label_of ts)) fs r → FieldIs types context (Open ∷ Word w ∷ ts) fs r
item_sound laws types context s w ts fs r e g =
    let (ns, hs, e1, g1) = and_then_inv (all export_item (label_of ts).1) (λ ns us. item_by types context s (label_of ts).0 ns (after (codes "import") us) us) fs r g in
    item_by_sound laws types context s w ts ns hs fs r (after (codes "import") hs) e (all_sound export_item InlineExport exports_read ns (label_of ts).1 hs e1).0 refl g1

-- imports

import_by_sound : (types : Types) (context : Context) (w m n v : List ℕ) (ts : List Terminal) (fs : List Field) (r : List Terminal) (o : Option IndexSpace) → w ≡ codes "import" → is_utf8 m ≡ true → is_utf8 n ≡ true → space_of v ≡ o → Gives (import_by types (m, n) o (Word v ∷ ts) ts) fs r → FieldIs types context (Open ∷ Word w ∷ Text m ∷ Text n ∷ Open ∷ Word v ∷ ts) fs r
import_by_sound types context w m n v ts fs r (Some s) e a b k g =
    let l = (label_of ts).0 in
    let (t, us, e1, g1) = and_then_inv (extern_at types s (label_of ts).1) (λ t us. closing (imported l [] (m, n) t ∷ []) (skip_two_closes_or (after_extern t (label_of ts).1) us)) fs r g in
    let (same, shut) = closing_inv (imported l [] (m, n) t ∷ []) fs (skip_two_closes_or (after_extern t (label_of ts).1) us) r g1 in
    subst (λ x. FieldIs types context (Open ∷ Word w ∷ Text m ∷ Text n ∷ Open ∷ Word v ∷ ts) x r) same
    (by_import e a b k (subst (λ x. ExternIs types s (label_of ts).1 t x) (twice_closed_or_is (after_extern t (label_of ts).1) us r shut) (extern_sound types s (label_of ts).1 t us (gives_of _ t us e1))))
import_by_sound types context w m n v ts fs r None e a b k g = absurd g

import_word_sound : (types : Types) (context : Context) (w m n : List ℕ) (ts : List Terminal) (fs : List Field) (r : List Terminal) → w ≡ codes "import" → is_utf8 m ≡ true → is_utf8 n ≡ true → Gives (import_word types (m, n) ts) fs r → FieldIs types context (Open ∷ Word w ∷ Text m ∷ Text n ∷ Open ∷ ts) fs r
import_word_sound types context w m n (Word v ∷ ts) fs r e a b g = import_by_sound types context w m n v ts fs r (space_of v) e a b refl g
import_word_sound types context w m n [] fs r e a b g = absurd g
import_word_sound types context w m n (Open ∷ ts) fs r e a b g = absurd g
import_word_sound types context w m n (Close ∷ ts) fs r e a b g = absurd g
import_word_sound types context w m n (Id x ∷ ts) fs r e a b g = absurd g
import_word_sound types context w m n (Integer s k ∷ ts) fs r e a b g = absurd g
import_word_sound types context w m n (Text v ∷ ts) fs r e a b g = absurd g
import_word_sound types context w m n (Float narrow wide ∷ ts) fs r e a b g = absurd g
import_word_sound types context w m n (Other ∷ ts) fs r e a b g = absurd g

import_open_sound : (types : Types) (context : Context) (w m n : List ℕ) (ts : List Terminal) (fs : List Field) (r : List Terminal) → w ≡ codes "import" → is_utf8 m ≡ true → is_utf8 n ≡ true → Gives (import_open types (m, n) ts) fs r → FieldIs types context (Open ∷ Word w ∷ Text m ∷ Text n ∷ ts) fs r
unfolding import_open
import_open_sound types context w m n (Open ∷ ts) fs r e a b g = import_word_sound types context w m n ts fs r e a b g
import_open_sound types context w m n [] fs r e a b g = absurd g
import_open_sound types context w m n (Close ∷ ts) fs r e a b g = absurd g
import_open_sound types context w m n (Word v ∷ ts) fs r e a b g = absurd g
import_open_sound types context w m n (Id x ∷ ts) fs r e a b g = absurd g
import_open_sound types context w m n (Integer s k ∷ ts) fs r e a b g = absurd g
import_open_sound types context w m n (Text v ∷ ts) fs r e a b g = absurd g
import_open_sound types context w m n (Float narrow wide ∷ ts) fs r e a b g = absurd g
import_open_sound types context w m n (Other ∷ ts) fs r e a b g = absurd g

import_sound : (types : Types) (context : Context) (w : List ℕ) (ts : List Terminal) (fs : List Field) (r : List Terminal) → w ≡ codes "import" → Gives (import_at types ts) fs r → FieldIs types context (Open ∷ Word w ∷ ts) fs r
import_sound types context w ts fs r e g =
    let (names, us, e1, g1) = and_then_inv (import_names ts) (λ names us. import_open types names us) fs r g in
    let k = import_names_sound ts names us (gives_of _ names us e1) in subst (λ x. FieldIs types context (Open ∷ Word w ∷ x) fs r) (sym k.is) (import_open_sound types context w names.0 names.1 us fs r e k.from k.item g1)

-- types

record IsType (ts : List Terminal) (d : Definition) (r : List Terminal) : Type 0 where
  v : List ℕ
  hs : List Terminal
  bs : List Terminal
  params : List Variable
  results : List Variable
  opens : (label_of ts).1 ≡ Open ∷ Word v ∷ hs
  word : v ≡ codes "func"
  first : Many (Group (codes "param") true) hs params bs
  last : Many (Group (codes "result") false) bs results (Close ∷ Close ∷ r)
  is : definition (label_of ts).0 (function_type params results) ≡ d

type_sound : (ts : List Terminal) (d : Definition) (r : List Terminal) → Gives (type_at ts) d r → IsType ts d r
unfolding type_at
type_sound ts d r g = by (after (codes "func") (label_of ts).1) refl g
  where
    by : (o : Option (List Terminal)) → after (codes "func") (label_of ts).1 ≡ o → Gives (type_by (label_of ts).0 o (label_of ts).1) d r → IsType ts d r
    by None e h = absurd h
    by (Some hs) e h =
        let b = begins (codes "func") (label_of ts).1 hs (finds_of (after (codes "func") (label_of ts).1) hs e) in
        let (ps, rs, ds, k, g2) = lists_sound (λ ps bs rs vs. closing (definition (label_of ts).0 (function_type ps rs)) (skip_two_closes_or (after_results bs) vs)) hs d r h in
        let (same, shut) = closing_inv (definition (label_of ts).0 (function_type ps rs)) d (skip_two_closes_or (after_results k.bs) ds) r g2 in record {
          v = b.spelled;
          hs = hs;
          bs = k.bs;
          params = ps;
          results = rs;
          opens = b.is;
          word = b.same;
          first = k.params;
          last = subst (λ x. Many (Group (codes "result") false) k.bs rs x) (twice_closed_or_is (after_results k.bs) ds r shut) k.results;
          is = same;
        }

pub type_complete : (ts : List Terminal) (v : List ℕ) (hs bs r : List Terminal) (ps rs : List Variable) → (label_of ts).1 ≡ Open ∷ Word v ∷ hs → v ≡ codes "func" → Many (Group (codes "param") true) hs ps bs → Many (Group (codes "result") false) bs rs (Close ∷ Close ∷ r) → type_at ts ≡ Ok (definition (label_of ts).0 (function_type ps rs), r)
unfolding type_at
type_complete ts v hs bs r ps rs o e a b =
    ap (λ x. type_by (label_of ts).0 (after (codes "func") x) x) o ∙ ap (λ x. type_by (label_of ts).0 x (Open ∷ Word v ∷ hs)) (after_is (codes "func") v hs e)
    ∙ lists_complete (λ ps bs rs vs. closing (definition (label_of ts).0 (function_type ps rs)) (skip_two_closes_or (after_results bs) vs)) hs ps rs (Close ∷ Close ∷ r) (record { bs = bs; params = a; results = b }) (record { no_param = refl; no_result = refl })

type_field_sound : (types : Types) (context : Context) (w : List ℕ) (ts : List Terminal) (fs : List Field) (r : List Terminal) → w ≡ codes "type" → Gives (type_field ts) fs r → FieldIs types context (Open ∷ Word w ∷ ts) fs r
type_field_sound types context w ts fs r e g =
    let (d, us, e1, g1) = and_then_inv (type_at ts) (λ d us. Ok (TypeField d.name d.type ∷ [], us)) fs r g in
    let k = type_sound ts d us (gives_of _ d us e1) in
    let f : FieldIs types context (Open ∷ Word w ∷ ts) (TypeField (label_of ts).0 (function_type k.params k.results) ∷ []) us = by_type e k.opens k.word k.first k.last in
    subst (λ x. FieldIs types context (Open ∷ Word w ∷ ts) fs x) g1.1
    (subst (λ x. FieldIs types context (Open ∷ Word w ∷ ts) x us) g1.0 (subst (λ (x : Definition). FieldIs types context (Open ∷ Word w ∷ ts) (TypeField x.name x.type ∷ []) us) k.is f))

elem_by_sound : Laws → (types : Types) (context : Context) (w : List ℕ) (ts : List Terminal) (fs : List Field) (r : List Terminal) (a : Bool) → bytes_eq w (codes "elem") ≡ a → Gives (if a then elem_at context (label_of ts) else Err (UnknownWord expected.Field, Word w ∷ ts)) fs r → FieldIs types context (Open ∷ Word w ∷ ts) fs r
elem_by_sound laws types context w ts fs r true e g = elem_sound laws types context w ts fs r (word_is w (codes "elem") e) g
elem_by_sound laws types context w ts fs r false e g = absurd g

segment_sound : Laws → (types : Types) (context : Context) (w : List ℕ) (ts : List Terminal) (fs : List Field) (r : List Terminal) (a : Bool) → bytes_eq w (codes "data") ≡ a → Gives (if a then data_at context (label_of ts) else if bytes_eq w (codes "elem") then elem_at context (label_of ts) else Err (UnknownWord expected.Field, Word w ∷ ts)) fs r → FieldIs types context (Open ∷ Word w ∷ ts) fs r
segment_sound laws types context w ts fs r true e g = data_sound laws types context w ts fs r (word_is w (codes "data") e) g
segment_sound laws types context w ts fs r false e g = elem_by_sound laws types context w ts fs r (bytes_eq w (codes "elem")) refl g

other_sound : Laws → (types : Types) (context : Context) (w : List ℕ) (ts : List Terminal) (fs : List Field) (r : List Terminal) (a c d b : Bool) → bytes_eq w (codes "type") ≡ a → bytes_eq w (codes "import") ≡ c → bytes_eq w (codes "export") ≡ d → bytes_eq w (codes "start") ≡ b
    → Gives (if a then type_field ts else if c then import_at types ts else if d then export_at context ts else if b then start_at context ts else segment_at context w (Word w ∷ ts) ts) fs r → FieldIs types context (Open ∷ Word w ∷ ts) fs r
other_sound laws types context w ts fs r true c d b e f h k g = type_field_sound types context w ts fs r (word_is w (codes "type") e) g
other_sound laws types context w ts fs r false true d b e f h k g = import_sound types context w ts fs r (word_is w (codes "import") f) g
other_sound laws types context w ts fs r false false true b e f h k g = export_sound types context w ts fs r (word_is w (codes "export") h) g
other_sound laws types context w ts fs r false false false true e f h k g = start_sound types context w ts fs r (word_is w (codes "start") k) g
other_sound laws types context w ts fs r false false false false e f h k g = segment_sound laws types context w ts fs r (bytes_eq w (codes "data")) refl g

word_sound : Laws → (types : Types) (context : Context) (w : List ℕ) (ts : List Terminal) (fs : List Field) (r : List Terminal) (o : Option IndexSpace) → space_of w ≡ o → Gives (field_by types context o w (Word w ∷ ts) ts) fs r → FieldIs types context (Open ∷ Word w ∷ ts) fs r
word_sound laws types context w ts fs r (Some s) e g = item_sound laws types context s w ts fs r e g
word_sound laws types context w ts fs r None e g = other_sound laws types context w ts fs r (bytes_eq w (codes "type")) (bytes_eq w (codes "import")) (bytes_eq w (codes "export")) (bytes_eq w (codes "start")) refl refl refl refl g

open_sound : Laws → (types : Types) (context : Context) (ts : List Terminal) (fs : List Field) (r : List Terminal) → Gives (field types context ts) fs r → FieldIs types context (Open ∷ ts) fs r
open_sound laws types context (Word w ∷ ts) fs r h = word_sound laws types context w ts fs r (space_of w) refl h
open_sound laws types context [] fs r h = absurd h
open_sound laws types context (Open ∷ ts) fs r h = absurd h
open_sound laws types context (Close ∷ ts) fs r h = absurd h
open_sound laws types context (Id x ∷ ts) fs r h = absurd h
open_sound laws types context (Integer s n ∷ ts) fs r h = absurd h
open_sound laws types context (Text v ∷ ts) fs r h = absurd h
open_sound laws types context (Float narrow wide ∷ ts) fs r h = absurd h
open_sound laws types context (Other ∷ ts) fs r h = absurd h

field_sound : Laws → (types : Types) (context : Context) (ts : List Terminal) (fs : List Field) (r : List Terminal) → Brings (field_item types context ts) fs r → FieldIs types context ts fs r
unfolding field_item
field_sound laws types context (Open ∷ ts) fs r h = open_sound laws types context ts fs r h
field_sound laws types context [] fs r h = absurd h
field_sound laws types context (Close ∷ ts) fs r h = absurd h
field_sound laws types context (Word w ∷ ts) fs r h = absurd h
field_sound laws types context (Id x ∷ ts) fs r h = absurd h
field_sound laws types context (Integer s n ∷ ts) fs r h = absurd h
field_sound laws types context (Text v ∷ ts) fs r h = absurd h
field_sound laws types context (Float narrow wide ∷ ts) fs r h = absurd h
field_sound laws types context (Other ∷ ts) fs r h = absurd h

-- What matches the grammar is parsed.

-- a field of this word
brings_word : (types : Types) (context : Context) (w v : List ℕ) (ts : List Terminal) (fs : List Field) (r : List Terminal) → w ≡ v → field_by types context (space_of v) v (Word v ∷ ts) ts ≡ Ok (fs, r) → Brings (field_item types context (Open ∷ Word w ∷ ts)) fs r
unfolding field_item
brings_word types context w v ts fs r e h = gives_of (field types context (Word w ∷ ts)) fs r (ap (λ x. field types context (Word x ∷ ts)) e ∙ h)

-- an item after exports
brings_item : (types : Types) (context : Context) (s : IndexSpace) (w : List ℕ) (ts : List Terminal) (ns : List (List ℕ)) (hs : List Terminal) (fs : List Field) (r : List Terminal) → space_of w ≡ Some s → Many InlineExport (label_of ts).1 ns hs → export_item hs ≡ None → item_by types context s (label_of ts).0 ns (after (codes "import") hs) hs ≡ Ok (fs, r)
    → Brings (field_item types context (Open ∷ Word w ∷ ts)) fs r
unfolding field_item
brings_item types context s w ts ns hs fs r e m o h =
    gives_of (field types context (Word w ∷ ts)) fs r
    (
    ap (λ o. field_by types context o w (Word w ∷ ts) ts) e ∙ ap (λ q. and_then q (λ ns us. item_by types context s (label_of ts).0 ns (after (codes "import") us) us)) (all_complete export_item InlineExport exports_read ns (label_of ts).1 hs m o) ∙ h
    )

no_export : (hs : List Terminal) → Ends (codes "export") hs → export_item hs ≡ None
unfolding export_item
no_export hs e = item_ends export (codes "export") hs e

-- local variables and instructions begin with none of these words
func_ends : (v : List ℕ) → IsNoInstruction v → bytes_eq (codes "local") v ≡ false → (context : Context) (bs ds : List Terminal) (ls : List Variable) (is : List Instruction) (r : List Terminal) → Many (Group (codes "local") true) bs ls ds → Body context ds is r → Ends v bs
func_ends v k d context bs ds ls is r m b = ends_groups v (codes "local") true d bs ls ds m (ends_body v k context (None ∷ []) ds is (Close ∷ r) r refl b)

func_no_use : (context : Context) (bs ds : List Terminal) (ls : List Variable) (is : List Instruction) (r : List Terminal) → Many (Group (codes "local") true) bs ls ds → Body context ds is r → NoUse bs
func_no_use context bs ds ls is r m b = record {
  lists = record { no_param = func_ends (codes "param") param_is_none refl context bs ds ls is r m b; no_result = func_ends (codes "result") result_is_none refl context bs ds ls is r m b };
  no_type = func_ends (codes "type") type_is_none refl context bs ds ls is r m b;
}

locals_complete : (context : Context) (bs ds : List Terminal) (ls : List Variable) (is : List Instruction) (r : List Terminal) → Many (Group (codes "local") true) bs ls ds → Body context ds is r → locals bs ≡ Ok (ls, ds)
unfolding group_item
locals_complete context bs ds ls is r m b =
    all_complete (group_item (codes "local") true) (Group (codes "local") true) (groups_read (codes "local") true) ls bs ds m (item_ends (group true) (codes "local") ds (ends_body (codes "local") local_is_none context (None ∷ []) ds is (Close ∷ r) r refl b))

external_complete : (types : Types) (context : Context) (w n v : List ℕ) (ts : List Terminal) (s : IndexSpace) (i : ℕ) (r : List Terminal) → w ≡ codes "export" → is_utf8 n ≡ true → space_of v ≡ Some s → IndexIs (names_of context s) ts i (Close ∷ Close ∷ r) → Brings (field_item types context (Open ∷ Word w ∷ Text n ∷ Open ∷ Word v ∷ ts)) (Export n s i ∷ []) r
unfolding external_at
external_complete types context w n v ts s i r e u k f =
    brings_word types context w (codes "export") (Text n ∷ Open ∷ Word v ∷ ts) (Export n s i ∷ []) r e
    (
    ap (λ q. and_then q (λ n us. external_at context n us)) (utf8_is n (Open ∷ Word v ∷ ts) u)
    ∙ ap (λ o. external_by context n o (Word v ∷ ts) ts) k
    ∙ ap (λ q. and_then q (λ i us. closing (Export n s i ∷ []) (skip_two_closes us))) (index_complete (kind_of s) (names_of context s) ts i (Close ∷ Close ∷ r) f)
    )

import_complete : (types : Types) (context : Context) (w m n v : List ℕ) (ts : List Terminal) (s : IndexSpace) (t : ExternType) (r : List Terminal) → w ≡ codes "import" → is_utf8 m ≡ true → is_utf8 n ≡ true → space_of v ≡ Some s → ExternIs types s (label_of ts).1 t (Close ∷ Close ∷ r)
    → Brings (field_item types context (Open ∷ Word w ∷ Text m ∷ Text n ∷ Open ∷ Word v ∷ ts)) (Import m n (label_of ts).0 [] t ∷ []) r
unfolding import_open
import_complete types context w m n v ts s t r e a b k x =
    brings_word types context w (codes "import") (Text m ∷ Text n ∷ Open ∷ Word v ∷ ts) (Import m n (label_of ts).0 [] t ∷ []) r e
    (
    ap (λ q. and_then q (λ names us. import_open types names us)) (import_names_complete m n (Open ∷ Word v ∷ ts) a b)
    ∙ ap (λ o. import_by types (m, n) o (Word v ∷ ts) ts) k
    ∙ ap (λ q. and_then q (λ t us. closing (imported (label_of ts).0 [] (m, n) t ∷ []) (skip_two_closes_or (after_extern t (label_of ts).1) us))) (extern_complete types s (label_of ts).1 t (Close ∷ Close ∷ r) (Close ∷ r) refl x)
    )

inline_complete : (types : Types) (context : Context) (s : IndexSpace) (l : Label) (ns : List (List ℕ)) (v m n : List ℕ) (us : List Terminal) (t : ExternType) (r : List Terminal) → v ≡ codes "import" → is_utf8 m ≡ true → is_utf8 n ≡ true → ExternIs types s us t (Close ∷ r)
    → item_by types context s l ns (after (codes "import") (Open ∷ Word v ∷ Text m ∷ Text n ∷ Close ∷ us)) (Open ∷ Word v ∷ Text m ∷ Text n ∷ Close ∷ us) ≡ Ok (Import m n l ns t ∷ [], r)
inline_complete types context s l ns v m n us t r e a b x =
    ap (λ o. item_by types context s l ns o (Open ∷ Word v ∷ Text m ∷ Text n ∷ Close ∷ us)) (after_is (codes "import") v (Text m ∷ Text n ∷ Close ∷ us) e)
    ∙ ap (λ q. and_then q (λ names us. and_then (closing names (closed us)) (λ names vs. and_then (extern_at types s vs) (λ t xs. closing (imported l ns names t ∷ []) (closed_or (after_extern t vs) xs))))) (import_names_complete m n (Close ∷ us) a b)
    ∙ ap (λ q. and_then q (λ t xs. closing (imported l ns (m, n) t ∷ []) (closed_or (after_extern t us) xs))) (extern_complete types s us t (Close ∷ r) r refl x)

field_complete : Laws → (types : Types) (context : Context) (ts : List Terminal) (fs : List Field) (r : List Terminal) → FieldIs types context ts fs r → Brings (field_item types context ts) fs r
field_complete laws types context _ _ r (by_type {w = w} {v = v} {ts = ts} {hs = hs} {bs = bs} {params = ps} {results = rs} e o k a b) =
    brings_word types context w (codes "type") ts (TypeField (label_of ts).0 (function_type ps rs) ∷ []) r e (ap (λ q. and_then q (λ d us. Ok (TypeField d.name d.type ∷ [], us))) (type_complete ts v hs bs r ps rs o k a b))
field_complete laws types context _ _ r (by_import {w = w} {m = m} {n = n} {v = v} {ts = ts} {s = s} {t = t} e a b k x) = import_complete types context w m n v ts s t r e a b k x
field_complete laws types context _ _ r (by_inline_import {w = w} {v = v} {m = m} {n = n} {ts = ts} {us = us} {names = ns} {s = s} {t = t} e k i a b x) =
    brings_item types context s w ts ns (Open ∷ Word v ∷ Text m ∷ Text n ∷ Close ∷ us) (Import m n (label_of ts).0 ns t ∷ []) r e k (no_export _ (other_word (codes "export") (codes "import") v (Text m ∷ Text n ∷ Close ∷ us) refl i))
    (inline_complete types context s (label_of ts).0 ns v m n us t r i a b x)
field_complete laws types context _ _ r (by_func {w = w} {ts = ts} {hs = hs} {bs = bs} {ds = ds} {names = ns} {u = u} {locals = ls} {is = is} e a b c d k) =
    let l = (label_of ts).0 in
    let env = with_locals context (u.params ++ ls) in
    let ends = ends_use (codes "export") refl refl refl types hs u bs b (func_ends (codes "export") export_is_none refl env bs ds ls is r c k) in
    let none = ends_use (codes "import") refl refl refl types hs u bs b (func_ends (codes "import") import_is_none refl env bs ds ls is r c k) in
    brings_item types context space.Func w ts ns hs (Func (function l ns u ls ds is) ∷ []) r (ap space_of e) a (no_export hs ends)
    (
    ap (λ o. item_by types context space.Func l ns o hs) none
    ∙ ap (λ q. and_then q (λ u us. and_then (locals us) (λ ls vs. and_then (instructions context u.params ls hs vs) (λ is xs. Ok (Func (function l ns u ls vs is) ∷ [], xs))))) (use_complete types hs u bs b (func_no_use env bs ds ls is r c k))
    ∙ ap (λ q. and_then q (λ ls vs. and_then (instructions context u.params ls hs vs) (λ is xs. Ok (Func (function l ns u ls vs is) ∷ [], xs)))) (locals_complete env bs ds ls is r c k)
    ∙ ap (λ q. and_then q (λ is xs. Ok (Func (function l ns u ls ds is) ∷ [], xs))) (body_complete laws context u.params ls hs ds is r d k)
    )
field_complete laws types context _ _ r (by_table {w = w} {v = v} {ts = ts} {hs = hs} {names = ns} {limits = limits} {t = t} e a b c) =
    let l = (label_of ts).0 in
    let of : TableType = record { limits = limits; element = t } in
    let k : IsTableType hs of (Close ∷ r) = record { v = v; limits = b; element = c } in
    brings_item types context space.Table w ts ns hs (Table l ns of None ∷ []) r (ap space_of e) a (limits_no_export hs limits (Word v ∷ Close ∷ r) b)
    (
    ap (λ o. item_by types context space.Table l ns o hs) (limits_no_import hs limits (Word v ∷ Close ∷ r) b) ∙ limits_first context l ns hs limits (Word v ∷ Close ∷ r) b ∙ ap (λ q. and_then q (λ t us. closing (Table l ns t None ∷ []) (closed us))) (table_type_complete expected.TableDefinition hs of (Close ∷ r) k)
    )
field_complete laws types context _ _ r (by_table_items {w = w} {u = u} {v = v} {ts = ts} {hs = hs} {names = ns} {t = t} {es = es} e a k b m low) =
    brings_item types context space.Table w ts ns (Word u ∷ Open ∷ Word v ∷ hs) _ r (ap space_of e) a (no_export (Word u ∷ Open ∷ Word v ∷ hs) refl) (table_word_complete context (label_of ts).0 ns u v hs t es r k b (either_items laws context hs es r m) low)
field_complete laws types context _ _ r (by_table_functions {w = w} {u = u} {v = v} {ts = ts} {hs = hs} {names = ns} {t = t} {es = es} e a k b m low) =
    brings_item types context space.Table w ts ns (Word u ∷ Open ∷ Word v ∷ hs) _ r (ap space_of e) a (no_export (Word u ∷ Open ∷ Word v ∷ hs) refl) (table_word_complete context (label_of ts).0 ns u v hs t es r k b (either_functions context hs es r m) low)
field_complete laws types context _ _ r (by_memory {w = w} {ts = ts} {hs = hs} {names = ns} {limits = limits} e a b) =
    let l = (label_of ts).0 in
    brings_item types context space.Mem w ts ns hs (Memory l ns limits None ∷ []) r (ap space_of e) a (limits_no_export hs limits (Close ∷ r) b)
    (
    ap (λ o. item_by types context space.Mem l ns o hs) (limits_no_import hs limits (Close ∷ r) b) ∙ ap (λ o. memory_by l ns o hs) (limits_no_data hs limits (Close ∷ r) b)
    ∙ ap (λ q. and_then q (λ limits us. closing (Memory l ns limits None ∷ []) (closed_or (after_memory_limits limits.max) us))) (limits_complete expected.MemoryDefinition hs limits (Close ∷ r) b (λ n. refl))
    )
field_complete laws types context _ _ r (by_memory_data {w = w} {v = v} {ts = ts} {hs = hs} {names = ns} {bytes = bytes} e a k m low) =
    let l = (label_of ts).0 in
    brings_item types context space.Mem w ts ns (Open ∷ Word v ∷ hs) _ r (ap space_of e) a (no_export _ (other_word (codes "export") (codes "data") v hs refl k))
    (
    ap (λ o. item_by types context space.Mem l ns o (Open ∷ Word v ∷ hs)) (other_word (codes "import") (codes "data") v hs refl k) ∙ ap (λ o. memory_by l ns o (Open ∷ Word v ∷ hs)) (after_is (codes "data") v hs k) ∙ memory_data_complete l ns hs bytes r m low
    )
field_complete laws types context _ _ r (by_global {w = w} {ts = ts} {hs = hs} {bs = bs} {names = ns} {t = t} {is = is} e a b k) =
    let l = (label_of ts).0 in
    brings_item types context space.Global w ts ns hs (Global l ns t is ∷ []) r (ap space_of e) a (global_type_no_export hs t bs b)
    (
    ap (λ o. item_by types context space.Global l ns o hs) (global_type_no_import hs t bs b) ∙ ap (λ q. and_then q (λ t us. and_then (machine.body context us) (λ is vs. Ok (Global l ns t is ∷ [], vs)))) (global_type_complete expected.GlobalDefinition hs t bs b)
    ∙ ap (λ q. and_then q (λ is vs. Ok (Global l ns t is ∷ [], vs))) ((laws.same context bs is r).1 k)
    )
field_complete laws types context _ _ r (by_export {w = w} {n = n} {v = v} {ts = ts} {s = s} {i = i} e u k f) = external_complete types context w n v ts s i r e u k f
field_complete laws types context _ _ r (by_start {w = w} {ts = ts} {i = i} e f) = brings_word types context w (codes "start") ts (Start i ∷ []) r e (ap (λ q. and_then q (λ i us. closing (Start i ∷ []) (closed us))) (index_complete kind.Func context.funcs ts i (Close ∷ r) f))
field_complete laws types context _ _ r (by_passive_elem {w = w} {ts = ts} {t = t} {es = es} e k) = brings_word types context w (codes "elem") ts (Elem (label_of ts).0 Passive t es ∷ []) r e (passive_elem_complete laws context (label_of ts).0 (label_of ts).1 t es r k)
field_complete laws types context _ _ r (by_declarative_elem {w = w} {v = v} {ts = ts} {ds = ds} {t = t} {es = es} e o d k) =
    brings_word types context w (codes "elem") ts (Elem (label_of ts).0 Declarative t es ∷ []) r e (declarative_elem_complete laws context (label_of ts).0 (label_of ts).1 v ds t es r o d k)
field_complete laws types context _ _ r (by_active_elem {w = w} {ts = ts} {os = os} {bs = bs} {i = i} {is = is} {t = t} {es = es} e u x k) =
    brings_word types context w (codes "elem") ts (Elem (label_of ts).0 (Active (target i is)) t es ∷ []) r e (active_elem_complete laws context (label_of ts).0 (label_of ts).1 os bs i is t es r u x k)
field_complete laws types context _ _ r (by_function_elem {w = w} {ts = ts} {bs = bs} {is = is} {es = es} e x k) =
    brings_word types context w (codes "elem") ts (Elem (label_of ts).0 (Active (target 0 is)) reference.Func es ∷ []) r e (function_elem_complete laws context (label_of ts).0 (label_of ts).1 bs is es r x k)
field_complete laws types context _ _ r (by_passive_data {w = w} {ts = ts} {bytes = bytes} e m) = brings_word types context w (codes "data") ts (Data (label_of ts).0 None bytes ∷ []) r e (passive_complete context ts bytes r m)
field_complete laws types context _ _ r (by_active_data {w = w} {ts = ts} {os = os} {bs = bs} {i = i} {is = is} {bytes = bytes} e u o m) =
    brings_word types context w (codes "data") ts (Data (label_of ts).0 (Some (target i is)) bytes ∷ []) r e (active_complete laws context ts os bs i is bytes r u o m)

-- What a field takes.

label_short : (ts : List Terminal) → length (label_of ts).1 ≤ length ts
label_short [] = omega arith
label_short (Id x ∷ ts) = omega arith
label_short (Open ∷ ts) = omega arith
label_short (Close ∷ ts) = omega arith
label_short (Word w ∷ ts) = omega arith
label_short (Integer s n ∷ ts) = omega arith
label_short (Text v ∷ ts) = omega arith
label_short (Float narrow wide ∷ ts) = omega arith
label_short (Other ∷ ts) = omega arith

-- these tokens are the rest of a field, and then come those
pub record Closes (ts r : List Terminal) : Type 0 where
  pub short : length r < length ts
  pub same : past 0 ts ≡ r

pub record After (ts r : List Terminal) : Type 0 where
  pub w : List ℕ
  pub us : List Terminal
  pub is : ts ≡ Open ∷ Word w ∷ us
  pub closes : Closes (label_of us).1 r

exports_pass : (ts : List Terminal) (ns : List (List ℕ)) (hs r : List Terminal) → Many InlineExport ts ns hs → Closes hs r → Closes ts r
exports_pass ts ns hs r m c = let x = many_takes InlineExport exports_read.takes ts ns hs m in record { short = omega (arith, c.short, x); same = many_past InlineExport 0 (export_past 0) ts ns hs m ∙ c.same }

body_closes : Laws → (context : Context) (ds : List Terminal) (is : List Instruction) (r : List Terminal) → Body context ds is r → Closes ds r
body_closes laws context ds is r k = let t = laws.taken context (None ∷ []) false ds is (Close ∷ r) k in record { short = omega arith; same = laws.balanced context (None ∷ []) false ds is (Close ∷ r) k 0 }

-- after tokens that open and close nothing
on_to : (ts us r : List Terminal) → Passes ts us → Closes us r → Closes ts r
on_to ts us r p c = let x = p.short in let y = c.short in record { short = omega arith; same = p.same 0 ∙ c.same }

-- a label is passed
off_label : (ts r : List Terminal) (i : ℕ) (ls : List Label) → IndexIs ls ts i (Close ∷ r) → Closes (label_of ts).1 r
off_label _ r i ls (by_number e) = record { short = omega arith; same = refl }
off_label _ r i ls (by_identifier e) = record { short = omega arith; same = refl }

closed_now : (r : List Terminal) → Closes (Close ∷ r) r
closed_now r = record { short = omega arith; same = refl }

reference_now : (v : List ℕ) (r : List Terminal) → Closes (Word v ∷ Close ∷ r) r
reference_now v r = record { short = omega arith; same = refl }

external_closes : (ls : List Label) (n v : List ℕ) (ts r : List Terminal) (i : ℕ) → IndexIs ls ts i (Close ∷ Close ∷ r) → Closes (Text n ∷ Open ∷ Word v ∷ ts) r
external_closes ls n v ts r i e = let p = index_pass ls ts i (Close ∷ Close ∷ r) e in let s = p.short in record { short = omega arith; same = p.same 1 }

kept_to : (ts us r : List Terminal) → Keeps ts us → Closes us r → Closes ts r
kept_to ts us r p c = let x = p.short in let y = c.short in record { short = omega arith; same = p.same 0 ∙ c.same }

pub label_past : (d : ℕ) (ts : List Terminal) → past d ts ≡ past d (label_of ts).1
label_past d [] = refl
label_past d (Id x ∷ ts) = refl
label_past d (Open ∷ ts) = refl
label_past d (Close ∷ ts) = refl
label_past d (Word w ∷ ts) = refl
label_past d (Integer s n ∷ ts) = refl
label_past d (Text v ∷ ts) = refl
label_past d (Float narrow wide ∷ ts) = refl
label_past d (Other ∷ ts) = refl

type_closes : (v : List ℕ) (hs bs r : List Terminal) (ps rs : List Variable) → Many (Group (codes "param") true) hs ps bs → Many (Group (codes "result") false) bs rs (Close ∷ Close ∷ r) → Closes (Open ∷ Word v ∷ hs) r
type_closes v hs bs r ps rs a b = let k = lists_keep ps rs hs (Close ∷ Close ∷ r) (record { bs = bs; params = a; results = b }) in let s = k.short in record { short = omega arith; same = k.same 1 }

import_closes : (types : Types) (s : IndexSpace) (m n v : List ℕ) (ts : List Terminal) (t : ExternType) (r : List Terminal) → ExternIs types s (label_of ts).1 t (Close ∷ Close ∷ r) → Closes (Text m ∷ Text n ∷ Open ∷ Word v ∷ ts) r
import_closes types s m n v ts t r x = let k = extern_keeps types s (label_of ts).1 t (Close ∷ Close ∷ r) x in let z = k.short in let y = label_short ts in record { short = omega arith; same = label_past 1 ts ∙ k.same 1 }

inline_closes : (types : Types) (s : IndexSpace) (v m n : List ℕ) (us : List Terminal) (t : ExternType) (r : List Terminal) → ExternIs types s us t (Close ∷ r) → Closes (Open ∷ Word v ∷ Text m ∷ Text n ∷ Close ∷ us) r
inline_closes types s v m n us t r x = let k = extern_keeps types s us t (Close ∷ r) x in let z = k.short in record { short = omega arith; same = k.same 0 }

locals_close : Laws → (context : Context) (bs ds : List Terminal) (ls : List Variable) (is : List Instruction) (r : List Terminal) → Many (Group (codes "local") true) bs ls ds → Body context ds is r → Closes bs r
locals_close laws context bs ds ls is r m b =
    let v = many_takes (Group (codes "local") true) (group_takes (codes "local") true) bs ls ds m in
    let c = body_closes laws context ds is r b in let s = c.short in record { short = omega arith; same = many_past (Group (codes "local") true) 0 (group_past (codes "local") true 0) bs ls ds m ∙ c.same }

strings_close : (ts : List Terminal) (bytes : List ℕ) (r : List Terminal) → Many StringIs ts bytes (Close ∷ r) → Closes ts r
strings_close ts bytes r m = let k = strings_keep ts bytes (Close ∷ r) m in let s = k.short in record { short = omega arith; same = k.same 0 }

memory_data_closes : (v : List ℕ) (ts : List Terminal) (bytes : List ℕ) (r : List Terminal) → Many StringIs ts bytes (Close ∷ Close ∷ r) → Closes (Open ∷ Word v ∷ ts) r
memory_data_closes v ts bytes r m = let k = strings_keep ts bytes (Close ∷ Close ∷ r) m in let s = k.short in record { short = omega arith; same = k.same 1 }

-- a `)` after tokens
kept_now : (ts r : List Terminal) → Keeps ts (Close ∷ r) → Closes ts r
kept_now ts r k = let s = k.short in record { short = omega arith; same = k.same 0 }

kept_word : (v : List ℕ) (ts r : List Terminal) → Keeps ts (Close ∷ r) → Closes (Word v ∷ ts) r
kept_word v ts r k = let s = k.short in record { short = omega arith; same = k.same 0 }

brought_closes : (u v : List ℕ) (ts r : List Terminal) → Keeps ts (Close ∷ Close ∷ r) → Closes (Word u ∷ Open ∷ Word v ∷ ts) r
brought_closes u v ts r k = let s = k.short in record { short = omega arith; same = k.same 1 }

pub field_after : Laws → (types : Types) (context : Context) (ts : List Terminal) (fs : List Field) (r : List Terminal) → FieldIs types context ts fs r → After ts r
field_after laws types context _ _ r (by_type {w = w} {v = v} {ts = ts} {hs = hs} {bs = bs} {params = ps} {results = rs} e o k a b) = record { w = w; us = ts; is = refl; closes = subst (λ x. Closes x r) (sym o) (type_closes v hs bs r ps rs a b) }
field_after laws types context _ _ r (by_import {w = w} {m = m} {n = n} {v = v} {ts = ts} {s = s} {t = t} e a b k x) = record { w = w; us = Text m ∷ Text n ∷ Open ∷ Word v ∷ ts; is = refl; closes = import_closes types s m n v ts t r x }
field_after laws types context _ _ r (by_inline_import {w = w} {v = v} {m = m} {n = n} {ts = ts} {us = us} {names = ns} {s = s} {t = t} e k i a b x) =
    record { w = w; us = ts; is = refl; closes = exports_pass (label_of ts).1 ns (Open ∷ Word v ∷ Text m ∷ Text n ∷ Close ∷ us) r k (inline_closes types s v m n us t r x) }
field_after laws types context _ _ r (by_func {w = w} {ts = ts} {hs = hs} {bs = bs} {ds = ds} {names = ns} {u = u} {locals = ls} {is = is} e a b c d k) =
    record { w = w; us = ts; is = refl; closes = exports_pass (label_of ts).1 ns hs r a (kept_to hs bs r (use_keeps types hs u bs b) (locals_close laws (with_locals context (u.params ++ ls)) bs ds ls is r c k)) }
field_after laws types context _ _ r (by_table {w = w} {v = v} {ts = ts} {hs = hs} {names = ns} {limits = limits} {t = t} e a b c) =
    record { w = w; us = ts; is = refl; closes = exports_pass (label_of ts).1 ns hs r a (on_to hs (Word v ∷ Close ∷ r) r (limits_pass hs limits (Word v ∷ Close ∷ r) b) (reference_now v r)) }
field_after laws types context _ _ r (by_table_items {w = w} {u = u} {v = v} {ts = ts} {hs = hs} {names = ns} {es = es} e a k b m low) =
    record { w = w; us = ts; is = refl; closes = exports_pass (label_of ts).1 ns (Word u ∷ Open ∷ Word v ∷ hs) r a (brought_closes u v hs r (items_keep laws context hs es (Close ∷ Close ∷ r) m)) }
field_after laws types context _ _ r (by_table_functions {w = w} {u = u} {v = v} {ts = ts} {hs = hs} {names = ns} {es = es} e a k b m low) =
    record { w = w; us = ts; is = refl; closes = exports_pass (label_of ts).1 ns (Word u ∷ Open ∷ Word v ∷ hs) r a (brought_closes u v hs r (functions_keep context hs es (Close ∷ Close ∷ r) m)) }
field_after laws types context _ _ r (by_memory {w = w} {ts = ts} {hs = hs} {names = ns} {limits = limits} e a b) =
    record { w = w; us = ts; is = refl; closes = exports_pass (label_of ts).1 ns hs r a (on_to hs (Close ∷ r) r (limits_pass hs limits (Close ∷ r) b) (closed_now r)) }
field_after laws types context _ _ r (by_memory_data {w = w} {v = v} {ts = ts} {hs = hs} {names = ns} {bytes = bytes} e a k m low) = record { w = w; us = ts; is = refl; closes = exports_pass (label_of ts).1 ns (Open ∷ Word v ∷ hs) r a (memory_data_closes v hs bytes r m) }
field_after laws types context _ _ r (by_global {w = w} {ts = ts} {hs = hs} {bs = bs} {names = ns} {t = t} {is = is} e a b k) =
    record { w = w; us = ts; is = refl; closes = exports_pass (label_of ts).1 ns hs r a (on_to hs bs r (global_type_pass hs t bs b) (body_closes laws context bs is r k)) }
field_after laws types context _ _ r (by_export {w = w} {n = n} {v = v} {ts = ts} {s = s} {i = i} e u k f) = record { w = w; us = Text n ∷ Open ∷ Word v ∷ ts; is = refl; closes = external_closes (names_of context s) n v ts r i f }
field_after laws types context _ _ r (by_start {w = w} {ts = ts} {i = i} e f) = record { w = w; us = ts; is = refl; closes = off_label ts r i context.funcs f }
field_after laws types context _ _ r (by_passive_elem {w = w} {ts = ts} {t = t} {es = es} e k) = record { w = w; us = ts; is = refl; closes = kept_now (label_of ts).1 r (elements_keep laws context (label_of ts).1 t es (Close ∷ r) k) }
field_after laws types context _ _ r (by_declarative_elem {w = w} {v = v} {ts = ts} {ds = ds} {t = t} {es = es} e o d k) = record { w = w; us = ts; is = refl; closes = subst (λ x. Closes x r) (sym o) (kept_word v ds r (elements_keep laws context ds t es (Close ∷ r) k)) }
field_after laws types context _ _ r (by_active_elem {w = w} {ts = ts} {os = os} {bs = bs} {i = i} {is = is} {t = t} {es = es} e u x k) =
    record { w = w; us = ts; is = refl; closes = kept_to (label_of ts).1 os r (used_keeps (codes "table") context.tables (label_of ts).1 i os u) (kept_to os bs r (expression_keeps laws (codes "offset") context os is bs x) (kept_now bs r (elements_keep laws context bs t es (Close ∷ r) k))) }
field_after laws types context _ _ r (by_function_elem {w = w} {ts = ts} {bs = bs} {is = is} {es = es} e x k) =
    record { w = w; us = ts; is = refl; closes = kept_to (label_of ts).1 bs r (expression_keeps laws (codes "offset") context (label_of ts).1 is bs x) (kept_now bs r (functions_keep context bs es (Close ∷ r) k)) }
field_after laws types context _ _ r (by_passive_data {w = w} {ts = ts} {bytes = bytes} e m) = record { w = w; us = ts; is = refl; closes = strings_close (label_of ts).1 bytes r m }
field_after laws types context _ _ r (by_active_data {w = w} {ts = ts} {os = os} {bs = bs} {i = i} {is = is} {bytes = bytes} e u o m) =
    record { w = w; us = ts; is = refl; closes = kept_to (label_of ts).1 os r (used_keeps (codes "memory") context.memories (label_of ts).1 i os u) (kept_to os bs r (expression_keeps laws (codes "offset") context os is bs o) (strings_close bs bytes r m)) }

after_takes : (ts r : List Terminal) → After ts r → length r < length ts
after_takes ts r a = let s = a.closes.short in let l = label_short a.us in let k : length ts ≡ length (Open ∷ Word a.w ∷ a.us) = ap length a.is in omega arith

field_takes : Laws → (types : Types) (context : Context) (ts : List Terminal) (fs : List Field) (r : List Terminal) → FieldIs types context ts fs r → length r < length ts
field_takes laws types context ts fs r h = after_takes ts r (field_after laws types context ts fs r h)

pub fields_read : Laws → (types : Types) (context : Context) → Reads (field_item types context) (FieldIs types context)
fields_read laws types context = record { sound = field_sound laws types context; complete = field_complete laws types context; takes = field_takes laws types context }
