-- Parser and grammar agree on modules.
use Rattle.std.proofs.Common.{◌≡◌, ◌≤◌, ℕ, Bool, true, false, List, [], ◌∷◌, ◌++◌, length, map, Option, Some, None, Result, Ok, Err, refl, sym, ap, subst, ◌∙◌, arith, append_assoc, append-nil}
use Rattle.std.specs.Prelude.{if◌then◌else◌, bytes_eq, codes, nat_lt}
use Rattle.std.specs.List.{flat_map}
use Rattle.std.proofs.lemmas.Bool.Decides.{Decides-ltb}
use Rattle.std.proofs.lemmas.Grind.{flat_map-append}
use Rattle.wat_module_ast.specs.declared.error.Expected.{Expected}
use Rattle.wat_module_ast.specs.declared.error.Expected.TheVariants as expected
use Rattle.wat_module_parser.specs.Places.{duplicate_item, import_fault, start_fault}
use Rattle.wat_module_ast.specs.Grammar.{Context, Fault, label_of}
use Rattle.wat_module_tokens.specs.Terminals.{Terminal, Open, Close, Word, Id, Integer, Text, Float, Other}
use Rattle.wat_module_ast.specs.declared.fields.IndexSpace.{IndexSpace}
use Rattle.wat_module_ast.specs.declared.fields.Limits.{Limits}
use Rattle.wat_module_ast.specs.declared.fields.IndexSpace.TheVariants as space
use Rattle.wat_module_ast.specs.Types.{FunctionType, Types}
use Rattle.wat_module_ast.specs.Fields.{Many, by_none, by_more, Field, FieldIs, by_type, by_import, by_inline_import, by_func, by_table, by_memory, by_global, by_export, by_start, binding, Definition, all_distinct, context_of, types_in, binding_of, bindings_of, definition_of, definitions_of, definition_type, imports_first, space_of, starts_of, InlineExport, LimitsAre, by_min, by_min_max, elem_of, elems_of, data_of, datas_of, by_table_items, by_table_functions, by_passive_elem, by_declarative_elem, by_active_elem, by_function_elem, by_memory_data, by_passive_data, by_active_data}
use Rattle.wat_module_ast.specs.ImplicitTypes.{has_type, types_after, types_of, field_types, with_type}
use Rattle.wat_module_ast.specs.Modules.{FieldsAre, Module, by_module, by_fields, own_context, own_types}
use Rattle.wat_module_ast.specs.Uses.{MoreTypesKeep, UnknownTypesBring, unknown}
use Rattle.wat_module_parser.specs.Law.{ReadingIsGrammar}
use Rattle.wat_module_parser.specs.Reading.{Read, after, all, export, export_item, elem_name_at, inline_elem, elem_after_type, data_name_at, inline_data, unnamed_by, field_item, fields_at, fields_by, fields_again, fields_or, all_by, all_types, defined_types, context_by, binding_by, import_binding, binding_at, definition_by, definition_at, type_at, whole, whole_by, ended, at_end, ended_by, ordered, starts, Before, end_after}
use Rattle.wat_module_parser.proofs.Starts.{inside_past}
use Rattle.wat_module_parser.proofs.Headers.{item_ends, other_word}
use Rattle.wat_module_parser.proofs.Items.{Finds, word_is, begins, after_is, exports_read}
use Rattle.wat_module_parser.proofs.TypeRules.{limits_no_data, limits_no_export}
use Rattle.wat_module_parser.proofs.FieldKinds.{Laws, Closes, field_after, fields_read, label_past, extern_space_is, type_complete}
use Rattle.wat_module_parser.proofs.OtherTypes.{more_fields, unknown_fields}
use Rattle.wat_module_parser.proofs.Manies.{all_sound, all_complete}
use Rattle.wat_module_parser.proofs.Manies as manies

field_start : (w : List ℕ) (us r : List Terminal) → Closes (label_of us).1 r → (ss : List (List Terminal)) → starts Before ss (Open ∷ Word w ∷ us) ≡ starts Before (ss ++ (Word w ∷ us) ∷ []) r
unfolding starts
field_start w us r c ss = inside_past 0 (ss ++ (Word w ∷ us) ∷ []) us ∙ ap (λ x. starts Before (ss ++ (Word w ∷ us) ∷ []) x) (label_past 0 us ∙ c.same)

-- What a field brings, by its beginning.

record Brings (us : List Terminal) (fs : List Field) : Type 0 where
  bindings : binding_at us ≡ bindings_of fs
  definitions : definition_at us ≡ definitions_of fs
  datas : data_name_at us ≡ datas_of fs
  elems : elem_name_at us ≡ elems_of fs

no_space : (w v : List ℕ) (s : IndexSpace) → space_of w ≡ Some s → space_of v ≡ None → (b : Bool) → bytes_eq w v ≡ b → b ≡ false
no_space w v s e n true h = let k : space_of w ≡ None = ap space_of (word_is w v h) ∙ n in cc
no_space w v s e n false h = refl

-- a field that begins with this word
by_word : (w v : List ℕ) (us : List Terminal) (fs : List Field) → w ≡ v → Brings (Word v ∷ us) fs → Brings (Word w ∷ us) fs
by_word w v us fs e b = subst (λ x. Brings (Word x ∷ us) fs) (sym e) b

import_brings : (m n v : List ℕ) (ts : List Terminal) (s x : IndexSpace) (ns : List (List ℕ)) → space_of v ≡ Some s → x ≡ s → binding_at (Word (codes "import") ∷ Text m ∷ Text n ∷ Open ∷ Word v ∷ ts) ≡ binding x (label_of ts).0 ∷ []
unfolding binding_at
import_brings m n v ts s x ns e k = ap (λ o. binding_by o (label_of ts).0) e ∙ ap (λ y. binding y (label_of ts).0 ∷ []) (sym k)

inline_brings : (w : List ℕ) (ts : List Terminal) (s x : IndexSpace) → space_of w ≡ Some s → x ≡ s → binding_at (Word w ∷ ts) ≡ binding x (label_of ts).0 ∷ []
unfolding binding_at
inline_brings w ts s x e k =
    ap (λ (b : Bool). if b then import_binding ts else binding_by (space_of w) (label_of ts).0) (no_space w (codes "import") s e refl (bytes_eq w (codes "import")) refl)
    ∙ ap (λ o. binding_by o (label_of ts).0) e ∙ ap (λ y. binding y (label_of ts).0 ∷ []) (sym k)

no_definition : (w : List ℕ) (ts : List Terminal) → bytes_eq w (codes "type") ≡ false → definition_at (Word w ∷ ts) ≡ []
unfolding definition_at
no_definition w ts e = ap (λ (b : Bool). if b then definition_by (type_at ts) else []) e

a_definition : (ts : List Terminal) (d : Definition) (r : List Terminal) → type_at ts ≡ Ok (d, r) → definition_at (Word (codes "type") ∷ ts) ≡ d ∷ []
unfolding definition_at
a_definition ts d r e = ap definition_by e

no_binding : (v : List ℕ) (ts : List Terminal) → bytes_eq v (codes "import") ≡ false → space_of v ≡ None → binding_at (Word v ∷ ts) ≡ []
unfolding binding_at
no_binding v ts e n = ap (λ (b : Bool). if b then import_binding ts else binding_by (space_of v) (label_of ts).0) e ∙ ap (λ o. binding_by o (label_of ts).0) n

-- data segments

no_data : (w : List ℕ) (ts : List Terminal) → bytes_eq w (codes "data") ≡ false → bytes_eq w (codes "memory") ≡ false → data_name_at (Word w ∷ ts) ≡ []
unfolding data_name_at
no_data w ts e f =
    ap (λ (b : Bool). if b then (label_of ts).0 ∷ [] else if bytes_eq w (codes "memory") then inline_data (all export_item (label_of ts).1) else []) e ∙ ap (λ (b : Bool). if b then inline_data (all export_item (label_of ts).1) else []) f

a_data : (ts : List Terminal) → data_name_at (Word (codes "data") ∷ ts) ≡ (label_of ts).0 ∷ []
unfolding data_name_at
a_data ts = refl

no_export_word : (word v : List ℕ) (ts : List Terminal) → bytes_eq word (codes "export") ≡ false → v ≡ word → export_item (Open ∷ Word v ∷ ts) ≡ None
unfolding export_item
no_export_word word v ts d e = item_ends export (codes "export") (Open ∷ Word v ∷ ts) (other_word (codes "export") word v ts d e)

-- where no group of data follows the exports
no_inline : (w : List ℕ) (ts : List Terminal) (ns : List (List ℕ)) (hs : List Terminal) → bytes_eq w (codes "data") ≡ false → Many InlineExport (label_of ts).1 ns hs → export_item hs ≡ None → after (codes "data") hs ≡ None → data_name_at (Word w ∷ ts) ≡ []
unfolding data_name_at
no_inline w ts ns hs e m o k = ap (λ (b : Bool). if b then (label_of ts).0 ∷ [] else if bytes_eq w (codes "memory") then inline_data (all export_item (label_of ts).1) else []) e ∙ by (bytes_eq w (codes "memory"))
  where
    by : (b : Bool) → (if b then inline_data (all export_item (label_of ts).1) else []) ≡ []
    by true = ap inline_data (all_complete export_item InlineExport exports_read ns (label_of ts).1 hs m o) ∙ ap unnamed_by k
    by false = refl

an_inline : (ts : List Terminal) (ns : List (List ℕ)) (v : List ℕ) (hs : List Terminal) → Many InlineExport (label_of ts).1 ns (Open ∷ Word v ∷ hs) → v ≡ codes "data" → data_name_at (Word (codes "memory") ∷ ts) ≡ None ∷ []
unfolding data_name_at
an_inline ts ns v hs m e = ap inline_data (all_complete export_item InlineExport exports_read ns (label_of ts).1 (Open ∷ Word v ∷ hs) m (no_export_word (codes "data") v hs refl e)) ∙ ap unnamed_by (after_is (codes "data") v hs e)

-- element segments

no_elem : (w : List ℕ) (ts : List Terminal) → bytes_eq w (codes "elem") ≡ false → bytes_eq w (codes "table") ≡ false → elem_name_at (Word w ∷ ts) ≡ []
unfolding elem_name_at
no_elem w ts e f =
    ap (λ (b : Bool). if b then (label_of ts).0 ∷ [] else if bytes_eq w (codes "table") then inline_elem (all export_item (label_of ts).1) else []) e ∙ ap (λ (b : Bool). if b then inline_elem (all export_item (label_of ts).1) else []) f

an_elem : (ts : List Terminal) → elem_name_at (Word (codes "elem") ∷ ts) ≡ (label_of ts).0 ∷ []
unfolding elem_name_at
an_elem ts = refl

-- where no type follows the exports
no_brought : (w : List ℕ) (ts : List Terminal) (ns : List (List ℕ)) (hs : List Terminal) → bytes_eq w (codes "elem") ≡ false → Many InlineExport (label_of ts).1 ns hs → export_item hs ≡ None → elem_after_type hs ≡ [] → elem_name_at (Word w ∷ ts) ≡ []
unfolding elem_name_at
no_brought w ts ns hs e m o k = ap (λ (b : Bool). if b then (label_of ts).0 ∷ [] else if bytes_eq w (codes "table") then inline_elem (all export_item (label_of ts).1) else []) e ∙ by (bytes_eq w (codes "table"))
  where
    by : (b : Bool) → (if b then inline_elem (all export_item (label_of ts).1) else []) ≡ []
    by true = ap inline_elem (all_complete export_item InlineExport exports_read ns (label_of ts).1 hs m o) ∙ k
    by false = refl

no_type : (ts : List Terminal) (l : Limits) (us : List Terminal) → LimitsAre ts l us → elem_after_type ts ≡ []
no_type _ _ us (by_min e) = refl
no_type _ _ us (by_min_max e f) = refl

a_brought : (ts : List Terminal) (ns : List (List ℕ)) (u v : List ℕ) (hs : List Terminal) → Many InlineExport (label_of ts).1 ns (Word u ∷ Open ∷ Word v ∷ hs) → v ≡ codes "elem" → elem_name_at (Word (codes "table") ∷ ts) ≡ None ∷ []
unfolding elem_name_at export_item
a_brought ts ns u v hs m e = ap inline_elem (all_complete export_item InlineExport exports_read ns (label_of ts).1 (Word u ∷ Open ∷ Word v ∷ hs) m refl) ∙ ap unnamed_by (after_is (codes "elem") v hs e)

heads_are : (v w : List ℕ) (ts us : List Terminal) → Open ∷ Word v ∷ ts ≡ Open ∷ Word w ∷ us → (v ≡ w) × (ts ≡ us)
heads_are v w ts us e = (cc, cc)

moved : (v w : List ℕ) (ts us : List Terminal) (fs : List Field) → v ≡ w → ts ≡ us → Brings (Word v ∷ ts) fs → Brings (Word w ∷ us) fs
moved v w ts us fs a b k = subst (λ x. Brings (Word w ∷ x) fs) b (subst (λ x. Brings (Word x ∷ ts) fs) a k)

field_brings : (types : Types) (context : Context) (w : List ℕ) (us ts : List Terminal) (fs : List Field) (r : List Terminal) → ts ≡ Open ∷ Word w ∷ us → FieldIs types context ts fs r → Brings (Word w ∷ us) fs
field_brings types context w us _ _ r q (by_type {w = v} {ts = ts} {params = ps} {results = rs} e o k a b) =
    let (x, y) = heads_are v w ts us q in
    moved v w ts us _ x y (by_word v (codes "type") ts _ e (record { bindings = no_binding (codes "type") ts refl refl; definitions = a_definition ts _ r (type_complete ts _ _ _ r ps rs o k a b); datas = no_data (codes "type") ts refl refl; elems = no_elem (codes "type") ts refl refl }))
field_brings types context w us _ _ r q (by_import {w = v} {m = m} {n = n} {v = x} {ts = ts} {s = s} {t = t} e a b k i) =
    let (y, z) = heads_are v w (Text m ∷ Text n ∷ Open ∷ Word x ∷ ts) us q in
    moved v w (Text m ∷ Text n ∷ Open ∷ Word x ∷ ts) us _ y z (by_word v (codes "import") (Text m ∷ Text n ∷ Open ∷ Word x ∷ ts) _ e (record { bindings = import_brings m n x ts s _ [] k (extern_space_is types s (label_of ts).1 t _ i); definitions = no_definition (codes "import") _ refl; datas = no_data (codes "import") _ refl refl; elems = no_elem (codes "import") _ refl refl }))
field_brings types context w us _ _ r q (by_inline_import {w = v} {v = u} {m = m} {n = n} {ts = ts} {us = xs} {names = ns} {s = s} {t = t} e k i a b x) =
    let (y, z) = heads_are v w ts us q in
    moved v w ts us _ y z (record { bindings = inline_brings v ts s _ e (extern_space_is types s xs t _ x); definitions = no_definition v ts (no_space v (codes "type") s e refl (bytes_eq v (codes "type")) refl); datas = no_inline v ts ns (Open ∷ Word u ∷ Text m ∷ Text n ∷ Close ∷ xs) (no_space v (codes "data") s e refl (bytes_eq v (codes "data")) refl) k (no_export_word (codes "import") u (Text m ∷ Text n ∷ Close ∷ xs) refl i) (other_word (codes "data") (codes "import") u (Text m ∷ Text n ∷ Close ∷ xs) refl i); elems = no_brought v ts ns (Open ∷ Word u ∷ Text m ∷ Text n ∷ Close ∷ xs) (no_space v (codes "elem") s e refl (bytes_eq v (codes "elem")) refl) k (no_export_word (codes "import") u (Text m ∷ Text n ∷ Close ∷ xs) refl i) refl })
field_brings types context w us _ _ r q (by_func {w = v} {ts = ts} e a b c d k) = let (y, z) = heads_are v w ts us q in moved v w ts us _ y z (by_word v (codes "func") ts _ e (record { bindings = inline_brings (codes "func") ts space.Func space.Func refl refl; definitions = no_definition (codes "func") ts refl; datas = no_data (codes "func") ts refl refl; elems = no_elem (codes "func") ts refl refl }))
field_brings types context w us _ _ r q (by_table {w = v} {v = u} {ts = ts} {hs = hs} {names = ns} {limits = limits} e a b c) = let (y, z) = heads_are v w ts us q in moved v w ts us _ y z (by_word v (codes "table") ts _ e (record { bindings = inline_brings (codes "table") ts space.Table space.Table refl refl; definitions = no_definition (codes "table") ts refl; datas = no_data (codes "table") ts refl refl; elems = no_brought (codes "table") ts ns hs refl a (limits_no_export hs limits (Word u ∷ Close ∷ r) b) (no_type hs limits (Word u ∷ Close ∷ r) b) }))
field_brings types context w us _ _ r q (by_table_items {w = v} {u = x} {v = u} {ts = ts} {hs = hs} {names = ns} e a k b m low) =
    let (y, z) = heads_are v w ts us q in
    moved v w ts us _ y z (by_word v (codes "table") ts _ e (record { bindings = inline_brings (codes "table") ts space.Table space.Table refl refl; definitions = no_definition (codes "table") ts refl; datas = no_data (codes "table") ts refl refl; elems = a_brought ts ns x u hs a b }))
field_brings types context w us _ _ r q (by_table_functions {w = v} {u = x} {v = u} {ts = ts} {hs = hs} {names = ns} e a k b m low) =
    let (y, z) = heads_are v w ts us q in
    moved v w ts us _ y z (by_word v (codes "table") ts _ e (record { bindings = inline_brings (codes "table") ts space.Table space.Table refl refl; definitions = no_definition (codes "table") ts refl; datas = no_data (codes "table") ts refl refl; elems = a_brought ts ns x u hs a b }))
field_brings types context w us _ _ r q (by_memory {w = v} {ts = ts} {hs = hs} {names = ns} {limits = limits} e a b) = let (y, z) = heads_are v w ts us q in moved v w ts us _ y z (by_word v (codes "memory") ts _ e (record { bindings = inline_brings (codes "memory") ts space.Mem space.Mem refl refl; definitions = no_definition (codes "memory") ts refl; datas = no_inline (codes "memory") ts ns hs refl a (limits_no_export hs limits (Close ∷ r) b) (limits_no_data hs limits (Close ∷ r) b); elems = no_elem (codes "memory") ts refl refl }))
field_brings types context w us _ _ r q (by_memory_data {w = v} {v = u} {ts = ts} {hs = hs} {names = ns} e a k m low) =
    let (y, z) = heads_are v w ts us q in
    moved v w ts us _ y z (by_word v (codes "memory") ts _ e (record { bindings = inline_brings (codes "memory") ts space.Mem space.Mem refl refl; definitions = no_definition (codes "memory") ts refl; datas = an_inline ts ns u hs a k; elems = no_elem (codes "memory") ts refl refl }))
field_brings types context w us _ _ r q (by_global {w = v} {ts = ts} e a b k) = let (y, z) = heads_are v w ts us q in moved v w ts us _ y z (by_word v (codes "global") ts _ e (record { bindings = inline_brings (codes "global") ts space.Global space.Global refl refl; definitions = no_definition (codes "global") ts refl; datas = no_data (codes "global") ts refl refl; elems = no_elem (codes "global") ts refl refl }))
field_brings types context w us _ _ r q (by_export {w = v} {n = n} {v = x} {ts = ts} e u k f) =
    let (y, z) = heads_are v w (Text n ∷ Open ∷ Word x ∷ ts) us q in
    moved v w (Text n ∷ Open ∷ Word x ∷ ts) us _ y z (by_word v (codes "export") (Text n ∷ Open ∷ Word x ∷ ts) _ e (record { bindings = no_binding (codes "export") _ refl refl; definitions = no_definition (codes "export") _ refl; datas = no_data (codes "export") _ refl refl; elems = no_elem (codes "export") _ refl refl }))
field_brings types context w us _ _ r q (by_start {w = v} {ts = ts} e f) = let (y, z) = heads_are v w ts us q in moved v w ts us _ y z (by_word v (codes "start") ts _ e (record { bindings = no_binding (codes "start") ts refl refl; definitions = no_definition (codes "start") ts refl; datas = no_data (codes "start") ts refl refl; elems = no_elem (codes "start") ts refl refl }))
field_brings types context w us _ _ r q (by_passive_elem {w = v} {ts = ts} e k) = let (y, z) = heads_are v w ts us q in moved v w ts us _ y z (by_word v (codes "elem") ts _ e (record { bindings = no_binding (codes "elem") ts refl refl; definitions = no_definition (codes "elem") ts refl; datas = no_data (codes "elem") ts refl refl; elems = an_elem ts }))
field_brings types context w us _ _ r q (by_declarative_elem {w = v} {ts = ts} e o d k) = let (y, z) = heads_are v w ts us q in moved v w ts us _ y z (by_word v (codes "elem") ts _ e (record { bindings = no_binding (codes "elem") ts refl refl; definitions = no_definition (codes "elem") ts refl; datas = no_data (codes "elem") ts refl refl; elems = an_elem ts }))
field_brings types context w us _ _ r q (by_active_elem {w = v} {ts = ts} e u x k) = let (y, z) = heads_are v w ts us q in moved v w ts us _ y z (by_word v (codes "elem") ts _ e (record { bindings = no_binding (codes "elem") ts refl refl; definitions = no_definition (codes "elem") ts refl; datas = no_data (codes "elem") ts refl refl; elems = an_elem ts }))
field_brings types context w us _ _ r q (by_function_elem {w = v} {ts = ts} e x k) = let (y, z) = heads_are v w ts us q in moved v w ts us _ y z (by_word v (codes "elem") ts _ e (record { bindings = no_binding (codes "elem") ts refl refl; definitions = no_definition (codes "elem") ts refl; datas = no_data (codes "elem") ts refl refl; elems = an_elem ts }))
field_brings types context w us _ _ r q (by_passive_data {w = v} {ts = ts} e m) = let (y, z) = heads_are v w ts us q in moved v w ts us _ y z (by_word v (codes "data") ts _ e (record { bindings = no_binding (codes "data") ts refl refl; definitions = no_definition (codes "data") ts refl; datas = a_data ts; elems = no_elem (codes "data") ts refl refl }))
field_brings types context w us _ _ r q (by_active_data {w = v} {ts = ts} e u o m) = let (y, z) = heads_are v w ts us q in moved v w ts us _ y z (by_word v (codes "data") ts _ e (record { bindings = no_binding (codes "data") ts refl refl; definitions = no_definition (codes "data") ts refl; datas = a_data ts; elems = no_elem (codes "data") ts refl refl }))

-- the beginnings of fields, and what they bring
record Found (ts r : List Terminal) (fs : List Field) : Type 0 where
  ss : List (List Terminal)
  begin : (acc : List (List Terminal)) → starts Before acc ts ≡ starts Before (acc ++ ss) r
  bindings : flat_map binding_at ss ≡ bindings_of fs
  definitions : flat_map definition_at ss ≡ definitions_of fs
  datas : flat_map data_name_at ss ≡ datas_of fs
  elems : flat_map elem_name_at ss ≡ elems_of fs

field_found : Laws → (types : Types) (context : Context) (ts : List Terminal) (fs : List Field) (r : List Terminal) → FieldIs types context ts fs r → Found ts r fs
field_found laws types context ts fs r h =
    let a = field_after laws types context ts fs r h in
    let b = field_brings types context a.w a.us ts fs r a.is h in record {
      ss = (Word a.w ∷ a.us) ∷ [];
      begin = λ acc. ap (λ x. starts Before acc x) a.is ∙ field_start a.w a.us r a.closes acc;
      bindings = append-nil (binding_at (Word a.w ∷ a.us)) ∙ b.bindings;
      definitions = append-nil (definition_at (Word a.w ∷ a.us)) ∙ b.definitions;
      datas = append-nil (data_name_at (Word a.w ∷ a.us)) ∙ b.datas;
      elems = append-nil (elem_name_at (Word a.w ∷ a.us)) ∙ b.elems;
    }

fields_found : Laws → (types : Types) (context : Context) (ts : List Terminal) (fs : List Field) (r : List Terminal) → Many (FieldIs types context) ts fs r → Found ts r fs
fields_found laws types context _ _ r by_none = record { ss = []; begin = λ acc. ap (λ x. starts Before x r) (sym (append-nil acc)); bindings = refl; definitions = refl; datas = refl; elems = refl }
fields_found laws types context _ _ r (by_more {ts = ts} {us = us} {vs = fs} {ws = gs} one rest) =
    let a = field_found laws types context ts fs us one in
    let b = fields_found laws types context us gs r rest in record {
      ss = a.ss ++ b.ss;
      begin = λ acc. a.begin acc ∙ b.begin (acc ++ a.ss) ∙ ap (λ x. starts Before x r) (append_assoc acc a.ss b.ss);
      bindings = flat_map-append binding_at a.ss b.ss ∙ ap (λ x. x ++ flat_map binding_at b.ss) a.bindings ∙ ap (λ x. bindings_of fs ++ x) b.bindings ∙ sym (flat_map-append binding_of fs gs);
      definitions = flat_map-append definition_at a.ss b.ss ∙ ap (λ x. x ++ flat_map definition_at b.ss) a.definitions ∙ ap (λ x. definitions_of fs ++ x) b.definitions ∙ sym (flat_map-append definition_of fs gs);
      datas = flat_map-append data_name_at a.ss b.ss ∙ ap (λ x. x ++ flat_map data_name_at b.ss) a.datas ∙ ap (λ x. datas_of fs ++ x) b.datas ∙ sym (flat_map-append data_of fs gs);
      elems = flat_map-append elem_name_at a.ss b.ss ∙ ap (λ x. x ++ flat_map elem_name_at b.ss) a.elems ∙ ap (λ x. elems_of fs ++ x) b.elems ∙ sym (flat_map-append elem_of fs gs);
    }

-- what is left after the fields
abbrev tail : Bool → List Terminal
tail true = Close ∷ []
tail false = []

tail_starts : (enclosed : Bool) (ss : List (List Terminal)) → starts Before ss (tail enclosed) ≡ ss
unfolding starts
tail_starts true ss = refl
tail_starts false ss = refl

record Context_of (ts : List Terminal) (fs : List Field) : Type 0 where
  bindings : flat_map binding_at (starts Before [] ts) ≡ bindings_of fs
  definitions : flat_map definition_at (starts Before [] ts) ≡ definitions_of fs
  datas : flat_map data_name_at (starts Before [] ts) ≡ datas_of fs
  elems : flat_map elem_name_at (starts Before [] ts) ≡ elems_of fs

module_context : Laws → (enclosed : Bool) (types : Types) (context : Context) (ts : List Terminal) (fs : List Field) → Many (FieldIs types context) ts fs (tail enclosed) → Context_of ts fs
module_context laws enclosed types context ts fs m =
    let f = fields_found laws types context ts fs (tail enclosed) m in
    let e : starts Before [] ts ≡ f.ss = f.begin [] ∙ tail_starts enclosed f.ss in record { bindings = ap (flat_map binding_at) e ∙ f.bindings; definitions = ap (flat_map definition_at) e ∙ f.definitions; datas = ap (flat_map data_name_at) e ∙ f.datas; elems = ap (flat_map elem_name_at) e ∙ f.elems }

-- the context that is found, by some types, is the one that the fields bring
context_is : (types : Types) (ts : List Terminal) (fs : List Field) → Context_of ts fs → context_by (starts Before [] ts) types ≡ context_of types (bindings_of fs) (elems_of fs) (datas_of fs)
context_is types ts fs k =
    let ss = starts Before [] ts in
    ap (λ x. context_of types x (flat_map elem_name_at ss) (flat_map data_name_at ss)) k.bindings ∙ ap (λ x. context_of types (bindings_of fs) x (flat_map data_name_at ss)) k.elems
    ∙ ap (λ x. context_of types (bindings_of fs) (elems_of fs) x) k.datas

-- The module.

end_after_sound : (e : Expected) (gs fs : List Field) (ts : List Terminal) → end_after e gs ts ≡ Ok fs → (gs ≡ fs) × (ts ≡ [])
end_after_sound e gs fs [] h = let k : gs ≡ fs = cc in (k, refl)
end_after_sound e gs fs (t ∷ ts) h = cc

ended_sound : (q : Read (List Field)) (fs : List Field) → ended q ≡ Ok fs → q ≡ Ok (fs, Close ∷ [])
ended_sound (Ok (gs, Close ∷ ts)) fs e = let k = end_after_sound expected.End gs fs ts e in ap (λ x. Ok (x, Close ∷ ts)) k.0 ∙ ap (λ x. Ok (fs, Close ∷ x)) k.1
ended_sound (Ok (gs, [])) fs e = cc
ended_sound (Ok (gs, Open ∷ ts)) fs e = cc
ended_sound (Ok (gs, Word w ∷ ts)) fs e = cc
ended_sound (Ok (gs, Id x ∷ ts)) fs e = cc
ended_sound (Ok (gs, Integer s n ∷ ts)) fs e = cc
ended_sound (Ok (gs, Text v ∷ ts)) fs e = cc
ended_sound (Ok (gs, Float narrow wide ∷ ts)) fs e = cc
ended_sound (Ok (gs, Other ∷ ts)) fs e = cc
ended_sound (Err f) fs e = cc

at_end_sound : (q : Read (List Field)) (fs : List Field) → at_end q ≡ Ok fs → q ≡ Ok (fs, [])
at_end_sound (Ok (gs, ts)) fs e = let k = end_after_sound expected.FieldOrEnd gs fs ts e in ap (λ x. Ok (x, ts)) k.0 ∙ ap (λ x. Ok (fs, x)) k.1
at_end_sound (Err f) fs e = cc

tail_sound : (enclosed : Bool) (q : Read (List Field)) (fs : List Field) → ended_by enclosed q ≡ Ok fs → q ≡ Ok (fs, tail enclosed)
tail_sound true q fs e = ended_sound q fs e
tail_sound false q fs e = at_end_sound q fs e

tail_complete : (enclosed : Bool) (fs : List Field) → ended_by enclosed (Ok (fs, tail enclosed)) ≡ Ok fs
tail_complete true fs = refl
tail_complete false fs = refl

started_by : (late twice : Fault) (gs fs : List Field) (a b : Bool) → imports_first gs ≡ a → nat_lt (length (starts_of gs)) 2 ≡ b → ◌≡◌ {A = Result (List Field) Fault} (if a then (if b then Ok gs else Err twice) else Err late) (Ok fs)
    → (gs ≡ fs) × (imports_first gs ≡ true) × (length (starts_of gs) ≤ 1)
started_by late twice gs fs true true i e h = let k : gs ≡ fs = cc in let l = (Decides-ltb (length (starts_of gs)) 2).0 e in (k, i, omega (arith, l))
started_by late twice gs fs true false i e h = cc
started_by late twice gs fs false b i e h = cc

ordered_sound : (ts : List Terminal) (q : Result (List Field) Fault) (fs : List Field) → ordered ts q ≡ Ok fs → (q ≡ Ok fs) × (imports_first fs ≡ true) × (length (starts_of fs) ≤ 1)
ordered_sound ts (Ok gs) fs e =
    let k = started_by (import_fault gs (starts Before [] ts) ts) (start_fault gs (starts Before [] ts) ts) gs fs (imports_first gs) (nat_lt (length (starts_of gs)) 2) refl refl e in (ap (λ x. Ok x) k.0, subst (λ x. imports_first x ≡ true) k.0 k.1, subst (λ x. length (starts_of x) ≤ 1) k.0 k.2)
ordered_sound ts (Err f) fs e = cc

ordered_complete : (ts : List Terminal) (fs : List Field) → imports_first fs ≡ true → length (starts_of fs) ≤ 1 → ordered ts (Ok fs) ≡ Ok fs
ordered_complete ts fs i l =
    ap (λ (b : Bool). if b then (if nat_lt (length (starts_of fs)) 2 then Ok fs else Err (start_fault fs (starts Before [] ts) ts)) else Err (import_fault fs (starts Before [] ts) ts)) i ∙ ap (λ (b : Bool). if b then Ok fs else Err (start_fault fs (starts Before [] ts) ts)) ((Decides-ltb (length (starts_of fs)) 2).1 (omega (arith, l)))

no_field : (types : Types) (context : Context) (enclosed : Bool) → field_item types context (tail enclosed) ≡ None
unfolding field_item
no_field types context true = refl
no_field types context false = refl

-- By any types.

-- the fields that are read
abbrev read_fields : Read (List Field) → List Field
read_fields (Ok (fs, ts)) = fs
read_fields (Err f) = []

abbrev Spelled : List (List Terminal) → Types → List Terminal → List Field → List Terminal → Type 0
Spelled ss types ts fs r = Many (FieldIs types (context_by ss types)) ts fs r

-- the first types that are known, with others after them
abbrev with_more : List (List Terminal) → List FunctionType → Types
with_more ss more = types_in (flat_map definition_at ss) (map definition_type (flat_map definition_at ss) ++ more)

by_types_sound : Laws → (enclosed : Bool) (ss : List (List Terminal)) (types : Types) (ts : List Terminal) (fs : List Field) → fields_by enclosed ss types ts ≡ Ok fs → Spelled ss types ts fs (tail enclosed) × (imports_first fs ≡ true) × (length (starts_of fs) ≤ 1)
by_types_sound laws enclosed ss types ts fs h =
    let s = ordered_sound ts (ended_by enclosed (all_by ss types ts)) fs h in
    let context = context_by ss types in ((all_sound (field_item types context) (FieldIs types context) (fields_read laws types context) fs ts (tail enclosed) (tail_sound enclosed _ fs s.0)).0, s.1, s.2)

all_read : Laws → (enclosed : Bool) (ss : List (List Terminal)) (types : Types) (ts : List Terminal) (fs : List Field) → Spelled ss types ts fs (tail enclosed) → all_by ss types ts ≡ Ok (fs, tail enclosed)
all_read laws enclosed ss types ts fs m = let context = context_by ss types in all_complete (field_item types context) (FieldIs types context) (fields_read laws types context) fs ts (tail enclosed) m (no_field types context enclosed)

by_types_complete : Laws → (enclosed : Bool) (ss : List (List Terminal)) (types : Types) (ts : List Terminal) (fs : List Field) → Spelled ss types ts fs (tail enclosed) → imports_first fs ≡ true → length (starts_of fs) ≤ 1 → fields_by enclosed ss types ts ≡ Ok fs
by_types_complete laws enclosed ss types ts fs m i l = ap (λ q. ordered ts (ended_by enclosed q)) (all_read laws enclosed ss types ts fs m) ∙ ap (λ q. ordered ts q) (tail_complete enclosed fs) ∙ ordered_complete ts fs i l

-- The lemmas about instructions that are needed.
pub record AllLaws : Type 0 where
  pub base : Laws
  pub more : MoreTypesKeep
  pub unknown : UnknownTypesBring

by_more_types : AllLaws → (ss : List (List Terminal)) (more : List FunctionType) (ts : List Terminal) (fs : List Field) (r : List Terminal) → Spelled ss (defined_types ss) ts fs r → Spelled ss (with_more ss more) ts fs r
by_more_types laws ss more ts fs r m = more_fields laws.more (context_by ss (defined_types ss)) more ts fs r m

-- the fields that are read without the types
record Unknown (ss : List (List Terminal)) (ts : List Terminal) (fs : List Field) (r : List Terminal) : Type 0 where
  gs : List Field
  spelled : Spelled ss (unknown (defined_types ss)) ts gs r
  brings : flat_map field_types fs ≡ flat_map field_types gs

by_unknown_types : AllLaws → (ss : List (List Terminal)) (types : List FunctionType) (ts : List Terminal) (fs : List Field) (r : List Terminal) → Spelled ss (types_in (flat_map definition_at ss) types) ts fs r → Unknown ss ts fs r
by_unknown_types laws ss types ts fs r m = let l = unknown_fields laws.unknown (context_by ss (types_in (flat_map definition_at ss) types)) ts fs r m in record { gs = l.gs; spelled = l.spelled; brings = l.brings }

-- The types of fields are those that they define, and more.

types_grow : (ts us : List FunctionType) → (more : List FunctionType) × (ts ++ more ≡ types_after ts us)
types_grow ts [] = ([], append-nil ts)
types_grow ts (u ∷ us) = by (has_type u ts) (types_grow (with_type ts u) us)
  where
    by : (b : Bool) → (more : List FunctionType) × ((if b then ts else ts ++ u ∷ []) ++ more ≡ types_after (if b then ts else ts ++ u ∷ []) us) → (more : List FunctionType) × (ts ++ more ≡ types_after (if b then ts else ts ++ u ∷ []) us)
    by true g = g
    by false (more, e) = (u ∷ more, sym (append_assoc ts (u ∷ []) more) ∙ e)

own_more : (ts : List Terminal) (fs : List Field) → Context_of ts fs → (more : List FunctionType) × (map definition_type (flat_map definition_at (starts Before [] ts)) ++ more ≡ types_of fs)
unfolding types_of
own_more ts fs k =
    let g = types_grow (map definition_type (flat_map definition_at (starts Before [] ts))) (flat_map field_types fs) in
    (g.0, g.1 ∙ ap (λ ds. types_after (map definition_type ds) (flat_map field_types fs)) k.definitions)

types_same : (ts : List Terminal) (fs gs : List Field) → Context_of ts fs → Context_of ts gs → flat_map field_types fs ≡ flat_map field_types gs → types_of fs ≡ types_of gs
unfolding types_of
types_same ts fs gs k l e =
    ap (λ ds. types_after (map definition_type ds) (flat_map field_types fs)) (sym k.definitions ∙ l.definitions) ∙ ap (λ us. types_after (map definition_type (definitions_of gs)) us) e

-- By their own types.

to_own : (ts : List Terminal) (fs : List Field) (r : List Terminal) → Context_of ts fs → Spelled (starts Before [] ts) (all_types (starts Before [] ts) fs) ts fs r → Many (FieldIs (own_types fs) (own_context fs)) ts fs r
to_own ts fs r k m =
    let ss = starts Before [] ts in
    subst (λ z. Many (FieldIs (own_types fs) z) ts fs r) (context_is (own_types fs) ts fs k) (subst (λ ds. Spelled ss (types_in ds (types_of fs)) ts fs r) k.definitions m)

from_own : (ts : List Terminal) (fs : List Field) (r : List Terminal) → Context_of ts fs → Many (FieldIs (own_types fs) (own_context fs)) ts fs r → Spelled (starts Before [] ts) (all_types (starts Before [] ts) fs) ts fs r
from_own ts fs r k m =
    let ss = starts Before [] ts in
    subst (λ ds. Spelled ss (types_in ds (types_of fs)) ts fs r) (sym k.definitions) (subst (λ z. Many (FieldIs (own_types fs) z) ts fs r) (sym (context_is (own_types fs) ts fs k)) m)

distinct_is : (ts : List Terminal) (fs : List Field) → Context_of ts fs → all_distinct (defined_types (starts Before [] ts)) (context_by (starts Before [] ts) (defined_types (starts Before [] ts))) ≡ all_distinct (own_types fs) (own_context fs)
distinct_is ts fs k =
    let ss = starts Before [] ts in
    let D : List Definition → Types = λ ds. types_in ds (map definition_type ds) in
    ap (λ ds. all_distinct (D ds) (context_by ss (D ds))) k.definitions ∙ ap (λ c. all_distinct (D (definitions_of fs)) c) (context_is (D (definitions_of fs)) ts fs k)

record Own (enclosed : Bool) (ts : List Terminal) (fs : List Field) : Type 0 where
  spelled : Many (FieldIs (own_types fs) (own_context fs)) ts fs (tail enclosed)
  imports : imports_first fs ≡ true
  starts : length (starts_of fs) ≤ 1
  context : Context_of ts fs

again_sound : AllLaws → (enclosed : Bool) (ts : List Terminal) (fs : List Field) (f : Fault) (p : Read (List Field)) → all_by (starts Before [] ts) (unknown (defined_types (starts Before [] ts))) ts ≡ p → fields_again enclosed (starts Before [] ts) ts f p ≡ Ok fs → Own enclosed ts fs
again_sound laws enclosed ts fs f (Ok (gs, us)) e h =
    let ss = starts Before [] ts in
    let b = by_types_sound laws.base enclosed ss (all_types ss gs) ts fs h in
    let k = module_context laws.base enclosed (all_types ss gs) (context_by ss (all_types ss gs)) ts fs b.0 in
    let l = by_unknown_types laws ss (types_of gs) ts fs (tail enclosed) b.0 in
    let n = module_context laws.base enclosed (unknown (defined_types ss)) (context_by ss (unknown (defined_types ss))) ts l.gs l.spelled in
    let g : gs ≡ l.gs = ap read_fields (sym e ∙ all_read laws.base enclosed ss (unknown (defined_types ss)) ts l.gs l.spelled) in
    let t : types_of gs ≡ types_of fs = ap types_of g ∙ sym (types_same ts fs l.gs k n l.brings) in
    record { spelled = to_own ts fs (tail enclosed) k (subst (λ x. Spelled ss (types_in (flat_map definition_at ss) x) ts fs (tail enclosed)) t b.0); imports = b.1; starts = b.2; context = k }
again_sound laws enclosed ts fs f (Err g) e h = cc

or_sound : AllLaws → (enclosed : Bool) (ts : List Terminal) (fs : List Field) (q : Result (List Field) Fault) → fields_by enclosed (starts Before [] ts) (defined_types (starts Before [] ts)) ts ≡ q → fields_or enclosed (starts Before [] ts) ts q ≡ Ok fs → Own enclosed ts fs
or_sound laws enclosed ts fs (Ok hs) e h =
    let ss = starts Before [] ts in
    let b = by_types_sound laws.base enclosed ss (defined_types ss) ts fs (e ∙ h) in
    let k = module_context laws.base enclosed (defined_types ss) (context_by ss (defined_types ss)) ts fs b.0 in
    let n = own_more ts fs k in
    record { spelled = to_own ts fs (tail enclosed) k (subst (λ x. Spelled ss (types_in (flat_map definition_at ss) x) ts fs (tail enclosed)) n.1 (by_more_types laws ss n.0 ts fs (tail enclosed) b.0)); imports = b.1; starts = b.2; context = k }
or_sound laws enclosed ts fs (Err f) e h = let ss = starts Before [] ts in again_sound laws enclosed ts fs f (all_by ss (unknown (defined_types ss)) ts) refl h

of_distinct : AllLaws → (enclosed : Bool) (ts : List Terminal) (fs : List Field) (b : Bool) → all_distinct (defined_types (starts Before [] ts)) (context_by (starts Before [] ts) (defined_types (starts Before [] ts))) ≡ b
    → (if b then fields_or enclosed (starts Before [] ts) ts (fields_by enclosed (starts Before [] ts) (defined_types (starts Before [] ts)) ts) else Err (duplicate_item (starts Before [] ts) ts)) ≡ Ok fs → FieldsAre ts fs (tail enclosed)
of_distinct laws enclosed ts fs true d h =
    let ss = starts Before [] ts in
    let o = or_sound laws enclosed ts fs (fields_by enclosed ss (defined_types ss) ts) refl h in record { spelled = o.spelled; distinct = sym (distinct_is ts fs o.context) ∙ d; imports = o.imports; starts = o.starts }
of_distinct laws enclosed ts fs false d h = cc

fields_sound : AllLaws → (enclosed : Bool) (ts : List Terminal) (fs : List Field) → fields_at enclosed ts ≡ Ok fs → FieldsAre ts fs (tail enclosed)
fields_sound laws enclosed ts fs h = let ss = starts Before [] ts in of_distinct laws enclosed ts fs (all_distinct (defined_types ss) (context_by ss (defined_types ss))) refl h

whole_sound : AllLaws → (ts : List Terminal) (fs : List Field) (o : Option (List Terminal)) → after (codes "module") ts ≡ o → whole_by o ts ≡ Ok fs → Module ts fs
whole_sound laws ts fs (Some us) e h =
    let b = begins (codes "module") ts us (subst (λ x. Finds x us) (sym e) refl) in subst (λ x. Module x fs) (sym b.is) (by_module b.same (fields_sound laws true (label_of us).1 fs h))
whole_sound laws ts fs None e h = by_fields (fields_sound laws false ts fs h)

module_sound : AllLaws → (ts : List Terminal) (fs : List Field) → whole ts ≡ Ok fs → Module ts fs
unfolding whole
module_sound laws ts fs h = whole_sound laws ts fs (after (codes "module") ts) refl h

or_complete : AllLaws → (enclosed : Bool) (ts : List Terminal) (fs : List Field) → Context_of ts fs → Spelled (starts Before [] ts) (all_types (starts Before [] ts) fs) ts fs (tail enclosed) → imports_first fs ≡ true → length (starts_of fs) ≤ 1
    → (q : Result (List Field) Fault) → fields_by enclosed (starts Before [] ts) (defined_types (starts Before [] ts)) ts ≡ q → fields_or enclosed (starts Before [] ts) ts q ≡ Ok fs
or_complete laws enclosed ts fs k m i s (Ok hs) e =
    let ss = starts Before [] ts in
    let b = by_types_sound laws.base enclosed ss (defined_types ss) ts hs e in
    let n = own_more ts fs k in
    let x = subst (λ x. Spelled ss (types_in (flat_map definition_at ss) x) ts hs (tail enclosed)) n.1 (by_more_types laws ss n.0 ts hs (tail enclosed) b.0) in
    let g : hs ≡ fs = ap read_fields (sym (all_read laws.base enclosed ss (all_types ss fs) ts hs x) ∙ all_read laws.base enclosed ss (all_types ss fs) ts fs m) in ap (λ x. Ok x) g
or_complete laws enclosed ts fs k m i s (Err f) e =
    let ss = starts Before [] ts in
    let l = by_unknown_types laws ss (types_of fs) ts fs (tail enclosed) m in
    let n = module_context laws.base enclosed (unknown (defined_types ss)) (context_by ss (unknown (defined_types ss))) ts l.gs l.spelled in
    ap (λ p. fields_again enclosed ss ts f p) (all_read laws.base enclosed ss (unknown (defined_types ss)) ts l.gs l.spelled)
    ∙ ap (λ x. fields_by enclosed ss (types_in (flat_map definition_at ss) x) ts) (sym (types_same ts fs l.gs k n l.brings)) ∙ by_types_complete laws.base enclosed ss (all_types ss fs) ts fs m i s

fields_complete : AllLaws → (enclosed : Bool) (ts : List Terminal) (fs : List Field) → FieldsAre ts fs (tail enclosed) → fields_at enclosed ts ≡ Ok fs
fields_complete laws enclosed ts fs a =
    let ss = starts Before [] ts in
    let k = module_context laws.base enclosed (own_types fs) (own_context fs) ts fs a.spelled in
    ap (λ (x : Bool). if x then fields_or enclosed ss ts (fields_by enclosed ss (defined_types ss) ts) else Err (duplicate_item ss ts)) (distinct_is ts fs k ∙ a.distinct)
    ∙ or_complete laws enclosed ts fs k (from_own ts fs (tail enclosed) k a.spelled) a.imports a.starts (fields_by enclosed ss (defined_types ss) ts) refl

module_is_no_field : (types : Types) (context : Context) (us r : List Terminal) (fs : List Field) → manies.Brings (field_item types context (Open ∷ Word (codes "module") ∷ us)) fs r → ⊥
unfolding field_item
module_is_no_field types context us r fs h = h

-- no field begins as a module does
no_module_by : Laws → (types : Types) (context : Context) (ts : List Terminal) (fs : List Field) (r : List Terminal) → FieldIs types context ts fs r → (o : Option (List Terminal)) → after (codes "module") ts ≡ o → o ≡ None
no_module_by laws types context ts fs r f (Some us) e =
    let b = begins (codes "module") ts us (subst (λ x. Finds x us) (sym e) refl) in
    let is = b.is ∙ ap (λ w. Open ∷ Word w ∷ us) b.same in absurd (module_is_no_field types context us r fs (subst (λ x. manies.Brings (field_item types context x) fs r) is ((fields_read laws types context).complete ts fs r f)))
no_module_by laws types context ts fs r f None e = refl

no_module : Laws → (types : Types) (context : Context) (ts : List Terminal) (fs : List Field) (r : List Terminal) → Many (FieldIs types context) ts fs r → r ≡ [] → after (codes "module") ts ≡ None
no_module laws types context _ _ r by_none e = ap (λ x. after (codes "module") x) e
no_module laws types context _ _ r (by_more {ts = ts} {us = us} {vs = fs} one rest) e = no_module_by laws types context ts fs us one (after (codes "module") ts) refl

module_complete : AllLaws → (ts : List Terminal) (fs : List Field) → Module ts fs → whole ts ≡ Ok fs
unfolding whole
module_complete laws _ fs (by_module {w = w} {ts = ts} e a) = ap (λ o. whole_by o (Open ∷ Word w ∷ ts)) (after_is (codes "module") w ts e) ∙ fields_complete laws true (label_of ts).1 fs a
module_complete laws ts fs (by_fields a) = ap (λ o. whole_by o ts) (no_module laws.base (own_types fs) (own_context fs) ts fs [] a.spelled refl) ∙ fields_complete laws false ts fs a

pub law : AllLaws → ReadingIsGrammar
law laws ts fs = (module_sound laws ts fs, module_complete laws ts fs)
