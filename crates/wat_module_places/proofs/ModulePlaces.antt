-- The code finds the position of an instruction of a module.
use Rattle.std.proofs.Common.{◌≡◌, ◌∙◌, ℕ, zero, suc, Bool, true, false, List, [], ◌∷◌, ◌++◌, length, map, Option, Some, None, refl, sym, ap, subst, arith}
use Rattle.std.proofs.lemmas.List.{append-nil}
use Rattle.std.proofs.lemmas.List.Elements.{All-cons, All-from_recursion, All-nil, recursion_from_All}
use Rattle.std.proofs.lemmas.Option.{slice_get-map}
use Rattle.std.specs.List.{All, AllByRecursion}
use Rattle.std.specs.Option.{option_map}
use Rattle.std.specs.Prelude.{if◌then◌else◌, bytes_eq, codes, drop, slice_get}
use Rattle.wat_module_ast.specs.declared.fields.IndexSpace.{IndexSpace}
use Rattle.wat_module_ast.specs.Fields as fields
use Rattle.wat_module_ast.specs.Fields.{Field, FieldIs, Many, space_of}
use Rattle.wat_module_ast.specs.Grammar.{Context, after, label_of}
use Rattle.wat_module_ast.specs.Modules as modules
use Rattle.wat_module_ast.specs.Modules.{Module, own_context, own_types}
use Rattle.wat_module_ast.specs.Types.{Types}
use Rattle.wat_module_places.specs.Fields.{fields_by, fields_in, nth_field}
use Rattle.wat_module_places.specs.Law.{FieldsArePlaced, PositionsAreInText, PositionsAreTokens, PositionsAreUnique, alone, fields_of, place_of}
use Rattle.wat_module_places.specs.Places.{Placed, PlacedField, keyword_in, keyword_of, place_by, place_in, place_or, placed_field, placed_fields, placed_in, placed_module}
use Rattle.wat_module_places.specs.Positions.{BeginsField, IsInField, IsPlaced, IsPosition}
use Rattle.wat_module_places.specs.Walk.{walk}
use Rattle.wat_module_places.proofs.Begins.{field_at, field_begins, field_is_one}
use Rattle.wat_module_places.proofs.FieldPlaces.{field_finds}
use Rattle.wat_module_places.proofs.Steps.{no_group, this_group}
use Rattle.wat_module_places.proofs.Tails.{Before, Tail, nonempty, past_tail, placed_before, position, step, tail_in, tail_position, walk_before, whole}
use Rattle.wat_module_places.proofs.Words.{same_word}
use Rattle.wat_module_tokens.specs.Terminals.{Terminal, Open, Close, Id, Integer, Text, Float, Other, Word, past}

-- No field has the keyword of a module.

not_module : (w v : List ℕ) (ts : List Terminal) → w ≡ v → bytes_eq v (codes "module") ≡ false → after (codes "module") (Open ∷ Word w ∷ ts) ≡ None
not_module w v ts e f = ap (λ b. if b then Some ts else None) (ap (λ x. bytes_eq x (codes "module")) e ∙ f)

no_space_by : (w : List ℕ) (s : IndexSpace) (b : Bool) → space_of w ≡ Some s → bytes_eq w (codes "module") ≡ b → b ≡ false
no_space_by w s false e f = refl
no_space_by w s true e f = let g : space_of w ≡ None = ap space_of (same_word w (codes "module") f) in cc

no_space : (w : List ℕ) (s : IndexSpace) (ts : List Terminal) → space_of w ≡ Some s → after (codes "module") (Open ∷ Word w ∷ ts) ≡ None
no_space w s ts e = not_module w w ts refl (no_space_by w s (bytes_eq w (codes "module")) e refl)

no_module : (types : Types) (context : Context) (ts : List Terminal) (fs : List Field) (r : List Terminal) → FieldIs types context ts fs r → after (codes "module") ts ≡ None
no_module types context _ _ r (fields.by_type {w = w} {ts = ts} e o k a b) = not_module w (codes "type") ts e refl
no_module types context _ _ r (fields.by_import {w = w} {m = m} {n = n} {v = v} {ts = ts} e a b k x) = not_module w (codes "import") (Text m ∷ Text n ∷ Open ∷ Word v ∷ ts) e refl
no_module types context _ _ r (fields.by_inline_import {w = w} {ts = ts} {s = s} e k i a b x) = no_space w s ts e
no_module types context _ _ r (fields.by_func {w = w} {ts = ts} e a b c d k) = not_module w (codes "func") ts e refl
no_module types context _ _ r (fields.by_table {w = w} {ts = ts} e a b c) = not_module w (codes "table") ts e refl
no_module types context _ _ r (fields.by_table_items {w = w} {ts = ts} e a b c m l) = not_module w (codes "table") ts e refl
no_module types context _ _ r (fields.by_table_functions {w = w} {ts = ts} e a b c m l) = not_module w (codes "table") ts e refl
no_module types context _ _ r (fields.by_memory {w = w} {ts = ts} e a b) = not_module w (codes "memory") ts e refl
no_module types context _ _ r (fields.by_memory_data {w = w} {ts = ts} e a b m l) = not_module w (codes "memory") ts e refl
no_module types context _ _ r (fields.by_global {w = w} {ts = ts} e a b k) = not_module w (codes "global") ts e refl
no_module types context _ _ r (fields.by_export {w = w} {n = n} {v = v} {ts = ts} e u k x) = not_module w (codes "export") (Text n ∷ Open ∷ Word v ∷ ts) e refl
no_module types context _ _ r (fields.by_start {w = w} {ts = ts} e x) = not_module w (codes "start") ts e refl
no_module types context _ _ r (fields.by_passive_elem {w = w} {ts = ts} e k) = not_module w (codes "elem") ts e refl
no_module types context _ _ r (fields.by_declarative_elem {w = w} {ts = ts} e o d k) = not_module w (codes "elem") ts e refl
no_module types context _ _ r (fields.by_active_elem {w = w} {ts = ts} e u x k) = not_module w (codes "elem") ts e refl
no_module types context _ _ r (fields.by_function_elem {w = w} {ts = ts} e x k) = not_module w (codes "elem") ts e refl
no_module types context _ _ r (fields.by_passive_data {w = w} {ts = ts} e m) = not_module w (codes "data") ts e refl
no_module types context _ _ r (fields.by_active_data {w = w} {ts = ts} e u x m) = not_module w (codes "data") ts e refl

no_modules : (types : Types) (context : Context) (ts : List Terminal) (fs : List Field) (r : List Terminal) → Many (FieldIs types context) ts fs r → r ≡ [] → after (codes "module") ts ≡ None
no_modules types context _ _ r fields.by_none e = ap (λ x. after (codes "module") x) e
no_modules types context _ _ r (fields.by_more {ts = ts} {us = us} {vs = fs} one more) e = no_module types context ts fs us one

-- Fields.

-- no group begins at these tokens
Shut : List Terminal → Type 0
Shut r = (us : List Terminal) → ¬ (r ≡ Open ∷ us)

close_shut : (ts : List Terminal) → Shut (Close ∷ ts)
unfolding Shut
close_shut ts us e = cc

end_shut : Shut []
unfolding Shut
end_shut us e = cc

first_is : (ts inside : List Terminal) → ts ≡ Open ∷ inside → drop 1 ts ≡ inside
first_is ts inside e = ap (drop 1) e

one_group : (k : ℕ) (ts inside us : List Terminal) → ts ≡ Open ∷ inside → past 0 inside ≡ us → nth_field (suc k) ts ≡ nth_field k us
unfolding nth_field
one_group k ts inside us e f = ap (λ x. nth_field (suc k) x) e ∙ ap (λ x. nth_field k x) f

fields_found : (types : Types) (context : Context) (ts : List Terminal) (fs : List Field) (r : List Terminal) (m : Many (FieldIs types context) ts fs r) → Shut r → (k : ℕ) → nth_field k ts ≡ option_map keyword_of (slice_get (placed_fields m) k)
unfolding Shut placed_fields
fields_found types context _ _ r fields.by_none h k = no_group k r h
fields_found types context _ _ r (fields.by_more {ts = ts} {us = us} {vs = fs} {ws = gs} one more) h zero =
    let w = field_finds types context ts fs us one in this_group ts w.inside w.is ∙ ap Some (sym (first_is ts w.inside w.is))
fields_found types context _ _ r (fields.by_more {ts = ts} {us = us} {vs = fs} {ws = gs} one more) h (suc k) =
    let w = field_finds types context ts fs us one in one_group k ts w.inside us w.is (w.finds.level 0) ∙ fields_found types context us gs r more h k

-- the positions of the instructions of each field
AllWalk : List PlacedField → Type 0
AllWalk fs = (k : ℕ) (f : PlacedField) → slice_get fs k ≡ Some f → walk [] f.keyword ≡ map place_of f.instructions

field_walk : (types : Types) (context : Context) (ts : List Terminal) (fs : List Field) (r : List Terminal) (f : FieldIs types context ts fs r) → walk [] (drop 1 ts) ≡ map place_of (placed_in f)
unfolding walk
field_walk types context ts fs r f = let w = field_finds types context ts fs r f in ap (walk []) (first_is ts w.inside w.is) ∙ w.finds.same [] ∙ append-nil (map place_of (placed_in f))

some_or : PlacedField → Option PlacedField → PlacedField
some_or f (Some g) = g
some_or f None = f

some_is : (f g : PlacedField) → ◌≡◌ {A = Option PlacedField} (Some f) (Some g) → f ≡ g
unfolding some_or
some_is f g e = ap (some_or f) e

walks : (f g : PlacedField) → f ≡ g → walk [] f.keyword ≡ map place_of f.instructions → walk [] g.keyword ≡ map place_of g.instructions
walks f g e h = sym (ap (λ x. walk [] x.keyword) e) ∙ h ∙ ap (λ x. map place_of x.instructions) e

fields_walk : (types : Types) (context : Context) (ts : List Terminal) (fs : List Field) (r : List Terminal) (m : Many (FieldIs types context) ts fs r) → AllWalk (placed_fields m)
unfolding AllWalk placed_fields
fields_walk types context _ _ r fields.by_none k f e = cc
fields_walk types context _ _ r (fields.by_more {ts = ts} {us = us} {vs = fs} {ws = gs} one more) zero f e = walks (placed_field ts fs one) f (some_is (placed_field ts fs one) f e) (field_walk types context ts fs us one)
fields_walk types context _ _ r (fields.by_more {ts = ts} {us = us} {vs = fs} {ws = gs} one more) (suc k) f e = fields_walk types context us gs r more k f e

-- Modules.

module_fields : (w : List ℕ) (ts : List Terminal) → w ≡ codes "module" → fields_in (Open ∷ Word w ∷ ts) ≡ (label_of ts).1
module_fields w ts e = ap (λ b. fields_by (if b then Some ts else None) (Open ∷ Word w ∷ ts)) (ap (λ x. bytes_eq x (codes "module")) e)

bare_fields : (ts : List Terminal) → after (codes "module") ts ≡ None → fields_in ts ≡ ts
bare_fields ts e = ap (λ o. fields_by o ts) e

pub module_found : (ts : List Terminal) (fs : List Field) (m : Module ts fs) (k : ℕ) → nth_field k (fields_in ts) ≡ keyword_in m k
unfolding placed_module
module_found _ fs (modules.by_module {w = w} {ts = ts} e a) k = ap (nth_field k) (module_fields w ts e) ∙ fields_found (own_types fs) (own_context fs) (label_of ts).1 fs (Close ∷ []) a.spelled (close_shut []) k
module_found ts fs (modules.by_fields a) k = ap (nth_field k) (bare_fields ts (no_modules (own_types fs) (own_context fs) ts fs [] a.spelled refl)) ∙ fields_found (own_types fs) (own_context fs) ts fs [] a.spelled end_shut k

module_walks : (ts : List Terminal) (fs : List Field) (m : Module ts fs) → AllWalk (placed_module m)
unfolding placed_module
module_walks _ fs (modules.by_module {w = w} {ts = ts} e a) = fields_walk (own_types fs) (own_context fs) (label_of ts).1 fs (Close ∷ []) a.spelled
module_walks ts fs (modules.by_fields a) = fields_walk (own_types fs) (own_context fs) ts fs [] a.spelled

-- What the code returns.

no_place_by : (o : Option PlacedField) (i : ℕ) → ◌≡◌ {A = Option (List Terminal)} None (option_map keyword_of o) → ◌≡◌ {A = Option (List Terminal)} None (place_by i o)
no_place_by None i e = refl
no_place_by (Some f) i e = cc

pub no_place : (ts : List Terminal) (fs : List Field) (m : Module ts fs) (k i : ℕ) → ◌≡◌ {A = Option (List Terminal)} None (keyword_in m k) → ◌≡◌ {A = Option (List Terminal)} None (place_by i (slice_get (placed_module m) k))
no_place ts fs m k i e = no_place_by (slice_get (placed_module m) k) i e

tokens_or : List Terminal → Option (List Terminal) → List Terminal
tokens_or ts (Some us) = us
tokens_or ts None = ts

tokens_is : (ts us : List Terminal) → ◌≡◌ {A = Option (List Terminal)} (Some ts) (Some us) → ts ≡ us
unfolding tokens_or
tokens_is ts us e = ap (tokens_or ts) e

found_by : (keyword p : List Terminal) (o : Option Placed) → ◌≡◌ {A = Option (List Terminal)} (Some p) (option_map place_of o) → p ≡ place_or keyword o
found_by keyword p (Some x) e = tokens_is p x.place e
found_by keyword p None e = cc

other_by : (keyword : List Terminal) (o : Option Placed) → ◌≡◌ {A = Option (List Terminal)} None (option_map place_of o) → keyword ≡ place_or keyword o
other_by keyword (Some x) e = cc
other_by keyword None e = refl

-- the positions that the walk finds are those of the field
walked : (f : PlacedField) (ts : List Terminal) (i : ℕ) → ts ≡ f.keyword → walk [] f.keyword ≡ map place_of f.instructions → slice_get (walk [] ts) i ≡ option_map place_of (slice_get f.instructions i)
walked f ts i e h = ap (λ x. slice_get (walk [] x) i) e ∙ ap (λ ps. slice_get ps i) h ∙ slice_get-map place_of f.instructions i

found_in : (o : Option PlacedField) (i : ℕ) (ts p : List Terminal) → ((f : PlacedField) → o ≡ Some f → walk [] f.keyword ≡ map place_of f.instructions) → ◌≡◌ {A = Option (List Terminal)} (Some ts) (option_map keyword_of o) → ◌≡◌ {A = Option (List Terminal)} (Some p) (slice_get (walk [] ts) i)
    → ◌≡◌ {A = Option (List Terminal)} (Some p) (place_by i o)
found_in None i ts p h e g = cc
found_in (Some f) i ts p h e g = ap Some (found_by f.keyword p (slice_get f.instructions i) (g ∙ walked f ts i (tokens_is ts f.keyword e) (h f refl)))

other_in : (o : Option PlacedField) (i : ℕ) (ts : List Terminal) → ((f : PlacedField) → o ≡ Some f → walk [] f.keyword ≡ map place_of f.instructions) → ◌≡◌ {A = Option (List Terminal)} (Some ts) (option_map keyword_of o) → ◌≡◌ {A = Option (List Terminal)} None (slice_get (walk [] ts) i)
    → ◌≡◌ {A = Option (List Terminal)} (Some ts) (place_by i o)
other_in None i ts h e g = cc
other_in (Some f) i ts h e g = ap Some (tokens_is ts f.keyword e ∙ other_by f.keyword (slice_get f.instructions i) (g ∙ walked f ts i (tokens_is ts f.keyword e) (h f refl)))

pub found_place : (ts : List Terminal) (fs : List Field) (m : Module ts fs) (k i : ℕ) (keyword p : List Terminal) → ◌≡◌ {A = Option (List Terminal)} (Some keyword) (keyword_in m k) → ◌≡◌ {A = Option (List Terminal)} (Some p) (slice_get (walk [] keyword) i)
    → ◌≡◌ {A = Option (List Terminal)} (Some p) (place_by i (slice_get (placed_module m) k))
unfolding AllWalk
found_place ts fs m k i keyword p e g = found_in (slice_get (placed_module m) k) i keyword p (module_walks ts fs m k) e g

pub other_place : (ts : List Terminal) (fs : List Field) (m : Module ts fs) (k i : ℕ) (keyword : List Terminal) → ◌≡◌ {A = Option (List Terminal)} (Some keyword) (keyword_in m k) → ◌≡◌ {A = Option (List Terminal)} None (slice_get (walk [] keyword) i)
    → ◌≡◌ {A = Option (List Terminal)} (Some keyword) (place_by i (slice_get (placed_module m) k))
unfolding AllWalk
other_place ts fs m k i keyword e g = other_in (slice_get (placed_module m) k) i keyword (module_walks ts fs m k) e g

-- The fields that have positions are those of the module.

one_and : (fs gs : List Field) → length fs ≡ 1 → fs ∷ map alone gs ≡ map alone (fs ++ gs)
one_and [] gs e = cc
one_and (f ∷ []) gs e = refl
one_and (f ∷ g ∷ fs) gs e = absurd (omega arith)

fields_are : (types : Types) (context : Context) (ts : List Terminal) (fs : List Field) (r : List Terminal) (m : Many (FieldIs types context) ts fs r) → map fields_of (placed_fields m) ≡ map alone fs
unfolding placed_fields
fields_are types context _ _ r fields.by_none = refl
fields_are types context _ _ r (fields.by_more {ts = ts} {us = us} {vs = fs} {ws = gs} one more) = ap (λ x. fs ∷ x) (fields_are types context us gs r more) ∙ one_and fs gs (field_is_one types context ts fs us one)

pub fields_placed : FieldsArePlaced
unfolding placed_module
fields_placed _ fs (modules.by_module {w = w} {ts = ts} e a) = fields_are (own_types fs) (own_context fs) (label_of ts).1 fs (Close ∷ []) a.spelled
fields_placed ts fs (modules.by_fields a) = fields_are (own_types fs) (own_context fs) ts fs [] a.spelled

-- Positions are tokens of the module.

-- the positions that the walk finds in a field are those of its instructions
in_field : (keyword : List Terminal) (ps : List Placed) → walk [] keyword ≡ map place_of ps → AllByRecursion (IsInField keyword) ps
in_field keyword ps e = placed_before keyword (length (past 0 keyword)) ps (subst (AllByRecursion (Before keyword (length (past 0 keyword)))) e (walk_before keyword (length (past 0 keyword)) [] keyword (whole keyword) tt refl))

opening_of : (ts us inside : List Terminal) → us ≡ Open ∷ inside → Tail ts us → IsPosition ts (Open ∷ drop 1 us)
opening_of ts us inside e h = subst (λ x. IsPosition ts (Open ∷ x)) (sym (first_is us inside e)) (position ts inside Open (subst (Tail ts) e h))

field_placed : (types : Types) (context : Context) → context.locals ≡ [] → (all ts : List Terminal) (fs : List Field) (r : List Terminal) (f : FieldIs types context ts fs r) → Tail all ts → IsPlaced context all (placed_field ts fs f)
field_placed types context l all ts fs r f h = let w = field_finds types context ts fs r f in record {
  opening = opening_of all ts w.inside w.is h;
  keyword = field_begins types context ts fs r f;
  inside = All-from_recursion (IsInField (drop 1 ts)) (placed_in f) (in_field (drop 1 ts) (placed_in f) (field_walk types context ts fs r f));
  instructions = field_at types context l ts fs r f;
}

-- the tokens after a field
after_field : (types : Types) (context : Context) (all ts : List Terminal) (fs : List Field) (r : List Terminal) → FieldIs types context ts fs r → Tail all ts → Tail all r
after_field types context all ts fs r f h = let w = field_finds types context ts fs r f in subst (Tail all) (w.finds.level 0) (past_tail all w.inside 0 (step all w.inside Open (subst (Tail all) w.is h)))

all_placed : (types : Types) (context : Context) → context.locals ≡ [] → (all ts : List Terminal) (fs : List Field) (r : List Terminal) (m : Many (FieldIs types context) ts fs r) → Tail all ts → All (IsPlaced context all) (placed_fields m)
unfolding placed_fields
all_placed types context l all _ _ r fields.by_none h = All-nil (IsPlaced context all)
all_placed types context l all _ _ r (fields.by_more {ts = ts} {us = us} {vs = fs} {ws = gs} one more) h =
    All-cons (IsPlaced context all) (placed_field ts fs one) (placed_fields more) (field_placed types context l all ts fs us one h) (all_placed types context l all us gs r more (after_field types context all ts fs us one h))

after_label : (all ts : List Terminal) → Tail all ts → Tail all (label_of ts).1
after_label all [] h = h
after_label all (Open ∷ ts) h = h
after_label all (Close ∷ ts) h = h
after_label all (Word w ∷ ts) h = h
after_label all (Id x ∷ ts) h = step all ts (Id x) h
after_label all (Integer s n ∷ ts) h = h
after_label all (Text v ∷ ts) h = h
after_label all (Float narrow wide ∷ ts) h = h
after_label all (Other ∷ ts) h = h

pub positions_placed : PositionsAreTokens
unfolding placed_module
positions_placed _ fs (modules.by_module {w = w} {ts = ts} e a) =
    let all = Open ∷ Word w ∷ ts in all_placed (own_types fs) (own_context fs) refl all (label_of ts).1 fs (Close ∷ []) a.spelled (after_label all ts (step all ts (Word w) (step all (Word w ∷ ts) Open (whole all))))
positions_placed ts fs (modules.by_fields a) = all_placed (own_types fs) (own_context fs) refl ts ts fs [] a.spelled (whole ts)

-- Positions do not depend on the derivation.

-- the position of an instruction, by the keyword of its field
by_walk : ℕ → List Terminal → List Terminal
by_walk i keyword = tokens_or keyword (slice_get (walk [] keyword) i)

tokens_place : (keyword : List Terminal) (o : Option Placed) → place_or keyword o ≡ tokens_or keyword (option_map place_of o)
unfolding tokens_or
tokens_place keyword (Some p) = refl
tokens_place keyword None = refl

place_walked : (o : Option PlacedField) (i : ℕ) → ((f : PlacedField) → o ≡ Some f → walk [] f.keyword ≡ map place_of f.instructions) → place_by i o ≡ option_map (by_walk i) (option_map keyword_of o)
unfolding by_walk
place_walked None i h = refl
place_walked (Some f) i h = ap Some (tokens_place f.keyword (slice_get f.instructions i) ∙ ap (tokens_or f.keyword) (sym (walked f f.keyword i refl (h f refl))))

place_found : (ts : List Terminal) (fs : List Field) (m : Module ts fs) (k i : ℕ) → place_in m k i ≡ option_map (by_walk i) (nth_field k (fields_in ts))
unfolding AllWalk
place_found ts fs m k i = place_walked (slice_get (placed_module m) k) i (module_walks ts fs m k) ∙ ap (option_map (by_walk i)) (sym (module_found ts fs m k))

pub positions_unique : PositionsAreUnique
positions_unique = record {
  keywords = λ ts fs gs m n k. sym (module_found ts fs m k) ∙ module_found ts gs n k;
  places = λ ts fs gs m n k i. place_found ts fs m k i ∙ sym (place_found ts gs n k i);
}

-- The positions that the code returns are positions in the tokens of the module.

-- a position in a part of some tokens
within_position : (ts us p : List Terminal) → Tail ts us → IsPosition us p → IsPosition ts p
within_position ts us p h k = tail_position ts p (tail_in ts us p h k.0 k.2) (nonempty us p k)

instruction_position : (ts keyword : List Terminal) (i : ℕ) (ps : List Placed) → Tail ts keyword → IsPosition ts keyword → AllByRecursion (IsInField keyword) ps → (p : List Terminal) → place_or keyword (slice_get ps i) ≡ p → IsPosition ts p
instruction_position ts keyword i [] h k all p e = subst (IsPosition ts) e k
instruction_position ts keyword zero (x ∷ ps) h k all p e = subst (IsPosition ts) e (within_position ts keyword x.place h all.0.0)
instruction_position ts keyword (suc i) (x ∷ ps) h k all p e = instruction_position ts keyword i ps h k all.1 p e

-- the tokens from the keyword of a field on are not empty
keyword_position : (ts : List Terminal) (fs : List Field) (keyword : List Terminal) → BeginsField fs keyword → IsPosition ts (Open ∷ keyword) → IsPosition ts keyword
keyword_position ts (f ∷ []) (Word w ∷ us) b h = position ts us (Word w) (step ts (Word w ∷ us) Open (h.0, h.2))
keyword_position ts fs keyword b h = absurd b

field_position : (context : Context) (ts : List Terminal) (f : PlacedField) (i : ℕ) → IsPlaced context ts f → (p : List Terminal) → place_or f.keyword (slice_get f.instructions i) ≡ p → IsPosition ts p
field_position context ts f i h p e =
    let opening = h.opening in
    instruction_position ts f.keyword i f.instructions (step ts f.keyword Open (opening.0, opening.2)) (keyword_position ts f.field f.keyword h.keyword opening) (recursion_from_All (IsInField f.keyword) f.instructions h.inside) p e

place_position : (context : Context) (ts : List Terminal) (k i : ℕ) (fs : List PlacedField) → AllByRecursion (IsPlaced context ts) fs → (p : List Terminal) → place_by i (slice_get fs k) ≡ Some p → IsPosition ts p
place_position context ts k i [] h p e = cc
place_position context ts zero i (f ∷ fs) h p e = field_position context ts f i h.0 p (tokens_is (place_or f.keyword (slice_get f.instructions i)) p e)
place_position context ts (suc k) i (f ∷ fs) h p e = place_position context ts k i fs h.1 p e

pub positions_in_text : PositionsAreInText
positions_in_text ts fs m k i p e = place_position (own_context fs) ts k i (placed_module m) (recursion_from_All (IsPlaced (own_context fs) ts) (placed_module m) (positions_placed ts fs m)) p e
