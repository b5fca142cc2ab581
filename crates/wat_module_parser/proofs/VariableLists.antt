-- Variables by their types and by runs of identifiers: one variable more, and one run more.
use Rattle.std.proofs.Common.{◌≡◌, ◌∙◌, ◌+◌, ◌<◌, ◌≤◌, ℕ, zero, suc, true, false, List, [], ◌∷◌, ◌++◌, Some, None, length, length-append, map, drop, get_or, refl, sym, ap, append-nil, append_assoc, arith}
use Rattle.std.specs.Prelude.{if◌then◌else◌, replicate}
use Rattle.std.specs.List.{flat_map}
use Rattle.std.proofs.lemmas.Grind.{flat_map-append}
use Rattle.std.proofs.lemmas.List.{drop_more, length-replicate, replicate-append-replicate}
use Rattle.wat_module_ast.specs.declared.instruction.ValueType.{ValueType}
use Rattle.wat_module_ast.specs.declared.fields.Locals.{Locals}
use Rattle.wat_module_ast.specs.Views.{local_types}
use Rattle.wat_module_ast.specs.Fields.{name_of, type_of, unnamed, variable}
use Rattle.wat_module_ast.specs.Grammar.{is_name}
use Rattle.wat_module_ast.specs.Names.{are_distinct, association, associations, has_name}
use Rattle.wat_module_instructions.specs.Indices.{labels_of, run_labels}
use Rattle.wat_module_instructions.specs.declared.names.NameRun.{NameRun}
use Rattle.wat_module_instructions.specs.declared.names.NameRun.TheVariants.{Absent}
use Rattle.wat_module_parser.specs.NamedTypes.{variables_of}
use Rattle.wat_module_tokens.specs.Terminals.{Label}

-- One more variable without an identifier.
pub push : (ls : List Label) (ts : List ValueType) (t : ValueType) → length ls ≤ length ts → variables_of ls (ts ++ t ∷ []) ≡ variables_of ls ts ++ unnamed t ∷ []
push [] [] t h = refl
push [] (u ∷ ts) t h = ap (λ vs. unnamed u ∷ vs) (push [] ts t (omega arith))
push (l ∷ ls) [] t h = absurd (omega (arith, h))
push (l ∷ ls) (u ∷ ts) t h = ap (λ vs. variable l u ∷ vs) (push ls ts t (omega (arith, h)))

-- Absent identifiers change nothing.
pub padded : (ls : List Label) (n : ℕ) (ts : List ValueType) → variables_of (ls ++ replicate n None) ts ≡ variables_of ls ts
padded ls n [] = refl
padded [] zero (t ∷ ts) = refl
padded [] (suc n) (t ∷ ts) = ap (λ vs. unnamed t ∷ vs) (padded [] n ts)
padded (l ∷ ls) n (t ∷ ts) = ap (λ vs. variable l t ∷ vs) (padded ls n ts)

-- One more variable, and its identifier.
pub push_label : (ls : List Label) (ts : List ValueType) (l : Label) (t : ValueType) → length ls ≡ length ts → variables_of (ls ++ l ∷ []) (ts ++ t ∷ []) ≡ variables_of ls ts ++ variable l t ∷ []
push_label [] [] l t e = refl
push_label [] (u ∷ ts) l t e = absurd (omega (arith, e))
push_label (k ∷ ls) [] l t e = absurd (omega (arith, e))
push_label (k ∷ ls) (u ∷ ts) l t e = ap (λ vs. variable k u ∷ vs) (push_label ls ts l t (omega (arith, e)))

pub types : (ls : List Label) (ts : List ValueType) → map type_of (variables_of ls ts) ≡ ts
types ls [] = refl
types [] (t ∷ ts) = ap (λ us. t ∷ us) (types [] ts)
types (l ∷ ls) (t ∷ ts) = ap (λ us. t ∷ us) (types ls ts)

pub count : (ls : List Label) (ts : List ValueType) → length (variables_of ls ts) ≡ length ts
count ls [] = refl
count [] (t ∷ ts) = ap suc (count [] ts)
count (l ∷ ls) (t ∷ ts) = ap suc (count ls ts)

-- The identifiers of variables, of which the last `n` have none.
pub names : (ls : List Label) (n : ℕ) (ts : List ValueType) → length ls + n ≡ length ts → map name_of (variables_of ls ts) ≡ ls ++ replicate n None
names [] zero [] e = refl
names [] zero (t ∷ ts) e = absurd (omega (arith, e))
names [] (suc n) [] e = absurd (omega (arith, e))
names [] (suc n) (t ∷ ts) e = ap (λ ls. None ∷ ls) (names [] n ts (omega (arith, e)))
names (l ∷ ls) n [] e = absurd (omega (arith, e))
names (l ∷ ls) n (t ∷ ts) e = ap (λ ls. l ∷ ls) (names ls n ts (omega (arith, e)))

-- Items without identifiers are counted.
pub associations_none : (n k : ℕ) (ls : List Label) → associations k (replicate n None ++ ls) ≡ associations (k + n) ls
associations_none zero k ls = ap (λ k. associations k ls) (omega arith)
associations_none (suc n) k ls = associations_none n (suc k) ls ∙ ap (λ k. associations k ls) (omega arith)

-- The last items have no identifiers.
pub associations_nones : (ls : List Label) (n k : ℕ) → associations k (ls ++ replicate n None) ≡ associations k ls
associations_nones [] n k = ap (λ ls. associations k ls) (sym (append-nil (replicate n None))) ∙ associations_none n k []
associations_nones (None ∷ ls) n k = associations_nones ls n (suc k)
associations_nones (Some x ∷ ls) n k = ap (λ rest. association k x ∷ rest) (associations_nones ls n (suc k))

pub associations_given : (k : ℕ) (x : List ℕ) (ls : List Label) → associations k (Some x ∷ ls) ≡ association k x ∷ associations (k + 1) ls
associations_given k x ls = ap (λ k'. association k x ∷ associations k' ls) (omega arith)

-- Items without identifiers at the end have no name.
has_nones : (x : List ℕ) (ls : List Label) (n : ℕ) → has_name x (ls ++ replicate n None) ≡ has_name x ls
has_nones x [] zero = refl
has_nones x [] (suc n) = has_nones x [] n
has_nones x (l ∷ ls) n = ap (λ b. if is_name x l then true else b) (has_nones x ls n)

-- Items without identifiers at the end do not count.
pub distinct_nones : (ls : List Label) (n : ℕ) → are_distinct (ls ++ replicate n None) ≡ are_distinct ls
distinct_nones [] zero = refl
distinct_nones [] (suc n) = distinct_nones [] n
distinct_nones (None ∷ ls) n = distinct_nones ls n
distinct_nones (Some x ∷ ls) n = ap (λ b. if b then false else are_distinct (ls ++ replicate n None)) (has_nones x ls n) ∙ ap (λ b. if has_name x ls then false else b) (distinct_nones ls n)

-- A local of the type of the run before it.
pub run_on : (n : ℕ) (t : ValueType) (ts : List ValueType) (i : ℕ) (d : ValueType) → i < length ts → get_or ts i d ≡ t → replicate n t ++ drop i ts ≡ replicate (n + 1) t ++ drop (i + 1) ts
run_on n t ts i d h e =
    ap (λ us. replicate n t ++ us) (drop_more ts i d h ∙ ap (λ u. u ∷ drop (i + 1) ts) e)
    ∙ sym (append_assoc (replicate n t) (t ∷ []) (drop (i + 1) ts))
    ∙ ap (λ us. us ++ drop (i + 1) ts) (replicate-append-replicate n 1 t)

-- A local of another type.
pub run_new : (ls : List Locals) (l : Locals) (ts : List ValueType) (i : ℕ) (d : ValueType) → i < length ts
    → flat_map local_types ls ++ (local_types l ++ drop i ts) ≡ flat_map local_types (ls ++ l ∷ []) ++ (replicate 1 (get_or ts i d) ++ drop (i + 1) ts)
run_new ls l ts i d h =
    sym (append_assoc (flat_map local_types ls) (local_types l) (drop i ts))
    ∙ ap (λ us. us ++ drop i ts) (sym (flat_map-append local_types ls (l ∷ []) ∙ ap (λ us. flat_map local_types ls ++ us) (append-nil (local_types l))))
    ∙ ap (λ us. flat_map local_types (ls ++ l ∷ []) ++ us) (drop_more ts i d h)

-- The runs from one on are this run and those after it.
pub from_run : (runs : List NameRun) (i : ℕ) (d r : NameRun) → i < length runs → get_or runs i d ≡ r → labels_of (drop i runs) ≡ run_labels r ++ labels_of (drop (i + 1) runs)
from_run runs i d r h e = ap labels_of (drop_more runs i d h) ∙ ap (λ r. run_labels r ++ labels_of (drop (i + 1) runs)) e

-- The count of the items up to a run, one run on.
pub count_next : (runs : List NameRun) (i : ℕ) (d r : NameRun) (n index all : ℕ) → i < length runs → get_or runs i d ≡ r → length (run_labels r) ≡ n
    → index + length (labels_of (drop i runs)) ≡ all → (index + n) + length (labels_of (drop (i + 1) runs)) ≡ all
count_next runs i d r n index all h e k f =
    let l : length (labels_of (drop i runs)) ≡ length (run_labels r) + length (labels_of (drop (i + 1) runs)) = ap length (from_run runs i d r h e) ∙ length-append (run_labels r) (labels_of (drop (i + 1) runs)) in
    omega (arith, l, k, f)

pub count_none : (n : ℕ) → length (run_labels (Absent n)) ≡ n
count_none n = length-replicate n None

-- One run more.
pub pushed : (runs : List NameRun) (r : NameRun) → labels_of (runs ++ r ∷ []) ≡ labels_of runs ++ run_labels r
pushed runs r = flat_map-append run_labels runs (r ∷ []) ∙ ap (λ ls. labels_of runs ++ ls) (append-nil (run_labels r))
