-- WebAssembly 2.0, 6.1.3 (contexts: the identifiers of an index space are distinct), 6.6.3 to 6.6.5 (type uses, imports and
-- functions: the identifiers of parameters and locals are distinct) and 6.6.13 (modules: imports precede definitions, and there is at most one start
-- function): the errors of modules that violate these conditions. Each is reported at the later of two tokens, and also has
-- the position of the earlier one. The standard does not define errors. Where a function has an error for the case that
-- there are no two tokens, its callers have checked that there are.
use Rattle.std.specs.Prelude.{ℕ, suc, Bool, true, false, List, [], ◌∷◌, ◌||◌, length, map, codes, bytes_eq, drop, slice_get, is_some, Option, Some, None, if◌then◌else◌}
use Rattle.std.specs.List.{flat_map}
use Rattle.wat_module_ast.specs.declared.error.FaultKind.{FaultKind}
use Rattle.wat_module_ast.specs.declared.error.FaultKind.TheVariants.{Duplicate, SecondStart, LateImport}
use Rattle.wat_module_ast.specs.declared.error.Space.{Space}
use Rattle.wat_module_ast.specs.declared.error.Space.TheVariants as kind
use Rattle.wat_module_ast.specs.Fields.{Field, Start, is_definition, is_import, space_of}
use Rattle.wat_module_ast.specs.Grammar.{Fault, label_of}
use Rattle.wat_module_ast.specs.Names.{repeated}
use Rattle.wat_module_tokens.specs.Terminals.{Terminal, Open, Word, Text, Label}

-- The elements of a list at two indices, or `None` if an index is out of range.
abbrev pub both : {A : Type 0} → Option A → Option A → Option (A × A)
both (Some a) (Some b) = Some (a, b)
both a b = None

abbrev pub elements_at : {A : Type 0} → List A → Option (ℕ × ℕ) → Option (A × A)
elements_at xs None = None
elements_at xs (Some (i, j)) = both (slice_get xs i) (slice_get xs j)

-- The error of the kind `of` at the second of two positions, with the count of tokens from the first on; or the error
-- `f` without two positions.
abbrev pub fault_at : (ℕ → FaultKind) → Option (List Terminal × List Terminal) → Fault → Fault
fault_at of (Some (first, second)) f = (of (length first), second)
fault_at of None f = f

-- 6.1.3: identifiers.

-- The optional identifier at the front of these tokens.
abbrev pub name_at : List Terminal → Label
name_at ts = (label_of ts).0

-- The error at the first identifier that an earlier one of `bs` has, where `bs` has the tokens from each optional
-- identifier of the index space `s` on; or the error `f` if the identifiers are distinct.
abbrev pub duplicate_in : Space → List (List Terminal) → Fault → Fault
duplicate_in s bs f = fault_at (Duplicate s) (elements_at bs (repeated (map name_at bs))) f

-- 6.6.2 to 6.6.12: returns `true` if fields with the keyword `w` define items of the index space.
abbrev pub has_keyword : Space → List ℕ → Bool
has_keyword kind.Type w = bytes_eq w (codes "type")
has_keyword kind.Func w = bytes_eq w (codes "func")
has_keyword kind.Table w = bytes_eq w (codes "table")
has_keyword kind.Memory w = bytes_eq w (codes "memory")
has_keyword kind.Global w = bytes_eq w (codes "global")
has_keyword kind.Elem w = bytes_eq w (codes "elem")
has_keyword kind.Data w = bytes_eq w (codes "data")
has_keyword kind.Local w = false
has_keyword kind.Label w = false

-- The tokens `ts` after the keyword `w` if it is one of the index space.
abbrev pub after_keyword : Space → List ℕ → List Terminal → List (List Terminal)
after_keyword s w ts = if has_keyword s w then ts ∷ [] else []

-- 6.6.4: the tokens from the optional identifier of an import on, after its keyword, if it is one of the index space.
-- The tokens begin with the keyword of the import description; `open_name`, `text_name` and `import_name` begin earlier.
abbrev pub word_name : Space → List Terminal → List (List Terminal)
word_name s (Word w ∷ ts) = if is_some (space_of w) then after_keyword s w ts else []
word_name s ts = []

abbrev pub open_name : Space → List Terminal → List (List Terminal)
open_name s (Open ∷ ts) = word_name s ts
open_name s ts = []

abbrev pub text_name : Space → List Terminal → List (List Terminal)
text_name s (Text n ∷ ts) = open_name s ts
text_name s ts = []

abbrev pub import_name : Space → List Terminal → List (List Terminal)
import_name s (Text m ∷ ts) = text_name s ts
import_name s ts = []

-- 6.6.2 to 6.6.12: the tokens from the optional identifier of a field on, after its `(`, if the field defines or imports
-- an item of the index space.
unfoldable pub field_name : Space → List Terminal → List (List Terminal)
field_name s (Word w ∷ ts) = if bytes_eq w (codes "import") then import_name s ts else after_keyword s w ts
field_name s ts = []

-- The tokens from each optional identifier of the index space on, in the fields that begin at `ss`.
abbrev pub field_names : Space → List (List Terminal) → List (List Terminal)
field_names s ss = flat_map (field_name s) ss

-- 2.5.1: the index spaces of a module.
abbrev pub spaces : List Space
spaces = kind.Type ∷ kind.Func ∷ kind.Table ∷ kind.Memory ∷ kind.Global ∷ kind.Elem ∷ kind.Data ∷ []

-- The error at a duplicate identifier in the first of these index spaces that has one, in the fields that begin at
-- `ss`; or the error `f` if the identifiers of each are distinct.
unfoldable pub duplicate_among : List Space → List (List Terminal) → Fault → Fault
duplicate_among [] ss f = f
duplicate_among (s ∷ others) ss f = duplicate_in s (field_names s ss) (duplicate_among others ss f)

-- 6.1.3: the error at a duplicate identifier of the fields that begin at `ss`; `ts` begins with the fields.
abbrev pub duplicate_item : List (List Terminal) → List Terminal → Fault
duplicate_item ss ts = duplicate_among spaces ss (Duplicate kind.Type (length ts), ts)

-- 6.4.5, 6.6.5: returns `true` if the token is the keyword of parameters or of locals.
abbrev pub is_variable : Terminal → Bool
is_variable (Word w) = bytes_eq w (codes "param") || bytes_eq w (codes "local")
is_variable t = false

-- 6.6.3 to 6.6.5: the tokens from the optional identifier of each parameter and local on, after its keyword. If these are
-- the tokens of a module from a type use on, those of other groups come after them, up to the end of the module. In a
-- function with a duplicate identifier the first duplicate is its own.
unfoldable pub variable_names : List Terminal → List (List Terminal)
variable_names [] = []
variable_names (t ∷ ts) = if is_variable t then ts ∷ variable_names ts else variable_names ts

-- 6.6.3 to 6.6.5: the error at a duplicate identifier of the parameters and locals of a function, or of the parameters of an
-- imported one, whose type use begins at `ts`.
abbrev pub duplicate_variable : List Terminal → Fault
duplicate_variable ts = duplicate_in kind.Local (variable_names ts) (Duplicate kind.Local (length ts), ts)

-- 6.6.13: the order of fields.

-- The index of the first field with a property, counted from `k`, or `None` if no field has it.
abbrev pub index_by : (Field → Bool) → ℕ → List Field → Option ℕ
index_by p k [] = None
index_by p k (f ∷ fs) = if p f then Some k else index_by p (suc k) fs

-- The index `i`, with the index of the first field after it that has the property.
abbrev pub then_by : (Field → Bool) → List Field → Option ℕ → Option (ℕ × ℕ)
then_by p fs None = None
then_by p fs (Some i) = both (Some i) (index_by p (suc i) (drop (suc i) fs))

-- The indices of the first definition of a function, table, memory or global, and of the first import after it.
abbrev pub late_import : List Field → Option (ℕ × ℕ)
late_import fs = then_by is_import fs (index_by is_definition 0 fs)

-- Returns `true` if the field is a start field.
abbrev pub is_start : Field → Bool
is_start (Start i) = true
is_start f = false

-- The indices of the first two start fields.
abbrev pub second_start : List Field → Option (ℕ × ℕ)
second_start fs = then_by is_start fs (index_by is_start 0 fs)

-- 6.6.13: the error at the first import after a definition. The fields `fs` begin at
-- `ss`, which are the tokens after the `(` of each, and `ts` begins with the fields.
abbrev pub import_fault : List Field → List (List Terminal) → List Terminal → Fault
import_fault fs ss ts = fault_at LateImport (elements_at ss (late_import fs)) (LateImport (length ts), ts)

-- 6.6.13: the error at the second start field, likewise.
abbrev pub start_fault : List Field → List (List Terminal) → List Terminal → Fault
start_fault fs ss ts = fault_at SecondStart (elements_at ss (second_start fs)) (SecondStart (length ts), ts)
