-- WebAssembly 3.0, appendix, name annotations: which annotation names which item of a module. The items of a text are
-- read one after another, with the groups that are open. The labels of a function are in the order of the binary format
-- (`block_labels` of `wat_module_ast`).
use Rattle.std.specs.Prelude.{ℕ, suc, zero, ◌+◌, ◌==◌, ◌&&◌, ◌||◌, not, Bool, true, false, if◌then◌else◌, is_some, List, [], ◌∷◌, ◌++◌, take, drop, codes, Option, Some, None, Result, Ok, Err}
use Rattle.wat_lex.specs.errors.Errors.{Report, Custom, report_in}
use Rattle.wat_module_tokens.specs.Terminals.{Label}
use Rattle.wat_module_annotations.specs.Items.{Block, Close, Field, FoldedBlock, FoldedIf, Header, Import, Item, Module, Occurrence, Open, Other, Stray, Then, Variable, Variables}

-- The names that annotations give in a field: that of its item; those of the parameters and locals that it declares, and
-- of its labels, in the order of their indices, with an entry for each of these, also without an annotation. `has_params` is
-- true if it declares a parameter.
pub record FieldNames : Type 0 where
  pub item : Label
  pub has_params : Bool
  pub variables : List Label
  pub labels : List Label

-- The names of a field whose item has this name.
abbrev pub only_item : Label → FieldNames
only_item l = record { item = l; has_params = false; variables = []; labels = [] }

-- The context of an item: the number of open groups, without that of the module; whether the field can still have
-- parameters and locals of its own; the labels of the folded `if`s whose `(then` is still to come, the innermost first; and
-- the names of the field so far.
pub record Context : Type 0 where
  pub depth : ℕ
  pub in_header : Bool
  pub held : List Label
  pub field : FieldNames

-- The context after the first tokens of a field, which open `d` groups.
abbrev pub begun : ℕ → Label → Context
begun d l = record { depth = d; in_header = true; held = []; field = only_item l }

-- The context between fields.
abbrev pub outside : Context
outside = begun 0 None

-- The context with `n` more open groups.
abbrev pub deeper : ℕ → Context → Context
deeper n c = record c { depth = n + c.depth }

-- The context after `)`.
abbrev pub shallower : ℕ → Context → Context
shallower zero c = outside
shallower (suc zero) c = outside
shallower (suc (suc d)) c = record c { depth = suc d }

-- 6.6.5: the context after a token or group that is not part of `export* import? typeuse local*`. Groups inside these do
-- not count: only a token directly in the field ends its header.
abbrev pub past_header : Context → Context
past_header c = record c { in_header = c.in_header && not (c.depth == 1) }

-- The context after the label of an instruction.
abbrev pub labeled : Label → Context → Context
labeled l c = record c { field = record c.field { labels = c.field.labels ++ l ∷ [] } }

-- The context after the label of a folded `if`.
abbrev pub holding : Label → Context → Context
holding l c = record c { held = l ∷ c.held }

-- The context after `(then`: the label of the innermost folded `if` is the next.
abbrev pub released : Context → Context
released c = record c { held = drop 1 c.held; field = record c.field { labels = c.field.labels ++ take 1 c.held } }

-- Returns `true` if there are parameters or locals.
abbrev pub declares : List Label → Bool
declares [] = false
declares (l ∷ ls) = true

abbrev pub with_variables : Bool → List Label → FieldNames → FieldNames
with_variables is_param ls f = record f { has_params = f.has_params || (is_param && declares ls); variables = f.variables ++ ls }

-- The context after parameters or locals. Those of a type use of an instruction (6.5.2) are not variables.
abbrev pub declaring : Bool → List Label → Context → Context
declaring is_param ls c = if c.in_header then record c { field = with_variables is_param ls c.field } else c

-- The context after the first tokens of a field, or of a group in one.
abbrev pub entered : Label → Context → Context
entered l c = if c.depth == 0 then begun 1 l else deeper 1 c

-- The context after an item.
unfoldable pub after : Item → Context → Context
after (Stray at) c = c
after Open c = entered None (past_header c)
after Close c = shallower c.depth c
after Header c = entered None c
after (Module o) c = c
after (Field o) c = entered o.name c
after (Import o) c = begun 2 o.name
after (Variables is_param ls) c = declaring is_param ls c
after (Variable is_param o) c = declaring is_param (o.name ∷ []) c
after (Block o) c = labeled o.name (past_header c)
after (FoldedBlock o) c = deeper 1 (labeled o.name (past_header c))
after (FoldedIf o) c = deeper 1 (holding o.name (past_header c))
after Then c = deeper 1 (released c)
after Other c = past_header c

-- The offset of an occurrence, if it has an annotation.
abbrev pub annotated : Occurrence → Option ℕ
annotated o = if is_some o.name then Some o.offset else None

-- The offset of the annotation of an item, if it may not be there: in a reference, such as `(func $f)` of an export; in a
-- type use of an instruction; and if it is not at an occurrence at all.
unfoldable pub misplaced : Item → Context → Option ℕ
misplaced (Stray at) c = Some at
misplaced (Field o) c = if c.depth == 0 then None else annotated o
misplaced (Variable is_param o) c = if c.in_header then None else Some o.offset
misplaced i c = None

-- Returns `true` if an item at this depth ends a field.
abbrev pub ends_field : Item → ℕ → Bool
ends_field Close d = d == 1
ends_field i d = false

-- The names of the field that ends with an item, if one does.
abbrev pub ended : Item → Context → List FieldNames
ended i c = if ends_field i c.depth then c.field ∷ [] else []

abbrev pub preceded_by : List FieldNames → Result (List FieldNames) ℕ → Result (List FieldNames) ℕ
preceded_by fs (Ok gs) = Ok (fs ++ gs)
preceded_by fs (Err at) = Err at

abbrev pub unless : Option ℕ → Result (List FieldNames) ℕ → Result (List FieldNames) ℕ
unless None r = r
unless (Some at) r = Err at

-- The names of the fields that these items begin or continue, in order, or the offset of the first misplaced annotation.
unfoldable pub fields_from : Context → List Item → Result (List FieldNames) ℕ
fields_from c [] = Ok []
fields_from c (i ∷ is) = unless (misplaced i c) (preceded_by (ended i c) (fields_from (after i c) is))

-- The names that annotations give in a module: that of the module, and those of its fields.
pub record ModuleNames : Type 0 where
  pub of_module : Label
  pub fields : List FieldNames

abbrev pub module_names : Label → List FieldNames → ModuleNames
module_names l fs = record { of_module = l; fields = fs }

abbrev pub no_names : ModuleNames
no_names = module_names None []

-- The error of a misplaced annotation.
abbrev pub misplaced_at : List ℕ → ℕ → Report
misplaced_at text at = report_in text at (Custom (codes "annotation `@name` where no identifier may be"))

abbrev pub fields_by : List ℕ → Result (List FieldNames) ℕ → Result (List FieldNames) Report
fields_by text (Ok fs) = Ok fs
fields_by text (Err at) = Err (misplaced_at text at)

abbrev pub names_by : Label → Result (List FieldNames) Report → Result ModuleNames Report
names_by l (Ok fs) = Ok (module_names l fs)
names_by l (Err r) = Err r

-- The name of the module: its occurrence is the first item, if it is there.
abbrev pub module_of : List Item → Label
module_of (Module o ∷ is) = o.name
module_of is = None

-- The names in all items of a text, or the error of the first misplaced annotation.
unfoldable pub names_in : List ℕ → List Item → Result ModuleNames Report
names_in text is = names_by (module_of is) (fields_by text (fields_from outside is))

abbrev pub names_of_items : List ℕ → Result (List Item) Report → Result ModuleNames Report
names_of_items text (Ok is) = names_in text is
names_of_items text (Err r) = Err r
