-- How the code finds a field: by its parentheses. Theorems (`Law`) state that it finds the fields of the grammar, so
-- nothing here has to be trusted for them.
use Rattle.std.specs.Prelude.{ℕ, zero, suc, List, [], ◌∷◌, codes, Option, Some, None}
use Rattle.wat_module_ast.specs.Grammar.{after, label_of}
use Rattle.wat_module_tokens.specs.Terminals.{Terminal, Open, past}

abbrev pub fields_by : Option (List Terminal) → List Terminal → List Terminal
fields_by (Some us) ts = (label_of us).1
fields_by None ts = ts

-- The tokens of a module from its first field on.
abbrev pub fields_in : List Terminal → List Terminal
fields_in ts = fields_by (after (codes "module") ts) ts

-- The tokens after the `(` of the group with this index, or `None` if there are not that many groups.
unfoldable pub nth_field : ℕ → List Terminal → Option (List Terminal)
nth_field k [] = None
nth_field zero (Open ∷ ts) = Some ts
nth_field (suc k) (Open ∷ ts) = nth_field k (past 0 ts)
nth_field k (t ∷ ts) = None
