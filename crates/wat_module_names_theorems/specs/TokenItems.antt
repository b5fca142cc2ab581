-- WebAssembly 3.0, appendix, name annotations; 2.0, 6.6.13 (modules), 6.6.2 to 6.6.12 (fields), 6.4.5 and 6.6.5 (parameters and
-- locals), 6.5.2 and 6.5.10 (labels): the items (`Items` of `wat_module_annotations`) of the tokens of a module, without
-- annotations. The items of other tokens have no meaning.
use Rattle.std.specs.Prelude.{Bool, true, false, List, [], ◌∷◌, ◌++◌, None}
use Rattle.wat_module_annotations.specs.declared.reading.Role.{Role}
use Rattle.wat_module_annotations.specs.declared.reading.Role.TheVariants as role
use Rattle.wat_module_annotations.specs.Items as item
use Rattle.wat_module_annotations.specs.Items.{Item, Occurrence, role_of}
use Rattle.wat_module_tokens.specs.Terminals.{Terminal, Open, Close, Word, Id, Text, Label}

-- An occurrence without an annotation.
abbrev pub bare : Occurrence
bare = record { name = None; offset = 0 }

-- What a token is part of.
pub data State : Type 0 where
  -- An item begins. If `true`, an identifier is still part of the item before, which is a binding occurrence.
  Next : Bool → State
  -- Parameters (`true`) or locals, after their keyword, and the names of those so far.
  Declaring : Bool → List Label → State
  -- An import, after its keyword.
  Importing : State

-- The item that `(` and a keyword with this role begin, if they begin one of their own.
abbrev pub opening : Role → List Item
opening role.Module = item.Module bare ∷ []
opening role.Func = item.Field bare ∷ []
opening role.Field = item.Field bare ∷ []
opening role.Import = []
opening role.Header = item.Header ∷ []
opening role.Param = []
opening role.Local = []
opening role.Block = item.FoldedBlock bare ∷ []
opening role.If = item.FoldedIf bare ∷ []
opening role.Then = item.Then ∷ []
opening r = item.Open ∷ []

-- What the token after them is part of.
abbrev pub within : Role → State
within role.Module = Next true
within role.Func = Next true
within role.Field = Next true
within role.Import = Importing
within role.Param = Declaring true []
within role.Local = Declaring false []
within role.Block = Next true
within role.If = Next true
within r = Next false

-- 6.5.2: returns `true` for `block`, `loop` and `if`.
abbrev pub has_label : Role → Bool
has_label role.Block = true
has_label role.If = true
has_label r = false

-- The item of a keyword that is not after `(`.
abbrev pub of_keyword : Role → Item
of_keyword role.Block = item.Block bare
of_keyword role.If = item.Block bare
of_keyword r = item.Other

-- Returns `true` for `func`.
abbrev pub is_func : Role → Bool
is_func role.Func = true
is_func r = false

-- The items of tokens.
unfoldable pub items : State → List Terminal → List Item
items s [] = []
items (Next b) (Open ∷ Word w ∷ ts) = opening (role_of w) ++ items (within (role_of w)) ts
items (Next b) (Open ∷ ts) = item.Open ∷ items (Next false) ts
items (Next b) (Close ∷ ts) = item.Close ∷ items (Next false) ts
items (Next b) (Word w ∷ ts) = of_keyword (role_of w) ∷ items (Next (has_label (role_of w))) ts
items (Next true) (Id x ∷ ts) = items (Next false) ts
items (Next b) (t ∷ ts) = item.Other ∷ items (Next false) ts
items (Declaring p ls) (Word w ∷ ts) = items (Declaring p (ls ++ (None ∷ []))) ts
items (Declaring p ls) (Close ∷ ts) = item.Variables p ls ∷ items (Next false) ts
items (Declaring p ls) (t ∷ ts) = items (Declaring p ls) ts
items Importing (Text m ∷ Text n ∷ Open ∷ Word w ∷ ts) = item.Import bare ∷ items (Next (is_func (role_of w))) ts
items Importing (Text m ∷ Text n ∷ ts) = item.Header ∷ items (Next false) ts
items Importing (t ∷ ts) = items (Next false) ts
