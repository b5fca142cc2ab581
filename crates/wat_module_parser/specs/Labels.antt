-- The labels that the code has found, as definitions, and which tokens have labels. Not part of the standard.
use Rattle.std.specs.Prelude.{Bool, true, false, List, [], ◌∷◌, ◌++◌, map, if◌then◌else◌, is_some}
use Rattle.wat_module_ast.specs.Grammar.{structured}
use Rattle.wat_module_ast.specs.Names.{NameAssociation, associations}
use Rattle.wat_module_ast.specs.Views.{association_of}
use Rattle.wat_module_parser.specs.declared.labels.FoundLabels.{FoundLabels}
use Rattle.wat_module_tokens.specs.Terminals.{Terminal, Word, Id, Label}

-- The name map of the labels that the code has found, and of the labels `ls` after them.
abbrev pub found : FoundLabels → List Label → List NameAssociation
found labels ls = map association_of labels.names.items ++ associations labels.count ls

-- Returns `true` if the first token is a keyword.
abbrev pub begins_word : List Terminal → Bool
begins_word (Word w ∷ ts) = true
begins_word ts = false

-- Returns `true` if the tokens begin with `block`, `loop` or `if`.
abbrev pub begins_block : List Terminal → Bool
begins_block (Word w ∷ ts) = is_some (structured w)
begins_block ts = false

-- Returns `true` if the token is an identifier.
abbrev pub is_identifier : Terminal → Bool
is_identifier (Id x) = true
is_identifier t = false

-- Returns `true` if one of the tokens is an identifier directly after `block`, `loop` or `if`. `follows` is `true` if the
-- token before them is one of these keywords.
abbrev pub is_labelled : Bool → List Terminal → Bool
is_labelled follows [] = false
is_labelled follows (Id x ∷ ts) = if follows then true else is_labelled false ts
is_labelled follows (Word w ∷ ts) = is_labelled (is_some (structured w)) ts
is_labelled follows (t ∷ ts) = is_labelled false ts
