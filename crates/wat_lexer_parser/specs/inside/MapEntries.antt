-- The entries of a map with string keys as a finite map, and the comparison of names with them.
use Rattle.std.specs.Prelude.{ℕ, Bool, false, List, map, Result, Ok, Err}
use Rattle.std.specs.FinMap as finmap
use Rattle.std.specs.String.{string_bytes}
use Rattle.std.specs.declared.string.String.{String}
use Rattle.std.specs.Str.{bytes_eq}
use Rattle.wat_lex.specs.tokens.ReadableTokens.{word_of}
use Rattle.wat_lex.specs.values.WordValues.{name_value}
use Rattle.wat_lex.specs.declared.lexer.faults.LexError.{LexError}
use Rattle.wat_lex.specs.declared.lexer.faults.LexError.TheVariants.{EmptyAnnotation}
use Rattle.wat_lex.specs.declared.lexer.kinds.Token.{Token}
use Rattle.wat_lexer_parser.specs.names.RegisteredNames.{Names}

abbrev pub names_of : {Z : Type 0} → List (String Z × ℕ) → Names
names_of es = finmap.from_entries (map (λ e. (string_bytes e.0, e.1)) es)

-- True if the name is `x`. False for an error in the name.
abbrev pub is_named : Result (List ℕ) LexError → List ℕ → Bool
is_named (Ok name) x = bytes_eq name x
is_named (Err e) x = false

-- True if the name of the annotation `t` is `x`.
abbrev pub names_it : List ℕ → Token → List ℕ → Bool
names_it text t x = is_named (name_value EmptyAnnotation (word_of text t)) x
