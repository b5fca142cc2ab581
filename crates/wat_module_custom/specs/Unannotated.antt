-- WebAssembly 3.0, appendix, custom annotations: a text without annotations of the name `custom`, by its tokens. Reading it
-- finds no custom sections.
use Rattle.std.specs.Prelude.{◌≡◌, ℕ, List, [], codes, None, Result, Ok}
use Rattle.std.specs.List.{All}
use Rattle.std.specs.Str.{IsUtf8}
use Rattle.wat_lex.specs.errors.Errors.{Report}
use Rattle.wat_lex.specs.declared.lexer.kinds.Token.{Token}
use Rattle.wat_lexer_parser.specs.laws.Blanking.{TextShows}
use Rattle.wat_lexer_parser.specs.names.RegisteredNames.{Names, more, no_names}
use Rattle.wat_lexer_parser.specs.parser.Takers.{as_annotation}
use Rattle.wat_lexer_parser.specs.places.Source.{IsRead, Source}
use Rattle.wat_lexer_parser.specs.readings.Readings.{whole}
use Rattle.wat_lexer_parser.specs.readings.Types.{spelling}
use Rattle.wat_module_custom.specs.Customs.{CustomSection, HasSections, all_items, placed, plain}

-- The registered names while custom annotations are read.
abbrev pub custom_name : Names
custom_name = more no_names (codes "custom")

-- The token is not an annotation of the name `custom`, nor one whose name has an error.
abbrev pub IsOther : List ℕ → Token → Type 0
IsOther text t = spelling as_annotation (codes "custom") text t t.kind ≡ None

-- `IsUnannotated text`: the text has no lexical error, and none of its visible tokens is an annotation of the name `custom`,
-- which is visible.
pub record IsUnannotated (text : List ℕ) : Type 0 where
  pub tokens : List Token
  pub shown : TextShows (plain text) custom_name tokens None
  pub others : All (IsOther text) tokens

-- Theorem: in a text without annotations of the name `custom`, reading finds no custom sections. It has none.
pub record UnannotatedHasNone : Type 0 where
  pub read : (s : Source) → IsRead s → IsUtf8 s.setting.text → s.setting ≡ plain s.setting.text → IsUnannotated s.setting.text → placed s.setting.text (whole all_items s) ≡ Ok []
  pub sections : (text : List ℕ) (r : Result (List CustomSection) Report) → IsUtf8 text → IsUnannotated text → HasSections text r → r ≡ Ok []
