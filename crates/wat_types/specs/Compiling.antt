-- WebAssembly 2.0, 6.6.13 and 5.5.16 (modules, text and binary format). The results of compiling a text.
use Rattle.std.specs.Prelude.{◌≡◌, ◌↔◌, ℕ, ◌^◌, nat_lt, false, List, length, codes, if◌then◌else◌, None, Result, Ok, Err}
use Rattle.std.specs.Str.{IsUtf8}
use Rattle.wat_lex.specs.errors.Errors.{Report, Custom}
use Rattle.wat_lex.specs.tokens.Setting.{Setting}
use Rattle.wat_lex.specs.declared.lexer.kinds.Token.{Token}
use Rattle.wat_lexer_parser.specs.names.RegisteredNames.{no_names}
use Rattle.wat_lexer_parser.specs.places.Source.{Source, IsRead}
use Rattle.wat_lexer_parser.specs.readings.Readings.{whole}
use Rattle.wat_lexer_parser.specs.laws.Blanking.{TextShows}
use Rattle.wat_types.specs.Binary.{content, module_bytes}
use Rattle.wat_types.specs.Grammar.{Module}
use Rattle.wat_types.specs.Meanings.{module_types}
use Rattle.wat_types.specs.Signatures.{Signature}

-- The text, lexed with confusing characters rejected and underscores not strict.
abbrev pub plain : List ℕ → Setting
plain text = record { text = text; flags = record { allow = false; strict = false } }

-- The text is a module with these function types and nothing else: its visible tokens, without registered names, match
-- `Module` of the grammar, and it has no error after them.
pub record SpellsTypes (text : List ℕ) (fs : List Signature) : Type 0 where
  pub tokens : List Token
  pub shown : TextShows (plain text) no_names tokens None
  pub spelled : Module text tokens fs

-- The error for types whose section contents have 2^32 bytes or more.
abbrev pub too_long : Report
too_long = record { offset = 0; cause = Custom (codes "section too long"); excerpt = None }

-- The encoding of the types, or this error.
abbrev pub compiled : List Signature → Result (List ℕ) Report
compiled fs = if nat_lt (length (content fs)) (2 ^ 32) then Ok (module_bytes fs) else Err too_long

-- The encoding of the types that were parsed, or the error of parsing them.
abbrev pub compiled_by : Result (List Signature) Report → Result (List ℕ) Report
compiled_by (Ok fs) = compiled fs
compiled_by (Err f) = Err f

abbrev pub compiled_text : Source → Result (List ℕ) Report
compiled_text s = compiled_by (whole module_types s)

-- Theorem: parsing a whole text as a module returns these types if and only if the grammar derives them for the text.
abbrev pub ReadingIsSpelling : Type 0
ReadingIsSpelling = (s : Source) (fs : List Signature) → IsUtf8 s.setting.text → IsRead s → s.setting ≡ plain s.setting.text → (whole module_types s ≡ Ok fs) ↔ SpellsTypes s.setting.text fs

-- Theorem: the grammar derives at most one list of function types for a text.
abbrev pub SpellingIsOne : Type 0
SpellingIsOne = (text : List ℕ) (fs gs : List Signature) → IsUtf8 text → SpellsTypes text fs → SpellsTypes text gs → fs ≡ gs
