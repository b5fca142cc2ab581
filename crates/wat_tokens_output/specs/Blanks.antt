-- WebAssembly 2.0, 6.2.3 and 6.2.4 (white space, comments): the text that the program writes with its comments blanked.
-- That nothing is written of a text with a lexical error is not part of the standard.
use Rattle.std.specs.Prelude.{◌≡◌, ◌<◌, ◌^◌, ℕ, List, [], length, Option, Some, MatchOption}
use Rattle.std.specs.Option.{option_map}
use Rattle.std.specs.Str.{IsUtf8}
use Rattle.wat_lex.specs.errors.Errors.{Report, lexical}
use Rattle.wat_lex.specs.tokens.Setting.{Setting}
use Rattle.wat_lex.specs.tokens.Tiling.{MaximalTiling}
use Rattle.wat_lex.specs.declared.lexer.faults.LexFault.{LexFault}
use Rattle.wat_lex.specs.declared.lexer.kinds.Token.{Token}
use Rattle.wat_lex.specs.declared.lexer.settings.Settings.{Settings}
use Rattle.wat_lexer_parser.specs.laws.BlankTexts.{blank_texts, IsBlanked}

-- `text` consists of the bytes of `tokens`; those of comments are overwritten with spaces, except line ends. So it has
-- the length and the line ends of the text of `s`, no comment, and the same visible tokens under every set of names.
pub record WithoutComments (s : Setting) (tokens : List Token) (text : List ℕ) : Type 0 where
  pub bytes : text ≡ blank_texts s.text tokens
  pub blanked : IsBlanked s text

-- `text` is the text of `s` with its comments blanked, or empty if there is a lexical error `fault`.
pub record BlankText (s : Setting) (text : List ℕ) (fault : Option LexFault) : Type 0 where
  pub tokens : List Token
  pub tiling : MaximalTiling s 0 tokens fault
  pub written : MatchOption fault (WithoutComments s tokens text) (λ f. text ≡ [])

-- `bytes` are UTF-8 and shorter than 2^32 bytes. `text` is what the program writes: the bytes with their comments
-- blanked, or nothing if there is a lexical error, which `error` then reports.
pub record Blanks (settings : Settings) (bytes text : List ℕ) (error : Option (Option Report)) : Type 0 where
  pub utf8 : IsUtf8 bytes
  pub short : length bytes < 2 ^ 32
  pub fault : Option LexFault
  pub blank : BlankText (record { text = bytes; flags = settings }) text fault
  pub reported : error ≡ option_map (λ f. Some (lexical bytes f)) fault
