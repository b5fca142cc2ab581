-- WebAssembly 2.0, 6.2 (lexical format): all visible tokens of a text, as tokens and as terminals, and the error after
-- them. That is a lexical error, or the error of an annotation without its `)`.
use Rattle.std.specs.Prelude.{◌≡◌, ℕ, List, Option, Some, drop, map}
use Rattle.std.specs.List.{All}
use Rattle.wat_lex.specs.tokens.ReadableTokens.{IsTokenOf}
use Rattle.std.specs.Option.{option_map}
use Rattle.wat_lex.specs.errors.Errors.{Report}
use Rattle.wat_lex.specs.declared.lexer.kinds.Token.{Token}
use Rattle.wat_lexer_parser.specs.declared.parser.fault.Fault.{Fault}
use Rattle.wat_lexer_parser.specs.names.RegisteredNames.{Names, no_names}
use Rattle.wat_lexer_parser.specs.parser.State.{report_of}
use Rattle.wat_lexer_parser.specs.places.Source.{Source, IsRead}
use Rattle.wat_lexer_parser.specs.laws.AllShown.{AllShown}
use Rattle.wat_module_tokens.specs.Terminals.{Terminal}
use Rattle.wat_module_lexer.specs.TokenTerminals.{plain, terminal_of}

-- `ShownFrom s names place items error`: `items` are all visible tokens from the position `place` on, under these
-- registered names, and `error` reports the error after them, if there is one.
pub record ShownFrom (s : Source) (names : Names) (place : ℕ) (items : List Token) (error : Option (Option Report)) : Type 0 where
  pub tokens : List Token
  pub fault : Option Fault
  pub shown : AllShown s.setting.text s.ending names (drop place s.tokens) tokens fault
  pub lines : items ≡ tokens
  pub readable : All (IsTokenOf s.setting.text) items
  pub reported : error ≡ option_map (λ f. Some (report_of s.setting.text f)) fault

-- `TextShown text items error`: `items` are all visible tokens of a text without registered names, and `error`
-- reports the error after them, if there is one.
pub record TextShown (text : List ℕ) (items : List Token) (error : Option (Option Report)) : Type 0 where
  pub source : Source
  pub setting : source.setting ≡ plain text
  pub read : IsRead source
  pub shown : ShownFrom source no_names 0 items error

-- `TerminalsFrom s names place terminals error`: `terminals` are those of all visible tokens from the position `place` on,
-- under these registered names, and `error` reports the error after them, if there is one.
pub record TerminalsFrom (s : Source) (names : Names) (place : ℕ) (terminals : List Terminal) (error : Option (Option Report)) : Type 0 where
  pub tokens : List Token
  pub shown : ShownFrom s names place tokens error
  pub are : terminals ≡ map (terminal_of s.setting.text) tokens

-- `TerminalsShown text terminals error`: `terminals` are those of all visible tokens of a text without registered names,
-- and `error` reports the error after them, if there is one.
pub record TerminalsShown (text : List ℕ) (terminals : List Terminal) (error : Option (Option Report)) : Type 0 where
  pub tokens : List Token
  pub shown : TextShown text tokens error
  pub are : terminals ≡ map (terminal_of text) tokens
