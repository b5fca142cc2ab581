-- The lists that the program writes as JSON: a line for each raw token or for each visible token, and a line for the
-- error after them, if there is one. Not part of the standard.
use Rattle.std.specs.Prelude.{◌≡◌, ◌<◌, ◌^◌, ◌++◌, ℕ, List, [], length, Option, Some, None}
use Rattle.std.specs.Option.{option_map}
use Rattle.std.specs.Str.{IsUtf8}
use Rattle.std.specs.Prelude.{String}
use Rattle.std.specs.declared.alloc.Global.{Global}
use Rattle.wat_lex.specs.errors.Errors.{Report, lexical, message_of, offset_of}
use Rattle.wat_lex.specs.tokens.Setting.{Setting}
use Rattle.wat_lex.specs.tokens.Tiling.{MaximalTiling}
use Rattle.wat_lex.specs.declared.lexer.faults.LexFault.{LexFault}
use Rattle.wat_lex.specs.declared.lexer.kinds.Token.{Token}
use Rattle.wat_lex.specs.declared.lexer.settings.Settings.{Settings}
use Rattle.wat_tokens_io.specs.JsonRows.{json_fault, json_line, json_lines, json_open}
use Rattle.wat_tokens_output.specs.Shows.{ShownText}

-- The line of the `error` of a text, or nothing if there is none. The line begins with `begin`.
abbrev pub json_report : List ℕ → List ℕ → Option (Option Report) → List ℕ
json_report begin text None = []
json_report begin text (Some error) = json_fault begin text (offset_of error) (message_of error)

-- `bytes` are UTF-8 and shorter than 2^32 bytes; `file` is the name of their file, if they have one. `text` is what the
-- program writes: the lines of the raw tokens, and the line of the lexical error after them, which `error` reports, if
-- there is one.
pub record JsonLists (settings : Settings) (file : Option (List ℕ)) (bytes text : List ℕ) (error : Option (Option Report)) : Type 0 where
  pub utf8 : IsUtf8 bytes
  pub short : length bytes < 2 ^ 32
  pub tokens : List Token
  pub fault : Option LexFault
  pub tiling : MaximalTiling (record { text = bytes; flags = settings }) 0 tokens fault
  pub lines : text ≡ json_lines (json_open file) bytes tokens ++ json_report (json_open file) bytes error
  pub reported : error ≡ option_map (λ f. Some (lexical bytes f)) fault

-- `text` has the lines of the visible tokens of the text of `s` with `names` registered, and the line of the error
-- after them, which is `error`, if there is one. `file` is the name of the text's file, if it has one.
pub record JsonShownText (s : Setting) (file : Option (List ℕ)) (names : List (String Global)) (text : List ℕ) (error : Option (Option Report)) : Type 0 where
  pub rows : List ℕ
  pub shown : ShownText (json_line (json_open file) s.text) s names rows error
  pub lines : text ≡ rows ++ json_report (json_open file) s.text error

-- `bytes` are UTF-8 and shorter than 2^32 bytes; `file` is the name of their file, if they have one. `text` is what the
-- program writes: the lines of the visible tokens with `names` registered, and the line of the error after them, which
-- is `error`, if there is one.
pub record JsonShows (settings : Settings) (file : Option (List ℕ)) (names : List (String Global)) (bytes text : List ℕ) (error : Option (Option Report)) : Type 0 where
  pub utf8 : IsUtf8 bytes
  pub short : length bytes < 2 ^ 32
  pub shown : JsonShownText (record { text = bytes; flags = settings }) file names text error
