-- The list that the program writes: a line `{offset}..{end} {kind}` for each raw token. Not part of the standard.
use Rattle.std.specs.Prelude.{◌≡◌, ◌<◌, ◌^◌, ℕ, List, length, Option, Some}
use Rattle.std.specs.Option.{option_map}
use Rattle.std.specs.Str.{IsUtf8}
use Rattle.wat_lex.specs.errors.Errors.{Report, lexical}
use Rattle.wat_lex.specs.tokens.Setting.{Setting}
use Rattle.wat_lex.specs.tokens.Tiling.{MaximalTiling}
use Rattle.wat_lex.specs.declared.lexer.faults.LexFault.{LexFault}
use Rattle.wat_lex.specs.declared.lexer.kinds.Token.{Token}
use Rattle.wat_lex.specs.declared.lexer.settings.Settings.{Settings}
use Rattle.wat_tokens_io.specs.Lines.{token_lines}

-- `text` has the lines of the raw tokens of the text of `s`, up to its end or to the lexical error `fault`.
pub record ListText (s : Setting) (text : List ℕ) (fault : Option LexFault) : Type 0 where
  pub tokens : List Token
  pub tiling : MaximalTiling s 0 tokens fault
  pub lines : text ≡ token_lines tokens

-- `bytes` are UTF-8 and shorter than 2^32 bytes. `text` is what the program writes: the lines of the raw tokens.
-- `error` reports the lexical error after them, if there is one.
pub record Lists (settings : Settings) (bytes text : List ℕ) (error : Option (Option Report)) : Type 0 where
  pub utf8 : IsUtf8 bytes
  pub short : length bytes < 2 ^ 32
  pub fault : Option LexFault
  pub list : ListText (record { text = bytes; flags = settings }) text fault
  pub reported : error ≡ option_map (λ f. Some (lexical bytes f)) fault
