-- Lines of JSON for the raw tokens of a text, followed by one more line. Not part of the standard.
use Rattle.std.specs.Prelude.{ℕ, List, ◌++◌, Option}
use Rattle.std.specs.Io.KnownBytes.{Appends}
use Rattle.wat_lex.specs.tokens.Setting.{Setting}
use Rattle.wat_lex.specs.tokens.Tiling.{MaximalTiling}
use Rattle.wat_lex.specs.declared.lexer.faults.LexFault.{LexFault}
use Rattle.wat_lex.specs.declared.lexer.kinds.Token.{Token}
use Rattle.wat_tokens_io.specs.JsonRows.{json_lines}
use Rattle.wat_tokens_io.specs.Streams.{AppendsPrefix}

-- If the bytes of the output are known, they grow from `old` to `new` by a JSON line for each raw token of the text,
-- and then by `last`. Each line begins with `begin`.
pub record AppendsRows (begin last : List ℕ) (s : Setting) (old new : Option (List ℕ)) : Type 0 where
  pub tokens : List Token
  pub ending : Option LexFault
  pub tiling : MaximalTiling s 0 tokens ending
  pub appended : Appends old new (json_lines begin s.text tokens ++ last)

-- If the bytes of the output are known, they grow from `old` to `new` by a prefix of what `AppendsRows` appends.
pub record AppendsRowsCut (begin last : List ℕ) (s : Setting) (old new : Option (List ℕ)) : Type 0 where
  pub tokens : List Token
  pub ending : Option LexFault
  pub tiling : MaximalTiling s 0 tokens ending
  pub appended : AppendsPrefix old new (json_lines begin s.text tokens ++ last)
