-- Output that is written block by block: bytes for each raw token of a text. Not part of the standard.
use Rattle.std.specs.Prelude.{◌≡◌, ◌++◌, ℕ, List, Option, Some, flat_map}
use Rattle.std.specs.Option.{option_map}
use Rattle.std.specs.Io.KnownBytes.{Appends}
use Rattle.wat_lex.specs.errors.Errors.{Report, lexical}
use Rattle.wat_lex.specs.tokens.Setting.{Setting}
use Rattle.wat_lex.specs.tokens.UniqueTilings.{EndsFrom}
use Rattle.wat_lex.specs.tokens.Tiling.{MaximalTiling}
use Rattle.wat_lex.specs.declared.lexer.faults.LexFault.{LexFault}
use Rattle.wat_lex.specs.declared.lexer.kinds.Token.{Token}
use Rattle.wat_tokens_io.specs.Streams.{AppendsPrefix}

-- `bytes` were appended to a block. The output, if its bytes are known, grew from `old` to `new` by `written`, and the
-- block changed from `block` to `block'`. What was written and what the block now holds are `block` and then `bytes`.
pub record Puts (old new : Option (List ℕ)) (block block' bytes : List ℕ) : Type 0 where
  pub written : List ℕ
  pub appended : Appends old new written
  pub all : written ++ block' ≡ block ++ bytes

-- If the bytes of an output are known, they grow from `old` to `new` by the bytes `each t` of each raw token `t` of the
-- text of `s`.
pub record AppendsEach (each : Token → List ℕ) (s : Setting) (old new : Option (List ℕ)) : Type 0 where
  pub tokens : List Token
  pub ending : Option LexFault
  pub tiling : MaximalTiling s 0 tokens ending
  pub appended : Appends old new (flat_map each tokens)

-- If the bytes of an output are known, they grow from `old` to `new` by a prefix of the bytes `each t` of each raw
-- token `t` of the text of `s`.
pub record AppendsEachCut (each : Token → List ℕ) (s : Setting) (old new : Option (List ℕ)) : Type 0 where
  pub tokens : List Token
  pub ending : Option LexFault
  pub tiling : MaximalTiling s 0 tokens ending
  pub appended : AppendsPrefix old new (flat_map each tokens)

-- `error` reports the lexical error at which the raw tokens of the text of `s` end. It is `None` if they reach the end
-- of the text.
pub record ReportsEnd (s : Setting) (error : Option (Option Report)) : Type 0 where
  pub ending : Option LexFault
  pub ends : EndsFrom s 0 ending
  pub reported : error ≡ option_map (λ f. Some (lexical s.text f)) ending
