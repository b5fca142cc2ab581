-- Relations for writing a formatted text block by block.
use Rattle.std.specs.Prelude.{◌≡◌, ◌<◌, ◌+◌, ◌^◌, ◌++◌, ℕ, List, Option, None}
use Rattle.std.specs.Io.KnownBytes.{Appends}
use Rattle.std.specs.Str.{IsCharBoundary}
use Rattle.wat_lex.specs.tokens.Setting.{Setting}
use Rattle.wat_lex.specs.tokens.Tiling.{TokenAt, MaximalTiling}
use Rattle.wat_lex.specs.declared.lexer.kinds.Token.{Token}
use Rattle.wat_format.specs.Layout.{State, laid}
use Rattle.wat_tokens_io.specs.Streams.{AppendsPrefix}
use Rattle.wat_format.specs.Streams.{AppendsPart}
use Rattle.wat_format.specs.declared.stream.WriteError.{WriteError}
use Rattle.wat_format.specs.declared.stream.WriteError.TheVariants.{Fault, Failed}

-- `TokenIsAt s p t`: `t` is the token at offset `p`. It is not empty, and its end is a char boundary less than 2^32.
pub record TokenIsAt (s : Setting) (p : ℕ) (t : Token) : Type 0 where
  pub token : TokenAt s p t
  pub some : 0 < t.len
  pub boundary : IsCharBoundary s.text (p + t.len)
  pub short : t.offset + t.len < 2 ^ 32

-- `Drains old new block block'`: the first bytes of the block are written to the sink and removed from the block.
pub record Drains (old new : Option (List ℕ)) (block block' : List ℕ) : Type 0 where
  pub first : List ℕ
  pub all : block ≡ first ++ block'
  pub appended : Appends old new first

-- `StopsShort old new bytes error`: a write failed, and a prefix of these bytes is appended to the sink.
abbrev pub StopsShort : Option (List ℕ) → Option (List ℕ) → List ℕ → WriteError → Type 0
StopsShort old new bytes (Failed cause) = AppendsPrefix old new bytes
StopsShort old new bytes e = ⊥

-- `CutsShort s old new error`: the error of a text without lexical errors, of whose formatted text a prefix is written.
abbrev pub CutsShort : Setting → Option (List ℕ) → Option (List ℕ) → WriteError → Type 0
CutsShort s old new (Fault fault) = ⊥
CutsShort s old new e = AppendsPart s old new

-- `Remains s result p state old new block`: the state at offset `p` while the formatted text `result` is written. A
-- part of it was written, the block is the next part, and the rest is that of the tokens from `p` on.
pub record Remains (s : Setting) (answer : List ℕ) (p : ℕ) (state : State) (old new : Option (List ℕ)) (block : List ℕ) : Type 0 where
  pub written : List ℕ
  pub appended : Appends old new written
  pub tokens : List Token
  pub tiling : MaximalTiling s p tokens None
  pub rest : answer ≡ written ++ (block ++ laid s.text state tokens)
