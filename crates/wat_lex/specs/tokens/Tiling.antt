-- WebAssembly 2.0, 6.2 (lexical format): a source text is a sequence of tokens, whitespace and comments, each the
-- longest possible.
use Rattle.std.specs.Prelude.{◌≡◌, ◌+◌, ℕ, List, [], ◌∷◌, drop, length, Option, MatchOption}
use Rattle.std.specs.Str.{chars}
use Rattle.wat_lex.specs.grammar.Classes.{size}
use Rattle.wat_lex.specs.tokens.Setting.{Setting}
use Rattle.wat_lex.specs.grammar.Words.{WordIsAt}
use Rattle.wat_lex.specs.tokens.Faults.{FaultAt}
use Rattle.wat_lex.specs.declared.lexer.kinds.Token.{Token}
use Rattle.wat_lex.specs.declared.lexer.faults.LexFault.{LexFault}

-- `TokenAt s p t`: `t` is a token that starts at byte `p`: its `len` bytes are a word of the grammar's rule for its kind,
-- and the text after them does not continue that word (`WordIsAt`).
pub record TokenAt (s : Setting) (p : ℕ) (t : Token) : Type 0 where
  pub offset : t.offset ≡ p
  pub word : List ℕ
  pub rest : List ℕ
  pub is_at : WordIsAt s.flags (chars (drop p s.text)) t.kind word rest
  pub len : t.len ≡ size word

-- `Tiling s from to ts`: the tokens `ts` cover the bytes from `from` to `to` without gaps or overlaps.
abbrev pub Tiling : Setting → ℕ → ℕ → List Token → Type 0
Tiling s from to [] = from ≡ to
Tiling s from to (t ∷ ts) = TokenAt s from t × Tiling s (t.offset + t.len) to ts

-- `EndsAt s to ending`: at byte `to` the text ends if `ending` is `None`; otherwise lexing fails there with this error.
abbrev pub EndsAt : Setting → ℕ → Option LexFault → Type 0
EndsAt s to ending = MatchOption ending (to ≡ length s.text) (FaultAt s to)

-- `MaximalTiling s from tokens ending`: the tokens cover the text from byte `from` to its end if `ending` is `None`,
-- otherwise to the byte at which lexing fails with the error in `ending`.
pub record MaximalTiling (s : Setting) (from : ℕ) (tokens : List Token) (ending : Option LexFault) : Type 0 where
  pub to : ℕ
  pub tiling : Tiling s from to tokens
  pub ends : EndsAt s to ending
