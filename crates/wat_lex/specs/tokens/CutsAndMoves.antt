-- WebAssembly 2.0, 6.2.2 (tokens): the longest match is taken, so a token depends only on its own characters and the
-- next one. These are the theorems of locality: how the raw tokens of a part of a text relate to those of the whole
-- text.
use Rattle.std.specs.Prelude.{◌≡◌, ◌≤◌, ◌+◌, ℕ, List, [], ◌∷◌, ◌++◌, map, take, drop, Option, Some, None}
use Rattle.std.specs.Option.{option_map}
use Rattle.std.specs.Str.{IsCharBoundary}
use Rattle.wat_lex.specs.tokens.Setting.{Setting}
use Rattle.wat_lex.specs.tokens.Tiling.{MaximalTiling}
use Rattle.wat_lex.specs.tokens.UniqueTilings.{SomeTiling}
use Rattle.wat_lex.specs.declared.lexer.kinds.Token.{Token}
use Rattle.wat_lex.specs.declared.lexer.faults.LexFault.{LexFault}

-- The raw tokens that stay the same if more text follows: all of them before a lexical error, and all except the last
-- at the end of the text.
abbrev pub sure : List Token → Option LexFault → List Token
sure ts (Some f) = ts
sure [] None = []
sure (t ∷ []) None = []
sure (t ∷ u ∷ us) None = t ∷ sure (u ∷ us) None

-- The first `n` bytes of the text, with the same flags.
abbrev pub prefix : Setting → ℕ → Setting
prefix s n = record s { text = take n s.text }

-- `CutAt s p n`: the first `n` bytes of the text have raw tokens from byte `p`, and their `sure` tokens are the first
-- raw tokens of the whole text.
pub record CutAt (s : Setting) (p n : ℕ) : Type 0 where
  pub some : SomeTiling (prefix s n) p
  pub begins : (ts us : List Token) (e f : Option LexFault) → MaximalTiling (prefix s n) p ts e → MaximalTiling s p us f → (rest : List Token) × (us ≡ sure ts e ++ rest)

-- `Cuts s p`: `CutAt` holds for each character boundary `n` at or after byte `p`.
abbrev pub Cuts : Setting → ℕ → Type 0
Cuts s p = (n : ℕ) → IsCharBoundary s.text n → p ≤ n → CutAt s p n

abbrev pub moved_tokens : ℕ → List Token → List Token
moved_tokens p ts = map (λ (t : Token). record t { offset = p + t.offset }) ts

abbrev pub moved_ending : ℕ → Option LexFault → Option LexFault
moved_ending p ending = option_map (λ (f : LexFault). record f { offset = p + f.offset }) ending

-- `Moves s p`: the raw tokens from byte `p` are those of the text that begins there, with `p` added to each offset.
pub record Moves (s : Setting) (p : ℕ) : Type 0 where
  pub into : (ts : List Token) (e : Option LexFault) → MaximalTiling (record s { text = drop p s.text }) 0 ts e → MaximalTiling s p (moved_tokens p ts) (moved_ending p e)
  pub from : (us : List Token) (f : Option LexFault) → MaximalTiling s p us f
      → (ts : List Token) × (e : Option LexFault) × (us ≡ moved_tokens p ts) × (f ≡ moved_ending p e) × MaximalTiling (record s { text = drop p s.text }) 0 ts e
