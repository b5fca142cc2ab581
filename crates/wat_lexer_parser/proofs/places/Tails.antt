-- The raw tokens from a position on.
use Rattle.std.proofs.Common.{ℕ, zero, suc, ◌+◌, ◌≤◌, List, [], ◌∷◌, length, drop, arith}
use Rattle.std.specs.Prelude.{Option}
use Rattle.wat_lex.specs.tokens.Setting.{Setting}
use Rattle.wat_lex.specs.tokens.Tiling.{Tiling, MaximalTiling}
use Rattle.wat_lex.specs.declared.lexer.faults.LexFault.{LexFault}
use Rattle.wat_lex.specs.declared.lexer.kinds.Token.{Token}
use Rattle.wat_lexer_parser.specs.places.Places.{offset_at}

-- After one token.
after : (s : Setting) (from to : ℕ) (t : Token) (ts : List Token) (p : ℕ) → Tiling s from to (t ∷ ts) → p ≤ length ts → Tiling s (offset_at (t ∷ ts) (suc p)) to (drop p ts)
after s from to t ts zero h l = h.1
after s from to t [] (suc p) h l = absurd (omega arith)
after s from to t (u ∷ ts) (suc p) h l = after s (t.offset + t.len) to u ts p h.1 (omega arith)

pub tails_are_raw : (s : Setting) (ts : List Token) (e : Option LexFault) (p : ℕ) → MaximalTiling s 0 ts e → p ≤ length ts → MaximalTiling s (offset_at ts p) (drop p ts) e
tails_are_raw s ts e zero h l = h
tails_are_raw s [] e (suc p) h l = absurd (omega arith)
tails_are_raw s (t ∷ ts) e (suc p) h l = record { to = h.to; tiling = after s 0 h.to t ts p h.tiling (omega arith); ends = h.ends }
