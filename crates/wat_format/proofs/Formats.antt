-- A formatter that goes over a text, token by token.
use Rattle.std.proofs.Common.{◌≡◌, ◌+◌, ◌≤◌, ◌^◌, ℕ, List, [], ◌∷◌, ◌++◌, length, refl, sym, ap, ◌∙◌, subst, arith, length-append}
use Rattle.std.specs.Prelude.{Option, Some, None}
use Rattle.std.specs.Str.{IsCharBoundary}
use Rattle.wat_lex.specs.tokens.Faults.{FaultAt}
use Rattle.wat_lex.specs.tokens.Setting.{Setting}
use Rattle.wat_lex.specs.tokens.UniqueTilings.{EndsFrom}
use Rattle.wat_lex.specs.tokens.Tiling.{TokenAt, MaximalTiling, EndsAt}
use Rattle.wat_lex.specs.declared.lexer.faults.LexFault.{LexFault}
use Rattle.wat_lex.specs.declared.lexer.kinds.Token.{Token}
use Rattle.wat_format.specs.Formatting.{Formatted, Refuses}
use Rattle.wat_format.specs.Layout.{State, start, laid, layout}
use Rattle.wat_format.specs.inside.Steps.{Lays, EndsWithError, Formats}
use Rattle.wat_format.specs.declared.error.Error.{Error}
use Rattle.wat_format.specs.declared.error.Error.TheVariants.{Memory, Fault, TooLong}

-- The char boundary after a token.
pub boundary_after : (s : Setting) (pos : ℕ) (t : Token) → TokenAt s pos t → IsCharBoundary s.text (pos + t.len) → IsCharBoundary s.text (t.offset + t.len)
boundary_after s pos t k b = subst (λ p. IsCharBoundary s.text (p + t.len)) (sym k.offset) b

tiled_with : (s : Setting) (pos : ℕ) (t : Token) (ts : List Token) (e : Option LexFault) → TokenAt s pos t → MaximalTiling s (t.offset + t.len) ts e → MaximalTiling s pos (t ∷ ts) e
tiled_with s pos t ts e k m = record { to = m.to; tiling = (k, m.tiling); ends = m.ends }

tiled_at_end : (s : Setting) (pos : ℕ) (e : Option LexFault) → EndsAt s pos e → MaximalTiling s pos [] e
tiled_at_end s pos e h = record { to = pos; tiling = refl; ends = h }

pub formats_start : (s : Setting) (state : State) (out : List ℕ) → state ≡ start → out ≡ [] → Formats s 0 state out
formats_start s state out e k ts ending m = record {
  all = ts;
  tiling = m;
  laid_out = ap (λ x. laid s.text x ts) (sym e) ∙ ap (λ x. x ++ laid s.text state ts) (sym k);
}

pub formats_more : (s : Setting) (pos : ℕ) (state state' : State) (out out' : List ℕ) (t : Token) → Formats s pos state out → TokenAt s pos t → Lays s.text state t state' out out' → Formats s (t.offset + t.len) state' out'
formats_more s pos state state' out out' t h k l ts ending m =
    let w = h (t ∷ ts) ending (tiled_with s pos t ts ending k m) in
    record { all = w.all; tiling = w.tiling; laid_out = w.laid_out ∙ l ts }

pub formatted : (s : Setting) (pos : ℕ) (state : State) (out out' : List ℕ) → Formats s pos state out → EndsAt s pos None → out' ≡ out ++ laid s.text state [] → Formatted s out'
formatted s pos state out out' h e k =
    let w = h [] None (tiled_at_end s pos None e) in
    record { tokens = w.all; tiling = w.tiling; laid = k ∙ sym w.laid_out }

pub refused_at : (s : Setting) (pos : ℕ) (state : State) (out : List ℕ) (f : LexFault) → Formats s pos state out → FaultAt s pos f → Refuses s (Fault f)
refused_at s pos state out f h e = let w = h [] (Some f) (tiled_at_end s pos (Some f) e) in (w.all, w.tiling)

too_long_later : (s : Setting) (pos : ℕ) (state : State) (out : List ℕ) → Formats s pos state out → EndsFrom s pos None → 2 ^ 32 ≤ length out → Refuses s TooLong
too_long_later s pos state out h e long =
    let w = h e.tokens None e.tiling in
    let rest : List ℕ = laid s.text state e.tokens in
    let size : length (layout s.text w.all) ≡ length out + length rest = ap length w.laid_out ∙ length-append out rest in
    (layout s.text w.all, record { tokens = w.all; tiling = w.tiling; laid = refl }, omega arith)

-- what was written is too long already
pub refused_later : (s : Setting) (pos : ℕ) (state : State) (out : List ℕ) (e : Error) → Formats s pos state out → 2 ^ 32 ≤ length out → EndsWithError s pos e → Refuses s e
refused_later s pos state out (Memory r) h long e = tt
refused_later s pos state out (Fault f) h long e = let w = h e.tokens (Some f) e.tiling in (w.all, w.tiling)
refused_later s pos state out TooLong h long e = too_long_later s pos state out h e long
