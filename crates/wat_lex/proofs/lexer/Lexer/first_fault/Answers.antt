use Rattle.std.proofs.Common.{◌≡◌, ◌+◌, ℕ, [], ◌∷◌, refl, subst, sym}
use Rattle.std.specs.Prelude.{Option, Some, None}
use Rattle.std.specs.Str.{IsCharBoundary}
use Rattle.wat_lex.specs.declared.lexer.faults.LexFault.{LexFault}
use Rattle.wat_lex.specs.tokens.Setting.{Setting}
use Rattle.wat_lex.specs.tokens.Tiling.{EndsAt}
use Rattle.wat_lex.specs.tokens.UniqueTilings.{EndsFrom}
use Rattle.wat_lex.proofs.tokens.OneTilings.{one_tiling}
use Rattle.wat_lex.proofs.lexer.Lexer.first_fault.Goals as goal

ends_here : (s : Setting) (p : ℕ) (e : Option LexFault) → EndsAt s p e → EndsFrom s p e
ends_here s p e h = record { tokens = []; tiling = record { to = p; tiling = refl; ends = h } }

one_ending : (s : Setting) (p : ℕ) (e f : Option LexFault) → EndsFrom s p e → EndsFrom s p f → e ≡ f
one_ending s p e f h g = (one_tiling s p h.tokens g.tokens e f h.tiling g.tiling).1

pub tokens-preserved : goal.tokens-preserved
tokens-preserved c =
    let t = rw c.in-Ok-Some.field-0-is at c.in-Ok-Some.ensures.token in
    record {
      boundary = subst (λ p. IsCharBoundary c.args.self.now.text (p + c.in-Ok-Some.token.len)) (sym t.offset) (rw c.in-Ok-Some.field-0-is at c.in-Ok-Some.ensures.boundary);
      ends = λ e h. c.tokens.invariant.ends e (record { tokens = c.in-Ok-Some.token ∷ h.tokens; tiling = record { to = h.tiling.to; tiling = (t, h.tiling.tiling); ends = h.tiling.ends } });
    }

pub returns-in-Ok-None-clause-one : goal.returns-in-Ok-None-clause-one
returns-in-Ok-None-clause-one c = λ e h.
    one_ending c.args.self.now c.args.pos e None h (c.tokens.invariant.ends None (ends_here c.args.self.now c.tokens.at None (rw c.in-Ok-None.field-0-is at c.in-Ok-None.ensures.end)))

pub returns-in-Err-clause-one : goal.returns-in-Err-clause-one
returns-in-Err-clause-one c = λ e h.
    one_ending c.args.self.now c.args.pos e (Some c.in-Err.fault) h (c.tokens.invariant.ends (Some c.in-Err.fault) (ends_here c.args.self.now c.tokens.at (Some c.in-Err.fault) c.in-Err.ensures.fault))
