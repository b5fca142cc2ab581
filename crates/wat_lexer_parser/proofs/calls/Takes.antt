-- Up to `n` visible tokens, one by one.
use Rattle.std.proofs.Common.{◌≡◌, ◌<◌, ◌-◌, ◌∙◌, ℕ, zero, suc, refl, ap, arith, Some, None, Ok, Err}
use Rattle.std.specs.Prelude.{Result}
use Rattle.wat_lex.specs.declared.lexer.kinds.Token.{Token}
use Rattle.wat_lexer_parser.specs.declared.parser.fault.Fault.{Fault}
use Rattle.wat_lexer_parser.specs.calls.Calls.{after_taking}
use Rattle.wat_lexer_parser.specs.names.RegisteredNames.{Names}
use Rattle.wat_lexer_parser.specs.places.Source.{Source}
use Rattle.wat_lexer_parser.specs.Cases.{cases_of}
use Rattle.wat_lexer_parser.specs.shown.Showing.{Look, shown}

-- The position after the token that a peek found and up to `m` more tokens.
abbrev after : Source → Names → ℕ → ℕ → Look → Result ℕ Fault
after s n m p look = cases_of look (Ok p) (λ t q. after_taking s n m q) Err

pub takes_none : (s : Source) (n : Names) (p : ℕ) → after_taking s n 0 p ≡ Ok p
unfolding after_taking
takes_none s n p = refl

step : (s : Source) (n : Names) (m p : ℕ) → 0 < m → after_taking s n m p ≡ after s n (m - 1) p (shown s p n)
unfolding after_taking
step s n zero p h = absurd (omega (arith, h))
step s n (suc m) p h = let e : m ≡ suc m - 1 = omega arith in ap (λ k. after s n k p (shown s p n)) e

pub takes_token : (s : Source) (n : Names) (m p q : ℕ) (t : Token) → 0 < m → shown s p n ≡ Ok (Some (t, q)) → after_taking s n m p ≡ after_taking s n (m - 1) q
takes_token s n m p q t h e = step s n m p h ∙ ap (after s n (m - 1) p) e

pub takes_end : (s : Source) (n : Names) (m p : ℕ) → 0 < m → shown s p n ≡ Ok None → after_taking s n m p ≡ Ok p
takes_end s n m p h e = step s n m p h ∙ ap (after s n (m - 1) p) e

pub takes_fault : (s : Source) (n : Names) (m p : ℕ) (f : Fault) → 0 < m → shown s p n ≡ Err f → after_taking s n m p ≡ Err f
takes_fault s n m p f h e = step s n m p h ∙ ap (after s n (m - 1) p) e
