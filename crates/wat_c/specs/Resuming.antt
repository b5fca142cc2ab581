-- WebAssembly 2.0, 6.2.2 (tokens): the offset at which lexing continues after a token. For lexical errors, it is
-- defined here and not by the standard.
use Rattle.std.specs.Prelude.{◌≡◌, ℕ, ◌+◌, Option, Result, MatchOption, MatchResult}
use Rattle.wat_lex.specs.tokens.Recovery.{ResumesAt}
use Rattle.wat_lex.specs.tokens.Setting.{Setting}
use Rattle.wat_lex.specs.tokens.UniqueTilings.{ResultAt}
use Rattle.wat_lex.specs.declared.lexer.faults.LexFault.{LexFault}
use Rattle.wat_lex.specs.declared.lexer.kinds.Token.{Token}

-- `GoesOnAt s p q`: byte `q` is the end of the token at byte `p`, or of the bytes to skip after the lexical error
-- there. At the end of the text it is `p`.
pub record GoesOnAt (s : Setting) (p q : ℕ) : Type 0 where
  pub answer : Result (Option Token) LexFault
  pub is_at : ResultAt s p answer
  pub place : MatchResult answer (λ found. MatchOption found (q ≡ p) (λ t. q ≡ t.offset + t.len)) (λ f. ResumesAt s p f q)
