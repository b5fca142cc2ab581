use Rattle.std.proofs.Common.{◌≡◌, ◌+◌, ℕ, ap, subst, length, true}
use Rattle.std.specs.Prelude.{Option, Some, None, Result, Ok, Err, IfOk, IfErr, IfSome, IfNone}
use Rattle.wat_lex.specs.tokens.Faults.{FaultAt}
use Rattle.wat_lex.specs.tokens.Setting.{Setting}
use Rattle.wat_lex.specs.tokens.Tiling.{TokenAt}
use Rattle.wat_lex.specs.tokens.UniqueTilings.{ResultAt}
use Rattle.wat_lex.specs.declared.lexer.faults.LexFault.{LexFault}
use Rattle.wat_lex.specs.declared.lexer.kinds.Token.{Token}
use Rattle.wat_lex.specs.tokens.Blanks.{is_space}
use Rattle.wat_c.specs.CommentPlaces.{IsPast, after}
use Rattle.wat_c.proofs.comments.past_space.Goals as goal

answer_at : (s : Setting) (p : ℕ) (r : Result (Option Token) LexFault) → IfOk r (λ found. IfSome found (TokenAt s p)) → IfOk r (λ found. IfNone found (p ≡ length s.text)) → IfErr r (FaultAt s p) → ResultAt s p r
answer_at s p (Ok None) t e f = e
answer_at s p (Ok (Some u)) t e f = t
answer_at s p (Err fault) t e f = f

pub returns-in-Whitespace-clause-past : goal.returns-in-Whitespace-clause-past
returns-in-Whitespace-clause-past c =
    let lexer = c.with_settings-lexer.result in
    let token = c.in-Ok-Some.token in
    let at = rw c.in-Ok-Some.field-0-is at c.in-Ok-Some.ensures.token in
    let more = answer_at lexer (token.offset + token.len) c.scan-in-Whitespace.result c.scan-in-Whitespace.ensures.token c.scan-in-Whitespace.ensures.end c.scan-in-Whitespace.ensures.fault in
    let space : is_space token.kind ≡ true = ap is_space c.in-Whitespace.is in
    subst (λ s. IsPast s c.args.pos c.scan-in-Whitespace.result) c.with_settings-lexer.ensures.setting (after token at space more)
