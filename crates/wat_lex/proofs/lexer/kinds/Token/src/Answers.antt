use Rattle.std.proofs.Common.{sym, subst, take, ap, ◌∙◌}
use Rattle.std.specs.Str.{chars, IsCharBoundary}
use Rattle.wat_lex.specs.tokens.Setting.{lenient}
use Rattle.wat_lex.specs.grammar.Words.{Word}
use Rattle.wat_lex.proofs.tokens.ReadableTokens.{token_ends, token_word, prefix_is}
use Rattle.wat_lex.proofs.lexer.kinds.Token.src.Goals as goal

pub range-requires-clause-end_boundary : goal.range-requires-clause-end_boundary
range-requires-clause-end_boundary c = subst (λ x. IsCharBoundary x c.args.self.now.len) (sym c.range_from-rest.ensures.value) (token_ends c.args.s.now c.args.self.now c.utf8.s c.requires)

pub returns-clause-word : goal.returns-clause-word
returns-clause-word c = subst (λ x. Word c.args.self.now.kind (chars x) lenient) (sym (prefix_is _ _ _ c.range.ensures.value ∙ ap (λ x. take c.args.self.now.len x) c.range_from-rest.ensures.value)) (token_word c.args.s.now c.args.self.now c.utf8.s c.requires)
