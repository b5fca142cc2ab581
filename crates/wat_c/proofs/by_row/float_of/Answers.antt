use Rattle.std.proofs.Common.{sym, subst}
use Rattle.wat_lex.specs.tokens.ReadableTokens.{IsTokenOf}
use Rattle.wat_lex.specs.declared.lexer.kinds.TokenKind.TheVariants as kind
use Rattle.wat_c.proofs.RowTokens.{row_readable}
use Rattle.wat_c.proofs.by_row.float_of.Goals as goal

pub float-requires-clause-token : goal.float-requires-clause-token
float-requires-clause-token c =
    subst (IsTokenOf c.args.text.now) (sym c.token_of-token.ensures)
    (row_readable c.tokens.ensures.readable c.args.text.now c.args.row (kind.Float c.in-Some.kind) c.requires c.in-Some.ensures.some)
