use Rattle.std.proofs.Common.{sym, ◌∙◌, subst}
use Rattle.wat_lex.specs.tokens.ReadableTokens.{IsTokenOf}
use Rattle.wat_lex.specs.declared.lexer.kinds.TokenKind.TheVariants as kind
use Rattle.wat_c.proofs.RowTokens.{row_readable, string_by_code}
use Rattle.wat_c.proofs.by_row.string_of.Goals as goal

pub string-requires-clause-token : goal.string-requires-clause-token
string-requires-clause-token c =
    subst (IsTokenOf c.args.text.now) (sym c.token_of-token.ensures)
    (row_readable c.tokens.ensures.readable c.args.text.now c.args.row kind.String c.requires (string_by_code c.args.row.kind (c.if-row-number.false ∙ c.number.ensures)))
