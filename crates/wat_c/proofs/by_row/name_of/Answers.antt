use Rattle.std.proofs.Common.{sym, subst}
use Rattle.wat_lex.specs.tokens.ReadableTokens.{IsTokenOf}
use Rattle.wat_c.proofs.RowTokens.{row_readable, name_by_code}
use Rattle.wat_c.proofs.by_row.name_of.Goals as goal

pub name-requires-clause-token : goal.name-requires-clause-token
name-requires-clause-token c =
    let known = c.in-Some.ensures.some in
    subst (IsTokenOf c.args.text.now) (sym c.token_of-token.ensures)
    (row_readable c.tokens.ensures.readable c.args.text.now c.args.row c.in-Some.kind c.requires (name_by_code c.args.row.kind c.in-Some.kind known.0 known.1))
