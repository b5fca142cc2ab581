use Rattle.std.proofs.Common.{◌≡◌, length, take, drop, sym, ap, ◌∙◌, subst, arith}
use Rattle.std.proofs.lemmas.List.{length-take-le, length-drop}
use Rattle.wat_lex.specs.tokens.ReadableTokens.{IsTokenOf}
use Rattle.wat_c.proofs.RowTokens.{row_readable, row_ends}
use Rattle.wat_c.proofs.words.source.Goals as goal

pub src-requires : goal.src-requires
src-requires c =
    subst (IsTokenOf c.args.text.now) (sym c.token_of.ensures)
    (row_readable c.tokens.ensures.readable c.args.text.now c.args.row c.args.kind c.requires.known c.requires.is)

pub returns-clause-ends : goal.returns-clause-ends
returns-clause-ends c = row_ends c.tokens.ensures.boundary c.args.text.now c.args.row c.utf8.text c.requires.known

pub returns-clause-len : goal.returns-clause-len
returns-clause-len c =
    let text = c.args.text.now in
    let ends = row_ends c.tokens.ensures.boundary text c.args.row c.utf8.text c.requires.known in
    let e : c.src.result.now ≡ take c.args.row.len (drop c.args.row.offset text) = c.src.ensures.text ∙ ap (λ t. take t.len (drop t.offset text)) c.token_of.ensures in
    ap length e ∙ length-take-le c.args.row.len (drop c.args.row.offset text) (omega (arith, length-drop c.args.row.offset text, ends))
