use Rattle.std.proofs.Common.{◌≡◌, false, rules}
use Rattle.wat_lexer_parser.specs.inside.Table.{is_quoted}
use Rattle.wat_lexer_parser.proofs.inside.PlainNames.{plain_name}
use Rattle.wat_lexer_parser.proofs.parser.table.noted_name.Goals as goal

pub returns-then-not-is_quoted : goal.returns-then-not-is_quoted
returns-then-not-is_quoted c =
    let plain : is_quoted c.args.text.now c.args.token.now ≡ false = search rules in
    plain_name c.tokens.ensures.word c.args.text.now c.args.token.now c.utf8.text c.requires.token c.requires.kind plain
