use Rattle.std.specs.Cow.{cow_str_bytes}
use Rattle.wat_lex.specs.identifiers.Identifiers.{is_owned_str}
use Rattle.wat_lexer_parser.specs.parser.State.{at_place, peek_at}
use Rattle.wat_lexer_parser.proofs.token.Named.{named_answers}
use Rattle.wat_lexer_parser.proofs.token.references.named.Goals as goal

pub returns-clause-value : goal.returns-clause-value
returns-clause-value c =
    let a = at_place c.args.cursor.parser.now c.args.cursor.at in
    named_answers (λ v. cow_str_bytes v.0) (λ v. is_owned_str v.0) (λ v. v.1.at) a.source.setting.text (peek_at a) c.id.result c.id.ensures.value c.id.ensures.owned
