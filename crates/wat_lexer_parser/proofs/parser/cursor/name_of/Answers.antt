use Rattle.std.proofs.Common.{◌≡◌, None, rules, Err, true, false}
use Rattle.std.specs.Cow.{cow_str_bytes}
use Rattle.wat_lex.specs.tokens.ReadableTokens.{word_of}
use Rattle.wat_lex.specs.values.WordValues.{empty_name, name_value}
use Rattle.wat_lexer_parser.specs.parser.Takers.{name_is_decoded, name_or_report}
use Rattle.wat_lexer_parser.proofs.parser.Escapes.{escapes, owned_where_escaped, wanting}
use Rattle.wat_lexer_parser.proofs.parser.cursor.name_of.Goals as goal

pub returns-in_err-name-clause-value : goal.returns-in_err-name-clause-value
returns-in_err-name-clause-value c =
    let x = c.args.text.now in
    let t = c.args.token.now in
    let none : c.from_residual.result ≡ Err None = search rules in
    wanting (name_is_decoded x t) (λ name. cow_str_bytes name) (name_or_report x t (name_value (empty_name t.kind) (word_of x t))) c.from_residual.result none (escapes (word_of x t) (λ h. let f : false ≡ true = c.in_err-name.ensures.free h in cc))

pub returns-in-Ok-clause-owned : goal.returns-in-Ok-clause-owned
returns-in-Ok-clause-owned c = owned_where_escaped _ (word_of c.args.text.now c.args.token.now) (search rules)
