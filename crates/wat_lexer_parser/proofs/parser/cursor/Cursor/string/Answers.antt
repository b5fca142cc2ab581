use Rattle.std.proofs.Common.{◌≡◌, ◌∙◌, None, Some, Ok, Err, true, false, rules, subst, sym}
use Rattle.wat_lex.specs.grammar.Classes.{backslash}
use Rattle.wat_lex.specs.tokens.ReadableTokens.{word_of}
use Rattle.wat_lex.specs.values.Names.{HasNone}
use Rattle.wat_lexer_parser.specs.parser.State.{at_place, peek_at}
use Rattle.wat_lexer_parser.specs.parser.Takers.{allocates_at, token_value_at, as_string}
use Rattle.wat_lexer_parser.proofs.parser.Escapes.{contained, may_take_string, wanting}
use Rattle.wat_lexer_parser.proofs.parser.cursor.Cursor.string.Goals as goal

pub returns-in_err-value-in-String-clause-value : goal.returns-in_err-value-in-String-clause-value
returns-in_err-value-in-String-clause-value c =
    let a = c.args.self.parser.now in
    let p = c.args.self.at in
    let t = c.in-Some.token in
    let none : c.from_residual-in_err-value-in-String.result ≡ Err None = search rules in
    let e : peek_at (at_place a p) ≡ Ok (Some (t, c.in-Some.at)) = search rules in
    let f : allocates_at as_string (at_place a p) ≡ true = may_take_string a p c.in-Some.at t e (search rules) ∙ contained backslash (word_of a.source.setting.text t) (λ h. let g : false ≡ true = c.in_err-value-in-String.ensures.free (subst (λ x. HasNone backslash (word_of x t)) (sym c.text.ensures) h) in cc) in
    wanting (allocates_at as_string (at_place a p)) _ (token_value_at as_string (at_place a p)) c.from_residual-in_err-value-in-String.result none f
