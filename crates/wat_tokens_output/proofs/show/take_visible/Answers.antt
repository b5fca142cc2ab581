use Rattle.std.proofs.Common.{refl}
use Rattle.std.specs.Option.{option_map}
use Rattle.std.specs.Prelude.{Option}
use Rattle.wat_lex.specs.declared.lexer.kinds.Token.{Token}
use Rattle.wat_lexer_parser.specs.declared.parser.cursor.Cursor.{Cursor}
use Rattle.wat_tokens_output.proofs.ShownLaws.{fault_shown, if_err, seen_found}
use Rattle.wat_tokens_output.proofs.show.take_visible.Goals as goal

pub returns-in_err-token-clause-fault : goal.returns-in_err-token-clause-fault
returns-in_err-token-clause-fault c =
    let at = c.args.from in
    if_err c.from_residual.result (fault_shown {T = Option (Token × Cursor)} at.parser.now.source at.parser.now.names at.at (option_map (λ v. (v.0, v.1.at))) c.in_err-token.field-0.0 c.in_err-token.ensures.value)

pub returns-in-Some-clause-taken : goal.returns-in-Some-clause-taken
returns-in-Some-clause-taken c =
    let at = c.args.from in
    let value = rw (c.in_ok-token.was, c.in-Some.is) at c.any.ensures.value in
    let reader = rw (c.in_ok-token.was, c.in-Some.is) at c.any.ensures.reader in
    (seen_found at.parser.now.source at.parser.now.names at.at _ value, reader)

pub returns-in-None-clause-taken : goal.returns-in-None-clause-taken
returns-in-None-clause-taken c =
    let at = c.args.from in
    let value = rw (c.in_ok-token.was, c.in-None.is) at c.any.ensures.value in
    (seen_found at.parser.now.source at.parser.now.names at.at _ value, refl)
