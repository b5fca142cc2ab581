use Rattle.std.proofs.Common.{◌∙◌, ap, sym}
use Rattle.std.specs.Option.{option_copied}
use Rattle.wat_c.proofs.Checks.{custom_length, lexical_length}
use Rattle.wat_c.proofs.compiling.error_length.Goals as goal

pub returns-in-Some : goal.returns-in-Some
returns-in-Some c = lexical_length c.args.text.now c.args.error.now _ (sym c.lex_error.ensures ∙ ap option_copied c.in-Some.is)

pub returns-in-None : goal.returns-in-None
returns-in-None c =
    custom_length c.args.text.now c.args.error.now c.offset.result c.token_length.result (sym c.lex_error.ensures ∙ ap option_copied c.in-None.is)
    (c.offset.ensures ∙ c.span.ensures) c.token_length.ensures
