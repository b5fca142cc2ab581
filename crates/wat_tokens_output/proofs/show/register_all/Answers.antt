use Rattle.std.proofs.Common.{◌∙◌, ap, sym, take, string_bytes}
use Rattle.wat_lexer_parser.specs.names.RegisteredNames.{Names}
use Rattle.wat_lexer_parser.specs.parser.State.{State}
use Rattle.wat_tokens_output.specs.Shows.{with_name, with_names}
use Rattle.wat_tokens_output.proofs.ShownLaws.{with_next}
use Rattle.wat_tokens_output.proofs.show.register_all.Goals as goal

pub loop-name-preserved : goal.loop-name-preserved
loop-name-preserved c =
    let start = c.args.parser.now in
    let named : Names → State = λ n. record start { names = n } in
    let next = with_next start.names c.args.names.now c.loop-name.name-index c.name-item.result c.loop-name-test.true c.name-item.is in
    let registered = rw (c.deref.ensures, c.loop-name.invariant) at c.in_ok-register.ensures.names in
    ◌∙◌ {b = named (with_name (with_names start.names (take c.loop-name.name-index c.args.names.now)) (string_bytes c.name-item.result))} registered (ap named (sym next))
