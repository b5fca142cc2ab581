use Rattle.std.proofs.Common.{◌∙◌}
use Rattle.wat_c.proofs.Checks.{no_memory, with_message}
use Rattle.wat_c.proofs.Compilation.{is_report}
use Rattle.wat_c.proofs.compiling.give_error.Goals as goal

pub returns-in-Some : goal.returns-in-Some
returns-in-Some c = no_memory c.args.text.now c.args.error.now c.args.out.now c.without.result c.without.ensures

pub returns-in-Ok : goal.returns-in-Ok
returns-in-Ok c =
    with_message c.args.text.now c.args.error.now c.args.out.now c.give.new.out c.as_bytes.result.now c.offset.result c.error_length.result c.give.result c.at.result
    (is_report c.alloc_error.result c.args.error.now c.in_default.is c.alloc_error.ensures.1) (c.offset.ensures ∙ c.span.ensures) c.error_length.ensures
    (c.as_bytes.ensures.value ∙ c.in-Ok.ensures) c.give.ensures.known c.give.ensures.left c.at.ensures

pub returns-in-Err : goal.returns-in-Err
returns-in-Err c = no_memory c.args.text.now c.args.error.now c.args.out.now c.without-in-Err.result c.without-in-Err.ensures
