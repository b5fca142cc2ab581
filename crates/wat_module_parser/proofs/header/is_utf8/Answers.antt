use Rattle.wat_module_parser.proofs.Utf8.{utf8_yes, utf8_no}
use Rattle.wat_module_parser.proofs.header.is_utf8.Goals as goal

pub returns-in-Ok : goal.returns-in-Ok
returns-in-Ok c = utf8_yes c.args.bytes.now c.in-Ok.ensures.cases.1

pub returns-in-Err : goal.returns-in-Err
returns-in-Err c = utf8_no c.args.bytes.now c.in-Err.ensures.cases.0
