use Rattle.std.proofs.Common.{sym}
use Rattle.wat_c.proofs.Compilation.{is_memory, is_report, refusal_memory, refusal_other}
use Rattle.wat_c.proofs.compiling.refusal_of.Goals as goal

pub returns-in-Some : goal.returns-in-Some
returns-in-Some c = sym (refusal_memory c.args.error.now (is_memory c.alloc_error.result c.in-Some.refused c.args.error.now c.in-Some.is c.alloc_error.ensures.0))

pub returns-in-None : goal.returns-in-None
returns-in-None c = sym (refusal_other c.args.error.now (is_report c.alloc_error.result c.args.error.now c.in-None.is c.alloc_error.ensures.1))
