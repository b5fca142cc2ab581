use Rattle.std.proofs.Common.{[], refl}
use Rattle.wat_wasm.specs.declared.report.Ending.TheVariants.{NotUtf8}
use Rattle.wat_wasm.proofs.wat_page_read.Goals as goal

pub returns-in-Err : goal.returns-in-Err
returns-in-Err c = record {
  count = 0;
  ending = NotUtf8 c.valid_up_to.result;
  rows = record { tokens = []; ends = (rw c.valid_up_to.ensures c.in-Err.ensures.cases.1, refl); rows = refl; count = refl };
  message = c.report.ensures.message;
  report = c.report.ensures.report;
}
