use Rattle.std.proofs.Common.{ℕ, [], None, Some}
use Rattle.std.specs.Prelude.{Vec}
use Rattle.std.specs.declared.alloc.Global.{Global}
use Rattle.wat_tokens_run.specs.Compiles.{CompilesValidUnnamed}
use Rattle.wat_tokens_run.proofs.ModuleLaws.{refused_valid}
use Rattle.wat_tokens_run.proofs.PrintLaws.{writes_as}
use Rattle.wat_tokens_run.proofs.print.print_valid_unnamed.Goals as goal

pub returns-in-None-clause-printed : goal.returns-in-None-clause-printed
returns-in-None-clause-printed g c =
    writes_as g.W.Sink.held g.W.Sink.failure (CompilesValidUnnamed c.args.text.now) _ _ [] (Some c.in-Err.report) c.print_text-in-None.result (record {
      utf8 = c.utf8.text;
      short = c.requires.text;
      compiled = refused_valid {T = Vec ℕ Global} c.args.text.now (λ bytes. bytes.items) c.in-Err.report c.alloc_error.result
          c.in-Err.ensures.spelled c.in-Err.ensures.errors c.in-None.is c.alloc_error.ensures.1;
    }) c.print_text-in-None.ensures.printed

pub returns-in-Ok-clause-printed : goal.returns-in-Ok-clause-printed
returns-in-Ok-clause-printed g c = writes_as g.W.Sink.held g.W.Sink.failure (CompilesValidUnnamed c.args.text.now) _ _ c.deref.result.now None c.print_text.result (record {
  utf8 = c.utf8.text;
  short = c.requires.text;
  compiled = rw c.deref.ensures.value (record {
    value = c.in-Ok.ensures.bytes.0;
    spelled = (c.in-Ok.ensures.bytes.1, c.in-Ok.ensures.bytes.2);
    fit = c.in-Ok.ensures.bytes.3;
    bytes = c.in-Ok.ensures.bytes.4;
  });
}) c.print_text.ensures.printed
