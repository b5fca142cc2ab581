use Rattle.std.proofs.Common.{ℕ, [], None, Some}
use Rattle.std.specs.Prelude.{Vec}
use Rattle.std.specs.declared.alloc.Global.{Global}
use Rattle.wat_tokens_run.specs.Compiles.{CompilesValid}
use Rattle.wat_tokens_run.proofs.ModuleLaws.{refused_valid_complete}
use Rattle.wat_tokens_run.proofs.PrintLaws.{writes_as}
use Rattle.wat_tokens_run.proofs.print.print_valid.Goals as goal

pub returns-in-None-clause-printed : goal.returns-in-None-clause-printed
returns-in-None-clause-printed g c =
    let customs = c.compile_valid.ensures.sections in
    writes_as g.W.Sink.held g.W.Sink.failure (CompilesValid c.args.text.now) _ _ [] (Some c.in-Err.problem) c.print_text-in-None.result (record {
      utf8 = c.utf8.text;
      short = c.requires.text;
      compiled = refused_valid_complete {T = Vec ℕ Global} c.args.text.now (λ bytes. bytes.items) c.in-Err.problem c.alloc_error.result customs.0 customs.1
          c.in-Err.ensures.spelled (c.in-Err.ensures.errors customs.0 customs.1) c.in-None.is c.alloc_error.ensures.1;
    }) c.print_text-in-None.ensures.printed

pub returns-in-Ok-clause-printed : goal.returns-in-Ok-clause-printed
returns-in-Ok-clause-printed g c = writes_as g.W.Sink.held g.W.Sink.failure (CompilesValid c.args.text.now) _ _ c.deref.result.now None c.print_text.result (record {
  utf8 = c.utf8.text;
  short = c.requires.text;
  compiled = rw c.deref.ensures.value (record {
    value = record { label = c.in-Ok.ensures.bytes.0; fields = c.in-Ok.ensures.bytes.1; sections = c.in-Ok.ensures.bytes.2 };
    spelled = (c.in-Ok.ensures.bytes.3, c.in-Ok.ensures.bytes.4);
    fit = c.in-Ok.ensures.bytes.5;
    bytes = c.in-Ok.ensures.bytes.6;
  });
}) c.print_text.ensures.printed
