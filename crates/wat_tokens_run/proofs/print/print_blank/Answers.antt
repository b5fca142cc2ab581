use Rattle.std.proofs.Common.{Some}
use Rattle.wat_tokens_output.specs.Blanks.{Blanks}
use Rattle.wat_tokens_run.proofs.PrintLaws.{blanks_faulty, writes_ok}
use Rattle.wat_tokens_run.proofs.print.print_blank.Goals as goal

pub returns-in-Some-clause-printed : goal.returns-in-Some-clause-printed
returns-in-Some-clause-printed g c =
    let reports = rw (c.with_settings-lexer.ensures.setting, c.in-Some.is) at c.in_ok-error.ensures.error in
    writes_ok g.W.Sink.held g.W.Sink.failure (Blanks c.args.settings c.args.text.now) _ _ (Some c.in-Some.error) (blanks_faulty c.args.settings c.args.text.now c.in-Some.error _ c.utf8.text c.requires.text reports) c.requires.output
