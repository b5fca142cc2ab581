use Rattle.wat_tokens_args.specs.Options.{file_names}
use Rattle.wat_tokens_run.specs.Outcomes.{exit_code}
use Rattle.wat_tokens_run.proofs.RespondLaws.{none_laid, one_more_laid, all_laid}
use Rattle.wat_tokens_run.proofs.respond.run_fmt_each.Goals as goal

pub loop-file-init : goal.loop-file-init
loop-file-init g c = rw c.idle-worst.ensures (none_laid _ (file_names c.args.files) c.args.inputs.now)

pub loop-file-preserved : goal.loop-file-preserved
loop-file-preserved g c =
    one_more_laid _ (file_names c.args.files) _ _ c.in-Some.file.now _ _ _ (exit_code c.loop-file.worst) _ (exit_code c.lay_out.result) c.in-Some.ensures c.loop-file.invariant c.lay_out.ensures c.or-worst.ensures

pub returns : goal.returns
returns g c = all_laid _ (file_names c.args.files) _ _ _ (exit_code c.loop-file.worst) c.loop-file.invariant c.in_default.ensures
