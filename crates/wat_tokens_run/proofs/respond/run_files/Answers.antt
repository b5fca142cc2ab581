use Rattle.std.proofs.Common.{inl, inr, rules}
use Rattle.wat_tokens_args.specs.Options.{file_names}
use Rattle.wat_tokens_run.specs.Outcomes.{exit_code}
use Rattle.wat_tokens_run.proofs.RespondLaws.{none_ran, one_more_ran, all_ran}
use Rattle.wat_tokens_run.proofs.respond.run_files.Goals as goal

pub loop-left-init : goal.loop-left-init
loop-left-init g c = rw c.idle-worst.ensures (none_ran _ g.W.Sink.failure (file_names c.args.files) c.args.inputs.now c.args.output.now)

pub loop-left-preserved : goal.loop-left-preserved
loop-left-preserved g c =
    let ran = rw c.are_several-several.ensures at c.run_file-outcome.ensures.ran in
    one_more_ran _ g.W.Sink.failure (file_names c.args.files) _ _ c.in-Some.file.now _ _ _ _ _ _ c.run_file-outcome.result c.loop-left.begun _ (exit_code c.loop-left.worst) _ (exit_code c.reported.result) c.in-Some.ensures c.loop-left.invariant (search rules) (c.run_file-outcome.ensures.opened, ran) (search rules) c.reported.ensures c.or-worst.ensures

pub loop-left-preserved-in-Some : goal.loop-left-preserved-in-Some
loop-left-preserved-in-Some g c =
    let ran = rw c.are_several-several.ensures at c.run_file-outcome.ensures.ran in
    one_more_ran _ g.W.Sink.failure (file_names c.args.files) _ _ c.in-Some.file.now _ _ _ _ _ _ c.run_file-outcome.result c.loop-left.begun _ (exit_code c.loop-left.worst) _ (exit_code c.reported.result) c.in-Some.ensures c.loop-left.invariant (search rules) (c.run_file-outcome.ensures.opened, ran) (search rules) c.reported.ensures c.or-worst.ensures

pub loop-left-preserved-in-Some-2 : goal.loop-left-preserved-in-Some-2
loop-left-preserved-in-Some-2 g c =
    let ran = rw c.are_several-several.ensures at c.run_file-outcome.ensures.ran in
    one_more_ran _ g.W.Sink.failure (file_names c.args.files) _ _ c.in-Some.file.now _ _ _ _ _ _ c.run_file-outcome.result c.loop-left.begun _ (exit_code c.loop-left.worst) _ (exit_code c.reported.result) c.in-Some.ensures c.loop-left.invariant (search rules) (c.run_file-outcome.ensures.opened, ran) (search rules) c.reported.ensures c.or-worst.ensures

pub loop-left-preserved-in-Some-3 : goal.loop-left-preserved-in-Some-3
loop-left-preserved-in-Some-3 g c =
    let ran = rw c.are_several-several.ensures at c.run_file-outcome.ensures.ran in
    one_more_ran _ g.W.Sink.failure (file_names c.args.files) _ _ c.in-Some.file.now _ _ _ _ _ _ c.run_file-outcome.result c.loop-left.begun _ (exit_code c.loop-left.worst) _ (exit_code c.reported.result) c.in-Some.ensures c.loop-left.invariant (search rules) (c.run_file-outcome.ensures.opened, ran) (search rules) c.reported.ensures c.or-worst.ensures

pub returns-in_default : goal.returns-in_default
returns-in_default g c = all_ran _ g.W.Sink.failure (file_names c.args.files) _ _ _ _ _ c.loop-left.begun (exit_code c.loop-left.worst) c.loop-left.invariant (inl c.in_default.ensures)

pub returns : goal.returns
returns g c = all_ran _ g.W.Sink.failure (file_names c.args.files) _ _ _ _ _ c.loop-left.begun (exit_code c.loop-left.worst) c.loop-left.invariant (inr (search rules))
