use Rattle.std.proofs.Common.{length}
use Rattle.wat_tokens_args.specs.Options.{file_names}
use Rattle.wat_tokens_run.specs.Outcomes.{exit_code}
use Rattle.wat_tokens_run.proofs.RespondLaws.{FormatsSoFar}
use Rattle.wat_tokens_run.proofs.respond.run_fmt_each.Given as goal

abbrev pub invariant-loop-file : goal.invariant-loop-file
invariant-loop-file g l = FormatsSoFar (λ file before after status. g.I.Inputs.laid_out before l.settings l.mode file after status) (file_names l.fn.files) (file_names l.left) l.initial.inputs l.inputs (exit_code l.worst)

abbrev pub decreases-loop-file : goal.decreases-loop-file
decreases-loop-file g l = length (file_names l.left)
