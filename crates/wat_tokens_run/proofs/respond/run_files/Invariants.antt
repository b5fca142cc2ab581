use Rattle.std.proofs.Common.{length}
use Rattle.std.specs.Prelude.{nat_lt}
use Rattle.wat_tokens_args.specs.Options.{file_names}
use Rattle.wat_tokens_run.specs.Outcomes.{exit_code}
use Rattle.wat_tokens_run.specs.Responses.{RanFileOf}
use Rattle.wat_tokens_run.proofs.RespondLaws.{RanSoFar}
use Rattle.wat_tokens_run.proofs.respond.run_files.Given as goal

abbrev pub invariant-loop-left : goal.invariant-loop-left
invariant-loop-left g l = RanSoFar (λ begun file before after. RanFileOf g.I.Inputs.opened g.I.Inputs.found g.I.Input.Source.left g.I.Input.Source.failure g.I.Input.Source.has_ended g.W.Sink.held g.W.Sink.failure (nat_lt 1 (length (file_names l.fn.files))) begun l.settings l.task file before after) g.W.Sink.failure (file_names l.fn.files) (file_names l.left) l.initial.inputs l.inputs l.initial.output l.output l.begun (exit_code l.worst)

abbrev pub decreases-loop-left : goal.decreases-loop-left
decreases-loop-left g l = length (file_names l.left)
