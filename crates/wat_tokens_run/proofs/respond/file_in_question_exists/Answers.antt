use Rattle.std.specs.Option.{option_map}
use Rattle.std.proofs.Common.{ap, sym, ◌∙◌}
use Rattle.wat_tokens_args.specs.Options.{file_in_question}
use Rattle.wat_tokens_run.proofs.RespondLaws.{in_question}
use Rattle.wat_tokens_run.proofs.respond.file_in_question_exists.Goals as goal

pub returns-in-Some-clause-not_meant : goal.returns-in-Some-clause-not_meant
returns-in-Some-clause-not_meant g c =
    in_question (g.I.Inputs.there c.args.inputs.now) (file_in_question c.args.words.now) c.in-Some.word c.is_there.result (ap (option_map (λ b. b.now)) (sym c.in-Some.is) ∙ c.file_in_question.ensures) c.is_there.ensures
