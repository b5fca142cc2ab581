use Rattle.std.proofs.Common.{refl, sym, ◌∙◌}
use Rattle.wat_tokens_args.specs.Options.{file_names}
use Rattle.wat_tokens_run.specs.Responses.RanAll.{alone}
use Rattle.wat_tokens_run.proofs.RespondLaws.{none_named}
use Rattle.wat_tokens_run.proofs.respond.run_all.Goals as goal

pub returns : goal.returns
returns g c =
    let none = none_named (file_names c.args.files) (sym c.are_none.ensures ∙ c.if-not-are_none.false) in
    rw none (alone c.run_file-outcome.result refl (c.run_file-outcome.ensures.opened, c.run_file-outcome.ensures.ran) c.reported.ensures)
