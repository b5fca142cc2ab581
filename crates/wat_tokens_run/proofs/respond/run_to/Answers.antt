use Rattle.std.proofs.Common.{ap, sym, refl, ◌∙◌}
use Rattle.std.specs.Option.{option_map}
use Rattle.wat_tokens_run.proofs.respond.run_to.Goals as goal

pub returns-in-None : goal.returns-in-None
returns-in-None g c =
    let e = sym c.target_file.ensures ∙ ap (option_map (λ b. b.now)) c.in-None.is in
    rw e c.run_all.ensures

pub returns-in-Some : goal.returns-in-Some
returns-in-Some g c =
    let e = sym c.target_file.ensures ∙ ap (option_map (λ b. b.now)) c.in-Some.is in
    rw e ((rw c.first_file.ensures at c.run_into.ensures), refl)
