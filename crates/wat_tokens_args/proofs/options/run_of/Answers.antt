use Rattle.std.proofs.Common.{sym, subst}
use Rattle.wat_tokens_args.specs.Options.{AsksTask, all_args, validates, wants_json, wants_names}
use Rattle.wat_tokens_args.proofs.options.run_of.Goals as goal

pub returns-in_default-2-clause-asked : goal.returns-in_default-2-clause-asked
returns-in_default-2-clause-asked c = λ s t o files h.
    let none = rw c.in_default-2.is at c.in_ok-task.ensures.asked in
    (rw (c.wants_json-json.ensures, c.module_options-options.ensures.names, c.module_options-options.ensures.checked) at none) t
    (subst (λ p. AsksTask p.verb (wants_json (all_args p)) (wants_names (all_args p)) (validates (all_args p)) p.own t) (sym c.requires.line) h.asked)
