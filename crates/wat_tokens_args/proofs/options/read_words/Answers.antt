use Rattle.std.proofs.Common.{◌≡◌, true, false, sym, ◌∙◌}
use Rattle.wat_tokens_args.proofs.OptionLaws.{asked_or_nothing}
use Rattle.wat_tokens_args.proofs.options.read_words.Goals as goal

pub returns-clause-asked : goal.returns-clause-asked
returns-clause-asked c =
    asked_or_nothing c.args.words.now c.run_of.result
    (λ h. let d : true ≡ false = sym h ∙ (sym c.wants_help.ensures ∙ c.if-wants_help.false) in cc)
    (λ h. let d : true ≡ false = sym h ∙ (sym c.asks_version.ensures ∙ c.if-asks_version.false) in cc)
    c.in_default.ensures c.run_of.ensures.asked
