use Rattle.std.proofs.Common.{sym, ap, ◌∙◌}
use Rattle.wat_floats.specs.Literals as literals
use Rattle.wat_floats.specs.Rounding.{format}
use Rattle.wat_floats.proofs.Underscores.{joined_is}
use Rattle.wat_floats.proofs.literal.joined_magnitude.Goals as goal

pub returns-then-not-contains-clause-value : goal.returns-then-not-contains-clause-value
returns-then-not-contains-clause-value c =
    c.magnitude.ensures ∙ ap (literals.magnitude (format c.args.precision)) (sym (joined_is c.args.word.now (sym c.contains.ensures.value ∙ c.if-not-contains.true)))
