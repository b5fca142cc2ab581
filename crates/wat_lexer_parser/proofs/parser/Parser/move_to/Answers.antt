use Rattle.std.proofs.Common.{arith, subst}
use Rattle.wat_lexer_parser.specs.inside.FirstTokens.{IsSight, IsBlankAt}
use Rattle.wat_lexer_parser.specs.names.RegisteredNames.{no_names}
use Rattle.wat_lexer_parser.proofs.parser.Parser.move_to.Goals as goal
use Rattle.wat_lexer_parser.proofs.parser.Parser.move_to.Goals.{In-Blank}

blank : (c : In-Blank) → IsBlankAt c.self.inside.source c.args.place c.first_at-at.result.0 c.first_at-at.result.1
blank c = subst (λ r. IsSight c.self.inside.source c.args.place r c.first_at-at.result.0 c.first_at-at.result.1) c.in-Blank.is c.first_at-at.ensures

pub overflow_add-at : goal.overflow_add-at
overflow_add-at c =
    let next = subst (λ r. IsSight c.self.inside.source c.args.place r c.first_at-at.result.0 c.first_at-at.result.1) c.in-Plain.is c.first_at-at.ensures no_names in
    let after = next.after.place.within in
    omega (arith, after, c.lemma_read.ensures.small)

pub overflow_add-end : goal.overflow_add-end
overflow_add-end c = let b = blank (goal.at.overflow_add-end c).In-Blank in record { fits = omega (arith, b.short) }
