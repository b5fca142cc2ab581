use Rattle.std.proofs.Common.{arith, subst}
use Rattle.wat_lexer_parser.specs.inside.FirstTokens.{IsSight, IsBlankAt}
use Rattle.wat_lexer_parser.proofs.shown.FirstTokens.{not_passed_most}
use Rattle.wat_lexer_parser.proofs.parser.text_ref.TextRef.next_past.Goals as goal
use Rattle.wat_lexer_parser.proofs.parser.text_ref.TextRef.next_past.Goals.{In-Blank}

blank : (c : In-Blank) → IsBlankAt c.args.self.now c.in-Some.next c.first_at-at.result.0 c.first_at-at.result.1
blank c = subst (λ r. IsSight c.args.self.now c.in-Some.next r c.first_at-at.result.0 c.first_at-at.result.1) c.in-Blank.is c.first_at-at.ensures

pub overflow_add-pos : goal.overflow_add-pos
overflow_add-pos c = let b = blank (goal.at.overflow_add-pos c).In-Blank in record { fits = omega (arith, b.short) }

pub tokens-smaller-in-Blank : goal.tokens-smaller-in-Blank
tokens-smaller-in-Blank c =
    let b = blank (goal.at.tokens-smaller-in-Blank c).In-Blank in
    let w = b.place.within in
    omega (arith, b.on, w, c.in-Some.ensures.on, not_passed_most c.tokens.marked)
