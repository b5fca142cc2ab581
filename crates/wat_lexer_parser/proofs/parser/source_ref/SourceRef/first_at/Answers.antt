use Rattle.std.proofs.Common.{◌≡◌, ◌-◌, ◌+◌, arith, rules, subst}
use Rattle.wat_lexer_parser.specs.inside.FirstTokens.{IsSight}
use Rattle.wat_lexer_parser.specs.inside.Next.{IsNext}
use Rattle.wat_lexer_parser.specs.names.RegisteredNames.{no_names}
use Rattle.wat_lexer_parser.specs.places.Source.{Source}
use Rattle.wat_lexer_parser.proofs.parser.source_ref.SourceRef.first_at.Goals as goal

pub overflow_sub-result : goal.overflow_sub-result
overflow_sub-result c =
    let next = c.in-Some.ensures no_names in
    omega (arith, next.on)

pub returns-in-Some : goal.returns-in-Some
returns-in-Some c = λ names.
    let same : c.in-Table.table ≡ c.args.self.now = search rules in
    let next = c.in-Some.ensures names in
    let after : c.in-Some.after ≡ c.in-Some.after - 1 + 1 = omega (arith, next.on) in
    subst (λ q. IsNext c.args.self.now c.args.place names (c.in-Some.token, q)) after (subst (λ (s : Source). IsNext s c.args.place names (c.in-Some.token, c.in-Some.after)) same next)

pub returns-in-Text : goal.returns-in-Text
returns-in-Text c =
    let same : c.in-Text.text ≡ c.args.self.now = search rules in
    let r = c.first_at.result in
    subst (λ (s : Source). IsSight s c.args.place r.2 r.0 r.1) same c.first_at.ensures
