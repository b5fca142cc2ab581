use Rattle.std.proofs.Common.{ap, subst, Some, Ok, IfSome}
use Rattle.wat_lexer_parser.specs.inside.Groups.{GroupEnds}
use Rattle.wat_lexer_parser.specs.lemmas.Parts.{is_paren}
use Rattle.wat_lexer_parser.proofs.shown.PassedGroups.{ends_before}
use Rattle.wat_lexer_parser.proofs.parser.text_ref.TextRef.past_annotation.Goals as goal

pub returns-in-Some-clause-ends : goal.returns-in-Some-clause-ends
returns-in-Some-clause-ends c =
    let s = c.args.self.now in
    let k = c.in-Some.ensures in
    let ends = subst (λ p. IfSome c.past_close.result (λ v. GroupEnds s p (Ok (Some v)))) k.next c.past_close.ensures.ends in
    ends_before s c.args.place k.name c.past_close.result k.there (ap is_paren k.kind) ends
