use Rattle.std.proofs.Common.{◌≡◌, ◌∙◌, ap, sym, subst}
use Rattle.wat_lexer_parser.specs.parser.State.{Answers, State}
use Rattle.wat_lexer_parser.specs.readings.Readings.{whole, whole_may_allocate}
use Rattle.wat_lexer_parser.proofs.parser.whole.parse.Goals as goal

pub returns-clause-value : goal.returns-clause-value
returns-clause-value g c = λ s h e t.
    let own : c.parser.result.source ≡ c.args.buffer.now = ap (λ (a : State). a.source) c.parser.ensures.start in
    subst (λ r. Answers (whole_may_allocate g.T.Parse.meaning r) g.T.Parse.value (whole g.T.Parse.meaning r) c.read.result) (own ∙ sym (c.lemma_only.ensures.only s h e t)) c.read.ensures
