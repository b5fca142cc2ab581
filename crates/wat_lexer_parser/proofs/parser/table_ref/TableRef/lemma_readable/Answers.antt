use Rattle.std.proofs.Common.{ap, subst, ◌∙◌, ◌≡◌, Some}
use Rattle.std.specs.Prelude.{slice_get}
use Rattle.wat_lex.specs.tokens.ReadableTokens.{IsTokenOf}
use Rattle.wat_lexer_parser.specs.places.Source.{Source}
use Rattle.wat_lexer_parser.proofs.inside.Filling.{readable_at}
use Rattle.wat_lexer_parser.proofs.parser.table_ref.TableRef.lemma_readable.Goals as goal

pub returns-clause-token : goal.returns-clause-token
returns-clause-token c =
    let ts = c.self.inside.table.now.tokens.items in
    let g : slice_get ts c.args.place ≡ Some c.args.token = ap (λ (s : Source). slice_get s.tokens c.args.place) c.self.view_is ∙ c.requires in
    let r = readable_at c.self.inside.text.now ts c.args.place c.args.token c.self.invariant.1.noted.readable g in
    subst (λ (s : Source). IsTokenOf s.setting.text c.args.token) c.self.view_is r.0

pub returns-clause-short : goal.returns-clause-short
returns-clause-short c =
    let ts = c.self.inside.table.now.tokens.items in
    let g : slice_get ts c.args.place ≡ Some c.args.token = ap (λ (s : Source). slice_get s.tokens c.args.place) c.self.view_is ∙ c.requires in
    (readable_at c.self.inside.text.now ts c.args.place c.args.token c.self.invariant.1.noted.readable g).1
