use Rattle.std.proofs.Common.{◌≡◌, ◌≤◌, rules, subst, sym, Some}
use Rattle.std.specs.Prelude.{slice_get}
use Rattle.wat_lex.specs.tokens.ReadableTokens.{IsTokenOf}
use Rattle.wat_lexer_parser.specs.inside.Next.{IsPlace}
use Rattle.wat_lexer_parser.proofs.shown.FirstTokens.{sighted}
use Rattle.wat_lexer_parser.proofs.parser.text_ref.TextRef.first_at.Goals as goal

pub returns-in-Some : goal.returns-in-Some
returns-in-Some c =
    let s = c.args.self.now in
    let i = c.past_whitespace-at.result.0 in
    let t = c.in-Some.token in
    let there : slice_get s.tokens i ≡ Some t = search rules in
    let reader : IsTokenOf s.setting.text t = search rules in
    let on : c.args.place ≤ i = search rules in
    let at : t.offset ≡ c.past_whitespace-at.result.1 = search rules in
    let here : IsPlace s i t.offset = subst (IsPlace s i) (sym at) c.past_whitespace-at.ensures.place in
    sighted s c.args.place i t c.sight.result on c.past_whitespace-at.ensures.same here there reader (search rules) c.sight.ensures
