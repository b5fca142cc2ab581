use Rattle.std.proofs.Common.{◌≡◌, ◌<◌, codes, Some, Ok}
use Rattle.wat_lexer_parser.specs.parser.State.{at_place, peek_at}
use Rattle.wat_module_annotations.proofs.Finding.{token_read}
use Rattle.wat_module_annotations.proofs.reading.other_at.Goals as goal

pub returns-clause-value : goal.returns-clause-value
returns-clause-value c =
    let a = at_place c.args.cursor.parser.now c.args.cursor.at in
    let t = c.in-Some.token in
    let seen : peek_at a ≡ Ok (Some (t, c.in-Some.next.at)) = rw c.in-Some.is at c.in_ok-token.ensures.value in
    let on : a.place < c.in-Some.next.at = rw c.in-Some.is at c.in_ok-token.ensures.on in
    token_read (codes "expected a token") a t c.in-Some.next.at c.role_of_kind.result seen (c.role_of_kind.ensures a.source.setting.text t) on
