use Rattle.std.proofs.Common.{◌≡◌, ◌<◌, codes, Some, Ok}
use Rattle.wat_lexer_parser.specs.parser.State.{at_place, peek_at}
use Rattle.wat_module_custom.proofs.Finding.{piece_read}
use Rattle.wat_module_custom.proofs.reading.piece_at.Goals as goal

pub returns-clause-value : goal.returns-clause-value
returns-clause-value c =
    let a = at_place c.args.cursor.parser.now c.args.cursor.at in
    let t = c.in-Some.token in
    let seen : peek_at a ≡ Ok (Some (t, c.in-Some.next.at)) = rw c.in-Some.is at c.in_ok-token.ensures.value in
    let on : a.place < c.in-Some.next.at = rw c.in-Some.is at c.in_ok-token.ensures.on in
    piece_read (codes "expected a token") a t c.in-Some.next.at c.piece_of.result seen (c.piece_of.ensures a.source.setting.text t) on
