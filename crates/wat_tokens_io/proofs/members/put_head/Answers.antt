use Rattle.std.proofs.Common.{◌≡◌, ◌++◌, ◌∙◌, ap, take}
use Rattle.std.specs.Prelude.{codes}
use Rattle.std.specs.Fmt.{decimal}
use Rattle.wat_tokens_io.specs.Lines.{kind_name}
use Rattle.wat_tokens_io.proofs.JsonLaws.{kind_at}
use Rattle.wat_tokens_io.proofs.members.put_head.Goals as goal

pub returns-clause-head : goal.returns-clause-head
returns-clause-head c =
    let t = c.args.token.now in
    let first = codes "\"offset\":" ++ decimal t.offset in
    let offset : take c.put_in-name.result c.put_in-name.new.room ≡ first = c.put_in-name.ensures.put ∙ ap (λ x. x ++ decimal c.move_to.new.self) c.put_piece-offset.ensures.put ∙ ap (λ n. codes "\"offset\":" ++ decimal n) c.move_to.ensures in
    let name = c.put_piece-length.ensures.put ∙ ap (λ x. x ++ codes ",\"length\":") offset in
    let length = c.put_number-kind.ensures.put ∙ ap (λ x. x ++ decimal t.len) name in
    c.put_kind.ensures.put ∙ ap (λ x. x ++ (codes ",\"kind\":\"" ++ kind_name t.kind ++ codes "\",\"text\":\"")) length ∙ kind_at t.kind (first ++ codes ",\"length\":" ++ decimal t.len)
