use Rattle.std.proofs.Common.{◌∙◌, ◌++◌, ap, take, refl, arith}
use Rattle.std.specs.Prelude.{codes}
use Rattle.wat_tokens_io.specs.JsonRows.{json_head}
use Rattle.wat_tokens_io.proofs.LineLaws.{over_piece}
use Rattle.wat_tokens_io.proofs.block.Block.push_head.Goals as goal

pub returns : goal.returns
returns c =
    let used = c.self.inside.used in
    let bytes = c.self.inside.bytes in
    over_piece used c.put_head.result bytes c.put_head.new.room c.put_head.new.room _ (omega (arith, c.self.invariant, c.self.told)) c.put_head.ensures.end refl
    ∙ ap (λ x. take used bytes ++ x) c.put_head.ensures.head ∙ ap (λ x. x ++ (json_head c.args.token.now ++ codes "\"")) c.self.view_is
