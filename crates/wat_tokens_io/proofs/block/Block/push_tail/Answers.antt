use Rattle.std.proofs.Common.{◌∙◌, ◌++◌, ap, take, refl, arith}
use Rattle.std.specs.Prelude.{codes}
use Rattle.wat_tokens_io.specs.JsonRows.{json_tail}
use Rattle.wat_tokens_io.proofs.LineLaws.{over_piece}
use Rattle.wat_tokens_io.proofs.block.Block.push_tail.Goals as goal

pub returns : goal.returns
returns c =
    let used = c.self.inside.used in
    let bytes = c.self.inside.bytes in
    over_piece used c.put_tail.result bytes c.put_tail.new.room c.put_tail.new.room _ (omega (arith, c.self.invariant, c.self.told)) c.put_tail.ensures.end refl
    ∙ ap (λ x. take used bytes ++ x) c.put_tail.ensures.after ∙ ap (λ x. x ++ (codes "\"" ++ json_tail (c.args.line, c.args.column))) c.self.view_is
