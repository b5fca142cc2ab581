use Rattle.std.proofs.Common.{◌∙◌, ◌++◌, ap, take, refl, arith}
use Rattle.wat_tokens_io.specs.Lines.{line}
use Rattle.wat_tokens_io.proofs.LineLaws.{over_piece}
use Rattle.wat_tokens_io.proofs.block.Block.push_line.Goals as goal

pub returns : goal.returns
returns c =
    let used = c.self.inside.used in
    let bytes = c.self.inside.bytes in
    over_piece used c.put_line.result bytes c.put_line.new.room c.put_line.new.room _ (omega (arith, c.self.invariant, c.self.told)) c.put_line.ensures.end refl
    ∙ ap (λ x. take used bytes ++ x) c.put_line.ensures.line ∙ ap (λ x. x ++ line c.args.token.now) c.self.view_is
