use Rattle.std.proofs.Common.{◌∙◌, ap, take}
use Rattle.wat_tokens_io.proofs.LineLaws.{line_of}
use Rattle.wat_tokens_io.proofs.line.put_line.Goals as goal

pub returns-clause-line : goal.returns-clause-line
returns-clause-line c =
    let ending = ap (λ x. take c.padded_end-count.result.1 x) c.as_bytes.ensures.value ∙ c.padded_end-count.ensures.text in
    line_of c.args.token.now _ _ _ _ _ _ _ _ c.args.room.now _ _ _ _ _ _ c.move_to.ensures c.move_to-2.ensures
    c.first_16_bytes.ensures.piece c.count.ensures.digits c.count.ensures.few c.first_16_bytes-2.ensures.piece c.count-2.ensures.digits c.count-2.ensures.few ending
    c.put_piece-dots.ensures.put c.put_piece-name.ensures.put c.put_piece.ensures.put
