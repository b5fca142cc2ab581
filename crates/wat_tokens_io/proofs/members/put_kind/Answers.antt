use Rattle.std.proofs.Common.{◌++◌, ◌∙◌, ap, arith, length, take}
use Rattle.wat_tokens_io.proofs.LineLaws.{over_piece}
use Rattle.wat_tokens_io.proofs.members.put_kind.Goals as goal

pub returns-clause-put : goal.returns-clause-put
returns-clause-put c =
    let wide = c.requires.wide in
    let count = c.padded_kind-count.result.1 in
    let piece = c.as_bytes.result.now in
    over_piece c.args.at count c.args.room.now c.copy_from_slice.new.self piece _ (omega (arith, wide)) (omega (arith, c.padded_kind-count.ensures.short, c.padded_kind-count.ensures.piece, ap length c.as_bytes.ensures.value)) c.copy_from_slice.ensures.after
    ∙ ap (λ x. take c.args.at c.args.room.now ++ take count x) c.as_bytes.ensures.value ∙ ap (λ x. take c.args.at c.args.room.now ++ x) c.padded_kind-count.ensures.text
