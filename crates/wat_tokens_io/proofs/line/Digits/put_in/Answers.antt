use Rattle.std.proofs.Common.{◌++◌, ◌∙◌, ap, arith, take}
use Rattle.std.proofs.lemmas.List.{take-take}
use Rattle.wat_tokens_io.proofs.line.Digits.put_in.Goals as goal

pub returns-clause-put : goal.returns-clause-put
returns-clause-put c =
    let view = c.args.self.now in
    let front = take c.args.at c.args.room.now in
    let count = c.count.ensures.digits in
    c.put_piece.ensures.put ∙ ap (λ x. front ++ take c.count.result x) c.first_16_bytes.ensures.piece ∙ ap (λ x. front ++ x) (take-take c.count.result 16 view (omega (arith, c.count.ensures.few))) ∙ ap (λ n. front ++ take n view) (omega (arith, count))
