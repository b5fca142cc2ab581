use Rattle.std.proofs.Common.{◌+◌, ◌++◌, ◌∙◌, ap, codes}
use Rattle.std.specs.Fmt.{decimal}
use Rattle.wat_tokens_io.proofs.members.put_tail.Goals as goal

pub returns-clause-after : goal.returns-clause-after
returns-clause-after c =
    let line = c.put_in-name.ensures.put ∙ ap (λ x. x ++ decimal c.move_to.new.self) c.put_piece-first.ensures.put ∙ ap (λ n. codes "\",\"line\":" ++ decimal n) c.move_to.ensures in
    let name = c.put_piece-second.ensures.put ∙ ap (λ x. x ++ codes ",\"column\":") line in
    let column = c.put_number-end.ensures.put ∙ ap (λ x. x ++ decimal (c.args.column + 1)) name in
    c.put_piece.ensures.put ∙ ap (λ x. x ++ codes "}\n") column
