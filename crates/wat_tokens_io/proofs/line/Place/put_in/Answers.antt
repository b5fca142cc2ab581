use Rattle.std.proofs.Common.{◌-◌, ◌++◌, ◌∙◌, ap, length, take}
use Rattle.std.specs.Fmt.{decimal}
use Rattle.wat_tokens_io.proofs.LineLaws.{digits_alone}
use Rattle.wat_tokens_io.proofs.line.Place.put_in.Goals as goal

pub returns-clause-put : goal.returns-clause-put
returns-clause-put c =
    let front = take c.args.at c.args.room.now in
    c.put_in.ensures.put ∙ ap (λ x. front ++ take (length x - 16) x) c.self.invariant ∙ ap (λ x. front ++ x) (digits_alone c.self.inside.offset) ∙ ap (λ n. front ++ decimal n) c.self.view_is
