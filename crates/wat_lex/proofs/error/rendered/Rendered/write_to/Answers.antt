use Rattle.std.proofs.Common.{◌++◌, [], ap, ap₂, ◌∙◌, subst}
use Rattle.wat_lex.specs.errors.Errors.{rendered_fault}
use Rattle.wat_lex.specs.errors.LaidPieces.{Laid}
use Rattle.wat_lex.specs.errors.Messages.{message}
use Rattle.wat_lex.specs.errors.Rendering.{rendered_location}
use Rattle.wat_lex.proofs.errors.Laying.{laid_none}
use Rattle.wat_lex.proofs.error.rendered.Rendered.write_to.Goals as goal
use Rattle.wat_lex.proofs.error.rendered.Rendered.write_to.Goals.{After-write_chunks}

laid : (c : After-write_chunks) → Laid c.args.out.now (rendered_fault c.args.self.now) c.write_chunks.new.out c.write_chunks.result
laid c =
    let error = c.pieces.ensures ∙ ap (λ v. message v.1.error) c.self.view_is in
    let place = c.pieces-2.ensures ∙ ap rendered_location c.excerpt.ensures in
    subst (λ s. Laid c.args.out.now s c.write_chunks.new.out c.write_chunks.result) (ap₂ (λ m p. m ++ p) error place)
    (c.write_chunks.ensures.more c.args.out.now _ (c.write_chunks-at.ensures.more c.args.out.now [] (laid_none c.args.out.now)))

pub returns-clause-bytes : goal.returns-clause-bytes
returns-clause-bytes c = let l = laid ((goal.at.returns-clause-bytes c).After-write_chunks) in l.over

pub returns-clause-count : goal.returns-clause-count
returns-clause-count c = let l = laid ((goal.at.returns-clause-count c).After-write_chunks) in l.place
