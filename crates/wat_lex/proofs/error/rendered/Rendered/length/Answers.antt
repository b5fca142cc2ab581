use Rattle.std.proofs.Common.{◌∙◌, length, arith, ap}
use Rattle.wat_lex.specs.errors.Messages.{message}
use Rattle.wat_lex.specs.errors.Rendering.{rendered_location}
use Rattle.wat_lex.specs.lemmas.Lengths.{length_excerpt}
use Rattle.wat_lex.proofs.errors.Lengths.{length_message}
use Rattle.wat_lex.proofs.error.rendered.Rendered.length.Goals as goal

pub length_of-requires : goal.length_of-requires
length_of-requires c = omega (arith, ap length (c.pieces.ensures ∙ ap (λ v. message v.1.error) c.self.view_is), length_message c.args.self.now.1.error)

pub length_of-requires-2 : goal.length_of-requires-2
length_of-requires-2 c = omega (arith, c.requires, ap length (c.pieces-2.ensures ∙ ap rendered_location c.excerpt.ensures), length_excerpt c.args.self.now.0 c.args.self.now.1.offset)

pub overflow_add-result : goal.overflow_add-result
overflow_add-result c =
    let error = ap length (c.pieces.ensures ∙ ap (λ v. message v.1.error) c.self.view_is) in
    let place = ap length (c.pieces-2.ensures ∙ ap rendered_location c.excerpt.ensures) in
    omega (arith, c.requires, c.length_of.ensures, c.length_of-2.ensures, error, place, length_message c.args.self.now.1.error, length_excerpt c.args.self.now.0 c.args.self.now.1.offset)
