use Rattle.std.proofs.Common.{◌≡◌, ◌+◌, ◌++◌, [], drop, length, arith, length-append, refl, subst, sym}
use Rattle.wat_lex.specs.errors.Rendering.{excerpt, rendered_location}
use Rattle.wat_c.specs.Answers.{Answers}
use Rattle.wat_c.specs.Printing.{Prints}
use Rattle.wat_lex.specs.lemmas.Lengths.{length_excerpt}
use Rattle.wat_c.proofs.PrintedErrors.{fits_put, short_put}
use Rattle.wat_c.proofs.printing.give_long.Goals as goal

pub overflow_add-needed : goal.overflow_add-needed
overflow_add-needed c = omega (arith, c.requires.short, c.location_length.ensures, length_excerpt c.args.text.now c.args.offset)

pub returns-then-needed-out : goal.returns-then-needed-out
returns-then-needed-out c =
    let m = c.args.message.now in
    let place = rendered_location (excerpt c.args.text.now c.args.offset) in
    let n : length m + c.location_length.result ≡ length (m ++ place) = omega (arith, c.location_length.ensures, length-append m place) in
    subst (Answers (Prints c.args.text.now c.args.offset m []) c.args.out.now (c.write_long.new.out ++ drop (length m + c.location_length.result) c.args.out.now)) (sym c.of_len-answer.ensures)
    (fits_put c.args.text.now c.args.offset m [] c.args.out.now c.write_long.new.out (length m + c.location_length.result) refl n c.write_long.ensures c.if-needed-out.true)

pub returns-else-needed-out : goal.returns-else-needed-out
returns-else-needed-out c =
    let m = c.args.message.now in
    let place = rendered_location (excerpt c.args.text.now c.args.offset) in
    let n : length m + c.location_length.result ≡ length (m ++ place) = omega (arith, c.location_length.ensures, length-append m place) in
    subst (Answers (Prints c.args.text.now c.args.offset m []) c.args.out.now c.args.out.now) (sym c.of_len-answer.ensures)
    (short_put c.args.text.now c.args.offset m [] c.args.out.now (length m + c.location_length.result) n c.if-needed-out.false)
