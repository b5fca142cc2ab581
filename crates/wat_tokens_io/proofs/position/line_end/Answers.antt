use Rattle.std.proofs.lemmas.List.{take_rest}
use Rattle.wat_tokens_io.proofs.PositionLaws.{found_feed, found_none}
use Rattle.wat_tokens_io.proofs.position.line_end.Goals as goal

pub returns-in-Some : goal.returns-in-Some
returns-in-Some c =
    let rest = take_rest c.args.text.now c.args.start in
    found_feed c.args.text.now c.args.start c.in-Some.len c.requires (rw rest at c.in-Some.ensures.0) (rw rest at c.in-Some.ensures.1)

pub returns-in-None : goal.returns-in-None
returns-in-None c =
    let rest = take_rest c.args.text.now c.args.start in
    found_none c.args.text.now c.args.start c.requires (rw rest at c.in-None.ensures)
