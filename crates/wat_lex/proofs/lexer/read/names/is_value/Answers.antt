use Rattle.wat_lex.specs.inside.StringParts.{part_bytes}
use Rattle.wat_lex.proofs.values.NameParts.{compared}
use Rattle.wat_lex.proofs.lexer.read.names.is_value.Goals as goal

pub loop-part-preserved : goal.loop-part-preserved
loop-part-preserved c =
    let t = c.in-Some.ensures.0 in
    let stripped = c.in-Some-stripped_from in
    (t.utf8, t.quoted, compared _ c.loop-part.rest.now (part_bytes c.in-Some.part) c.in-Some.after.now c.loop-part.left.now stripped.stripped.now c.loop-part.invariant.2 t stripped.ensures)
