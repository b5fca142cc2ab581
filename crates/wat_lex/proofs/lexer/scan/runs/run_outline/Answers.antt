use Rattle.std.proofs.Common.{ap, subst, take}
use Rattle.wat_lex.specs.inside.Outlines.{IsShapeOfRun}
use Rattle.wat_lex.proofs.inside.Outlines.{outlined_run}
use Rattle.wat_lex.proofs.lexer.scan.runs.run_outline.Goals as goal

pub returns-in-Ok : goal.returns-in-Ok
returns-in-Ok c =
    let found = c.in-Ok.found in
    outlined_run c.args.flags c.args.text.now found c.run_shape.result c.utf8.text c.requires.some c.requires.run c.in-Ok.ensures.ok
    (subst (λ x. IsShapeOfRun x found.idchars found.strings c.run_shape.result) (ap (take found.len) c.as_bytes.ensures.value) c.run_shape.ensures)
