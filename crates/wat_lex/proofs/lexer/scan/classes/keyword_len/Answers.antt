use Rattle.std.proofs.Common.{ap, ◌∙◌, arith}
use Rattle.wat_lex.specs.grammar.Classes.{is_idchar}
use Rattle.wat_lex.specs.inside.Blocks.{failures}
use Rattle.wat_lex.proofs.inside.Blocks.{ends_at}
use Rattle.wat_lex.proofs.lexer.scan.classes.keyword_len.Goals as goal

pub returns-then-others-ne0 : goal.returns-then-others-ne0
returns-then-others-ne0 c =
    let others = c.other_than_idchars-others.ensures ∙ ap (failures is_idchar) c.block_at.ensures in
    omega (arith, ends_at is_idchar c.args.text.now 0 16 _ others (omega arith) (omega arith) c.if-others-ne0.true)
