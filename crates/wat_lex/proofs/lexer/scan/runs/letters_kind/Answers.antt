use Rattle.std.proofs.Common.{◌∙◌}
use Rattle.wat_lex.proofs.inside.Starts.{keyword_of_three}
use Rattle.wat_lex.proofs.lexer.scan.runs.letters_kind.Goals as goal

pub returns-then-third-ne110 : goal.returns-then-third-ne110
returns-then-third-ne110 c =
    keyword_of_three c.args.text.now c.args.len c.requires.some c.requires.letter.0 c.requires.letter.1
    (λ e. c.if-third-ne102.true (c.byte_at-third.ensures ∙ e))
    (λ e. c.if-third-ne110.true (c.byte_at-third.ensures ∙ e))
