use Rattle.std.proofs.Common.{◌∙◌, ap, arith, sym}
use Rattle.wat_lex.specs.errors.Positions.{line_and_column}
use Rattle.wat_tokens_io.proofs.PositionLaws.{along}
use Rattle.wat_tokens_io.proofs.position.Positions.linecol.Goals as goal
use Rattle.wat_tokens_io.proofs.position.Positions.linecol.Goals.{then-self-offset, else-self-offset}

pub returns-clause-place : goal.returns-clause-place
returns-clause-place c =
    let i = c.self.inside in
    let same = ap (λ t. line_and_column t c.args.offset) c.self.view_is in
    elim c.if-self-offset.branch [
      | then-self-offset w ↦ (let l = w.line_from-self-inside in let line = rw w.as_bytes.ensures.value at l.ensures.line in rw w.self-inside-is (sym (along i.text.now l.result.number l.result.start l.result.end c.args.offset line l.ensures.start l.ensures.end) ∙ same))
      | else-self-offset w ↦ rw w.self-inside-is (sym (along i.text.now i.line.number i.line.start i.line.end c.args.offset c.self.invariant.1 (omega (arith, c.if-offset-self.false)) (omega (arith, w.if-self-offset.false))) ∙ same)
    ]
