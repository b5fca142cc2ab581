use Rattle.std.proofs.Common.{ap, ◌∙◌}
use Rattle.std.specs.Prelude.{unwrap_or, slice_get, []}
use Rattle.std.specs.Str.Lines.{lines}
use Rattle.wat_lex.proofs.errors.Lines.{column_within, start_boundary, line_here}
use Rattle.wat_lex.proofs.error.text.line_at.Goals as goal

pub overflow_sub-offset : goal.overflow_sub-offset
overflow_sub-offset c = column_within c.args.text.now c.args.offset c.args.column c.if-offset-text.false c.requires

pub range_from-requires : goal.range_from-requires
range_from-requires c = λ _. start_boundary c.args.text.now c.args.offset c.args.column c.if-offset-text.false c.requires c.utf8.text

pub returns : goal.returns
returns c =
    c.first_line.ensures ∙ ap (λ t. unwrap_or (slice_get (lines t) 0) []) c.range_from.ensures.value
    ∙ line_here c.args.text.now c.args.offset c.args.column c.if-offset-text.false c.requires
