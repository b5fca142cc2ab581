use Rattle.std.proofs.Common.{◌-◌, take, drop, ap, ◌∙◌}
use Rattle.std.specs.List.{sum_by}
use Rattle.wat_lex.specs.inside.Utf16Bytes.{byte_units}
use Rattle.wat_lex.proofs.errors.Utf16.{at_start, back, later}
use Rattle.wat_lex.proofs.token.lines.utf16_linecol_by.Goals as goal

pub returns-then-column-eq0 : goal.returns-then-column-eq0
returns-then-column-eq0 c = at_start c.args.text.now c.args.offset c.linecol_by-line.result c.linecol_by-line.ensures c.if-column-eq0.true

pub overflow_sub-offset : goal.overflow_sub-offset
overflow_sub-offset c = back c.args.text.now c.args.offset c.linecol_by-line.result c.linecol_by-line.ensures c.if-column-eq0.false

pub returns : goal.returns
returns c =
    let text = c.args.text.now in
    let offset = c.args.offset in
    let start = offset - c.linecol_by-line.result.1 in
    later text offset c.linecol_by-line.result c.linecol_by-line.ensures c.if-column-eq0.false c.utf8.text c.units.result
    (c.units.ensures.count ∙ ap (λ s. sum_by byte_units (take (offset - start) (drop start s))) c.as_bytes.ensures.value)
