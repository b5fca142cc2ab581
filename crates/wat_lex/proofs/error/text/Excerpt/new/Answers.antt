use Rattle.std.proofs.Common.{refl, ap, sym, ◌∙◌}
use Rattle.std.specs.Prelude.{unwrap_or, slice_get, []}
use Rattle.std.specs.Str.Lines.{lines}
use Rattle.wat_lex.specs.errors.Positions.{line_and_column}
use Rattle.wat_lex.proofs.errors.Rendering.{excerpt_made}
use Rattle.wat_lex.proofs.error.text.Excerpt.new.Goals as goal

pub returns : goal.returns
returns c =
    let text = c.args.contents.now in
    excerpt_made text c.args.span c.linecol_in-line.result c.line_at-source.result.now _ c.columns-column.result c.linecol_in-line.ensures.place
    (c.line_at-source.ensures ∙ ap (λ o. unwrap_or (slice_get (lines text) (line_and_column text o).0) []) c.offset.ensures ∙ ap (λ p. unwrap_or (slice_get (lines text) p.0) []) (sym c.linecol_in-line.ensures.place))
    refl c.columns-column.ensures.columns
