use Rattle.std.proofs.Common.{false, refl, ◌∙◌, ap, subst, ◌≡◌}
use Rattle.std.specs.Str.{chars}
use Rattle.unicode_width.specs.Width.{str_width}
use Rattle.wat_lex.specs.errors.Rendering.{rendered_line}
use Rattle.wat_lex.proofs.errors.Stretches.{columns_of_front}
use Rattle.wat_lex.proofs.error.shown.columns.Goals as goal

pub returns-in-Some-clause-columns : goal.returns-in-Some-clause-columns
returns-in-Some-clause-columns c =
    let front = c.in-Some.ensures.front in
    c.width.ensures.value ∙ ap (λ t. str_width false (chars t)) front
    ∙ columns_of_front c.args.line.now c.args.bytes c.utf8.line (c.in-Some.ensures.variant.0 refl) (subst (λ t. rendered_line t ≡ t) front (c.if-is_shown_as_it_is.ensures refl))
