use Rattle.std.proofs.Common.{◌≡◌, ◌≤◌, false, length, take, arith, ap, sym, ◌∙◌}
use Rattle.std.proofs.lemmas.List.{length-take}
use Rattle.std.specs.Prelude.{if◌then◌else◌}
use Rattle.std.specs.Str.{chars}
use lib.Utf8.{encodes}
use Rattle.unicode_width.specs.Width.{str_width}
use Rattle.wat_lex.specs.errors.Rendering.{rendered_line}
use Rattle.wat_lex.proofs.errors.ShownBytes.{truncate_on_error, first_chars}
use Rattle.wat_lex.proofs.errors.Widths.{str_width_le}
use Rattle.wat_lex.proofs.error.shown.columns_by_character.Goals as goal
use Rattle.wat_lex.proofs.error.shown.columns_by_character.Goals.{After-char_iter_width}

in_bytes : (c : After-char_iter_width) → length (encodes c.in-Some.shown) ≤ c.args.bytes
in_bytes c = omega (arith, ap length c.in-Some.ensures.1, length-take c.args.bytes (rendered_line c.args.line.now))

measured : (c : After-char_iter_width) → c.char_iter_width.result ≡ str_width false c.in-Some.shown
measured c =
    let ran = c.char_iter_width.ensures.1.1 in
    let taken = truncate_on_error c.in-Some.shown c.char_iter_width.ensures.0 ran.0 ran.1 ran.2.0 in
    c.char_iter_width.ensures.2 (omega (arith, taken.1, in_bytes c, c.requires)) ∙ ap (str_width false) (sym taken.0)

pub returns-in-Some-clause-columns : goal.returns-in-Some-clause-columns
returns-in-Some-clause-columns c =
    measured c ∙ ap (str_width false) (first_chars c.args.line.now c.in-Some.shown c.args.bytes c.utf8.line c.in-Some.ensures.0 c.in-Some.ensures.1)
    ∙ sym (ap (λ b. if b then str_width false (chars (take c.args.bytes (rendered_line c.args.line.now))) else c.args.bytes) c.in-Some.ensures.0)

pub returns-in-Some-clause-bound : goal.returns-in-Some-clause-bound
returns-in-Some-clause-bound c = omega (arith, measured c, str_width_le c.in-Some.shown, in_bytes c)
