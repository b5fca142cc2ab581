use Rattle.std.proofs.Common.{ap, sym, ◌∙◌, append-nil}
use Rattle.std.specs.Prelude.{flat_map}
use Rattle.std.specs.Str.{chars}
use Rattle.std.proofs.lemmas.Str.{chars-encodes, scalars-chars}
use Rattle.wat_lex.specs.errors.Rendering.{rendered_char}
use Rattle.wat_lex.proofs.errors.ShownBytes.{scalars_shown}
use Rattle.wat_lex.proofs.error.shown.Shown.of.Goals as goal

pub returns-clause-characters : goal.returns-clause-characters
returns-clause-characters c =
    append-nil _ ∙ ap (λ t. flat_map rendered_char (chars t)) c.chars.ensures.rest
    ∙ sym (chars-encodes _ (scalars_shown (chars c.args.line.now) (scalars-chars c.args.line.now c.utf8.line)))
