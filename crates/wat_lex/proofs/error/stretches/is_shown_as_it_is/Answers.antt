use Rattle.std.proofs.Common.{subst, ap, ◌∙◌, not}
use Rattle.memchr.specs.Find.{IsFirstByte, is_byte}
use Rattle.wat_lex.proofs.errors.Stretches.{shown_itself}
use Rattle.wat_lex.proofs.error.stretches.is_shown_as_it_is.Goals as goal

pub returns-then-is_none : goal.returns-then-is_none
returns-then-is_none c = λ t.
    shown_itself c.args.text.now c.memchr.result c.first_confusing.result c.utf8.text (subst (λ s. IsFirstByte (is_byte 9) s c.memchr.result) c.as_bytes.ensures.value c.memchr.ensures) c.first_confusing.ensures
    (c.is_none.ensures ∙ ap not c.if-is_none.true) (c.is_none-then-is_none.ensures ∙ ap not t)
