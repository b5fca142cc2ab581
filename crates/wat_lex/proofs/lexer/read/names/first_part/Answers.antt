use Rattle.std.proofs.Common.{[], ◌∷◌, arith, sym, subst}
use Rattle.std.specs.Prelude.{None, Some}
use Rattle.memchr.specs.Find.{IsFirstByte, is_byte}
use Rattle.wat_lex.specs.inside.StringParts.{Taken}
use Rattle.wat_lex.specs.inside.ScannedStrings.{escape_bytes}
use Rattle.wat_lex.proofs.values.StringValues.{closing, no_backslash}
use Rattle.wat_lex.proofs.values.NameParts.{element_taken, plain_to_escape, plain_to_quote}
use Rattle.wat_lex.proofs.lexer.read.names.first_part.Goals as goal
use Rattle.wat_lex.proofs.lexer.read.names.first_part.Goals.{In-None}

pub returns-in-Some : goal.returns-in-Some
returns-in-Some c = (element_taken c.args.elements.now c.in-Some.after.now (c.in-Some.byte ∷ []) c.utf8.elements c.requires c.in-Some.ensures.element c.in-Some.ensures.utf8 c.in-Some.ensures.shorter, tt)

pub text_part-requires : goal.text_part-requires
text_part-requires c =
    plain_to_escape c.args.elements.now c.in-Some-memchr.before c.utf8.elements c.requires
    (subst (λ x. IsFirstByte (is_byte 92) x (Some c.in-Some-memchr.before)) c.as_bytes.ensures.value c.in-Some-memchr.ensures) (omega arith)

none : (c : In-None) → IsFirstByte (is_byte 92) c.args.elements.now None
none c = subst (λ x. IsFirstByte (is_byte 92) x None) c.as_bytes.ensures.value c.in-None.ensures

pub overflow_sub-elements : goal.overflow_sub-elements
overflow_sub-elements c =
    let u = c.utf8.elements in
    let e = closing c.args.elements.now c.requires.0 u (no_backslash c.args.elements.now u (none (goal.at.overflow_sub-elements c).In-None)) c.requires.1 in
    e.range

pub text_part-requires-in-None : goal.text_part-requires-in-None
text_part-requires-in-None c = plain_to_quote c.args.elements.now c.utf8.elements c.requires (none (goal.at.text_part-requires-in-None c).In-None)

pub returns-in-Some-eq0 : goal.returns-in-Some-eq0
returns-in-Some-eq0 c = (
  subst (λ x. Taken c.args.elements.now x c.first_escape-read.result.1.now) (sym c.escaped.ensures.bytes)
      (element_taken c.args.elements.now c.first_escape-read.result.1.now (escape_bytes c.first_escape-read.result.0) c.utf8.elements c.requires c.first_escape-read.ensures.element c.first_escape-read.ensures.utf8 c.first_escape-read.ensures.shorter),
  c.escaped.ensures.whole,
)
