use Rattle.std.proofs.Common.{sym, ◌∙◌, subst, [], length, ◌-◌}
use Rattle.std.specs.Prelude.{None, Some}
use Rattle.std.specs.Str.{chars}
use Rattle.memchr.specs.Find.{IsFirstByte, is_byte}
use Rattle.wat_lex.specs.tokens.Setting.{lenient}
use Rattle.wat_lex.specs.grammar.Strings.{Quoted}
use Rattle.wat_lex.proofs.tokens.ReadableTokens.{prefix_is}
use Rattle.wat_lex.proofs.values.StringValues.{Closing, closing, no_backslash, has_backslash}
use Rattle.wat_lex.proofs.lexer.read.strings.plain.Goals as goal
use Rattle.wat_lex.proofs.lexer.read.strings.plain.Goals.{In-None}

ends : (c : In-None) → Closing c.args.elements.now c.requires.0
ends c =
    let u = c.utf8.elements in
    closing c.args.elements.now c.requires.0 u (no_backslash c.args.elements.now u (subst (λ x. IsFirstByte (is_byte 92) x None) c.as_bytes.ensures.value c.in-None.ensures)) c.requires.1

pub overflow_sub-elements : goal.overflow_sub-elements
overflow_sub-elements c = let e = ends (goal.at.overflow_sub-elements c).In-None in e.range

pub range-requires-clause-end_boundary : goal.range-requires-clause-end_boundary
range-requires-clause-end_boundary c = let e = ends (goal.at.range-requires-clause-end_boundary c).In-None in e.boundary

pub returns-in-Some-clause-none : goal.returns-in-Some-clause-none
returns-in-Some-clause-none c h = has_backslash c.args.elements.now c.in-Some.field-0 c.utf8.elements (subst (λ x. IsFirstByte (is_byte 92) x (Some c.in-Some.field-0)) c.as_bytes.ensures.value c.in-Some.ensures) h

pub returns-in-None-clause-value : goal.returns-in-None-clause-value
returns-in-None-clause-value c =
    let e = ends (goal.at.returns-in-None-clause-value c).In-None in
    subst (λ x. Quoted lenient (chars c.args.elements.now) x []) (sym (prefix_is c.args.elements.now (length c.args.elements.now - 1) c.range.result.now c.range.ensures.value ∙ e.value)) c.requires.1

pub returns-in-None-clause-some : goal.returns-in-None-clause-some
returns-in-None-clause-some c = no_backslash c.args.elements.now c.utf8.elements (subst (λ x. IsFirstByte (is_byte 92) x None) c.as_bytes.ensures.value c.in-None.ensures)
