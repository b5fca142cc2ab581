use Rattle.std.proofs.Common.{subst}
use Rattle.std.specs.Str.{chars, NonePass}
use Rattle.wat_lex.specs.grammar.Classes.{is_confusing}
use Rattle.wat_lex.specs.inside.ScannedLexemes.{FirstConfusing}
use Rattle.wat_lex.proofs.tokens.ReadableTokens.{prefix_is}
use Rattle.wat_lex.proofs.inside.CheckedComments.{boundary_at, found_allowed, found_clear, found_confusing}
use Rattle.wat_lex.proofs.lexer.scan.comments.checked.Goals as goal

pub range-requires-clause-end_boundary : goal.range-requires-clause-end_boundary
range-requires-clause-end_boundary c = boundary_at _ _ _ c.utf8.text c.requires.found

pub returns-then-flags-clause-ok : goal.returns-then-flags-clause-ok
returns-then-flags-clause-ok c = found_allowed _ _ c.args.comment c.if-flags.true c.requires.found

pub returns-in-None-clause-ok : goal.returns-in-None-clause-ok
returns-in-None-clause-ok c = found_clear _ _ c.args.comment c.utf8.text c.requires.comment c.requires.found (subst (λ x. NonePass is_confusing (chars x)) (prefix_is c.args.text.now c.args.comment.len c.range.result.now c.range.ensures.value) c.in-None.ensures)

pub returns-in-Some-clause-err : goal.returns-in-Some-clause-err
returns-in-Some-clause-err c = found_confusing _ _ c.args.comment _ _ c.if-flags.false c.utf8.text c.requires.comment c.requires.found (subst (λ x. FirstConfusing x c.in-Some.offset c.in-Some.c) (prefix_is c.args.text.now c.args.comment.len c.range.result.now c.range.ensures.value) c.in-Some.ensures)
