use Rattle.wat_lex.proofs.errors.PastColumns.{past_none, past_enough, past_one}
use Rattle.wat_lex.proofs.error.shown.Shown.skip_columns.Goals as goal

pub returns-in_default-clause-rest : goal.returns-in_default-clause-rest
returns-in_default-clause-rest c = (past_none c.characters.left c.characters.column c.characters.self c.next.new.self _ c.characters.invariant c.in_default.ensures.steps.0 c.in_default.ensures.steps.1).0

pub returns-in_default-clause-column : goal.returns-in_default-clause-column
returns-in_default-clause-column c = (past_none c.characters.left c.characters.column c.characters.self c.next.new.self _ c.characters.invariant c.in_default.ensures.steps.0 c.in_default.ensures.steps.1).1

pub characters-preserved : goal.characters-preserved
characters-preserved c =
    let more = past_one c.characters.left c.characters.column c.in-Some.c c.next.new.self c.characters.self _ c.characters.invariant c.in-Some.ensures.steps c.characters-test.true in
    rw (c.saturating_sub-left.ensures, c.saturating_sub-column.ensures, c.width_alone-width.ensures) more

pub returns-clause-rest : goal.returns-clause-rest
returns-clause-rest c = (past_enough c.characters.left c.characters.column c.characters.self _ c.characters.invariant c.characters-test.false).0

pub returns-clause-column : goal.returns-clause-column
returns-clause-column c = (past_enough c.characters.left c.characters.column c.characters.self _ c.characters.invariant c.characters-test.false).1
