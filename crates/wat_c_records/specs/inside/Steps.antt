-- The steps of a peek into rows, one for each row at which it arrives. They are not part of the standard.
use Rattle.std.specs.Prelude.{◌≡◌, ◌<◌, ◌+◌, ℕ, Ok, Err, if◌then◌else◌, ◌==◌}
use Rattle.wat_lexer_parser.specs.names.RegisteredNames.{Names}
use Rattle.wat_lexer_parser.specs.places.Source.{Source}
use Rattle.wat_c_records.specs.Looks.{Looks, shown_after}
use Rattle.wat_c_records.specs.inside.Naming.{IsWithin, reason_in_group}
use Rattle.wat_c_records.specs.declared.counting.Row.{Row}
use Rattle.wat_c_records.specs.declared.looks.NameMeaning.{NameMeaning}
use Rattle.wat_c_records.specs.declared.looks.NameMeaning.TheVariants as named
use Rattle.wat_c_records.specs.declared.looks.Step.{Step}
use Rattle.wat_c_records.specs.declared.looks.Step.TheVariants as step
use Rattle.wat_c_records.specs.declared.answers.NotVisible.TheVariants as unseen

-- `step_by number row why meaning` is the step at a `(` followed immediately by `@`, the row of this index, if the name
-- after it has this classification.
abbrev pub step_by : ℕ → Row → ℕ → NameMeaning → Step
step_by number row why named.Registered = step.Answer (Ok number)
step_by number row why named.Misnamed = step.Answer (Err (unseen.Misnamed (number + 1)))
step_by number row why (named.Memory refused) = step.Answer (Err (unseen.Memory refused))
step_by number row why named.Other = if row.link == 0 then step.Answer (Err (reason_in_group why number)) else step.Skip row.link

-- `Steps s number names step`: the step returns the result of a peek from this index, or continues at an index from
-- which the same token is visible.
abbrev pub Steps : Source → ℕ → Names → Step → Type 0
Steps s number names (step.Answer answer) = Looks s number names answer
Steps s number names (step.Skip next) = shown_after s number names ≡ shown_after s next names

-- `IsStepWithin rows number step`: the step returns an index less than the number of rows, or continues from such an
-- index at a greater one.
abbrev pub IsStepWithin : ℕ → ℕ → Step → Type 0
IsStepWithin rows number (step.Answer answer) = IsWithin rows answer
IsStepWithin rows number (step.Skip next) = (number < rows) × (number < next)
