-- The formatted text as C gets it. It is not part of the standard.
use Rattle.std.specs.Prelude.{◌<◌, ◌^◌, ℕ, List, length, Result, Ok, Err}
use Rattle.wat_lex.specs.tokens.Setting.{Setting}
use Rattle.wat_format.specs.Formatting.{Formatted, Refuses}
use Rattle.wat_format.specs.declared.error.Error.{Error}
use Rattle.wat_format.specs.declared.error.Error.TheVariants as error
use Rattle.wat_c.specs.declared.answers.Refusal.{Refusal}
use Rattle.wat_c.specs.declared.answers.Refusal.TheVariants.{Other, Memory, Absent, Fault}

-- The reason for an error of the formatter.
abbrev pub refusal_of : Error → Refusal
refusal_of (error.Memory refused) = Memory refused
refusal_of (error.Fault fault) = Fault fault.error
refusal_of error.TooLong = Other

-- `Formats s found`: what `wat_format` finds for a text: its formatted text, its lexical error, or `Other` if the
-- formatted text has more than 2^32-1 bytes. An allocation failure is possible for every text.
abbrev pub Formats : Setting → Result (List ℕ) Refusal → Type 0
Formats s (Ok bytes) = Formatted s bytes × (length bytes < 2 ^ 32)
Formats s (Err (Fault e)) = (p : ℕ) × Refuses s (error.Fault (record { offset = p; error = e }))
Formats s (Err Other) = Refuses s error.TooLong
Formats s (Err (Memory refused)) = Unit {0}
Formats s (Err Absent) = ⊥
