-- Contracts between private functions: what `wat_compile` and `wat_check` return for an error of the compiler, which is a
-- report or an allocation failure (`None`).
use Rattle.std.specs.Prelude.{◌≡◌, ℕ, List, Option, Some, None, Result, Err, alloc_error}
use Rattle.wat_lex.specs.errors.Errors.{Report}
use Rattle.wat_c.specs.Compiling.{IsErrorOf, TextError, checked_of, left_of_check}
use Rattle.wat_c.specs.declared.answers.Checked.{Checked}
use Rattle.wat_c.specs.declared.answers.Refusal.{Refusal}
use Rattle.wat_c.specs.declared.answers.Refusal.TheVariants.{Other, Memory}

abbrev pub refusal_of : Option Report → Refusal
refusal_of None = Memory alloc_error
refusal_of (Some report) = Other

-- What `wat_check` finds for an error of the compiler.
abbrev pub IsFound : List ℕ → Option Report → Result TextError Refusal → Type 0
IsFound text None found = found ≡ Err (Memory alloc_error)
IsFound text (Some r) found = IsErrorOf text (Err r) found

-- `GivesError text error old new checked`: `checked` reports this error of the compiler, and its message is written to
-- the buffer if it fits.
pub record GivesError (text : List ℕ) (error : Option Report) (old new : List ℕ) (checked : Checked) : Type 0 where
  pub found : Result TextError Refusal
  pub is : IsFound text error found
  pub known : checked ≡ checked_of found
  pub left : new ≡ left_of_check old found
