-- Case analysis of the result of a peek. Not part of the standard.
use Rattle.std.specs.Prelude.{Option, Some, None, Result, Ok, Err}

-- `cases_of result at_end at_token at_fault`: `at_end` at the end of the text, `at_token` for a token and its
-- continuation, `at_fault` for an error.
abbrev pub cases_of : {A B E V : Type 0} → Result (Option (A × B)) E → V → (A → B → V) → (E → V) → V
cases_of (Ok None) at_end at_token at_fault = at_end
cases_of (Ok (Some (t, after))) at_end at_token at_fault = at_token t after
cases_of (Err f) at_end at_token at_fault = at_fault f
