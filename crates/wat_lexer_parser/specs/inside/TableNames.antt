-- The name entries of a table, as lists of bytes.
use Rattle.std.specs.Prelude.{ℕ, List, Option, Some, None, Result, Ok, Err, string_bytes}
use Rattle.std.specs.declared.boxed.Box.{Box}
use Rattle.std.specs.declared.string.String.{String}
use Rattle.wat_lex.specs.declared.lexer.faults.LexError.{LexError}

abbrev pub written_view : {Z : Type 0} → Result (String Z) LexError → Result (List ℕ) LexError
written_view (Ok name) = Ok (string_bytes name)
written_view (Err error) = Err error

abbrev pub name_view : {Y Z : Type 0} → Option (Box (Result (String Z) LexError) Y) → Option (Result (List ℕ) LexError)
name_view None = None
name_view (Some it) = Some (written_view it.value)
