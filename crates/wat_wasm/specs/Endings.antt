-- The results of lexing a text for a page, as integers. They are not part of the standard.
use Rattle.std.specs.Prelude.{ℕ, ◌+◌, List, [], length, min}
use Rattle.wat_lex.specs.errors.Messages.{message}
use Rattle.wat_lex.specs.errors.Positions.{line_and_column}
use Rattle.wat_lex.specs.errors.Rendering.{rendered}
use Rattle.wat_lex.specs.declared.lexer.kinds.Token.{Token}
use Rattle.wat_lex.specs.values.KindNumbers.{kind_number}
use Rattle.wat_wasm.specs.declared.report.Ending.{Ending}
use Rattle.wat_wasm.specs.declared.report.Ending.TheVariants.{Whole, Faulty, Full, NotUtf8, TooLong}
use Rattle.wat_wasm.specs.declared.report.Report.{Report}
use Rattle.wat_wasm.specs.declared.rows.Row.{Row}

abbrev pub row_of : Token → Row
row_of t = record { end = t.offset + t.len; kind = kind_number t.kind }

-- `known text ending` is the formatted lexical error, or empty for other endings.
abbrev pub known : List ℕ → Ending → List ℕ
known text (Faulty f) = rendered text (message f.error) f.offset
known text _ = []

-- `report_of text room n ending` is the report for `n` rows with this ending, if the buffer for the formatted error has
-- `room` bytes.
abbrev pub report_of : List ℕ → ℕ → ℕ → Ending → Report
report_of text room n Whole = record { ending = 0; rows = n; offset = 0; line = 0; column = 0; message = 0 }
report_of text room n (Faulty f) = let place = line_and_column text f.offset in
    record { ending = 1; rows = n; offset = f.offset; line = place.0; column = place.1; message = min (length (known text (Faulty f))) room }
report_of text room n Full = record { ending = 2; rows = n; offset = 0; line = 0; column = 0; message = 0 }
report_of text room n (NotUtf8 at) = record { ending = 3; rows = n; offset = at; line = 0; column = 0; message = 0 }
report_of text room n TooLong = record { ending = 4; rows = n; offset = 0; line = 0; column = 0; message = 0 }
