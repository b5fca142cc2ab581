use Rattle.wat_c_records.proofs.Pieces.{pieces_are_rows, pieces_tell_tokens, rows_tell_tokens}
use Rattle.wat_c_records.proofs.laws.rows_of_a_text.Goals as goal

pub returns : goal.returns
returns c = record { rows = pieces_are_rows; unlinked = pieces_tell_tokens; tokens = rows_tell_tokens c.tokens.ensures.boundary }
