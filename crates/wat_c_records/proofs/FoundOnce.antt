-- The result of a scan at an offset is unique, and a token is at the offset that it reports.
use Rattle.std.proofs.Common.{◌≡◌, ◌∙◌, ℕ, refl, ap, sym}
use Rattle.std.specs.Prelude.{Some, Ok}
use Rattle.wat_lex.specs.tokens.EverySetting.{ScanResultIsUnique}
use Rattle.wat_lex.specs.tokens.Setting.{Setting}
use Rattle.wat_lex.specs.tokens.Tiling.{TokenAt}
use Rattle.wat_lex.specs.declared.lexer.kinds.Token.{Token}
use Rattle.wat_c_records.specs.Rows.{FoundAt, found_row}
use Rattle.wat_c_records.specs.declared.rows.Found.{Found}

pub found_token : (s : Setting) (p : ℕ) (t : Token) → TokenAt s p t → FoundAt s p (found_row p (Ok (Some t)))
found_token s p t h = record { answer = Ok (Some t); is_at = h; known = refl }

pub found_once : ScanResultIsUnique → (s : Setting) (p : ℕ) (row other : Found) → FoundAt s p row → FoundAt s p other → row ≡ other
found_once is_at s p row other h k = h.known ∙ ap (found_row p) (is_at s p h.answer k.answer h.is_at k.is_at) ∙ sym k.known
