-- WebAssembly 2.0, 6.2.2 (tokens), 6.2.3 (whitespace) and 6.2.4 (comments): the tokens of 1 byte that this byte and the
-- next one determine.
use Rattle.std.specs.Prelude.{ℕ, ◌≡◌, ◌+◌, ◌==◌, ◌||◌, List, if◌then◌else◌}
use Rattle.std.specs.Str.{IsCharBoundary}
use Rattle.wat_lex.specs.grammar.Classes.{is_whitespace, is_punctuation, open_paren, close_paren, semicolon}
use Rattle.wat_lex.specs.tokens.Tiling.{TokenAt}
use Rattle.wat_lex.specs.declared.lexer.kinds.Token.{Token}
use Rattle.wat_lex.specs.declared.lexer.settings.Settings.{Settings}
use Rattle.wat_lex.specs.declared.lexer.kinds.TokenKind.{TokenKind}
use Rattle.wat_lex.specs.declared.lexer.kinds.TokenKind.TheVariants.{LParen, RParen, Reserved, Whitespace}
use Rattle.wat_c_records.specs.Rows.{token_row}
use Rattle.wat_c_records.specs.declared.rows.TokenRow.{TokenRow}

-- `sorts b` is the set of the byte's classes, as bits: 4 for every byte, 1 for `;`, 2 for whitespace.
abbrev pub sorts : ℕ → ℕ
sorts b = if b == semicolon then 5 else if is_whitespace b then 6 else 4

-- `blocking_classes b` is the set of classes of a next byte before which `b` may not be a token by itself.
abbrev pub blocking_classes : ℕ → ℕ
blocking_classes b =
    if b == open_paren || b == semicolon then 1
    else if is_whitespace b then 2
    else if b == close_paren || is_punctuation b then 0
    else 4

-- `kind_alone b` is the kind of a byte that is a token by itself.
abbrev pub kind_alone : ℕ → TokenKind
kind_alone b = if b == open_paren then LParen else if b == close_paren then RParen else if is_whitespace b then Whitespace else Reserved

-- `IsAlone text at kind`: under all settings, there is a token of 1 byte and of this kind at offset `at`, and its end
-- is a char boundary.
pub record IsAlone (text : List ℕ) (at : ℕ) (kind : TokenKind) : Type 0 where
  pub token : (flags : Settings) → TokenAt (record { text = text; flags = flags }) at (record { kind = kind; offset = at; len = 1 })
  pub after : IsCharBoundary text (at + 1)

-- `token_alone b at` is the token of a byte that is a token by itself, at offset `at`; `row_alone b at` is its row.
abbrev pub token_alone : ℕ → ℕ → Token
token_alone b at = record { kind = kind_alone b; offset = at; len = 1 }

abbrev pub row_alone : ℕ → ℕ → TokenRow
row_alone b at = token_row (token_alone b at)

-- `IsRowAlone text at row`: the row is that of a token of 1 byte at offset `at`.
pub record IsRowAlone (text : List ℕ) (at : ℕ) (row : TokenRow) : Type 0 where
  pub byte : ℕ
  pub is_at : IsAlone text at (kind_alone byte)
  pub known : row ≡ row_alone byte at
