-- The visible token at a position of a text, as a function, and the theorem that it is the one of `Shown`. Positions
-- are not part of the standard.
use Rattle.std.specs.Prelude.{◌≡◌, ℕ, List, ◌-◌, length, drop, Option, Some, None, Result, Ok, Err, IsUtf8}
use Rattle.wat_lexer_parser.specs.inside.ShownIn.{Showing, shown_in}
pub use Rattle.wat_lexer_parser.specs.names.RegisteredNames.{Names}
pub use Rattle.wat_lexer_parser.specs.places.Source.{Source, IsRead, Token, TokenKind, LexFault, Fault, Lex, Unclosed}
use Rattle.wat_lexer_parser.specs.Cases.{cases_of}
pub use Rattle.wat_lexer_parser.specs.shown.Shown.{Finding, Shown, ended}

-- The result of a peek: the visible token with the position after it, `None` at the end of the text, or an error.
abbrev pub Look : Type 0
Look = Result (Option (Token × ℕ)) Fault

abbrev pub placed : List Token → Finding → Look
placed ts found = cases_of found (Ok None) (λ t r. Ok (Some (t, length ts - length r))) Err

-- The visible token at a position, under registered names.
unfoldable pub shown : Source → ℕ → Names → Look
shown s p names = placed s.tokens (shown_in s.setting.text s.ending names Showing (drop p s.tokens))

-- Existence: at each position of a text, `Shown` holds of the function's result.
abbrev pub SomethingShown : Type 0
SomethingShown = (s : Source) (names : Names) (p : ℕ) → IsUtf8 s.setting.text → IsRead s → Shown s.setting.text s.ending names (drop p s.tokens) (shown_in s.setting.text s.ending names Showing (drop p s.tokens))

-- Uniqueness: `Shown` holds of no other result.
abbrev pub OneThingShown : Type 0
OneThingShown = (text : List ℕ) (e : Option LexFault) (names : Names) (ts : List Token) (a : Finding) → Shown text e names ts a → a ≡ shown_in text e names Showing ts
