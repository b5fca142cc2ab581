-- The readings of integer types, by their bounds and messages, as definitions that proof search does not unfold.
use Rattle.std.specs.Prelude.{ℕ, ℤ, Bool, List}
use Rattle.wat_lex.specs.grammar.Numbers.{sign_token}
use Rattle.wat_lex.specs.tokens.ReadableTokens.{word_of}
use Rattle.wat_lex.specs.values.NumberValues.{integer_value}
use Rattle.wat_lex.specs.declared.lexer.kinds.IntegerKind.{IntegerKind}
use Rattle.wat_lex.specs.declared.lexer.kinds.Token.{Token}
use Rattle.wat_lexer_parser.specs.parser.Takers.{as_integer, is_minus}
use Rattle.wat_lexer_parser.specs.readings.Readings.{Reading, checked, spanned, token}
use Rattle.wat_lexer_parser.specs.readings.Types.{signed_number, unsigned_below}

-- The sign of an integer token, true for a minus, and the natural number that its digits denote.
abbrev pub number_known : List ℕ → Token × IntegerKind → Bool × ℕ
number_known text v = (is_minus (sign_token v.1.sign), integer_value v.1.hex (word_of text v.0))

unfoldable pub an_integer_word : List ℕ → Reading (Bool × ℕ)
an_integer_word expected = token as_integer expected

unfoldable pub unsigned_integer : ℕ → List ℕ → List ℕ → Reading (ℕ × ℕ)
unsigned_integer bound expected out_of_range = spanned (checked (unsigned_below bound) out_of_range (an_integer_word expected))

unfoldable pub signed_integer : ℕ → List ℕ → List ℕ → Reading (ℤ × ℕ)
signed_integer half expected out_of_range = spanned (checked (signed_number half) out_of_range (an_integer_word expected))
