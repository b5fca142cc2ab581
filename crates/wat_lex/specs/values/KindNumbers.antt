-- The integer code of each kind of token, for interfaces that represent a token by integers. The standard has no such
-- codes.
use Rattle.std.specs.Prelude.{ℕ}
use Rattle.wat_lex.specs.declared.lexer.kinds.FloatKind.TheVariants.{Inf, Nan, NanVal, Normal}
use Rattle.wat_lex.specs.declared.lexer.kinds.TokenKind.{TokenKind}
use Rattle.wat_lex.specs.declared.lexer.kinds.TokenKind.TheVariants.{LineComment, BlockComment, Whitespace, LParen, RParen, String, Id, Keyword, Annotation, Reserved, Integer, Float}

abbrev pub kind_number : TokenKind → ℕ
kind_number LineComment = 1
kind_number BlockComment = 2
kind_number Whitespace = 3
kind_number LParen = 4
kind_number RParen = 5
kind_number String = 6
kind_number Id = 7
kind_number Keyword = 8
kind_number Annotation = 9
kind_number Reserved = 10
kind_number (Integer k) = 11
kind_number (Float (Inf n)) = 12
kind_number (Float (Nan n)) = 13
kind_number (Float (NanVal n u)) = 14
kind_number (Float (Normal u h)) = 15
