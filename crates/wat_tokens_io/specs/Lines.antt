-- The line of a token, `{offset}..{end} {kind}`. Not part of the standard.
use Rattle.std.specs.Prelude.{◌+◌, ◌++◌, ℕ, List, codes, flat_map}
use Rattle.std.specs.Fmt.{decimal}
use Rattle.wat_lex.specs.declared.lexer.kinds.Token.{Token}
use Rattle.wat_lex.specs.declared.lexer.kinds.TokenKind.{TokenKind}
use Rattle.wat_lex.specs.declared.lexer.kinds.TokenKind.TheVariants.{LineComment, BlockComment, Whitespace, LParen, RParen, String, Id, Keyword, Annotation, Reserved, Integer, Float}

-- The name of a kind.
abbrev pub kind_name : TokenKind → List ℕ
kind_name LineComment = codes "LineComment"
kind_name BlockComment = codes "BlockComment"
kind_name Whitespace = codes "Whitespace"
kind_name LParen = codes "LParen"
kind_name RParen = codes "RParen"
kind_name String = codes "String"
kind_name Id = codes "Id"
kind_name Keyword = codes "Keyword"
kind_name Annotation = codes "Annotation"
kind_name Reserved = codes "Reserved"
kind_name (Integer k) = codes "Integer"
kind_name (Float k) = codes "Float"

-- The line of a token `t`. Offsets are in bytes.
abbrev pub line : Token → List ℕ
line t = decimal t.offset ++ codes ".." ++ decimal (t.offset + t.len) ++ codes " " ++ kind_name t.kind ++ codes "\n"

-- The lines of `tokens`, in their order.
abbrev pub token_lines : List Token → List ℕ
token_lines tokens = flat_map line tokens
